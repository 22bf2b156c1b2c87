-- The text that a markup brings is of characters of XML.
use Rattle.std.proofs.Common.{◌≡◌, ℕ, zero, suc, ◌<◌, Bool, true, false, List, [], ◌∷◌, ◌++◌, length, inl, inr, arith, refl, sym, ap, subst, ◌∙◌, append_assoc, length-append}
use Rattle.std.specs.Prelude.{◌==◌, ◌&&◌, if◌then◌else◌}
use Rattle.std.specs.List.{list_all}
use Rattle.std.specs.Str.{is_utf8, chars, IsUtf8, IsCharBoundary}
use lib.Utf8.{encode}
use Rattle.std.proofs.lemmas.Bool.{eqb-true, cases_Bool}
use Rattle.std.proofs.lemmas.List.{take_at, drop_at}
use Rattle.std.proofs.lemmas.List.Folds.{list_all-append}
use Rattle.std.proofs.lemmas.Str.{is_utf8-from_IsUtf8, chars-append, IsUtf8-take, IsUtf8-drop, IsUtf8-past_char}
use Rattle.cal_base.specs.Texts.Octets.{line_feed, carriage_return}
use Rattle.cal_base.specs.Xml.XmlNames.{is_xml_character, is_xml_text}
use Rattle.cal_base.specs.Xml.XmlBodies.{with_line_feeds}
use Rattle.cal_base.proofs.Xml.XmlNameLemmas.{both_true}
use Rattle.dav_write.proofs.ReadBack.Characters.{xml_text_append, xml_text_utf8}

-- parts of a text that are UTF-8 are of its characters
xml_parts : (front text : List ℕ) → is_xml_text (front ++ text) ≡ true → IsUtf8 front → IsUtf8 text → (is_xml_text front ≡ true) × (is_xml_text text ≡ true)
xml_parts front text e u v =
    let each = both_true (is_utf8 (front ++ text)) _ e in
    let all : (list_all is_xml_character (chars front) && list_all is_xml_character (chars text)) ≡ true = sym (list_all-append is_xml_character (chars front) (chars text)) ∙ ap (list_all is_xml_character) (sym (chars-append front text u)) ∙ each.1 in
    let both = both_true (list_all is_xml_character (chars front)) _ all in
    (rw (is_utf8-from_IsUtf8 front u) both.0, rw (is_utf8-from_IsUtf8 text v) both.1)

-- before an ASCII octet
slice_at : (front text : List ℕ) (octet : ℕ) → Rattle.std.specs.Prelude.slice_index (front ++ octet ∷ text) (length front) ≡ octet
slice_at [] text octet = refl
slice_at (first ∷ front) text octet = slice_at front text octet

ascii_boundary : (front text : List ℕ) (octet : ℕ) → octet < 128 → IsCharBoundary (front ++ octet ∷ text) (length front)
ascii_boundary front text octet small = (omega (arith, length-append front (octet ∷ text)), λ within high. absurd (omega (arith, small, high, slice_at front text octet)))

pub ascii_split : (front text : List ℕ) (octet : ℕ) → octet < 128 → is_xml_text (front ++ octet ∷ text) ≡ true → (is_xml_text front ≡ true) × (is_xml_text (octet ∷ text) ≡ true)
ascii_split front text octet small e =
    let whole = front ++ octet ∷ text in
    let u = xml_text_utf8 whole e in
    let boundary = ascii_boundary front text octet small in
    let before : IsUtf8 front = subst IsUtf8 (take_at front (octet ∷ text) (length front) refl) (IsUtf8-take whole (length front) u boundary) in
    let behind : IsUtf8 (octet ∷ text) = subst IsUtf8 (drop_at front (octet ∷ text) (length front) refl) (IsUtf8-drop whole (length front) u boundary) in
    xml_parts front (octet ∷ text) e before behind

pub encode_small : (octet : ℕ) → octet < 128 → encode octet ≡ octet ∷ []
unfolding encode
encode_small octet small = rw (Rattle.std.proofs.lemmas.Bool.lt-ltb octet 128 small) refl

pub behind_ascii : (text : List ℕ) (octet : ℕ) → octet < 128 → is_xml_text (octet ∷ text) ≡ true → is_xml_text (octet ∷ []) ≡ true × is_xml_text text ≡ true
behind_ascii text octet small e =
    let u = xml_text_utf8 (octet ∷ text) e in
    let rest = IsUtf8-past_char (octet ∷ text) text octet u (ap (λ (front : List ℕ). front ++ text) (sym (encode_small octet small))) in
    let one : IsUtf8 (octet ∷ []) = Rattle.std.proofs.lemmas.Str.IsUtf8-from_ascii (octet ∷ []) (one_ascii octet small) in
    xml_parts (octet ∷ []) text e one rest
  where
    one_ascii : (octet : ℕ) → octet < 128 → Rattle.std.specs.Str.IsAscii (octet ∷ [])
    one_ascii octet small zero = small
    one_ascii octet small (suc i) = omega arith

-- Line ends

feed_fine : is_xml_text (10 ∷ []) ≡ true
unfolding is_utf8 chars encode
feed_fine = refl

nil_fine : is_xml_text [] ≡ true
unfolding is_utf8 chars
nil_fine = refl

feeds_fine : (front text : List ℕ) → is_xml_text (front ++ text) ≡ true → is_xml_text (front ++ with_line_feeds text) ≡ true
feeds_fine front [] e = e
feeds_fine front (octet ∷ []) e = elim (cases_Bool (octet == carriage_return)) [
  | inl same ↦
      let split = ascii_split front [] octet (omega (arith, eqb-true octet 13 same)) e in
      rw (same) (xml_text_append front (10 ∷ []) split.0 feed_fine)
  | inr other ↦ rw (other) e
]
feeds_fine front (octet ∷ next ∷ text) e = elim (cases_Bool (octet == carriage_return)) [
  | inl same ↦
      let small : octet < 128 = omega (arith, eqb-true octet 13 same) in
      let split = ascii_split front (next ∷ text) octet small e in
      let more = feeds_fine [] (next ∷ text) (behind_ascii (next ∷ text) octet small split.1).1 in
      rw (same) (xml_text_append front ((if next == line_feed then [] else line_feed ∷ []) ++ with_line_feeds (next ∷ text)) split.0
      (xml_text_append (if next == line_feed then [] else line_feed ∷ []) (with_line_feeds (next ∷ text)) (one_feed (next == line_feed)) more))
  | inr other ↦
      let moved = feeds_fine (front ++ octet ∷ []) (next ∷ text) (ap is_xml_text (append_assoc front (octet ∷ []) (next ∷ text)) ∙ e) in
      rw (other) (ap is_xml_text (sym (append_assoc front (octet ∷ []) (with_line_feeds (next ∷ text)))) ∙ moved)
]
  where
    one_feed : (test : Bool) → is_xml_text (if test then [] else line_feed ∷ []) ≡ true
    one_feed true = nil_fine
    one_feed false = feed_fine

pub line_feeds_fine : (text : List ℕ) → is_xml_text text ≡ true → is_xml_text (with_line_feeds text) ≡ true
line_feeds_fine text e = feeds_fine [] text e
