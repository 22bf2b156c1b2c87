-- A value of XML text stays XML text where its references are replaced.
use Rattle.std.proofs.Common.{◌≡◌, ℕ, zero, suc, ◌<◌, ◌≤◌, Bool, true, false, List, [], ◌∷◌, ◌++◌, length, Option, Some, None, inl, inr, ◌⊎◌, arith, refl, sym, ap, subst, ◌∙◌, append_assoc, append-nil, length-append}
use Rattle.std.specs.Prelude.{nat_eq, nat_lt, codes, flat_map, unwrap_or}
use Rattle.std.specs.Str.{chars, is_utf8}
use lib.Utf8.{encode, encodes}
use Rattle.std.proofs.lemmas.Bool.{eqb-true, lt-ltb, cases_Bool, cases_lt}
use Rattle.cal_base.specs.Xml.XmlNames.{is_xml_text}
use Rattle.cal_base.specs.Xml.XmlMarkup.{Markup, opening, closing, character, section, reference, skipped, begins, holds, size_through, markup_size, markups, markup_of, referenced}
use Rattle.cal_base.specs.Xml.XmlScopes.{piece_octets}
use Rattle.cal_base.proofs.Xml.XmlNameLemmas.{both_false}
use Rattle.cal_base.proofs.Xml.XmlMarkupLemmas.{markups-append}
use Rattle.cal_base.proofs.Xml.XmlEscapeLemmas.{Plain, plain_size, markups-character}
use Rattle.dav_write.proofs.ReadBack.Characters.{AreCharacters, characters_of, characters_same, text_of, one_text, behind_one, xml_text_append}
use Rattle.dav_write.proofs.ReadBack.SaidTexts.{ascii_split, behind_ascii, encode_small}
use Rattle.dav_write.proofs.ReadBack.Saids.{referenced_fine}
use Rattle.dav_write.proofs.ReadBack.TagShape.{ValueFine}

-- Values without `<`

lacks_behind : (front rest : List ℕ) → holds (codes "<") (front ++ rest) ≡ false → holds (codes "<") rest ≡ false
lacks_behind [] rest e = e
lacks_behind (octet ∷ front) rest e = lacks_behind front rest (both_false (begins (octet ∷ (front ++ rest)) (codes "<")) _ e).1

lacks_first : (octet : ℕ) (text : List ℕ) → holds (codes "<") (octet ∷ text) ≡ false → nat_eq 60 octet ≡ false
lacks_first octet text e = elim (cases_Bool (nat_eq 60 octet)) [
  | inl same ↦
      let begun : begins (octet ∷ text) (codes "<") ≡ true = rw (same) refl in
      let none : true ≡ false = sym begun ∙ (both_false (begins (octet ∷ text) (codes "<")) _ e).0 in
      absurd cc
  | inr other ↦ other
]

-- The first piece of a text, and what stands behind it

record Cut (text : List ℕ) : Type 0 where
  piece : List ℕ
  rest : List ℕ
  is : text ≡ piece ++ rest
  some : 0 < length piece
  cut_off : markups text ≡ piece ∷ markups rest
  piece_fine : is_xml_text piece ≡ true
  rest_fine : is_xml_text rest ≡ true

one_cut : (octet : ℕ) (rest : List ℕ) → octet < 128 → is_xml_text (octet ∷ rest) ≡ true → markup_size (octet ∷ rest) ≡ 1 → Cut (octet ∷ rest)
one_cut octet rest small fine size =
    let each = behind_ascii rest octet small fine in
    record { piece = octet ∷ []; rest = rest; is = refl; some = omega arith; cut_off = markups-append octet [] rest size; piece_fine = each.0; rest_fine = each.1 }

long_cut : (first : ℕ) (middle : List ℕ) (last : ℕ) (rest : List ℕ) → last < 128 → is_xml_text ((first ∷ middle) ++ last ∷ rest) ≡ true → markup_size ((first ∷ middle) ++ last ∷ rest) ≡ suc (suc (length middle)) → Cut ((first ∷ middle) ++ last ∷ rest)
long_cut first middle last rest small fine size =
    let split = ascii_split (first ∷ middle) rest last small fine in
    let behind = behind_ascii rest last small split.1 in
    let joined : (first ∷ middle) ++ last ∷ rest ≡ (first ∷ (middle ++ last ∷ [])) ++ rest = sym (append_assoc (first ∷ middle) (last ∷ []) rest) in
    let whole : markup_size ((first ∷ (middle ++ last ∷ [])) ++ rest) ≡ length (first ∷ (middle ++ last ∷ [])) = ap markup_size (sym joined) ∙ size ∙ counted middle in
    record {
      piece = first ∷ (middle ++ last ∷ []);
      rest = rest;
      is = joined;
      some = omega arith;
      cut_off = ap markups joined ∙ markups-append first (middle ++ last ∷ []) rest whole;
      piece_fine = xml_text_append (first ∷ middle) (last ∷ []) split.0 behind.0;
      rest_fine = behind.1;
    }
  where
    counted : (middle : List ℕ) → suc (suc (length middle)) ≡ length (first ∷ (middle ++ last ∷ []))
    counted middle = omega (arith, length-append middle (last ∷ []))

nil_fine : is_xml_text [] ≡ true
unfolding is_utf8 chars
nil_fine = refl

whole_cut : (first : ℕ) (more : List ℕ) → is_xml_text (first ∷ more) ≡ true → markup_size (first ∷ more) ≡ suc (length more) → Cut (first ∷ more)
whole_cut first more fine size =
    let same : (first ∷ more) ++ [] ≡ first ∷ more = append-nil (first ∷ more) in
    record {
      piece = first ∷ more;
      rest = [];
      is = sym same;
      some = omega arith;
      cut_off = ap markups (sym same) ∙ markups-append first more [] (ap markup_size same ∙ size);
      piece_fine = fine;
      rest_fine = nil_fine;
    }

-- a reference, or an ampersand behind which none ends

through : (text : List ℕ) → ((front : List ℕ) × (rest : List ℕ) × (text ≡ front ++ 59 ∷ rest) × (size_through (codes ";") text ≡ suc (length front))) ⊎ (size_through (codes ";") text ≡ length text)
through [] = inr refl
through (octet ∷ text) = by (nat_eq 59 octet) refl (through text)
  where
    later : nat_eq 59 octet ≡ false → size_through (codes ";") (octet ∷ text) ≡ suc (size_through (codes ";") text)
    later is = rw (is, size_through) refl

    by : (test : Bool) → nat_eq 59 octet ≡ test → ((front : List ℕ) × (rest : List ℕ) × (text ≡ front ++ 59 ∷ rest) × (size_through (codes ";") text ≡ suc (length front))) ⊎ (size_through (codes ";") text ≡ length text)
        → ((front : List ℕ) × (rest : List ℕ) × (octet ∷ text ≡ front ++ 59 ∷ rest) × (size_through (codes ";") (octet ∷ text) ≡ suc (length front))) ⊎ (size_through (codes ";") (octet ∷ text) ≡ length (octet ∷ text))
    by true is more = inl ([], text, ap (λ o. o ∷ text) (sym (eqb-true 59 octet is)), rw (is, size_through) refl)
    by false is (inl found) = inl (octet ∷ found.0, found.1, ap (λ t. octet ∷ t) found.2, later is ∙ ap suc found.3)
    by false is (inr none) = inr (later is ∙ ap suc none)

reference_cut : (text : List ℕ) → is_xml_text (38 ∷ text) ≡ true → Cut (38 ∷ text)
reference_cut text fine = elim (through text) [
  | inl found ↦
      let is : 38 ∷ text ≡ (38 ∷ found.0) ++ 59 ∷ found.1 = ap (λ t. 38 ∷ t) found.2 in
      subst Cut (sym is) (long_cut 38 found.0 59 found.1 (omega arith) (ap is_xml_text (sym is) ∙ fine) (ap markup_size (sym is) ∙ sized text ∙ ap suc found.3))
  | inr none ↦ whole_cut 38 text fine (sized text ∙ ap suc none)
]
  where
    sized : (text : List ℕ) → markup_size (38 ∷ text) ≡ suc (size_through (codes ";") text)
    sized text = refl

-- what ends a section, or a bracket

bracket_cut : (text : List ℕ) → is_xml_text (93 ∷ text) ≡ true → Cut (93 ∷ text)
bracket_cut [] fine = one_cut 93 [] (omega arith) fine refl
bracket_cut (second ∷ []) fine = one_cut 93 (second ∷ []) (omega arith) fine (by (nat_eq 93 second) refl)
  where
    by : (test : Bool) → nat_eq 93 second ≡ test → markup_size (93 ∷ second ∷ []) ≡ 1
    by true is = rw (is) refl
    by false is = rw (is) refl
bracket_cut (second ∷ third ∷ rest) fine = elim (cases_Bool (nat_eq 93 second)) [
  | inr other ↦ one_cut 93 (second ∷ third ∷ rest) (omega arith) fine (rw (other) refl)
  | inl same ↦ elim (cases_Bool (nat_eq 62 third)) [
    | inr other ↦ one_cut 93 (second ∷ third ∷ rest) (omega arith) fine (rw (same, other) refl)
    | inl also ↦
        let is : 93 ∷ second ∷ third ∷ rest ≡ (93 ∷ 93 ∷ []) ++ 62 ∷ rest = ap (λ o. 93 ∷ o ∷ third ∷ rest) (sym (eqb-true 93 second same)) ∙ ap (λ o. 93 ∷ 93 ∷ o ∷ rest) (sym (eqb-true 62 third also)) in
        subst Cut (sym is) (long_cut 93 (93 ∷ []) 62 rest (omega arith) (ap is_xml_text (sym is) ∙ fine) refl)
  ]
]

-- a line end

return_cut : (text : List ℕ) → is_xml_text (13 ∷ text) ≡ true → Cut (13 ∷ text)
return_cut [] fine = one_cut 13 [] (omega arith) fine refl
return_cut (second ∷ rest) fine = elim (cases_Bool (nat_eq 10 second)) [
  | inr other ↦ one_cut 13 (second ∷ rest) (omega arith) fine (rw (other) refl)
  | inl same ↦
      let is : 13 ∷ second ∷ rest ≡ (13 ∷ []) ++ 10 ∷ rest = ap (λ o. 13 ∷ o ∷ rest) (sym (eqb-true 10 second same)) in
      subst Cut (sym is) (long_cut 13 [] 10 rest (omega arith) (ap is_xml_text (sym is) ∙ fine) refl)
]

-- a character of more than one octet

some_octets : (code : ℕ) → 0 < length (encode code)
unfolding encode
some_octets code = elim (cases_Bool (nat_lt code 128)) [
  | inl one ↦ rw (one) (omega arith)
  | inr more ↦ elim (cases_Bool (nat_lt code 2048)) [
    | inl two ↦ rw (more, two) (omega arith)
    | inr further ↦ elim (cases_Bool (nat_lt code 65536)) [
      | inl three ↦ rw (more, further, three) (omega arith)
      | inr four ↦ rw (more, further, four) (omega arith)
    ]
  ]
]

high_cut : (octet : ℕ) (text : List ℕ) → 128 ≤ octet → is_xml_text (octet ∷ text) ≡ true → Cut (octet ∷ text)
high_cut octet text high fine = by (chars (octet ∷ text)) (characters_of (octet ∷ text) fine) (characters_same (octet ∷ text) fine)
  where
    by : (codes : List ℕ) → AreCharacters codes → encodes codes ≡ octet ∷ text → Cut (octet ∷ text)
    by [] are same = absurd cc
    by (code ∷ codes) are same =
        let large : code < 128 → Plain code = λ small. absurd (not_small small) in
        record {
          piece = encode code;
          rest = encodes codes;
          is = sym same;
          some = some_octets code;
          cut_off = ap markups (sym same) ∙ markups-character code (encodes codes) large;
          piece_fine = one_text code codes are;
          rest_fine = text_of codes (behind_one code codes are);
        }
      where
        not_small : code < 128 → ⊥
        not_small small =
            let first : code ∷ encodes codes ≡ octet ∷ text = ap (λ front. front ++ encodes codes) (sym (encode_small code small)) ∙ same in
            let equal : code ≡ octet = cc in
            omega (arith, equal, small, high)

cut_first : (octet : ℕ) (text : List ℕ) → is_xml_text (octet ∷ text) ≡ true → nat_eq 60 octet ≡ false → Cut (octet ∷ text)
cut_first octet text fine no_tag = elim (cases_lt octet 128) [
  | inr high ↦ high_cut octet text high fine
  | inl small ↦ elim (cases_Bool (nat_eq 38 octet)) [
    | inl refers ↦ let is = eqb-true 38 octet refers in subst (λ (o : ℕ). Cut (o ∷ text)) is (reference_cut text (subst (λ (o : ℕ). is_xml_text (o ∷ text) ≡ true) (sym is) fine))
    | inr no_reference ↦ elim (cases_Bool (nat_eq 93 octet)) [
      | inl bracket ↦ let is = eqb-true 93 octet bracket in subst (λ (o : ℕ). Cut (o ∷ text)) is (bracket_cut text (subst (λ (o : ℕ). is_xml_text (o ∷ text) ≡ true) (sym is) fine))
      | inr no_bracket ↦ elim (cases_Bool (nat_eq 13 octet)) [
        | inl returns ↦ let is = eqb-true 13 octet returns in subst (λ (o : ℕ). Cut (o ∷ text)) is (return_cut text (subst (λ (o : ℕ). is_xml_text (o ∷ text) ≡ true) (sym is) fine))
        | inr no_return ↦
            let plain : Plain octet = record { tag = no_tag; refers = no_reference; bracket = no_bracket; return = no_return } in
            one_cut octet text small fine (plain_size octet text plain ∙ rw (lt-ltb octet 128 small) refl)
      ]
    ]
  ]
]

-- The pieces, one by one

piece_stays : (piece : List ℕ) → is_xml_text piece ≡ true → is_xml_text (piece_octets piece) ≡ true
piece_stays piece fine = by (markup_of piece)
  where
    by_octets : (found : Option (List ℕ)) → is_xml_text (unwrap_or found []) ≡ true → is_xml_text (unwrap_or found piece) ≡ true
    by_octets None e = fine
    by_octets (Some octets) e = e

    by : (found : Option Markup) → is_xml_text (elim found [
      | None ↦ piece
      | Some (opening tag) ↦ piece
      | Some (closing name) ↦ piece
      | Some (character text) ↦ piece
      | Some (section text) ↦ piece
      | Some (reference name) ↦ unwrap_or (referenced name) piece
      | Some skipped ↦ piece
    ]) ≡ true
    by None = fine
    by (Some (opening tag)) = fine
    by (Some (closing name)) = fine
    by (Some (character text)) = fine
    by (Some (section text)) = fine
    by (Some (reference name)) = by_octets (referenced name) (referenced_fine name)
    by (Some skipped) = fine

no_pieces : is_xml_text (flat_map piece_octets (markups [])) ≡ true
unfolding is_utf8 chars
no_pieces = refl

all_stay : (count : ℕ) (text : List ℕ) → length text ≤ count → is_xml_text text ≡ true → holds (codes "<") text ≡ false → is_xml_text (flat_map piece_octets (markups text)) ≡ true
all_stay count [] short fine lacks = no_pieces
all_stay zero (octet ∷ text) short fine lacks = absurd (omega (arith, short))
all_stay (suc count) (octet ∷ text) short fine lacks =
    let cut = cut_first octet text fine (lacks_first octet text lacks) in
    let fewer : length cut.rest ≤ count = omega (arith, short, cut.some, length-append cut.piece cut.rest, ap (λ (t : List ℕ). length t) cut.is) in
    let others = all_stay count cut.rest fewer cut.rest_fine (lacks_behind cut.piece cut.rest (ap (holds (codes "<")) (sym cut.is) ∙ lacks)) in
    ap (λ (pieces : List (List ℕ)). is_xml_text (flat_map piece_octets pieces)) cut.cut_off
    ∙ xml_text_append (piece_octets cut.piece) (flat_map piece_octets (markups cut.rest)) (piece_stays cut.piece cut.piece_fine) others

pub value_fine : ValueFine
value_fine value fine lacks = all_stay (length value) value (omega arith) fine lacks
