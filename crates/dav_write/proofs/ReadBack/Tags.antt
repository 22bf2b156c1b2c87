-- The text of a tag, of its name and its attributes, is read as that tag.
use Rattle.std.proofs.Common.{◌≡◌, ℕ, ◌+◌, ◌-◌, Bool, true, false, List, [], ◌∷◌, ◌++◌, map, length, take, drop, Some, None, inl, inr, arith, refl, sym, ap, subst, ◌∙◌, append_assoc, append-nil}
use Rattle.std.specs.Prelude.{⊤, ◌==◌, nat_eq, nat_le, codes, if◌then◌else◌, option_map, option_and_then}
use Rattle.std.specs.List.{list_any, take_while, prefix_len}
use Rattle.std.proofs.lemmas.List.{length-append, take_at, drop_at}
use Rattle.std.proofs.lemmas.Bool.{eqb-true, eqb-false, le-leb, cases_Bool}
use Rattle.std.specs.Cmp.Lexicographic.{pointwise}
use Rattle.std.proofs.lemmas.Slice.Eq.{ends_is}
use Rattle.std.proofs.lemmas.Bool.Decides.{Decides-eqb}
use Rattle.cal_base.specs.Lines.ContentLines.{onto_first}
use Rattle.cal_base.specs.Xml.XmlNames.{QName, qname_of, is_blank, is_xml_text}
use Rattle.cal_base.specs.Xml.XmlMarkup.{WrittenAttribute, opening, ends, inside, holds, is_quote, quoted_pieces, without_last_blanks, without_first_blanks, attribute_name, attribute_of, attributes_of, is_not_blank, tag_of, tag_of_parts}
use Rattle.cal_base.specs.Xml.CanonicalXml.{value_octet, text_octet, attribute_text, attribute}
use Rattle.cal_base.proofs.Xml.XmlNameLemmas.{both_false, is_one_of, qname_of-nil}
use Rattle.dav_write.proofs.ReadBack.LastBlanks.{no_last_blank}
use Rattle.dav_write.proofs.ReadBack.NameTexts.{NameText, name_marks, tag_marks}

-- What a text lacks

pub record Lacks (octet : ℕ) : Type 0 where
  pub blank : is_blank octet ≡ false
  pub quote : is_quote octet ≡ false
  pub bang : nat_eq 33 octet ≡ false
  pub reference : (octet == 38) ≡ false
  pub slash : nat_eq 47 octet ≡ false
  pub less : nat_eq 60 octet ≡ false
  pub equals : nat_eq 61 octet ≡ false
  pub greater : (octet == 62) ≡ false
  pub question : nat_eq 63 octet ≡ false

pub other_way : (a b : ℕ) → (b == a) ≡ false → nat_eq a b ≡ false
other_way a b f = elim (cases_Bool (nat_eq a b)) [
  | inl same ↦ absurd (eqb-false b a f (sym (eqb-true a b same)))
  | inr apart ↦ apart
]

lacks_of : (octet : ℕ) → is_one_of tag_marks octet ≡ false → Lacks octet
lacks_of octet e =
    let tab = both_false (octet == 9) _ e in
    let feed = both_false (octet == 10) _ tab.1 in
    let return = both_false (octet == 13) _ feed.1 in
    let space = both_false (octet == 32) _ return.1 in
    let bang = both_false (octet == 33) _ space.1 in
    let double = both_false (octet == 34) _ bang.1 in
    let and_sign = both_false (octet == 38) _ double.1 in
    let single = both_false (octet == 39) _ and_sign.1 in
    let slash = both_false (octet == 47) _ single.1 in
    let less = both_false (octet == 60) _ slash.1 in
    let equals = both_false (octet == 61) _ less.1 in
    let greater = both_false (octet == 62) _ equals.1 in
    let question = both_false (octet == 63) _ greater.1 in
    record {
      blank = rw (space.0, tab.0, feed.0, return.0) refl;
      quote = rw (double.0, single.0) refl;
      bang = other_way 33 octet bang.0;
      reference = and_sign.0;
      slash = other_way 47 octet slash.0;
      less = other_way 60 octet less.0;
      equals = other_way 61 octet equals.0;
      greater = greater.0;
      question = other_way 63 octet question.0;
    }

-- each octet of a name
abbrev pub AllLack : List ℕ → Type 0
AllLack [] = ⊤
AllLack (octet ∷ text) = Lacks octet × AllLack text

all_lack : (text : List ℕ) → list_any (is_one_of tag_marks) text ≡ false → AllLack text
all_lack [] e = tt
all_lack (octet ∷ text) e =
    let each = both_false (is_one_of tag_marks octet) _ e in
    (lacks_of octet each.0, all_lack text each.1)

pub name_lacks : (text : List ℕ) (name : QName) → NameText text name → AllLack text
name_lacks text name n = all_lack text (name_marks text name n)

-- Pieces

pub outside : (front rest : List ℕ) → AllLack front → (octet : ℕ) → quoted_pieces None (front ++ 61 ∷ 34 ∷ rest) ≡ (front ++ 61 ∷ []) ∷ quoted_pieces (Some 34) rest
outside [] rest lacks octet = refl
outside (first ∷ front) rest (here, lacks) octet = rw (here.quote, quoted_pieces) (ap (onto_first first) (outside front rest lacks octet))

-- no quote in it
abbrev pub Unquoted : List ℕ → Type 0
Unquoted [] = ⊤
Unquoted (octet ∷ text) = ((octet == 34) ≡ false) × ((octet == 60) ≡ false) × Unquoted text

pub within : (value rest : List ℕ) → Unquoted value → quoted_pieces (Some 34) (value ++ 34 ∷ rest) ≡ value ∷ quoted_pieces None rest
within [] rest u = refl
within (octet ∷ value) rest (quote, less, u) = rw (quote, quoted_pieces) (ap (onto_first octet) (within value rest u))

unquoted_join : (text more : List ℕ) → Unquoted text → Unquoted more → Unquoted (text ++ more)
unquoted_join [] more u v = v
unquoted_join (octet ∷ text) more (quote, less, u) v = (quote, less, unquoted_join text more u v)

value_unquoted : (octet : ℕ) → Unquoted (value_octet octet)
value_unquoted octet = elim (cases_Bool (octet == 34)) [
  | inl same ↦ subst Unquoted (sym (ap (λ (test : Bool). if test then codes "&quot;" else text_octet octet) same)) (refl, refl, (refl, refl, (refl, refl, (refl, refl, (refl, refl, (refl, refl, tt))))))
  | inr quote ↦ subst Unquoted (sym (ap (λ (test : Bool). if test then codes "&quot;" else text_octet octet) quote)) (by_text (octet == 38) (octet == 60) (octet == 62) (octet == 13) quote refl)
]
  where
    by_text : (refers opens closes returns : Bool) → (octet == 34) ≡ false → (octet == 60) ≡ opens → Unquoted (if refers then codes "&amp;" else if opens then codes "&lt;" else if closes then codes "&gt;" else if returns then codes "&#13;" else octet ∷ [])
    by_text true opens closes returns quote e = (refl, refl, (refl, refl, (refl, refl, (refl, refl, (refl, refl, tt)))))
    by_text false true closes returns quote e = (refl, refl, (refl, refl, (refl, refl, (refl, refl, tt))))
    by_text false false true returns quote e = (refl, refl, (refl, refl, (refl, refl, (refl, refl, tt))))
    by_text false false false true quote e = (refl, refl, (refl, refl, (refl, refl, (refl, refl, (refl, refl, tt)))))
    by_text false false false false quote e = (quote, e, tt)

pub unquoted_value : (value : List ℕ) → Unquoted (attribute_text value)
unfolding attribute_text
unquoted_value [] = tt
unquoted_value (octet ∷ value) = unquoted_join (value_octet octet) (attribute_text value) (value_unquoted octet) (unquoted_value value)

no_less : (value : List ℕ) → Unquoted value → holds (codes "<") value ≡ false
no_less [] u = refl
no_less (octet ∷ value) (quote, less, u) = rw (other_way 60 octet less) (no_less value u)

-- The name of an attribute

pub no_last : (text : List ℕ) → AllLack text → without_last_blanks text ≡ text
no_last [] lacks = refl
no_last (octet ∷ text) (here, lacks) = rw (here.blank, without_last_blanks) (ap (λ (more : List ℕ). octet ∷ more) (no_last text lacks))

no_first : (text : List ℕ) → AllLack text → without_first_blanks text ≡ text
no_first [] lacks = refl
no_first (octet ∷ text) (here, lacks) = rw (here.blank, without_first_blanks) refl

pub ends_so : (front end : List ℕ) → ends (front ++ end) end ≡ true
ends_so front end = (ends_is Decides-eqb (front ++ end) end (ends (front ++ end) end) refl).1 front refl

pub read_name : (text : List ℕ) (name : QName) → NameText text name → attribute_name (32 ∷ (text ++ 61 ∷ [])) ≡ Some name
read_name text name n =
    let front = 32 ∷ (text ++ 61 ∷ []) in
    let lacks = name_lacks text name n in
    let same : without_last_blanks front ≡ front = no_last_blank front (32 ∷ text) 61 refl refl in
    let size : length (text ++ 61 ∷ []) ≡ length text + 1 = length-append text (61 ∷ []) in
    let taken : take (length front - 1) front ≡ 32 ∷ text = take_at (32 ∷ text) (61 ∷ []) (length front - 1) (omega (arith, size)) in
    ap (λ (f : List ℕ). if ends f (codes "=") then qname_of (without_last_blanks (without_first_blanks (take (length f - 1) f))) else None) same
    ∙ ap (λ (test : Bool). if test then qname_of (without_last_blanks (without_first_blanks (take (length front - 1) front))) else None) (ends_so (32 ∷ text) (61 ∷ []))
    ∙ ap (λ (t : List ℕ). qname_of (without_last_blanks (without_first_blanks t))) taken
    ∙ ap (λ (t : List ℕ). qname_of (without_last_blanks t)) (no_first text lacks)
    ∙ ap qname_of (no_last text lacks)
    ∙ n.read

-- Attributes as they are written

pub record Pair : Type 0 where
  pub text : List ℕ
  pub name : QName
  pub value : List ℕ

pub record IsPair (pair : Pair) : Type 0 where
  pub named : NameText pair.text pair.name
  pub fine : is_xml_text pair.value ≡ true

abbrev pub ArePairs : List Pair → Type 0
ArePairs [] = ⊤
ArePairs (pair ∷ pairs) = IsPair pair × ArePairs pairs

abbrev pub pairs_text : List Pair → List ℕ
pairs_text [] = []
pairs_text (pair ∷ pairs) = attribute pair.text pair.value ++ pairs_text pairs

abbrev pub pair_attribute : Pair → WrittenAttribute
pair_attribute pair = record { name = pair.name; value = attribute_text pair.value }

pub pair_split : (pair : Pair) (rest : List ℕ) → attribute pair.text pair.value ++ rest ≡ 32 ∷ (pair.text ++ 61 ∷ 34 ∷ (attribute_text pair.value ++ 34 ∷ rest))
pair_split pair rest =
    ap (λ (behind : List ℕ). 32 ∷ behind)
    (append_assoc pair.text (61 ∷ 34 ∷ (attribute_text pair.value ++ 34 ∷ [])) rest
    ∙ ap (λ (behind : List ℕ). pair.text ++ 61 ∷ 34 ∷ behind) (append_assoc (attribute_text pair.value) (34 ∷ []) rest))

pieces_of_pair : (pair : Pair) (rest : List ℕ) → IsPair pair → quoted_pieces None (attribute pair.text pair.value ++ rest) ≡ (32 ∷ (pair.text ++ 61 ∷ [])) ∷ attribute_text pair.value ∷ quoted_pieces None rest
pieces_of_pair pair rest is =
    ap (quoted_pieces None) (pair_split pair rest)
    ∙ ap (onto_first 32) (outside pair.text (attribute_text pair.value ++ 34 ∷ rest) (name_lacks pair.text pair.name is.named) 0
    ∙ ap (λ (more : List (List ℕ)). (pair.text ++ 61 ∷ []) ∷ more) (within (attribute_text pair.value) rest (unquoted_value pair.value)))

read_attribute : (pair : Pair) → IsPair pair → attribute_of (32 ∷ (pair.text ++ 61 ∷ [])) (attribute_text pair.value) ≡ Some (pair_attribute pair)
read_attribute pair is = rw (no_less (attribute_text pair.value) (unquoted_value pair.value)) (ap (option_map (λ name. record { name = name; value = attribute_text pair.value })) (read_name pair.text pair.name is.named))

pub read_pairs : (pairs : List Pair) → ArePairs pairs → attributes_of (quoted_pieces None (pairs_text pairs)) ≡ Some (map pair_attribute pairs)
read_pairs [] are = refl
read_pairs (pair ∷ pairs) (is, are) =
    ap attributes_of (pieces_of_pair pair (pairs_text pairs) is)
    ∙ ap (option_and_then (λ attribute. option_map (λ others. attribute ∷ others) (attributes_of (quoted_pieces None (pairs_text pairs))))) (read_attribute pair is)
    ∙ ap (option_map (λ others. pair_attribute pair ∷ others)) (read_pairs pairs are)

-- What stands between the marks of a tag

prefix_name : (name rest : List ℕ) → AllLack name → prefix_len is_not_blank rest ≡ 0 → prefix_len is_not_blank (name ++ rest) ≡ length name
prefix_name [] rest lacks e = e
prefix_name (octet ∷ name) rest (here, lacks) e = rw (here.blank) (omega (arith, prefix_name name rest lacks e))

pairs_blank : (pairs : List Pair) → prefix_len is_not_blank (pairs_text pairs) ≡ 0
pairs_blank [] = refl
pairs_blank (pair ∷ pairs) = refl

pub read_tag : (is_empty : Bool) (text : List ℕ) (name : QName) (pairs : List Pair) → NameText text name → ArePairs pairs
    → tag_of is_empty (text ++ pairs_text pairs) ≡ Some (opening (record { name = name; attributes = map pair_attribute pairs; is_empty = is_empty }))
read_tag is_empty text name pairs n are =
    let whole = text ++ pairs_text pairs in
    let first : take_while is_not_blank whole ≡ text = ap (λ size. take size whole) (prefix_name text (pairs_text pairs) (name_lacks text name n) (pairs_blank pairs)) ∙ take_at text (pairs_text pairs) (length text) refl in
    ap (λ (t : List ℕ). option_and_then (λ named. tag_of_parts is_empty named (drop (length t) whole)) (qname_of t)) first
    ∙ ap (option_and_then (λ named. tag_of_parts is_empty named (drop (length text) whole))) n.read
    ∙ ap (tag_of_parts is_empty name) (drop_at text (pairs_text pairs) (length text) refl)
    ∙ ap (option_map (λ attributes. opening (record { name = name; attributes = attributes; is_empty = is_empty }))) (read_pairs pairs are)

-- Fronts and ends

pub inside_of : (front middle end : List ℕ) → inside (length front) end (front ++ (middle ++ end)) ≡ Some middle
inside_of front middle end =
    let text = front ++ (middle ++ end) in
    let size : length text ≡ length front + (length middle + length end) = length-append front (middle ++ end) ∙ ap (λ (n : ℕ). length front + n) (length-append middle end) in
    let fits : nat_le (length front + length end) (length text) ≡ true = le-leb (length front + length end) (length text) (omega (arith, size)) in
    let last : ends text end ≡ true = ap (λ (t : List ℕ). ends t end) (sym (append_assoc front middle end)) ∙ ends_so (front ++ middle) end in
    let left : length text - (length front + length end) ≡ length middle = omega (arith, size) in
    rw (fits, last) (ap (λ (found : List ℕ). Some found) (ap (λ (n : ℕ). take n (drop (length front) text)) left ∙ ap (take (length middle)) (drop_at front (middle ++ end) (length front) refl) ∙ take_at middle end (length middle) refl))

-- the last octet is no `/`
pub record EndsWell (text : List ℕ) : Type 0 where
  pub before : List ℕ
  pub last : ℕ
  pub is : text ≡ before ++ last ∷ []
  pub other : nat_eq 47 last ≡ false

ends_well_behind : (front text : List ℕ) → EndsWell text → EndsWell (front ++ text)
ends_well_behind front text w = record { before = front ++ w.before; last = w.last; is = ap (λ (t : List ℕ). front ++ t) w.is ∙ sym (append_assoc front w.before (w.last ∷ [])); other = w.other }

name_ends : (octet : ℕ) (text : List ℕ) → AllLack (octet ∷ text) → EndsWell (octet ∷ text)
name_ends octet [] (here, lacks) = record { before = []; last = octet; is = refl; other = here.slash }
name_ends octet (next ∷ text) (here, lacks) = ends_well_behind (octet ∷ []) (next ∷ text) (name_ends next text lacks)

pairs_end : (pair : Pair) (pairs : List Pair) → EndsWell (pairs_text (pair ∷ pairs))
pairs_end pair [] = record {
  before = 32 ∷ (pair.text ++ 61 ∷ 34 ∷ attribute_text pair.value);
  last = 34;
  is = append-nil (attribute pair.text pair.value) ∙ ap (λ (t : List ℕ). 32 ∷ t) (sym (append_assoc pair.text (61 ∷ 34 ∷ attribute_text pair.value) (34 ∷ [])));
  other = refl;
}
pairs_end pair (next ∷ pairs) = ends_well_behind (attribute pair.text pair.value) (pairs_text (next ∷ pairs)) (pairs_end next pairs)

pub tag_ends : (text : List ℕ) (name : QName) (pairs : List Pair) → NameText text name → EndsWell (text ++ pairs_text pairs)
tag_ends [] name pairs n = absurd (qname_of-nil name n.read)
tag_ends (octet ∷ text) name [] n = subst EndsWell (sym (append-nil (octet ∷ text))) (name_ends octet text (name_lacks (octet ∷ text) name n))
tag_ends text name (pair ∷ pairs) n = ends_well_behind text (pairs_text (pair ∷ pairs)) (pairs_end pair pairs)

pub no_slash : (text : List ℕ) → EndsWell text → ends (60 ∷ (text ++ 62 ∷ [])) (codes "/>") ≡ false
no_slash text w =
    let whole = (60 ∷ w.before) ++ (w.last ∷ 62 ∷ []) in
    let same : 60 ∷ (text ++ 62 ∷ []) ≡ whole = ap (λ (t : List ℕ). 60 ∷ (t ++ 62 ∷ [])) w.is ∙ ap (λ (t : List ℕ). 60 ∷ t) (append_assoc w.before (w.last ∷ []) (62 ∷ [])) in
    let size : length whole ≡ length (60 ∷ w.before) + 2 = length-append (60 ∷ w.before) (w.last ∷ 62 ∷ []) in
    let behind : drop (length whole - 2) whole ≡ w.last ∷ 62 ∷ [] = drop_at (60 ∷ w.before) (w.last ∷ 62 ∷ []) (length whole - 2) (omega (arith, size)) in
    ap (λ (t : List ℕ). ends t (codes "/>")) same ∙ ap (λ (t : List ℕ). pointwise nat_eq (codes "/>") t) behind ∙ rw (w.other) refl
