-- The texts of names: of characters of XML, and without the octets that mark anything in a tag.
use Rattle.std.specs.Prelude.{◌≡◌, ℕ, ◌≤◌, Bool, true, false, ◌&&◌, ◌||◌, ◌==◌, nat_le, List, [], ◌∷◌, ◌++◌, Some}
use Rattle.std.specs.List.{list_any, list_all}
use lib.Utf8.{encode}
use Rattle.std.specs.Str.{chars, is_utf8}
use Rattle.std.proofs.Common.{inl, inr, arith, refl, ap, subst, ◌∙◌}
use Rattle.std.proofs.lemmas.Bool.{leb-true, le-leb, cases_Bool, or_right}
use Rattle.cal_base.specs.Texts.Octets.{colon}
use Rattle.cal_base.specs.Lines.ContentLines.{pieces, onto_first}
use Rattle.cal_base.specs.Xml.XmlNames.{QName, is_among, is_xml_character, is_xml_text, name_starts, name_followers, is_name_start, is_name_character, are_name_characters, is_plain_name, qname_of, qname_of_pieces}
use Rattle.cal_base.proofs.Xml.XmlNameLemmas.{both_true, both_false, is_one_of, qname_of-lacks, true_or, plain_name_lacks}
use Rattle.dav_write.proofs.ReadBack.Characters.{xml_text_append}

-- Characters of names are characters of XML

abbrev holds_range : (ℕ × ℕ) → (ℕ × ℕ) → Bool
holds_range inner outer = nat_le outer.0 inner.0 && nat_le inner.1 outer.1

pub in_wider : (outer : List (ℕ × ℕ)) (range : ℕ × ℕ) (character : ℕ) → list_any (holds_range range) outer ≡ true → range.0 ≤ character → character ≤ range.1 → is_among outer character ≡ true
in_wider [] range character h low high = absurd cc
in_wider (wide ∷ outer) range character h low high = elim (cases_Bool (holds_range range wide)) [
  | inl here ↦
      let each = both_true (nat_le wide.0 range.0) _ here in
      let below : wide.0 ≤ character = omega (arith, leb-true wide.0 range.0 each.0, low) in
      let above : character ≤ wide.1 = omega (arith, leb-true range.1 wide.1 each.1, high) in
      true_or (nat_le wide.0 character && nat_le character wide.1) (is_among outer character) (rw (le-leb wide.0 character below, le-leb character wide.1 above) refl)
  | inr other ↦ or_right (nat_le wide.0 character && nat_le character wide.1) (is_among outer character) (in_wider outer range character (subst (λ (test : Bool). (test || list_any (holds_range range) outer) ≡ true) other h) low high)
]

in_outer : (inner outer : List (ℕ × ℕ)) → list_all (λ range. list_any (holds_range range) outer) inner ≡ true → (character : ℕ) → is_among inner character ≡ true → is_among outer character ≡ true
in_outer [] outer t character h = absurd cc
in_outer (range ∷ inner) outer t character h =
    let tests = both_true (list_any (holds_range range) outer) _ t in
    elim (cases_Bool (nat_le range.0 character && nat_le character range.1)) [
      | inl here ↦ let each = both_true (nat_le range.0 character) _ here in in_wider outer range character tests.0 (leb-true range.0 character each.0) (leb-true character range.1 each.1)
      | inr other ↦ in_outer inner outer tests.1 character (subst (λ (test : Bool). (test || is_among inner character) ≡ true) other h)
    ]

start_is_xml : (character : ℕ) → is_name_start character ≡ true → is_xml_character character ≡ true
start_is_xml character h = in_outer name_starts ((0x9, 0xA) ∷ (0xD, 0xD) ∷ (0x20, 0xD7FF) ∷ (0xE000, 0xFFFD) ∷ (0x10000, 0x10FFFF) ∷ []) refl character h

name_is_xml : (character : ℕ) → is_name_character character ≡ true → is_xml_character character ≡ true
name_is_xml character h = elim (cases_Bool (is_name_start character)) [
  | inl start ↦ start_is_xml character start
  | inr other ↦ in_outer name_followers ((0x9, 0xA) ∷ (0xD, 0xD) ∷ (0x20, 0xD7FF) ∷ (0xE000, 0xFFFD) ∷ (0x10000, 0x10FFFF) ∷ []) refl character (subst (λ (test : Bool). (test || is_among name_followers character) ≡ true) other h)
]

names_are_xml : (characters : List ℕ) → list_all is_name_character characters ≡ true → list_all is_xml_character characters ≡ true
names_are_xml [] h = refl
names_are_xml (character ∷ characters) h =
    let each = both_true (is_name_character character) _ h in
    rw (name_is_xml character each.0) (names_are_xml characters each.1)

name_characters_are_xml : (characters : List ℕ) → are_name_characters characters ≡ true → list_all is_xml_character characters ≡ true
name_characters_are_xml [] h = absurd cc
name_characters_are_xml (character ∷ characters) h =
    let each = both_true (is_name_start character) _ h in
    rw (start_is_xml character each.0) (names_are_xml characters each.1)

pub name_xml : (name : List ℕ) → is_plain_name name ≡ true → is_xml_text name ≡ true
name_xml name h =
    let each = both_true (is_utf8 name) _ h in
    rw (each.0) (name_characters_are_xml (chars name) each.1)

-- A text that is read as a name
pub record NameText (text : List ℕ) (name : QName) : Type 0 where
  pub read : qname_of text ≡ Some name
  pub fine : is_xml_text text ≡ true

one_piece : (text : List ℕ) → list_any (is_one_of (58 ∷ [])) text ≡ false → pieces colon text ≡ text ∷ []
one_piece [] e = refl
one_piece (octet ∷ text) e =
    let each = both_false (is_one_of (58 ∷ []) octet) _ e in
    let apart = both_false (octet == 58) _ each.0 in
    rw (apart.0) (ap (onto_first octet) (one_piece text each.1))

two_pieces : (front text : List ℕ) → list_any (is_one_of (58 ∷ [])) front ≡ false → pieces colon (front ++ 58 ∷ text) ≡ front ∷ pieces colon text
two_pieces [] text e = refl
two_pieces (octet ∷ front) text e =
    let each = both_false (is_one_of (58 ∷ []) octet) _ e in
    let apart = both_false (octet == 58) _ each.0 in
    rw (apart.0) (ap (onto_first octet) (two_pieces front text each.1))

lacks_colon : (name : List ℕ) → is_plain_name name ≡ true → list_any (is_one_of (58 ∷ [])) name ≡ false
lacks_colon name h = plain_name_lacks (58 ∷ []) refl refl name h

pub name_alone : (name : List ℕ) → is_plain_name name ≡ true → NameText name (record { prefix = []; local = name })
name_alone name h = record { read = ap qname_of_pieces (one_piece name (lacks_colon name h)) ∙ rw (h) refl; fine = name_xml name h }

colon_fine : is_xml_text (58 ∷ []) ≡ true
unfolding is_utf8 chars encode
colon_fine = refl

pub name_with : (prefix name : List ℕ) → is_plain_name prefix ≡ true → is_plain_name name ≡ true → NameText (prefix ++ 58 ∷ name) (record { prefix = prefix; local = name })
name_with prefix name h k = record {
  read = ap qname_of_pieces (two_pieces prefix name (lacks_colon prefix h) ∙ ap (λ (more : List (List ℕ)). prefix ∷ more) (one_piece name (lacks_colon name k))) ∙ rw (h, k) refl;
  fine = xml_text_append prefix (58 ∷ name) (name_xml prefix h) (xml_text_append (58 ∷ []) name colon_fine (name_xml name k));
}

-- What no name has: blanks, and the marks `!`, `"`, `&`, `'`, `/`, `<`, `=`, `>` and `?`
abbrev pub tag_marks : List ℕ
tag_marks = 9 ∷ 10 ∷ 13 ∷ 32 ∷ 33 ∷ 34 ∷ 38 ∷ 39 ∷ 47 ∷ 60 ∷ 61 ∷ 62 ∷ 63 ∷ []

pub name_marks : (text : List ℕ) (name : QName) → NameText text name → list_any (is_one_of tag_marks) text ≡ false
name_marks text name n = qname_of-lacks tag_marks refl refl refl text name n.read
