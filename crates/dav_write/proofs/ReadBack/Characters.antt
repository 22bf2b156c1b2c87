-- Texts of the characters of XML, one behind the other.
use Rattle.std.proofs.Common.{◌≡◌, ℕ, true, List, [], ◌∷◌, ◌++◌, refl, ap, ◌∙◌, subst}
use Rattle.std.specs.List.{list_all}
use Rattle.std.specs.Str.{is_utf8, chars, IsUtf8}
use lib.Utf8.{scalar, scalars, encode, encodes}
use Rattle.std.proofs.lemmas.Str.{IsUtf8-append, IsUtf8-from_is_utf8, is_utf8-from_IsUtf8, chars-encodes, encodes-chars, scalars-chars, chars-append}
use Rattle.std.proofs.lemmas.List.Folds.{list_all-append}
use Rattle.std.proofs.lemmas.List.{append-nil}
use Rattle.cal_base.specs.Xml.XmlNames.{is_xml_character, is_xml_text}
use Rattle.cal_base.proofs.Xml.XmlNameLemmas.{both_true}

-- these characters, each one of XML
pub record AreCharacters (characters : List ℕ) : Type 0 where
  pub scalar_values : scalars characters ≡ true
  pub of_xml : list_all is_xml_character characters ≡ true

pub characters_of : (text : List ℕ) → is_xml_text text ≡ true → AreCharacters (chars text)
characters_of text e =
    let each = both_true (is_utf8 text) _ e in
    record { scalar_values = scalars-chars text (IsUtf8-from_is_utf8 text each.0); of_xml = each.1 }

pub characters_same : (text : List ℕ) → is_xml_text text ≡ true → encodes (chars text) ≡ text
characters_same text e = encodes-chars text (IsUtf8-from_is_utf8 text (both_true (is_utf8 text) _ e).0)

pub text_of : (characters : List ℕ) → AreCharacters characters → is_xml_text (encodes characters) ≡ true
text_of characters are =
    rw (is_utf8-from_IsUtf8 (encodes characters) (characters, (are.scalar_values, refl))) (ap (list_all is_xml_character) (chars-encodes characters are.scalar_values) ∙ are.of_xml)

pub xml_text_append : (text more : List ℕ) → is_xml_text text ≡ true → is_xml_text more ≡ true → is_xml_text (text ++ more) ≡ true
xml_text_append text more e f =
    let one = both_true (is_utf8 text) _ e in
    let two = both_true (is_utf8 more) _ f in
    let u = IsUtf8-from_is_utf8 text one.0 in
    rw (is_utf8-from_IsUtf8 (text ++ more) (IsUtf8-append text more u (IsUtf8-from_is_utf8 more two.0)))
    (ap (list_all is_xml_character) (chars-append text more u) ∙ list_all-append is_xml_character (chars text) (chars more) ∙ rw (one.1) two.1)

pub xml_text_utf8 : (text : List ℕ) → is_xml_text text ≡ true → IsUtf8 text
xml_text_utf8 text e = IsUtf8-from_is_utf8 text (both_true (is_utf8 text) _ e).0

-- one character
pub one_text : (character : ℕ) (characters : List ℕ) → AreCharacters (character ∷ characters) → is_xml_text (encode character) ≡ true
one_text character characters are =
    let values = both_true (scalar character) _ are.scalar_values in
    let of_xml = both_true (is_xml_character character) _ are.of_xml in
    subst (λ text. is_xml_text text ≡ true) (append-nil (encode character)) (text_of (character ∷ []) (record { scalar_values = rw (values.0) refl; of_xml = rw (of_xml.0) refl }))

pub behind_one : (character : ℕ) (characters : List ℕ) → AreCharacters (character ∷ characters) → AreCharacters characters
behind_one character characters are = record { scalar_values = (both_true (scalar character) _ are.scalar_values).1; of_xml = (both_true (is_xml_character character) _ are.of_xml).1 }
