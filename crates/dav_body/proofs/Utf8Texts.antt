-- Tests of a text that is UTF-8, and of one that is none.
use Rattle.std.proofs.Common.{◌≡◌, ℕ, Some, None, Bool, true, false, List, [], ◌∷◌, refl, sym, ap, ◌∙◌}
use Rattle.std.specs.Prelude.{◌&&◌, ◌||◌, slice_get}
use Rattle.std.specs.Str.{is_utf8, chars, IsUtf8}
use Rattle.std.specs.List.{list_all}
use Rattle.std.proofs.lemmas.Str.{is_utf8-from_IsUtf8, IsUtf8-from_is_utf8}
use Rattle.std.proofs.lemmas.Bool.{false_from_ne_true}
use Rattle.cal_base.specs.Xml.XmlNames.{is_xml_character, is_xml_text, is_among, name_followers, is_name_start, is_name_character, are_name_characters, is_plain_name}

pub xml_text_utf8 : (text same : List ℕ) (all : Bool) → IsUtf8 text → same ≡ text → all ≡ list_all is_xml_character (chars same) → all ≡ is_xml_text text
xml_text_utf8 text same all utf8 is given =
    given ∙ ap (λ t. list_all is_xml_character (chars t)) is ∙ ap (λ b. b && list_all is_xml_character (chars text)) (sym (is_utf8-from_IsUtf8 text utf8))

pub xml_text_other : (text : List ℕ) → ¬ (IsUtf8 text) → false ≡ is_xml_text text
xml_text_other text other = ap (λ b. b && list_all is_xml_character (chars text)) (sym (false_from_ne_true (is_utf8 text) (λ test. other (IsUtf8-from_is_utf8 text test))))

pub plain_name_utf8 : (text same : List ℕ) (all : Bool) → IsUtf8 text → same ≡ text → all ≡ are_name_characters (chars same) → all ≡ is_plain_name text
plain_name_utf8 text same all utf8 is given =
    given ∙ ap (λ t. are_name_characters (chars t)) is ∙ ap (λ b. b && are_name_characters (chars text)) (sym (is_utf8-from_IsUtf8 text utf8))

pub plain_name_other : (text : List ℕ) → ¬ (IsUtf8 text) → false ≡ is_plain_name text
plain_name_other text other = ap (λ b. b && are_name_characters (chars text)) (sym (false_from_ne_true (is_utf8 text) (λ test. other (IsUtf8-from_is_utf8 text test))))

-- Names, by their first character

and_true : (a : Bool) → a ≡ true → (b : Bool) → (a && b) ≡ b
and_true a is b = ap (λ c. c && b) is

start_is_character : (character : ℕ) → is_name_start character ≡ true → is_name_character character ≡ true
start_is_character character start = ap (λ b. b || is_among name_followers character) start

first_is : (character first : ℕ) (rest : List ℕ) → slice_get (character ∷ rest) 0 ≡ Some first → character ≡ first
first_is character first rest is = cc

pub name_characters_first : (characters : List ℕ) (first : ℕ) → slice_get characters 0 ≡ Some first → is_name_start first ≡ true → list_all is_name_character characters ≡ are_name_characters characters
name_characters_first [] first is start = absurd cc
name_characters_first (character ∷ rest) first is start =
    let begins : is_name_start character ≡ true = ap is_name_start (first_is character first rest is) ∙ start in
    and_true (is_name_character character) (start_is_character character begins) (list_all is_name_character rest) ∙ sym (and_true (is_name_start character) begins (list_all is_name_character rest))

pub name_characters_other : (characters : List ℕ) (first : ℕ) → slice_get characters 0 ≡ Some first → is_name_start first ≡ false → are_name_characters characters ≡ false
name_characters_other [] first is other = absurd cc
name_characters_other (character ∷ rest) first is other = ap (λ b. b && list_all is_name_character rest) (ap is_name_start (first_is character first rest is) ∙ other)

pub name_characters_none : (characters : List ℕ) → slice_get characters 0 ≡ None → are_name_characters characters ≡ false
name_characters_none [] is = refl
name_characters_none (character ∷ rest) is = absurd cc
