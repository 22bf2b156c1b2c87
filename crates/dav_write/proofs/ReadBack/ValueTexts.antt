-- The canonical text of a value is text of the characters of XML.
use Rattle.std.proofs.Common.{◌≡◌, ℕ, ◌+◌, ◌/◌, ◌≤◌, Bool, true, false, List, [], ◌∷◌, ◌++◌, inl, inr, arith, refl, sym, ap, subst, ◌∙◌, append_assoc}
use Rattle.std.specs.Prelude.{◌==◌, nat_eq, nat_lt, codes, if◌then◌else◌}
use Rattle.std.specs.List.{list_any}
use Rattle.std.specs.Str.{is_utf8, chars}
use lib.Utf8.{encode, encodes, next}
use Rattle.std.proofs.lemmas.Bool.{eqb-true, cases_Bool}
use Rattle.cal_base.specs.Xml.XmlNames.{is_xml_text}
use Rattle.cal_base.specs.Xml.CanonicalXml.{text_octet, value_octet, xml_text, attribute_text}
use Rattle.cal_base.proofs.Xml.XmlNameLemmas.{both_false}
use Rattle.cal_base.proofs.Xml.XmlEscapeLemmas.{differ}
use Rattle.dav_write.proofs.ReadBack.Characters.{AreCharacters, characters_of, characters_same, one_text, behind_one, xml_text_append}
use Rattle.dav_write.proofs.ReadBack.TextSteps.{Kind, bracketed, escaped, unchanged, kind_of, unescaped_character}

value_text_append : (text more : List ℕ) → attribute_text (text ++ more) ≡ attribute_text text ++ attribute_text more
unfolding attribute_text
value_text_append [] more = refl
value_text_append (octet ∷ text) more = ap (λ rest. value_octet octet ++ rest) (value_text_append text more) ∙ sym (append_assoc (value_octet octet) (attribute_text text) (attribute_text more))

as_text : (text : List ℕ) → list_any (λ octet. octet == 34) text ≡ false → attribute_text text ≡ xml_text text
unfolding attribute_text xml_text
as_text [] e = refl
as_text (octet ∷ text) e =
    let each = both_false (octet == 34) _ e in
    ap (λ (test : Bool). (if test then codes "&quot;" else text_octet octet) ++ attribute_text text) each.0 ∙ ap (λ (more : List ℕ). text_octet octet ++ more) (as_text text each.1)

high_quote : (octet : ℕ) → 128 ≤ octet → nat_eq octet 34 ≡ false
high_quote octet h = differ octet 34 (λ e. omega arith)

encode_quote : (code : ℕ) → nat_eq code 34 ≡ false → list_any (λ octet. octet == 34) (encode code) ≡ false
unfolding encode
encode_quote code u = elim (cases_Bool (nat_lt code 128)) [
  | inl one ↦ rw one (rw u refl)
  | inr more ↦ elim (cases_Bool (nat_lt code 2048)) [
    | inl two ↦ rw (more, two) (rw (high_quote (192 + code / 64) (omega arith), high_quote (next code) (omega arith)) refl)
    | inr further ↦ elim (cases_Bool (nat_lt code 65536)) [
      | inl three ↦ rw (more, further, three) (rw (high_quote (224 + code / 4096) (omega arith), high_quote (next (code / 64)) (omega arith), high_quote (next code) (omega arith)) refl)
      | inr four ↦ rw (more, further, four) (rw (high_quote (240 + code / 262144) (omega arith), high_quote (next (code / 4096)) (omega arith), high_quote (next (code / 64)) (omega arith), high_quote (next code) (omega arith)) refl)
    ]
  ]
]

quote_text : is_xml_text (attribute_text (encode 34)) ≡ true
unfolding attribute_text encode is_utf8 chars
quote_text = refl

bracket_text : is_xml_text (xml_text (encode 93)) ≡ true
unfolding xml_text encode is_utf8 chars
bracket_text = refl

one_fine : (code : ℕ) → is_xml_text (encode code) ≡ true → Kind code → is_xml_text (xml_text (encode code)) ≡ true
one_fine code fine (bracketed same) = subst (λ (c : ℕ). is_xml_text (xml_text (encode c)) ≡ true) (sym same) bracket_text
one_fine code fine (escaped e) = ap is_xml_text e.written ∙ e.fine
one_fine code fine (unchanged plain u) = ap is_xml_text (unescaped_character code (λ small. u)) ∙ fine

value_fine : (code : ℕ) → is_xml_text (encode code) ≡ true → is_xml_text (attribute_text (encode code)) ≡ true
value_fine code fine = elim (cases_Bool (nat_eq code 34)) [
  | inl same ↦ subst (λ (c : ℕ). is_xml_text (attribute_text (encode c)) ≡ true) (sym (eqb-true code 34 same)) quote_text
  | inr other ↦ ap is_xml_text (as_text (encode code) (encode_quote code other)) ∙ one_fine code fine (kind_of code)
]

nil_fine : is_xml_text (attribute_text []) ≡ true
unfolding attribute_text is_utf8 chars
nil_fine = refl

values_fine : (characters : List ℕ) → AreCharacters characters → is_xml_text (attribute_text (encodes characters)) ≡ true
values_fine [] are = nil_fine
values_fine (code ∷ characters) are =
    ap is_xml_text (value_text_append (encode code) (encodes characters))
    ∙ xml_text_append (attribute_text (encode code)) (attribute_text (encodes characters)) (value_fine code (one_text code characters are)) (values_fine characters (behind_one code characters are))

pub value_text_fine : (value : List ℕ) → is_xml_text value ≡ true → is_xml_text (attribute_text value) ≡ true
value_text_fine value fine = subst (λ (text : List ℕ). is_xml_text (attribute_text text) ≡ true) (characters_same value fine) (values_fine (chars value) (characters_of value fine))
