-- What a markup is, by what stands within its ends.
use Rattle.std.proofs.Common.{◌≡◌, ℕ, ◌<◌, ◌≤◌, Bool, true, false, List, Option, Some, None, refl, sym, ap, ◌∙◌, arith, inl, inr}
use Rattle.std.specs.Prelude.{option_map, option_and_then, if◌then◌else◌, codes, nat_le, encode_utf8, ◌&&◌}
use Rattle.std.proofs.lemmas.Bool.{cases_lt, lt-leb}
use Rattle.cal_base.specs.Xml.XmlNames.{qname_of, is_xml_character}
use Rattle.cal_base.specs.Xml.XmlMarkup.{closing, reference, ends, inside, without_last_blanks, closing_of, opening_of, tag_of, is_reference, reference_of, referenced_number, referenced, entity_octets, character_octets}
use Rattle.dav_body.specs.Numbers.{capped}

pub closing_within : (text within : List ℕ) → inside 2 (codes ">") text ≡ Some within → closing_of text ≡ option_map closing (qname_of (without_last_blanks within))
closing_within text within is = ap (option_and_then (λ name. option_map closing (qname_of (without_last_blanks name)))) is

pub opening_within : (text within : List ℕ) → ends text (codes "/>") ≡ false → inside 1 (codes ">") text ≡ Some within → opening_of text ≡ tag_of false within
opening_within text within other is =
    ap (λ b. if b then option_and_then (tag_of true) (inside 1 (codes "/>") text) else option_and_then (tag_of false) (inside 1 (codes ">") text)) other
    ∙ ap (option_and_then (tag_of false)) is

pub reference_within : (text within : List ℕ) → inside 1 (codes ";") text ≡ Some within → reference_of text ≡ (if is_reference within then Some (reference within) else None)
reference_within text within is = ap (option_and_then (λ name. if is_reference name then Some (reference name) else None)) is

pub is_reference_within : (text within : List ℕ) → inside 1 (codes ";") text ≡ Some within → is_reference within ≡ true → Some (reference within) ≡ reference_of text
is_reference_within text within is whole = sym (reference_within text within is ∙ ap (λ b. if b then Some (reference within) else None) whole)

pub no_reference_within : (text within : List ℕ) → inside 1 (codes ";") text ≡ Some within → is_reference within ≡ false → None ≡ reference_of text
no_reference_within text within is other = sym (reference_within text within is ∙ ap (λ b. if b then Some (reference within) else None) other)

and_false : (b : Bool) → (b && false) ≡ false
and_false true = refl
and_false false = refl

out_of : (low high number : ℕ) → high < number → (nat_le low number && nat_le number high) ≡ false
out_of low high number great = ap (λ b. nat_le low number && b) (lt-leb number high great) ∙ and_false (nat_le low number)

no_character : (number : ℕ) → 1114112 ≤ number → is_xml_character number ≡ false
no_character number great =
    rw (out_of 9 10 number (omega arith), out_of 13 13 number (omega arith), out_of 32 55295 number (omega arith), out_of 57344 65533 number (omega arith), out_of 65536 1114111 number (omega arith)) refl

capped_character : (number : ℕ) → character_octets (capped number) ≡ character_octets number
capped_character number = elim (cases_lt number 1114112) [
  | inl small ↦ let same : capped number ≡ number = omega arith in ap character_octets same
  | inr great ↦
      let cap : capped number ≡ 1114112 = omega arith in
      ap character_octets cap ∙ sym (ap (λ b. if b then Some (encode_utf8 number) else None) (no_character number great))
]

referenced_of : (text : List ℕ) (number : ℕ) (found : Option ℕ) → Some number ≡ option_map capped found → character_octets number ≡ (elim found [ None ↦ entity_octets text | Some number ↦ character_octets number ])
referenced_of text number None is = absurd cc
referenced_of text number (Some other) is =
    let same : number ≡ capped other = cc in
    ap character_octets same ∙ capped_character other

pub referenced_some : (text : List ℕ) (number : ℕ) → Some number ≡ option_map capped (referenced_number text) → character_octets number ≡ referenced text
referenced_some text number is = referenced_of text number (referenced_number text) is
