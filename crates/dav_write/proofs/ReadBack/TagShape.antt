-- The parts of a tag that was read, given that values stay XML text when their references are replaced.
use Rattle.std.proofs.Common.{◌≡◌, ℕ, ◌-◌, Bool, true, false, List, [], ◌∷◌, length, take, Some, None, inl, inr, sym, ap, subst, ◌∙◌}
use Rattle.std.specs.Prelude.{◌&&◌, if◌then◌else◌, codes}
use Rattle.std.proofs.lemmas.Bool.{cases_Bool}
use Rattle.cal_base.specs.Xml.XmlNames.{QName, qname_of, is_plain_name, is_xml_text, begins_with_blank}
use Rattle.cal_base.specs.Xml.XmlMarkup.{WrittenAttribute, ends, holds, attribute_name, attribute_of, attributes_of, without_last_blanks, without_first_blanks}
use Rattle.cal_base.specs.Xml.XmlScopes.{value_octets}
use Rattle.cal_base.proofs.Xml.XmlTagLemmas.{pick, skip, bind_is, map_is}
use Rattle.dav_write.proofs.ReadBack.Pieces.{local_plain, FineOutside}
use Rattle.dav_write.proofs.ReadBack.TagFacts.{AreWritten}

-- what is to be known of values
abbrev pub ValueFine : Type 0
ValueFine = (value : List ℕ) → is_xml_text value ≡ true → holds (codes "<") value ≡ false → is_xml_text (value_octets value) ≡ true

named_if : (test : Bool) (text : List ℕ) (name : QName) → (if test then qname_of text else None) ≡ Some name → is_plain_name name.local ≡ true
named_if true text name e = local_plain text name e
named_if false text name e = absurd cc

name_of_before : (before : List ℕ) (name : QName) → attribute_name before ≡ Some name → is_plain_name name.local ≡ true
name_of_before before name e =
    let front = without_last_blanks before in
    named_if (begins_with_blank before && ends front (codes "=")) (without_last_blanks (without_first_blanks (take (length front - 1) front))) name e

attribute_fine : ValueFine → (before value : List ℕ) (attribute : WrittenAttribute) → attribute_of before value ≡ Some attribute → is_xml_text value ≡ true → (is_plain_name attribute.name.local ≡ true) × (is_xml_text (value_octets attribute.value) ≡ true)
attribute_fine values before value attribute e fine = elim (cases_Bool (holds (codes "<") value)) [
  | inl less ↦ let none : None ≡ Some attribute = sym (pick _ _ _ less) ∙ e in absurd cc
  | inr no_less ↦
      let (name, named, same) = map_is (λ name. record { name = name; value = value }) (attribute_name before) attribute (sym (skip _ _ _ no_less) ∙ e) in
      (ap (λ (a : WrittenAttribute). is_plain_name a.name.local) (sym same) ∙ name_of_before before name named, ap (λ (a : WrittenAttribute). is_xml_text (value_octets a.value)) (sym same) ∙ values value fine no_less)
]

pub attributes_fine : ValueFine → (parts : List (List ℕ)) (attributes : List WrittenAttribute) → attributes_of parts ≡ Some attributes → FineOutside parts → AreWritten attributes
attributes_fine values [] attributes e fine = absurd cc
attributes_fine values (last ∷ []) [] e fine = tt
attributes_fine values (last ∷ []) (attribute ∷ attributes) e fine = absurd (no_more _ e)
  where
    no_more : (test : Bool) → (if test then Some [] else None) ≡ Some (attribute ∷ attributes) → ⊥
    no_more true h = cc
    no_more false h = cc
attributes_fine values (before ∷ value ∷ more) attributes e (here, fine) =
    let (attribute, found, next) = bind_is _ (attribute_of before value) attributes e in
    let (others, found_others, same) = map_is (λ others. attribute ∷ others) (attributes_of more) attributes next in
    subst AreWritten same (attribute_fine values before value attribute found here, attributes_fine values more others found_others fine)
