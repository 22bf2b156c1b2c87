-- A tag that was read names what can stand in a canonical tag, given its parts.
use Rattle.std.proofs.Common.{◌≡◌, ℕ, suc, ◌≤◌, Bool, true, false, List, [], ◌∷◌, ◌++◌, length, Option, Some, None, inl, inr, arith, refl, sym, ap, subst, ◌∙◌, append_assoc}
use Rattle.std.specs.Prelude.{⊤, not, ◌==◌, ◌&&◌, ◌||◌, nat_le, if◌then◌else◌, codes, filter, filter_map, flat_map, option_map, unwrap_or, cond}
use Rattle.std.specs.List.{list_any, cons_option}
use Rattle.std.proofs.lemmas.Option.{same_Some}
use Rattle.std.specs.Str.{bytes_eq, is_utf8, chars}
use lib.Utf8.{encode}
use Rattle.std.proofs.lemmas.Bool.{cases_Bool}
use Rattle.cal_base.specs.declared.element.Attr.{Attr}
use Rattle.cal_base.specs.Xml.XmlNames.{is_plain_name, is_xml_text}
use Rattle.cal_base.specs.Xml.XmlMarkup.{WrittenAttribute, Tag, opening, markup_of}
use Rattle.cal_base.specs.Xml.XmlScopes.{Scope, outer_scope, xmlns_space, xml_space, is_default, is_declaration, declared_by, declared_prefix, declarations, scope_at, space_of, value_octets, attribute_space, attribute_in, attributes_in, is_no_declaration, is_bad_binding, has_repeat, is_same_written, is_same_attribute, has_bad_attribute, has_undeclared_prefix}
use Rattle.cal_base.specs.Xml.XmlFaults.{Why, syntax, too_deep, tag_fault, greatest_depth}
use Rattle.cal_base.specs.Xml.XmlFaults as Faults
use Rattle.cal_base.proofs.Xml.XmlNameLemmas.{both_false}
use Rattle.dav_write.proofs.ReadBack.Lookups.{space_of_cons, same_text}
use Rattle.dav_write.specs.Readable.{IsSpace, IsAttr, AreAttrs}
use Rattle.dav_write.proofs.ReadBack.Spelling.{scope_in}
use Rattle.dav_write.proofs.ReadBack.Given.{IsTagRead, AreRead, TagGiven}

abbrev pub AreWritten : List WrittenAttribute → Type 0
AreWritten [] = ⊤
AreWritten (attribute ∷ attributes) = ((is_plain_name attribute.name.local ≡ true) × (is_xml_text (value_octets attribute.value) ≡ true)) × AreWritten attributes

-- what is to be known of the parts of a tag
abbrev pub TagParts : Type 0
TagParts = (text : List ℕ) (tag : Tag) → markup_of text ≡ Some (opening tag) → (is_plain_name tag.name.local ≡ true) × (AreWritten tag.attributes × (length tag.attributes ≤ length text))

record IsEntry (prefix space : List ℕ) : Type 0 where
  space_fine : IsSpace space
  bound : (not (length prefix == 0) && (length space == 0)) ≡ false

abbrev AreBound : Scope → Type 0
AreBound [] = ⊤
AreBound (entry ∷ scope) = IsEntry entry.0 entry.1 × AreBound scope

xml_fine : (is_xml_text [] ≡ true) × (is_xml_text xml_space ≡ true)
unfolding is_utf8 chars encode
xml_fine = (refl, refl)

outer_bound : AreBound outer_scope
outer_bound = (record { space_fine = record { characters = xml_fine.0; other = refl }; bound = refl }, (record { space_fine = record { characters = xml_fine.1; other = refl }; bound = refl }, tt))

good_entry : (prefix space : List ℕ) → is_xml_text space ≡ true → is_bad_binding (prefix, space) ≡ false → IsEntry prefix space
good_entry prefix space fine e =
    let all = both_false _ (not (length prefix == 0) && (length space == 0)) e in
    let three = both_false _ (bytes_eq prefix (codes "xml") && not (bytes_eq space xml_space)) all.0 in
    record { space_fine = record { characters = fine; other = first_of e }; bound = all.1 }
  where
    first_of : is_bad_binding (prefix, space) ≡ false → bytes_eq space xmlns_space ≡ false
    first_of h = elim (cases_Bool (bytes_eq space xmlns_space)) [
      | inr other ↦ other
      | inl same ↦ let bad : true ≡ false = sym (ap (λ (test : Bool). test || bytes_eq prefix (codes "xmlns") || not (bytes_eq prefix (codes "xml")) && bytes_eq space xml_space || bytes_eq prefix (codes "xml") && not (bytes_eq space xml_space) || not (length prefix == 0) && (length space == 0)) same) ∙ h in absurd cc
    ]

-- Declarations

declared_bound : (attributes : List WrittenAttribute) → AreWritten attributes → list_any is_bad_binding (filter_map declared_by attributes) ≡ false → AreBound (filter_map declared_by attributes)
declared_bound [] are e = tt
declared_bound (attribute ∷ attributes) (is, are) e = elim (cases_Bool (is_declaration attribute.name)) [
  | inl yes_declared ↦
      let each = both_false (is_bad_binding (declared_prefix attribute.name, value_octets attribute.value)) _ (as_cons yes_declared e) in
      subst AreBound (sym (cons_is yes_declared)) (good_entry (declared_prefix attribute.name) (value_octets attribute.value) is.1 each.0, declared_bound attributes are each.1)
  | inr other ↦ subst AreBound (sym (skip_is other)) (declared_bound attributes are (ap (list_any is_bad_binding) (sym (skip_is other)) ∙ e))
]
  where
    cons_is : is_declaration attribute.name ≡ true → filter_map declared_by (attribute ∷ attributes) ≡ (declared_prefix attribute.name, value_octets attribute.value) ∷ filter_map declared_by attributes
    cons_is d = rw (d) refl

    skip_is : is_declaration attribute.name ≡ false → filter_map declared_by (attribute ∷ attributes) ≡ filter_map declared_by attributes
    skip_is d = rw (d) refl

    as_cons : is_declaration attribute.name ≡ true → list_any is_bad_binding (filter_map declared_by (attribute ∷ attributes)) ≡ false → list_any is_bad_binding ((declared_prefix attribute.name, value_octets attribute.value) ∷ filter_map declared_by attributes) ≡ false
    as_cons d h = ap (list_any is_bad_binding) (sym (cons_is d)) ∙ h

bound_join : (scope other : Scope) → AreBound scope → AreBound other → AreBound (scope ++ other)
bound_join [] other a b = b
bound_join (entry ∷ scope) other (is, a) b = (is, bound_join scope other a b)

-- what a tag without a fault is
inner_is : (tags : List Tag) → flat_map declarations tags ++ outer_scope ≡ scope_in tags
inner_is [] = refl
inner_is (tag ∷ tags) = append_assoc (declarations tag) (flat_map declarations tags) outer_scope ∙ ap (λ (s : Scope). declarations tag ++ s) (inner_is tags)

scope_at_is : (tag : Tag) (tags : List Tag) → scope_at tag tags ≡ declarations tag ++ scope_in tags
scope_at_is tag tags = append_assoc (declarations tag) (flat_map declarations tags) outer_scope ∙ ap (λ (s : Scope). declarations tag ++ s) (inner_is tags)

no_bad : (tag : Tag) (around : List Tag) → tag_fault around tag ≡ None → has_bad_attribute (declarations tag ++ scope_in around) tag ≡ false
no_bad tag around e = ap (λ (s : Scope). has_bad_attribute s tag) (sym (scope_at_is tag around)) ∙ by_test (has_bad_attribute (scope_at tag around) tag) e
  where
    by_test : (test : Bool) → ◌≡◌ {A = Option Why} (if test then Some syntax else if has_undeclared_prefix (scope_at tag around) tag then Some Faults.prefix else if nat_le greatest_depth (length around) then Some too_deep else None) None → test ≡ false
    by_test true h = absurd cc
    by_test false h = refl

tag_bound : TagParts → (tag : Tag) (around : List Tag) → IsTagRead tag around → AreBound (declarations tag)
tag_bound parts tag around read =
    let known = parts read.text tag read.is in
    let bad = both_false (has_repeat is_same_written tag.attributes || has_repeat is_same_attribute (attributes_in (declarations tag ++ scope_in around) tag)) _ (no_bad tag around read.stands_there) in
    declared_bound tag.attributes known.1.0 bad.1

scope_bound : TagParts → (around : List Tag) → AreRead around → AreBound (scope_in around)
scope_bound parts [] before = outer_bound
scope_bound parts (tag ∷ around) (read, before) = bound_join (declarations tag) (scope_in around) (tag_bound parts tag around read) (scope_bound parts around before)

-- Spaces that are found

no_space : IsSpace []
no_space = record { characters = xml_fine.0; other = refl }

found_space : (scope : Scope) (prefix : List ℕ) → AreBound scope → IsSpace (unwrap_or (space_of scope prefix) [])
found_space [] prefix b = no_space
found_space (entry ∷ scope) prefix (is, b) = elim (cases_Bool (bytes_eq entry.0 prefix)) [
  | inl same ↦ subst (λ (found : Option (List ℕ)). IsSpace (unwrap_or found [])) (sym (space_of_cons entry scope prefix ∙ ap (λ (test : Bool). cond test (Some entry.1) (space_of scope prefix)) same)) is.space_fine
  | inr other ↦ subst (λ (found : Option (List ℕ)). IsSpace (unwrap_or found [])) (sym (space_of_cons entry scope prefix ∙ ap (λ (test : Bool). cond test (Some entry.1) (space_of scope prefix)) other)) (found_space scope prefix b)
]

-- Attributes

-- the space of an attribute that is no declaration
found_bound : (scope : Scope) (prefix space : List ℕ) → AreBound scope → space_of scope prefix ≡ Some space → (not (length prefix == 0) && (length space == 0)) ≡ false
found_bound [] prefix space b e = absurd cc
found_bound (entry ∷ scope) prefix space (is, b) e = elim (cases_Bool (bytes_eq entry.0 prefix)) [
  | inl same ↦
      let found : entry.1 ≡ space = same_Some entry.1 space (sym (space_of_cons entry scope prefix ∙ ap (λ (test : Bool). cond test (Some entry.1) (space_of scope prefix)) same) ∙ e) in
      ap (λ (s : List ℕ). not (length prefix == 0) && (length s == 0)) (sym found) ∙ ap (λ (p : List ℕ). not (length p == 0) && (length entry.1 == 0)) (sym (same_text entry.0 prefix same)) ∙ is.bound
  | inr other ↦ found_bound scope prefix space b (sym (space_of_cons entry scope prefix ∙ ap (λ (test : Bool). cond test (Some entry.1) (space_of scope prefix)) other) ∙ e)
]

attr_of : (scope : Scope) (attribute : WrittenAttribute) (space : List ℕ) → AreBound scope → is_declaration attribute.name ≡ false → is_plain_name attribute.name.local ≡ true → is_xml_text (value_octets attribute.value) ≡ true
    → attribute_space scope attribute.name ≡ Some space → IsAttr (record { space = space; name = attribute.name.local; value = value_octets attribute.value })
attr_of scope attribute space b none plain fine e = elim (cases_Bool (length attribute.name.prefix == 0)) [
  | inl empty ↦
      let is : [] ≡ space = same_Some [] space (sym (ap (λ (test : Bool). if test then Some [] else space_of scope attribute.name.prefix) empty) ∙ e) in
      let each = both_false (is_default attribute.name) _ none in
      let local : bytes_eq attribute.name.local (codes "xmlns") ≡ false = sym (ap (λ (test : Bool). test && bytes_eq attribute.name.local (codes "xmlns")) empty) ∙ each.0 in
      record { space = subst IsSpace is no_space; name = plain; value = fine; no_default = ap (λ (s : List ℕ). (length s == 0) && bytes_eq attribute.name.local (codes "xmlns")) (sym is) ∙ local }
  | inr some ↦
      let is : space_of scope attribute.name.prefix ≡ Some space = sym (ap (λ (test : Bool). if test then Some [] else space_of scope attribute.name.prefix) some) ∙ e in
      let bound : (length space == 0) ≡ false = sym (ap (λ (test : Bool). not test && (length space == 0)) some) ∙ found_bound scope attribute.name.prefix space b is in
      record {
        space = subst (λ (found : Option (List ℕ)). IsSpace (unwrap_or found [])) is (found_space scope attribute.name.prefix b);
        name = plain;
        value = fine;
        no_default = ap (λ (test : Bool). test && bytes_eq attribute.name.local (codes "xmlns")) bound;
      }
]

attr_found : (scope : Scope) (attribute : WrittenAttribute) (more : List Attr) (found : Option (List ℕ)) → attribute_space scope attribute.name ≡ found → AreBound scope → is_declaration attribute.name ≡ false → is_plain_name attribute.name.local ≡ true → is_xml_text (value_octets attribute.value) ≡ true
    → AreAttrs more → AreAttrs (cons_option (option_map (λ space. record { space = space; name = attribute.name.local; value = value_octets attribute.value }) found) more)
attr_found scope attribute more None e b none plain fine are = are
attr_found scope attribute more (Some space) e b none plain fine are = (attr_of scope attribute space b none plain fine e, are)

attrs_found : (scope : Scope) (attributes : List WrittenAttribute) → AreBound scope → AreWritten attributes → AreAttrs (filter_map (attribute_in scope) (filter is_no_declaration attributes))
attrs_found scope [] b are = tt
attrs_found scope (attribute ∷ attributes) b (is, are) = elim (cases_Bool (is_declaration attribute.name)) [
  | inl declared ↦ rw (declared) (attrs_found scope attributes b are)
  | inr none ↦ rw (none) (attr_found scope attribute _ (attribute_space scope attribute.name) refl b none is.0 is.1 (attrs_found scope attributes b are))
]

cons_length : (found : Option Attr) (more : List Attr) → length (cons_option found more) ≤ suc (length more)
cons_length None more = omega arith
cons_length (Some attr) more = omega arith

attrs_few : (scope : Scope) (attributes : List WrittenAttribute) → length (filter_map (attribute_in scope) (filter is_no_declaration attributes)) ≤ length attributes
attrs_few scope [] = omega arith
attrs_few scope (attribute ∷ attributes) = elim (cases_Bool (is_declaration attribute.name)) [
  | inl declared ↦ rw (declared) (omega (arith, attrs_few scope attributes))
  | inr none ↦ rw (none) (omega (arith, attrs_few scope attributes, cons_length (attribute_in scope attribute) (filter_map (attribute_in scope) (filter is_no_declaration attributes))))
]

pub tag_given : TagParts → TagGiven
tag_given parts tag around read before level =
    let known = parts read.text tag read.is in
    let scope = declarations tag ++ scope_in around in
    let bound : AreBound scope = bound_join (declarations tag) (scope_in around) (tag_bound parts tag around read) (scope_bound parts around before) in
    let bad = both_false (has_repeat is_same_written tag.attributes || has_repeat is_same_attribute (attributes_in scope tag)) _ (no_bad tag around read.stands_there) in
    record {
      space = found_space scope tag.name.prefix bound;
      name = known.0;
      attrs = attrs_found scope tag.attributes bound known.1.0;
      once = (both_false (has_repeat is_same_written tag.attributes) _ bad.0).1;
      few = omega (arith, attrs_few scope tag.attributes, known.1.1, read.small);
    }
