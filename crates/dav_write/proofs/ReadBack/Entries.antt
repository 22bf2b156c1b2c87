-- The attributes of a tag, each a declaration or an attribute of the element: what the tag then names, and that it can stand.
use Rattle.std.proofs.Common.{◌≡◌, ℕ, Bool, true, false, List, [], ◌∷◌, ◌++◌, map, Some, inl, inr, refl, sym, ap, subst, ◌∙◌}
use Rattle.std.specs.Prelude.{⊤, codes, filter, filter_map, option_map, is_none}
use Rattle.std.specs.List.{list_any}
use Rattle.std.specs.Str.{bytes_eq, is_utf8, chars}
use lib.Utf8.{encode}
use Rattle.std.proofs.lemmas.Option.{same_Some}
use Rattle.std.proofs.lemmas.Bool.{cases_Bool}
use Rattle.cal_base.specs.declared.element.Attr.{Attr}
use Rattle.cal_base.specs.Xml.XmlNames.{is_plain_name, is_xml_text, is_same_name}
use Rattle.cal_base.specs.Xml.XmlMarkup.{WrittenAttribute}
use Rattle.cal_base.specs.Xml.XmlScopes.{Scope, value_octets, is_declaration, declared_by, is_no_declaration, attribute_space, attribute_in, is_bad_binding, has_repeat, is_same_written, is_same_attribute}
use Rattle.cal_base.specs.Xml.CanonicalXml.{attribute_text}
use Rattle.cal_base.proofs.Xml.XmlNameLemmas.{both_true, both_false}
use Rattle.cal_base.proofs.Xml.XmlEscapeLemmas.{value_octets-attribute_text}
use Rattle.dav_write.proofs.ReadBack.Lookups.{same_text, text_same}
use Rattle.dav_write.proofs.ReadBack.Characters.{xml_text_utf8}
use Rattle.dav_write.proofs.ReadBack.NameTexts.{NameText, name_alone, name_with}
use Rattle.dav_write.proofs.ReadBack.Tags.{Pair, ArePairs, pair_attribute}

pub data Entry : Type 0 where
  binds : List ℕ → List ℕ → Entry
  gives : List ℕ → Attr → Entry

abbrev pub prefixed : List ℕ → List ℕ → List ℕ
prefixed [] name = name
prefixed (octet ∷ prefix) name = (octet ∷ prefix) ++ 58 ∷ name

abbrev pub entry_pair : Entry → Pair
entry_pair (binds prefix space) = record { text = codes "xmlns:" ++ prefix; name = record { prefix = codes "xmlns"; local = prefix }; value = space }
entry_pair (gives prefix attr) = record { text = prefixed prefix attr.name; name = record { prefix = prefix; local = attr.name }; value = attr.value }

abbrev pub IsPrefix : List ℕ → Type 0
IsPrefix [] = ⊤
IsPrefix (octet ∷ prefix) = is_plain_name (octet ∷ prefix) ≡ true

pub record IsBinding (prefix space : List ℕ) : Type 0 where
  pub plain : is_plain_name prefix ≡ true
  pub fine : is_xml_text space ≡ true
  pub good : is_bad_binding (prefix, space) ≡ false

pub record IsGiven (prefix : List ℕ) (attr : Attr) : Type 0 where
  pub before : IsPrefix prefix
  pub plain : is_plain_name attr.name ≡ true
  pub fine : is_xml_text attr.value ≡ true
  pub none : is_declaration (record { prefix = prefix; local = attr.name }) ≡ false

abbrev pub AreEntries : List Entry → Type 0
AreEntries [] = ⊤
AreEntries (binds prefix space ∷ entries) = IsBinding prefix space × AreEntries entries
AreEntries (gives prefix attr ∷ entries) = IsGiven prefix attr × AreEntries entries

-- what a scope has for the prefixes of the attributes
abbrev pub AreSpaces : Scope → List Entry → Type 0
AreSpaces scope [] = ⊤
AreSpaces scope (binds prefix space ∷ entries) = AreSpaces scope entries
AreSpaces scope (gives prefix attr ∷ entries) = (attribute_space scope (record { prefix = prefix; local = attr.name }) ≡ Some attr.space) × AreSpaces scope entries

abbrev pub bindings : List Entry → Scope
bindings [] = []
bindings (binds prefix space ∷ entries) = (prefix, space) ∷ bindings entries
bindings (gives prefix attr ∷ entries) = bindings entries

abbrev pub attrs_of : List Entry → List Attr
attrs_of [] = []
attrs_of (binds prefix space ∷ entries) = attrs_of entries
attrs_of (gives prefix attr ∷ entries) = attr ∷ attrs_of entries

abbrev pub written_of : List Entry → List WrittenAttribute
written_of entries = map pair_attribute (map entry_pair entries)

-- Texts

xmlns_plain : is_plain_name (codes "xmlns") ≡ true
unfolding is_utf8 chars encode
xmlns_plain = refl

given_name : (prefix name : List ℕ) → IsPrefix prefix → is_plain_name name ≡ true → NameText (prefixed prefix name) (record { prefix = prefix; local = name })
given_name [] name p n = name_alone name n
given_name (octet ∷ prefix) name p n = name_with (octet ∷ prefix) name p n

pub entries_pairs : (entries : List Entry) → AreEntries entries → ArePairs (map entry_pair entries)
entries_pairs [] are = tt
entries_pairs (binds prefix space ∷ entries) (is, are) = (record { named = name_with (codes "xmlns") prefix xmlns_plain is.plain; fine = is.fine }, entries_pairs entries are)
entries_pairs (gives prefix attr ∷ entries) (is, are) = (record { named = given_name prefix attr.name is.before is.plain; fine = is.fine }, entries_pairs entries are)

-- Declarations

pub declarations_of : (entries : List Entry) → AreEntries entries → filter_map declared_by (written_of entries) ≡ bindings entries
declarations_of [] are = refl
declarations_of (binds prefix space ∷ entries) (is, are) =
    ap (λ (value : List ℕ). (prefix, value) ∷ filter_map declared_by (written_of entries)) (value_octets-attribute_text space (xml_text_utf8 space is.fine))
    ∙ ap (λ (more : Scope). (prefix, space) ∷ more) (declarations_of entries are)
declarations_of (gives prefix attr ∷ entries) (is, are) = rw (is.none) (declarations_of entries are)

-- Attributes

read_attr : (scope : Scope) (prefix : List ℕ) (attr : Attr) → IsGiven prefix attr → attribute_space scope (record { prefix = prefix; local = attr.name }) ≡ Some attr.space → attribute_in scope (pair_attribute (entry_pair (gives prefix attr))) ≡ Some attr
read_attr scope prefix attr is e =
    ap (option_map (λ space. record { space = space; name = attr.name; value = value_octets (attribute_text attr.value) })) e
    ∙ ap (λ (value : List ℕ). Some (made attr.space attr.name value)) (value_octets-attribute_text attr.value (xml_text_utf8 attr.value is.fine))
  where
    made : List ℕ → List ℕ → List ℕ → Attr
    made space name value = record { space = space; name = name; value = value }

pub attributes_of_entries : (scope : Scope) (entries : List Entry) → AreEntries entries → AreSpaces scope entries → filter_map (attribute_in scope) (filter is_no_declaration (written_of entries)) ≡ attrs_of entries
attributes_of_entries scope [] are spaces = refl
attributes_of_entries scope (binds prefix space ∷ entries) (is, are) spaces = attributes_of_entries scope entries are spaces
attributes_of_entries scope (gives prefix attr ∷ entries) (is, are) (here, spaces) =
    rw (is.none) (rw (read_attr scope prefix attr is here) (ap (λ (more : List Attr). attr ∷ more) (attributes_of_entries scope entries are spaces)))

pub none_undeclared : (scope : Scope) (entries : List Entry) → AreEntries entries → AreSpaces scope entries → list_any (λ (attribute : WrittenAttribute). is_none (attribute_space scope attribute.name)) (filter is_no_declaration (written_of entries)) ≡ false
none_undeclared scope [] are spaces = refl
none_undeclared scope (binds prefix space ∷ entries) (is, are) spaces = none_undeclared scope entries are spaces
none_undeclared scope (gives prefix attr ∷ entries) (is, are) (here, spaces) = rw (is.none) (rw (here) (none_undeclared scope entries are spaces))

pub none_bad : (entries : List Entry) → AreEntries entries → list_any is_bad_binding (bindings entries) ≡ false
none_bad [] are = refl
none_bad (binds prefix space ∷ entries) (is, are) = rw (is.good) (none_bad entries are)
none_bad (gives prefix attr ∷ entries) (is, are) = none_bad entries are

-- Repeats

abbrev pub is_same_prefix : List ℕ × List ℕ → List ℕ × List ℕ → Bool
is_same_prefix one other = bytes_eq one.0 other.0

-- a declaration is like none behind it
like_binding : (prefix space : List ℕ) (entries : List Entry) → AreEntries entries → list_any (is_same_prefix (prefix, space)) (bindings entries) ≡ false → list_any (is_same_written (pair_attribute (entry_pair (binds prefix space)))) (written_of entries) ≡ false
like_binding prefix space [] are e = refl
like_binding prefix space (binds other_prefix other ∷ entries) (is, are) e =
    let each = both_false (bytes_eq prefix other_prefix) _ e in
    rw (each.0) (like_binding prefix space entries are each.1)
like_binding prefix space (gives given attr ∷ entries) (is, are) e = elim (cases_Bool (is_same_name (record { prefix = codes "xmlns"; local = prefix }) (record { prefix = given; local = attr.name }))) [
  | inl same ↦
      let names = both_true (bytes_eq (codes "xmlns") given) _ same in
      let other : is_declaration (record { prefix = codes "xmlns"; local = attr.name }) ≡ false = subst (λ (p : List ℕ). is_declaration (record { prefix = p; local = attr.name }) ≡ false) (sym (same_text (codes "xmlns") given names.0)) is.none in
      let clash : true ≡ false = other in
      absurd cc
  | inr apart ↦ rw (apart) (like_binding prefix space entries are e)
]

-- an attribute is written as none behind it
like_given : (scope : Scope) (prefix : List ℕ) (attr : Attr) (entries : List Entry) → IsGiven prefix attr → attribute_space scope (record { prefix = prefix; local = attr.name }) ≡ Some attr.space → AreEntries entries → AreSpaces scope entries
    → list_any (is_same_attribute attr) (attrs_of entries) ≡ false → list_any (is_same_written (pair_attribute (entry_pair (gives prefix attr)))) (written_of entries) ≡ false
like_given scope prefix attr [] given here are spaces e = refl
like_given scope prefix attr (binds other space ∷ entries) given here (is, are) spaces e = elim (cases_Bool (is_same_name (record { prefix = prefix; local = attr.name }) (record { prefix = codes "xmlns"; local = other }))) [
  | inl same ↦
      let names = both_true (bytes_eq prefix (codes "xmlns")) _ same in
      let clash : is_declaration (record { prefix = codes "xmlns"; local = attr.name }) ≡ false = subst (λ (p : List ℕ). is_declaration (record { prefix = p; local = attr.name }) ≡ false) (same_text prefix (codes "xmlns") names.0) given.none in
      let no : true ≡ false = clash in
      absurd cc
  | inr apart ↦ rw (apart) (like_given scope prefix attr entries given here are spaces e)
]
like_given scope prefix attr (gives other one ∷ entries) given here (is, are) (there, spaces) e = elim (cases_Bool (is_same_name (record { prefix = prefix; local = attr.name }) (record { prefix = other; local = one.name }))) [
  | inl same ↦
      let each = both_false (is_same_attribute attr one) _ e in
      let names = both_true (bytes_eq prefix other) _ same in
      let space : Some attr.space ≡ Some one.space = sym here ∙ ap (λ (p : List ℕ). attribute_space scope (record { prefix = p; local = attr.name })) (same_text prefix other names.0) ∙ there in
      let equal : is_same_attribute attr one ≡ true = rw (text_same attr.space one.space (same_Some attr.space one.space space), names.1) refl in
      let no : true ≡ false = sym equal ∙ each.0 in
      absurd cc
  | inr apart ↦ rw (apart) (like_given scope prefix attr entries given here are spaces (both_false (is_same_attribute attr one) _ e).1)
]

pub no_repeat : (scope : Scope) (entries : List Entry) → AreEntries entries → AreSpaces scope entries → has_repeat is_same_prefix (bindings entries) ≡ false → has_repeat is_same_attribute (attrs_of entries) ≡ false → has_repeat is_same_written (written_of entries) ≡ false
no_repeat scope [] are spaces b a = refl
no_repeat scope (binds prefix space ∷ entries) (is, are) spaces b a =
    let each = both_false (list_any (is_same_prefix (prefix, space)) (bindings entries)) _ b in
    rw (like_binding prefix space entries are each.0) (no_repeat scope entries are spaces each.1 a)
no_repeat scope (gives prefix attr ∷ entries) (is, are) (here, spaces) b a =
    let each = both_false (list_any (is_same_attribute attr) (attrs_of entries)) _ a in
    rw (like_given scope prefix attr entries is here are spaces each.0) (no_repeat scope entries are spaces b each.1)
