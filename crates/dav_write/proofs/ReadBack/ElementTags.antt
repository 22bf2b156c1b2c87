-- The tags of an element's canonical text are read as the tags of that element.
use Rattle.std.proofs.Common.{◌≡◌, ℕ, ◌<◌, ◌^◌, Bool, true, false, List, [], ◌∷◌, ◌++◌, map, length, Option, Some, None, inl, inr, arith, refl, sym, ap, subst, ◌∙◌, append_assoc, append-nil}
use Rattle.std.specs.Prelude.{nat_le, codes, filter_map, flat_map, if◌then◌else◌, ◌⊎◌, cond, unwrap_or}
use Rattle.std.specs.Option.{option_or}
use Rattle.std.specs.List.{list_any}
use Rattle.std.specs.Str.{bytes_eq, is_utf8, chars}
use lib.Utf8.{encode}
use Rattle.std.proofs.lemmas.Bool.{leb-true, cases_Bool}
use Rattle.cal_base.specs.declared.element.Attr.{Attr}
use Rattle.cal_base.specs.declared.element.Element.{Element}
use Rattle.cal_base.specs.Xml.XmlNames.{QName, is_plain_name, is_xml_text}
use Rattle.cal_base.specs.Xml.XmlMarkup.{Tag}
use Rattle.cal_base.specs.Xml.XmlScopes.{Scope, outer_scope, declared_by, declarations, scope_at, space_of, attributes_in, has_repeat, is_same_attribute, is_bad_binding, has_bad_attribute, has_undeclared_prefix}
use Rattle.cal_base.specs.Xml.XmlFaults.{syntax, too_deep, tag_fault, greatest_depth}
use Rattle.cal_base.specs.Xml.XmlFaults as Faults
use Rattle.cal_base.specs.Xml.CanonicalXml.{dav, caldav, attribute, declaration, written_attributes, prefixes, named_element, element_with}
use Rattle.dav_write.proofs.ReadBack.Lookups.{text_same, space_of_cons, space_of_append}
use Rattle.dav_write.specs.Readable.{IsSpace, HasTag}
use Rattle.dav_write.proofs.ReadBack.Spelling.{HasKnown, scope_in}
use Rattle.dav_write.proofs.ReadBack.NameTexts.{NameText, name_alone, name_with}
use Rattle.dav_write.proofs.ReadBack.Tags.{ArePairs, pairs_text}
use Rattle.dav_write.proofs.ReadBack.TagMarkups.{tag_made, open_is, alone_is, close_is}
use Rattle.dav_write.proofs.ReadBack.Entries.{Entry, binds, prefixed, entry_pair, IsPrefix, AreEntries, AreSpaces, bindings, attrs_of, written_of, entries_pairs, declarations_of, attributes_of_entries, none_undeclared, none_bad, is_same_prefix, no_repeat}
use Rattle.dav_write.proofs.ReadBack.Prefixes.{prefixed_is, Known, Own, view, y_of, attr_entries, attrs_text, attrs_same, attrs_are, own_binding, plain_names}
use Rattle.dav_write.proofs.ReadBack.TagScopes.{bindings_join, past, Missing, missing_join, attrs_missing, NoneFrom, attrs_spaces, attrs_once, other_once}
use Rattle.dav_write.proofs.ReadBack.Frame.{ReadsTag, TagStep, RootStep}

-- a tag of entries, under the scope that it makes, can stand and names what they say
pub entries_stand : (around : List Tag) (name : QName) (entries : List Entry) (is_empty : Bool) (space : List ℕ) → AreEntries entries
    → AreSpaces (bindings entries ++ scope_in around) entries → space_of (bindings entries ++ scope_in around) name.prefix ≡ Some space
    → has_repeat is_same_prefix (bindings entries) ≡ false → has_repeat is_same_attribute (attrs_of entries) ≡ false → length around < greatest_depth
    → tag_fault around (tag_made name (map entry_pair entries) is_empty) ≡ None
entries_stand around name entries is_empty space are spaces named once attrs deep =
    let tag = tag_made name (map entry_pair entries) is_empty in
    let scope = bindings entries ++ scope_in around in
    let declared : declarations tag ≡ bindings entries = declarations_of entries are in
    let same : scope_at tag around ≡ scope = scope_at_is tag around ∙ ap (λ (d : Scope). d ++ scope_in around) declared in
    let bad : has_bad_attribute scope tag ≡ false = rw (no_repeat scope entries are spaces once attrs) (rw (attributes_of_entries scope entries are spaces) (rw (attrs) (ap (list_any is_bad_binding) declared ∙ none_bad entries are))) in
    let undeclared : has_undeclared_prefix scope tag ≡ false = rw (named) (none_undeclared scope entries are spaces) in
    let shallow : nat_le greatest_depth (length around) ≡ false = elim (cases_Bool (nat_le greatest_depth (length around))) [ inl over ↦ absurd (omega (arith, deep, leb-true greatest_depth (length around) over)) | inr under ↦ under ] in
    ap (λ s. if has_bad_attribute s tag then Some syntax else if has_undeclared_prefix s tag then Some Faults.prefix else if nat_le greatest_depth (length around) then Some too_deep else None) same
    ∙ rw (bad) (rw (undeclared) (rw (shallow) refl))
  where
    inner_is : (tags : List Tag) → flat_map declarations tags ++ outer_scope ≡ scope_in tags
    inner_is [] = refl
    inner_is (tag ∷ tags) = append_assoc (declarations tag) (flat_map declarations tags) outer_scope ∙ ap (λ (s : Scope). declarations tag ++ s) (inner_is tags)

    scope_at_is : (tag : Tag) (tags : List Tag) → scope_at tag tags ≡ declarations tag ++ scope_in tags
    scope_at_is tag tags = append_assoc (declarations tag) (flat_map declarations tags) outer_scope ∙ ap (λ (s : Scope). declarations tag ++ s) (inner_is tags)

-- What stands first in a tag: nothing, or the two declarations of the root

pub data Front : List ℕ → List Tag → Type 0 where
  within : (around : List Tag) → HasKnown (scope_in around) → Front [] around
  at_root : Front prefixes []

abbrev front_entries : {text : List ℕ} {around : List Tag} → Front text around → List Entry
front_entries (within around known) = []
front_entries at_root = binds (codes "D") dav ∷ binds (codes "C") caldav ∷ []

pairs_join : (entries more : List Entry) → pairs_text (map entry_pair (entries ++ more)) ≡ pairs_text (map entry_pair entries) ++ pairs_text (map entry_pair more)
pairs_join [] more = refl
pairs_join (entry ∷ entries) more =
    ap (λ (rest : List ℕ). attribute (entry_pair entry).text (entry_pair entry).value ++ rest) (pairs_join entries more)
    ∙ sym (append_assoc (attribute (entry_pair entry).text (entry_pair entry).value) (pairs_text (map entry_pair entries)) (pairs_text (map entry_pair more)))

front_text : {text : List ℕ} {around : List Tag} (front : Front text around) → text ≡ pairs_text (map entry_pair (front_entries front))
front_text (within around known) = refl
front_text at_root = ap (λ (rest : List ℕ). declaration (codes "D") dav ++ rest) (sym (append-nil (declaration (codes "C") caldav)))

spaces_fine : (is_xml_text dav ≡ true) × (is_xml_text caldav ≡ true)
unfolding is_utf8 chars encode
spaces_fine = (refl, refl)

front_are : {text : List ℕ} {around : List Tag} (front : Front text around) → AreEntries (front_entries front)
front_are (within around known) = tt
front_are at_root = (record { plain = plain_names.0; fine = spaces_fine.0; good = refl }, (record { plain = plain_names.1; fine = spaces_fine.1; good = refl }, tt))

front_known : {text : List ℕ} {around : List Tag} (front : Front text around) → HasKnown (bindings (front_entries front) ++ scope_in around)
front_known (within around known) = known
front_known at_root = record { none = refl; dav_is = refl; caldav_is = refl; xml_is = refl }

-- The name of the element

abbrev pub name_entries : (space : List ℕ) → Known space ⊎ Own space → List Entry
name_entries space (inl known) = []
name_entries space (inr own) = binds (codes "x") space ∷ []

abbrev pub name_prefix : (space : List ℕ) → Known space ⊎ Own space → List ℕ
name_prefix space (inl known) = known.prefix
name_prefix space (inr own) = codes "x"

name_text : (space name : List ℕ) (seen : Known space ⊎ Own space) → is_plain_name name ≡ true → NameText (prefixed (name_prefix space seen) name) (record { prefix = name_prefix space seen; local = name })
name_text space name (inl known) h = by_prefix known.prefix known.plain
  where
    by_prefix : (prefix : List ℕ) → IsPrefix prefix → NameText (prefixed prefix name) (record { prefix = prefix; local = name })
    by_prefix [] p = name_alone name h
    by_prefix (octet ∷ prefix) p = name_with (octet ∷ prefix) name p h
name_text space name (inr own) h = name_with (codes "x") name plain_names.3 h

abbrev pub all_entries : {text : List ℕ} {around : List Tag} → Front text around → (space : List ℕ) → Known space ⊎ Own space → List Attr → List Entry
all_entries front space seen attrs = front_entries front ++ (name_entries space seen ++ attr_entries 0 attrs)

all_text : {text : List ℕ} {around : List Tag} (front : Front text around) (space name : List ℕ) (seen : Known space ⊎ Own space) (attrs : List Attr) (content : List ℕ)
    → named_element text space name attrs content ≡ element_with (prefixed (name_prefix space seen) name) (pairs_text (map entry_pair (all_entries front space seen attrs))) content
all_text {text} {around} front space name (inl known) attrs content =
    ap (λ found. elim found [ None ↦ element_with (codes "x:" ++ name) (text ++ (declaration (codes "x") space ++ written_attributes attrs)) content | Some prefix ↦ element_with (prefix ++ name) (text ++ written_attributes attrs) content ]) known.is
    ∙ ap (λ (n : List ℕ). element_with n (text ++ written_attributes attrs) content) (prefixed_is known.prefix name)
    ∙ ap (λ (attributes : List ℕ). element_with (prefixed known.prefix name) attributes content)
    (ap (λ (t : List ℕ). t ++ written_attributes attrs) (front_text front) ∙ ap (λ (t : List ℕ). pairs_text (map entry_pair (front_entries front)) ++ t) (attrs_text 0 attrs) ∙ sym (pairs_join (front_entries front) (attr_entries 0 attrs)))
all_text {text} {around} front space name (inr own) attrs content =
    ap (λ found. elim found [ None ↦ element_with (codes "x:" ++ name) (text ++ (declaration (codes "x") space ++ written_attributes attrs)) content | Some prefix ↦ element_with (prefix ++ name) (text ++ written_attributes attrs) content ]) own.is
    ∙ ap (λ (attributes : List ℕ). element_with (codes "x:" ++ name) attributes content)
    (ap (λ (t : List ℕ). t ++ (declaration (codes "x") space ++ written_attributes attrs)) (front_text front)
    ∙ ap (λ (t : List ℕ). pairs_text (map entry_pair (front_entries front)) ++ (declaration (codes "x") space ++ t)) (attrs_text 0 attrs)
    ∙ sym (pairs_join (front_entries front) (binds (codes "x") space ∷ attr_entries 0 attrs)))

front_attrs : {text : List ℕ} {around : List Tag} (front : Front text around) (more : List Entry) → attrs_of (front_entries front ++ more) ≡ attrs_of more
front_attrs (within around known) more = refl
front_attrs at_root more = refl

name_attrs : (space : List ℕ) (seen : Known space ⊎ Own space) (more : List Entry) → attrs_of (name_entries space seen ++ more) ≡ attrs_of more
name_attrs space (inl known) more = refl
name_attrs space (inr own) more = refl

front_are_with : {text : List ℕ} {around : List Tag} (front : Front text around) (more : List Entry) → AreEntries more → AreEntries (front_entries front ++ more)
front_are_with (within around known) more are = are
front_are_with at_root more are = ((front_are at_root).0, ((front_are at_root).1.0, are))

front_spaces_with : {text : List ℕ} {around : List Tag} (front : Front text around) (scope : Scope) (more : List Entry) → AreSpaces scope more → AreSpaces scope (front_entries front ++ more)
front_spaces_with (within around known) scope more are = are
front_spaces_with at_root scope more are = are

name_are_with : (space : List ℕ) (seen : Known space ⊎ Own space) (more : List Entry) → IsSpace space → AreEntries more → AreEntries (name_entries space seen ++ more)
name_are_with space (inl known) more s are = are
name_are_with space (inr own) more s are = (own_binding (codes "x") space plain_names.3 refl refl s own, are)

name_spaces_with : (space : List ℕ) (seen : Known space ⊎ Own space) (scope : Scope) (more : List Entry) → AreSpaces scope more → AreSpaces scope (name_entries space seen ++ more)
name_spaces_with space (inl known) scope more are = are
name_spaces_with space (inr own) scope more are = are

-- no entry of the name, and none of the front, has a prefix of an attribute
front_missing : {text : List ℕ} {around : List Tag} (front : Front text around) (place : ℕ) → Missing (y_of place) (bindings (front_entries front))
front_missing (within around known) place = refl
front_missing at_root place = refl

name_missing : (prefix space : List ℕ) (seen : Known space ⊎ Own space) → bytes_eq (codes "x") prefix ≡ false → Missing prefix (bindings (name_entries space seen))
name_missing prefix space (inl known) apart = refl
name_missing prefix space (inr own) apart = space_of_cons (codes "x", space) [] prefix ∙ ap (λ (test : Bool). cond test (Some space) None) apart

all_bindings : {text : List ℕ} {around : List Tag} (front : Front text around) (space : List ℕ) (seen : Known space ⊎ Own space) (attrs : List Attr)
    → bindings (all_entries front space seen attrs) ≡ bindings (front_entries front) ++ (bindings (name_entries space seen) ++ bindings (attr_entries 0 attrs))
all_bindings front space seen attrs = bindings_join (front_entries front) (name_entries space seen ++ attr_entries 0 attrs) ∙ ap (λ (s : Scope). bindings (front_entries front) ++ s) (bindings_join (name_entries space seen) (attr_entries 0 attrs))

-- a prefix that the tag's own declarations lack
looked_past : {text : List ℕ} {around : List Tag} (front : Front text around) (space : List ℕ) (seen : Known space ⊎ Own space) (attrs : List Attr) (prefix : List ℕ) → bytes_eq (codes "x") prefix ≡ false → ((other : ℕ) → bytes_eq (y_of other) prefix ≡ false)
    → space_of (bindings (all_entries front space seen attrs) ++ scope_in around) prefix ≡ space_of (bindings (front_entries front) ++ scope_in around) prefix
looked_past {text} {around} front space seen attrs prefix no_x no_y =
    let first = bindings (front_entries front) in
    let middle = bindings (name_entries space seen) in
    let last = bindings (attr_entries 0 attrs) in
    ap (λ (s : Scope). space_of (s ++ scope_in around) prefix) (all_bindings front space seen attrs)
    ∙ ap (λ (s : Scope). space_of s prefix) (append_assoc first (middle ++ last) (scope_in around) ∙ ap (λ (s : Scope). first ++ s) (append_assoc middle last (scope_in around)))
    ∙ space_of_append first (middle ++ (last ++ scope_in around)) prefix
    ∙ ap (option_or (space_of first prefix)) (past prefix middle (last ++ scope_in around) (name_missing prefix space seen no_x) ∙ past prefix last (scope_in around) (attrs_missing prefix 0 attrs no_y))
    ∙ sym (space_of_append first (scope_in around) prefix)

all_known : {text : List ℕ} {around : List Tag} (front : Front text around) (space : List ℕ) (seen : Known space ⊎ Own space) (attrs : List Attr) → HasKnown (bindings (all_entries front space seen attrs) ++ scope_in around)
all_known front space seen attrs =
    let known = front_known front in
    record {
      none = looked_past front space seen attrs [] refl (λ other. refl) ∙ known.none;
      dav_is = looked_past front space seen attrs (codes "D") refl (λ other. refl) ∙ known.dav_is;
      caldav_is = looked_past front space seen attrs (codes "C") refl (λ other. refl) ∙ known.caldav_is;
      xml_is = looked_past front space seen attrs (codes "xml") refl (λ other. refl) ∙ known.xml_is;
    }

-- Spaces and repeats

x_space : (scope : Scope) (space : List ℕ) → space_of ((codes "x", space) ∷ scope) (codes "x") ≡ Some space
x_space scope space = space_of_cons (codes "x", space) scope (codes "x")

front_missing_x : {text : List ℕ} {around : List Tag} (front : Front text around) → Missing (codes "x") (bindings (front_entries front))
front_missing_x (within around known) = refl
front_missing_x at_root = refl

all_named : {text : List ℕ} {around : List Tag} (front : Front text around) (space : List ℕ) (seen : Known space ⊎ Own space) (attrs : List Attr) → space_of (bindings (all_entries front space seen attrs) ++ scope_in around) (name_prefix space seen) ≡ Some space
all_named {text} {around} front space (inl known) attrs = known.stands_for _ (all_known front space (inl known) attrs)
all_named {text} {around} front space (inr own) attrs =
    let first = bindings (front_entries front) in
    let last = bindings (attr_entries 0 attrs) in
    ap (λ (s : Scope). space_of (s ++ scope_in around) (codes "x")) (all_bindings front space (inr own) attrs)
    ∙ ap (λ (s : Scope). space_of s (codes "x")) (append_assoc first ((codes "x", space) ∷ last) (scope_in around))
    ∙ past (codes "x") first ((codes "x", space) ∷ (last ++ scope_in around)) (front_missing_x front)
    ∙ x_space (last ++ scope_in around) space

all_spaces : {text : List ℕ} {around : List Tag} (front : Front text around) (space : List ℕ) (seen : Known space ⊎ Own space) (attrs : List Attr) → length attrs < 2 ^ 64 → AreSpaces (bindings (all_entries front space seen attrs) ++ scope_in around) (all_entries front space seen attrs)
all_spaces {text} {around} front space seen attrs few =
    let first = bindings (front_entries front) in
    let middle = bindings (name_entries space seen) in
    let last = bindings (attr_entries 0 attrs) in
    let scope = bindings (all_entries front space seen attrs) ++ scope_in around in
    let none : NoneFrom 0 (first ++ middle) = λ other low high. missing_join (y_of other) first middle (front_missing front other) (name_missing (y_of other) space seen refl) in
    let split : scope ≡ (first ++ middle) ++ (last ++ scope_in around) =
    ap (λ (s : Scope). s ++ scope_in around) (all_bindings front space seen attrs ∙ sym (append_assoc first middle last)) ∙ append_assoc (first ++ middle) last (scope_in around) in
    front_spaces_with front scope _ (name_spaces_with space seen scope _ (attrs_spaces scope (first ++ middle) (scope_in around) 0 attrs (all_known front space seen attrs) none split (omega arith)))

name_once : (space : List ℕ) (seen : Known space ⊎ Own space) (attrs : List Attr) → length attrs < 2 ^ 64 → has_repeat is_same_prefix (bindings (name_entries space seen ++ attr_entries 0 attrs)) ≡ false
name_once space (inl known) attrs few = attrs_once 0 attrs (omega arith)
name_once space (inr own) attrs few = rw (other_once (codes "x") space (λ other. refl) 0 attrs) (attrs_once 0 attrs (omega arith))

name_other : (prefix other : List ℕ) (space : List ℕ) (seen : Known space ⊎ Own space) (attrs : List Attr) → bytes_eq prefix (codes "x") ≡ false → ((place : ℕ) → bytes_eq prefix (y_of place) ≡ false) → list_any (is_same_prefix (prefix, other)) (bindings (name_entries space seen ++ attr_entries 0 attrs)) ≡ false
name_other prefix other space (inl known) attrs no_x no_y = other_once prefix other no_y 0 attrs
name_other prefix other space (inr own) attrs no_x no_y = rw (no_x) (other_once prefix other no_y 0 attrs)

all_once : {text : List ℕ} {around : List Tag} (front : Front text around) (space : List ℕ) (seen : Known space ⊎ Own space) (attrs : List Attr) → length attrs < 2 ^ 64 → has_repeat is_same_prefix (bindings (all_entries front space seen attrs)) ≡ false
all_once (within around known) space seen attrs few = name_once space seen attrs few
all_once at_root space seen attrs few =
    rw (name_other (codes "D") dav space seen attrs refl (λ place. refl)) (rw (name_other (codes "C") caldav space seen attrs refl (λ place. refl)) (name_once space seen attrs few))

-- The tag

pub reads_tag : {text : List ℕ} {around : List Tag} (front : Front text around) (element : Element) → HasTag element → length around < greatest_depth → ReadsTag element text around
reads_tag {text} {around} front element has deep =
    let space = element.space in
    let attrs = element.attrs in
    let seen = view space in
    let entries = all_entries front space seen attrs in
    let pairs = map entry_pair entries in
    let scope = bindings entries ++ scope_in around in
    let qname : QName = record { prefix = name_prefix space seen; local = element.name } in
    let named = name_text space element.name seen has.name in
    let are : AreEntries entries = front_are_with front _ (name_are_with space seen _ has.space (attrs_are 0 attrs (omega (arith, has.few)) has.attrs)) in
    let written : ArePairs pairs = entries_pairs entries are in
    let spaces : AreSpaces scope entries = all_spaces front space seen attrs has.few in
    let found : space_of scope (name_prefix space seen) ≡ Some space = all_named front space seen attrs in
    let same_attrs : attrs_of entries ≡ attrs = front_attrs front (name_entries space seen ++ attr_entries 0 attrs) ∙ name_attrs space seen (attr_entries 0 attrs) ∙ attrs_same 0 attrs in
    let declared : filter_map declared_by (written_of entries) ≡ bindings entries = declarations_of entries are in
    record {
      name = prefixed (name_prefix space seen) element.name;
      attributes = pairs_text pairs;
      written = λ content. all_text front space element.name seen attrs content;
      tag = λ empty. tag_made qname pairs empty;
      is_empty = λ empty. refl;
      opens = λ rest. open_is _ qname pairs rest named written;
      alone = λ rest. alone_is _ qname pairs rest named written;
      qname = qname;
      closes = λ rest. close_is _ qname rest named;
      closes_it = rw (text_same (name_prefix space seen) (name_prefix space seen) refl, text_same element.name element.name refl) refl;
      no_fault = λ empty. entries_stand around qname entries empty space are spaces found (all_once front space seen attrs has.few) (ap (has_repeat is_same_attribute) same_attrs ∙ has.once) deep;
      space = λ empty. ap (λ (s : Scope). unwrap_or (space_of (s ++ scope_in around) (name_prefix space seen)) []) declared ∙ ap (λ (f : Option (List ℕ)). unwrap_or f []) found;
      local = λ empty. refl;
      known = subst (λ (s : Scope). HasKnown (s ++ scope_in around)) (sym declared) (all_known front space seen attrs);
      attrs = λ empty. ap (λ (s : Scope). attributes_in (s ++ scope_in around) (tag_made qname pairs empty)) declared ∙ attributes_of_entries scope entries are spaces ∙ same_attrs;
    }

pub tag_step : TagStep
tag_step element around has known deep = reads_tag (within around known) element has deep

pub root_step : RootStep
root_step element has = reads_tag at_root element has (omega arith)
