-- The prefixes of canonical texts: those that each body knows, and those that a tag declares for itself.
use Rattle.std.proofs.Common.{◌≡◌, ℕ, zero, suc, ◌+◌, ◌%◌, ◌<◌, ◌^◌, Bool, true, false, List, [], ◌∷◌, ◌++◌, map, length, Some, None, inl, inr, arith, refl, sym, ap, subst, ◌∙◌, append_assoc}
use Rattle.std.specs.Prelude.{not, ◌==◌, ◌&&◌, codes, decimal, flat_map, ◌⊎◌}
use Rattle.std.specs.List.{list_all, enumerate_from}
use Rattle.std.specs.Str.{bytes_eq, is_utf8, chars, IsAscii}
use lib.Utf8.{encode}
use Rattle.std.proofs.lemmas.Bool.{eqb-true, cases_Bool, or_right}
use Rattle.std.proofs.lemmas.Fmt.{decimal_injective, decimal_by_steps, IsAscii-decimal}
use Rattle.std.proofs.lemmas.Str.{chars_from_encodes, encodes-IsAscii, IsUtf8-from_ascii, is_utf8-from_IsUtf8}
use Rattle.std.proofs.lemmas.List.Folds.{list_all-append}
use Rattle.cal_base.specs.declared.element.Attr.{Attr}
use Rattle.cal_base.specs.Xml.XmlNames.{is_plain_name, is_among, name_followers, is_name_start, is_name_character, are_name_characters}
use Rattle.cal_base.specs.Xml.XmlScopes.{Scope, is_declaration, space_of, attribute_space, xml_space}
use Rattle.cal_base.specs.Xml.CanonicalXml.{dav, caldav, attribute, declaration, known_prefix, written_attribute}
use Rattle.cal_base.proofs.Xml.XmlEscapeLemmas.{differ}
use Rattle.dav_write.proofs.ReadBack.Lookups.{same_text}
use Rattle.dav_write.specs.Readable.{IsSpace, IsAttr, AreAttrs}
use Rattle.dav_write.proofs.ReadBack.Spelling.{HasKnown}
use Rattle.dav_write.proofs.ReadBack.NameTexts.{in_wider}
use Rattle.dav_write.proofs.ReadBack.Tags.{pairs_text}
use Rattle.dav_write.proofs.ReadBack.Entries.{Entry, binds, gives, prefixed, entry_pair, IsPrefix, IsBinding, AreEntries, attrs_of}

-- Known prefixes

abbrev pub colon_after : List ℕ → List ℕ
colon_after [] = []
colon_after (octet ∷ prefix) = (octet ∷ prefix) ++ 58 ∷ []

pub prefixed_is : (prefix name : List ℕ) → colon_after prefix ++ name ≡ prefixed prefix name
prefixed_is [] name = refl
prefixed_is (octet ∷ prefix) name = append_assoc (octet ∷ prefix) (58 ∷ []) name

pub record Known (space : List ℕ) : Type 0 where
  pub prefix : List ℕ
  pub is : known_prefix space ≡ Some (colon_after prefix)
  pub plain : IsPrefix prefix
  pub stands_for : (scope : Scope) → HasKnown scope → space_of scope prefix ≡ Some space
  pub given_for : (scope : Scope) (name : List ℕ) → HasKnown scope → attribute_space scope (record { prefix = prefix; local = name }) ≡ Some space
  pub undeclared : (name : List ℕ) → ((length space == 0) && bytes_eq name (codes "xmlns")) ≡ false → is_declaration (record { prefix = prefix; local = name }) ≡ false

pub record Own (space : List ℕ) : Type 0 where
  pub is : known_prefix space ≡ None
  pub some : (length space == 0) ≡ false
  pub no_xml : bytes_eq space xml_space ≡ false

empty_is : (space : List ℕ) → (length space == 0) ≡ true → space ≡ []
empty_is [] e = refl
empty_is (octet ∷ space) e = absurd (omega (arith, eqb-true (length (octet ∷ space)) 0 e))

known_none : Known []
known_none = record {
  prefix = [];
  is = refl;
  plain = tt;
  stands_for = λ scope known. known.none;
  given_for = λ scope name known. refl;
  undeclared = λ name e. rw (e) refl;
}

pub plain_names : (is_plain_name (codes "D") ≡ true) × (is_plain_name (codes "C") ≡ true) × (is_plain_name (codes "xml") ≡ true) × (is_plain_name (codes "x") ≡ true)
unfolding is_utf8 chars encode
plain_names = (refl, refl, refl, refl)

known_dav : Known dav
known_dav = record { prefix = codes "D"; is = refl; plain = plain_names.0; stands_for = λ scope known. known.dav_is; given_for = λ scope name known. known.dav_is; undeclared = λ name e. refl }

known_caldav : Known caldav
known_caldav = record { prefix = codes "C"; is = refl; plain = plain_names.1; stands_for = λ scope known. known.caldav_is; given_for = λ scope name known. known.caldav_is; undeclared = λ name e. refl }

known_xml : Known xml_space
known_xml = record { prefix = codes "xml"; is = refl; plain = plain_names.2; stands_for = λ scope known. known.xml_is; given_for = λ scope name known. known.xml_is; undeclared = λ name e. refl }

pub view : (space : List ℕ) → Known space ⊎ Own space
view space = elim (cases_Bool (length space == 0)) [
  | inl none ↦ inl (subst Known (sym (empty_is space none)) known_none)
  | inr some ↦ elim (cases_Bool (bytes_eq space dav)) [
    | inl same ↦ inl (subst Known (sym (same_text space dav same)) known_dav)
    | inr no_dav ↦ elim (cases_Bool (bytes_eq space caldav)) [
      | inl same ↦ inl (subst Known (sym (same_text space caldav same)) known_caldav)
      | inr no_caldav ↦ elim (cases_Bool (bytes_eq space xml_space)) [
        | inl same ↦ inl (subst Known (sym (same_text space xml_space same)) known_xml)
        | inr no_xml ↦ inr (record { is = rw (some) (rw (no_dav) (rw (no_caldav) (rw (no_xml) refl))); some = some; no_xml = no_xml })
      ]
    ]
  ]
]

-- Prefixes of a tag's own

abbrev pub y_of : ℕ → List ℕ
y_of place = 121 ∷ decimal place

digit_name : (digit : ℕ) → digit < 10 → is_name_character (48 + digit) ≡ true
digit_name digit h = or_right (is_name_start (48 + digit)) (is_among name_followers (48 + digit)) (in_wider name_followers (0x30, 0x39) (48 + digit) refl (omega arith) (omega arith))

decimal_names : (place : ℕ) → place < 2 ^ 64 → list_all is_name_character (decimal place) ≡ true
decimal_names place h =
    decimal_by_steps (λ n digits. list_all is_name_character digits ≡ true)
    (λ n small. rw (digit_name n small) refl)
    (λ n digits low before. list_all-append is_name_character digits ((48 + n % 10) ∷ []) ∙ rw (before, digit_name (n % 10) (omega arith)) refl)
    place h

y_ascii : (place : ℕ) → place < 2 ^ 64 → IsAscii (y_of place)
y_ascii place h zero = omega arith
y_ascii place h (suc i) = IsAscii-decimal place h i

y_start : is_name_start 121 ≡ true
y_start = refl

pub y_plain : (place : ℕ) → place < 2 ^ 64 → is_plain_name (y_of place) ≡ true
y_plain place h =
    let ascii = y_ascii place h in
    let utf8 = IsUtf8-from_ascii (y_of place) ascii in
    rw (is_utf8-from_IsUtf8 (y_of place) utf8)
    (ap are_name_characters (sym (chars_from_encodes (y_of place) (y_of place) utf8 (encodes-IsAscii (y_of place) ascii))) ∙ rw (y_start) (decimal_names place h))

pub y_apart : (one other : ℕ) → one < 2 ^ 64 → other < 2 ^ 64 → one < other → bytes_eq (y_of one) (y_of other) ≡ false
y_apart one other h k less = elim (cases_Bool (bytes_eq (y_of one) (y_of other))) [
  | inl same ↦ absurd (omega (arith, less, decimal_injective one other h k (ap (λ (text : List ℕ). Rattle.std.specs.Prelude.drop 1 text) (same_text (y_of one) (y_of other) same))))
  | inr apart ↦ apart
]

-- The attributes of an element as entries

abbrev pub attr_entry : ℕ → (attr : Attr) → Known attr.space ⊎ Own attr.space → List Entry
attr_entry place attr (inl known) = gives known.prefix attr ∷ []
attr_entry place attr (inr own) = binds (y_of place) attr.space ∷ gives (y_of place) attr ∷ []

abbrev pub attr_entries : ℕ → List Attr → List Entry
attr_entries place [] = []
attr_entries place (attr ∷ attrs) = attr_entry place attr (view attr.space) ++ attr_entries (place + 1) attrs

one_text : (place : ℕ) (attr : Attr) (seen : Known attr.space ⊎ Own attr.space) (more : List Entry) → written_attribute (place, attr) ++ pairs_text (map entry_pair more) ≡ pairs_text (map entry_pair (attr_entry place attr seen ++ more))
one_text place attr (inl known) more =
    ap (λ found. (elim found [ None ↦ declaration (y_of place) attr.space ++ attribute (y_of place ++ (codes ":" ++ attr.name)) attr.value | Some prefix ↦ attribute (prefix ++ attr.name) attr.value ]) ++ pairs_text (map entry_pair more)) known.is
    ∙ ap (λ (name : List ℕ). attribute name attr.value ++ pairs_text (map entry_pair more)) (prefixed_is known.prefix attr.name)
one_text place attr (inr own) more =
    ap (λ found. (elim found [ None ↦ declaration (y_of place) attr.space ++ attribute (y_of place ++ (codes ":" ++ attr.name)) attr.value | Some prefix ↦ attribute (prefix ++ attr.name) attr.value ]) ++ pairs_text (map entry_pair more)) own.is
    ∙ append_assoc (declaration (y_of place) attr.space) (attribute (y_of place ++ (codes ":" ++ attr.name)) attr.value) (pairs_text (map entry_pair more))

pub attrs_text : (place : ℕ) (attrs : List Attr) → flat_map written_attribute (enumerate_from place attrs) ≡ pairs_text (map entry_pair (attr_entries place attrs))
attrs_text place [] = refl
attrs_text place (attr ∷ attrs) = ap (λ (more : List ℕ). written_attribute (place, attr) ++ more) (attrs_text (place + 1) attrs) ∙ one_text place attr (view attr.space) (attr_entries (place + 1) attrs)

one_attrs : (place : ℕ) (attr : Attr) (seen : Known attr.space ⊎ Own attr.space) (more : List Entry) → attrs_of (attr_entry place attr seen ++ more) ≡ attr ∷ attrs_of more
one_attrs place attr (inl known) more = refl
one_attrs place attr (inr own) more = refl

pub attrs_same : (place : ℕ) (attrs : List Attr) → attrs_of (attr_entries place attrs) ≡ attrs
attrs_same place [] = refl
attrs_same place (attr ∷ attrs) = one_attrs place attr (view attr.space) (attr_entries (place + 1) attrs) ∙ ap (λ (more : List Attr). attr ∷ more) (attrs_same (place + 1) attrs)

pub own_binding : (prefix space : List ℕ) → is_plain_name prefix ≡ true → bytes_eq prefix (codes "xmlns") ≡ false → bytes_eq prefix (codes "xml") ≡ false → IsSpace space → Own space → IsBinding prefix space
own_binding prefix space plain no_xmlns no_xml s own = record {
  plain = plain;
  fine = s.characters;
  good = rw (s.other) (rw (no_xmlns) (rw (no_xml) (rw (own.no_xml) (rw (own.some) (and_false (not (length prefix == 0)))))));
}
  where
    and_false : (test : Bool) → (test && false) ≡ false
    and_false true = refl
    and_false false = refl

one_are : (place : ℕ) (attr : Attr) (seen : Known attr.space ⊎ Own attr.space) (more : List Entry) → place < 2 ^ 64 → IsAttr attr → AreEntries more → AreEntries (attr_entry place attr seen ++ more)
one_are place attr (inl known) more h is are = (record { before = known.plain; plain = is.name; fine = is.value; none = known.undeclared attr.name is.no_default }, are)
one_are place attr (inr own) more h is are = (own_binding (y_of place) attr.space (y_plain place h) refl refl is.space own, (record { before = y_plain place h; plain = is.name; fine = is.value; none = y_none }, are))
  where
    y_none : is_declaration (record { prefix = y_of place; local = attr.name }) ≡ false
    y_none = rw (differ (length (y_of place)) 0 (λ e. omega arith)) refl

pub attrs_are : (place : ℕ) (attrs : List Attr) → place + length attrs < 2 ^ 64 → AreAttrs attrs → AreEntries (attr_entries place attrs)
attrs_are place [] h are = tt
attrs_are place (attr ∷ attrs) h (is, are) = one_are place attr (view attr.space) (attr_entries (place + 1) attrs) (omega arith) is (attrs_are (place + 1) attrs (omega arith) are)
