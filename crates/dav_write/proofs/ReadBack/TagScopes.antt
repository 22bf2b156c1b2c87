-- What the prefixes of a canonical tag stand for, and that none is declared twice.
use Rattle.std.proofs.Common.{◌≡◌, ℕ, ◌+◌, ◌<◌, ◌≤◌, ◌^◌, Bool, false, List, [], ◌∷◌, ◌++◌, length, Option, Some, None, inl, inr, arith, refl, sym, ap, ◌∙◌, append_assoc}
use Rattle.std.specs.Prelude.{◌⊎◌, cond}
use Rattle.std.specs.Option.{option_or}
use Rattle.std.specs.List.{list_any}
use Rattle.std.specs.Str.{bytes_eq}
use Rattle.cal_base.specs.declared.element.Attr.{Attr}
use Rattle.cal_base.specs.Xml.XmlScopes.{Scope, space_of, attribute_space, has_repeat}
use Rattle.cal_base.proofs.Xml.XmlEscapeLemmas.{differ}
use Rattle.dav_write.proofs.ReadBack.Lookups.{text_same, space_of_cons, space_of_append}
use Rattle.dav_write.proofs.ReadBack.Spelling.{HasKnown}
use Rattle.dav_write.proofs.ReadBack.Entries.{Entry, binds, gives, AreSpaces, bindings, is_same_prefix}
use Rattle.dav_write.proofs.ReadBack.Prefixes.{Known, Own, view, y_of, y_apart, attr_entry, attr_entries}

pub bindings_join : (entries more : List Entry) → bindings (entries ++ more) ≡ bindings entries ++ bindings more
bindings_join [] more = refl
bindings_join (binds prefix space ∷ entries) more = ap (λ (rest : Scope). (prefix, space) ∷ rest) (bindings_join entries more)
bindings_join (gives prefix attr ∷ entries) more = bindings_join entries more

-- Prefixes that some bindings have not

abbrev pub Missing : List ℕ → Scope → Type 0
Missing prefix scope = space_of scope prefix ≡ None

missing_cons : (prefix other space : List ℕ) (scope : Scope) → bytes_eq other prefix ≡ false → Missing prefix scope → Missing prefix ((other, space) ∷ scope)
missing_cons prefix other space scope apart m = space_of_cons (other, space) scope prefix ∙ ap (λ (test : Bool). cond test (Some space) (space_of scope prefix)) apart ∙ m

pub past : (prefix : List ℕ) (front scope : Scope) → Missing prefix front → space_of (front ++ scope) prefix ≡ space_of scope prefix
past prefix front scope m = space_of_append front scope prefix ∙ ap (λ (found : Option (List ℕ)). option_or found (space_of scope prefix)) m

pub missing_join : (prefix : List ℕ) (front scope : Scope) → Missing prefix front → Missing prefix scope → Missing prefix (front ++ scope)
missing_join prefix front scope m n = past prefix front scope m ∙ n

-- the attributes declare no prefix that is unlike each `y`
one_missing : (prefix : List ℕ) (place : ℕ) (attr : Attr) (seen : Known attr.space ⊎ Own attr.space) (more : List Entry) → bytes_eq (y_of place) prefix ≡ false → Missing prefix (bindings more) → Missing prefix (bindings (attr_entry place attr seen ++ more))
one_missing prefix place attr (inl known) more apart m = m
one_missing prefix place attr (inr own) more apart m = missing_cons prefix (y_of place) attr.space (bindings more) apart m

pub attrs_missing : (prefix : List ℕ) (place : ℕ) (attrs : List Attr) → ((other : ℕ) → bytes_eq (y_of other) prefix ≡ false) → Missing prefix (bindings (attr_entries place attrs))
attrs_missing prefix place [] apart = refl
attrs_missing prefix place (attr ∷ attrs) apart = one_missing prefix place attr (view attr.space) (attr_entries (place + 1) attrs) (apart place) (attrs_missing prefix (place + 1) attrs apart)

-- Spaces of the attributes

y_space : (scope : Scope) (place : ℕ) (attr : Attr) → space_of scope (y_of place) ≡ Some attr.space → attribute_space scope (record { prefix = y_of place; local = attr.name }) ≡ Some attr.space
y_space scope place attr e = rw (differ (length (y_of place)) 0 (λ e. omega arith)) e

-- no `y` from a place on
abbrev pub NoneFrom : ℕ → Scope → Type 0
NoneFrom place scope = (other : ℕ) → place ≤ other → other < 2 ^ 64 → Missing (y_of other) scope

abbrev Rest : Scope → Scope → ℕ → List Attr → Type 0
Rest scope behind place attrs = (front : Scope) → NoneFrom place front → scope ≡ front ++ (bindings (attr_entries place attrs) ++ behind) → AreSpaces scope (attr_entries place attrs)

one_spaces : (scope front behind : Scope) (place : ℕ) (attr : Attr) (attrs : List Attr) (seen : Known attr.space ⊎ Own attr.space) → HasKnown scope → NoneFrom place front → scope ≡ front ++ (bindings (attr_entry place attr seen ++ attr_entries (place + 1) attrs) ++ behind) → place < 2 ^ 64
    → Rest scope behind (place + 1) attrs → AreSpaces scope (attr_entry place attr seen ++ attr_entries (place + 1) attrs)
one_spaces scope front behind place attr attrs (inl known) has none e h more = (known.given_for scope attr.name has, more front (λ other low high. none other (omega arith) high) e)
one_spaces scope front behind place attr attrs (inr own) has none e h more =
    let rest = bindings (attr_entries (place + 1) attrs) ++ behind in
    let found : space_of scope (y_of place) ≡ Some attr.space =
    ap (λ (s : Scope). space_of s (y_of place)) e ∙ past (y_of place) front ((y_of place, attr.space) ∷ rest) (none place (omega arith) h)
    ∙ space_of_cons (y_of place, attr.space) rest (y_of place) ∙ ap (λ (test : Bool). cond test (Some attr.space) (space_of rest (y_of place))) (text_same (y_of place) (y_of place) refl) in
    let further : NoneFrom (place + 1) (front ++ (y_of place, attr.space) ∷ []) = λ other low high.
    missing_join (y_of other) front ((y_of place, attr.space) ∷ []) (none other (omega arith) high) (missing_cons (y_of other) (y_of place) attr.space [] (y_apart place other h high (omega arith)) refl) in
    (y_space scope place attr found, more (front ++ (y_of place, attr.space) ∷ []) further (e ∙ sym (append_assoc front ((y_of place, attr.space) ∷ []) rest)))

pub attrs_spaces : (scope front behind : Scope) (place : ℕ) (attrs : List Attr) → HasKnown scope → NoneFrom place front → scope ≡ front ++ (bindings (attr_entries place attrs) ++ behind) → place + length attrs < 2 ^ 64 → AreSpaces scope (attr_entries place attrs)
attrs_spaces scope front behind place [] has none e h = tt
attrs_spaces scope front behind place (attr ∷ attrs) has none e h =
    one_spaces scope front behind place attr attrs (view attr.space) has none e (omega arith)
    (λ front' none' e'. attrs_spaces scope front' behind (place + 1) attrs has none' e' (omega arith))

-- Repeats

y_one : (place later : ℕ) (space : List ℕ) (attr : Attr) (more : List Entry) (seen : Known attr.space ⊎ Own attr.space) → bytes_eq (y_of place) (y_of later) ≡ false → list_any (is_same_prefix (y_of place, space)) (bindings more) ≡ false → list_any (is_same_prefix (y_of place, space)) (bindings (attr_entry later attr seen ++ more)) ≡ false
y_one place later space attr more (inl known) apart e = e
y_one place later space attr more (inr own) apart e = rw (apart) e

y_once : (place : ℕ) (space : List ℕ) (later : ℕ) (attrs : List Attr) → place < later → later + length attrs < 2 ^ 64 → list_any (is_same_prefix (y_of place, space)) (bindings (attr_entries later attrs)) ≡ false
y_once place space later [] less h = refl
y_once place space later (attr ∷ attrs) less h = y_one place later space attr (attr_entries (later + 1) attrs) (view attr.space) (y_apart place later (omega arith) (omega arith) less) (y_once place space (later + 1) attrs (omega arith) (omega arith))

one_once : (place : ℕ) (attr : Attr) (more : List Entry) (seen : Known attr.space ⊎ Own attr.space) → list_any (is_same_prefix (y_of place, attr.space)) (bindings more) ≡ false → has_repeat is_same_prefix (bindings more) ≡ false → has_repeat is_same_prefix (bindings (attr_entry place attr seen ++ more)) ≡ false
one_once place attr more (inl known) e h = h
one_once place attr more (inr own) e h = rw (e) h

pub attrs_once : (place : ℕ) (attrs : List Attr) → place + length attrs < 2 ^ 64 → has_repeat is_same_prefix (bindings (attr_entries place attrs)) ≡ false
attrs_once place [] h = refl
attrs_once place (attr ∷ attrs) h = one_once place attr (attr_entries (place + 1) attrs) (view attr.space) (y_once place attr.space (place + 1) attrs (omega arith) (omega arith)) (attrs_once (place + 1) attrs (omega arith))

-- another prefix is none of the attributes'
other_one : (prefix space : List ℕ) (place : ℕ) (attr : Attr) (more : List Entry) (seen : Known attr.space ⊎ Own attr.space) → bytes_eq prefix (y_of place) ≡ false → list_any (is_same_prefix (prefix, space)) (bindings more) ≡ false → list_any (is_same_prefix (prefix, space)) (bindings (attr_entry place attr seen ++ more)) ≡ false
other_one prefix space place attr more (inl known) apart e = e
other_one prefix space place attr more (inr own) apart e = rw (apart) e

pub other_once : (prefix space : List ℕ) → ((other : ℕ) → bytes_eq prefix (y_of other) ≡ false) → (place : ℕ) (attrs : List Attr) → list_any (is_same_prefix (prefix, space)) (bindings (attr_entries place attrs)) ≡ false
other_once prefix space apart place [] = refl
other_once prefix space apart place (attr ∷ attrs) = other_one prefix space place attr (attr_entries (place + 1) attrs) (view attr.space) (apart place) (other_once prefix space apart (place + 1) attrs)
