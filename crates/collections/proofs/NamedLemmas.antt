-- Maps from names to values: what is at a name behind a write or a removal, by whether the name is the one that was written; and a function of each value.
use Rattle.std.proofs.Common.{◌≡◌, ◌≢◌, ◌⊎◌, ℕ, Bool, true, false, cond, List, [], ◌∷◌, filter, Some, None, IsSome, refl, sym, ap, ◌∙◌, subst, inl, inr}
use Rattle.std.specs.Prelude.{bytes_eq, slice_get, option_map}
use Rattle.std.specs.declared.cmp.Ordering.{Ordering}
use Rattle.std.specs.declared.cmp.Ordering.TheVariants.{Less, Equal, Greater}
use Rattle.std.specs.Ordering.{match_ordering, is_lt, eq_by_cmp}
use Rattle.std.specs.BTreeMap.{is_at}
use Rattle.std.specs.Map.{keys_of}
use Rattle.std.specs.List.{AllByRecursion}
use Rattle.std.specs.List.Sorted.{IsStrictlySortedBy}
use Rattle.std.proofs.lemmas.Bool.{cases_Bool, false≢true}
use Rattle.std.proofs.lemmas.Cmp.{nat_list_cmp_total, eq_by_cmp_equiv}
use Rattle.std.proofs.lemmas.Map.{lookup-set_value, lookup-remove_entry}
use Rattle.std.proofs.lemmas.Map.Keys.{IsDistinct-from_sorted}
use Rattle.std.proofs.lemmas.Map.Made.{lookup-map_values}
use Rattle.std.proofs.lemmas.Map.Text.{is_eq-slice_cmp}
use Rattle.std.proofs.lemmas.Slice.Eq.{bytes_eq-Decides}
use Rattle.cal_base.specs.Lists.NameMap.{Named, name_order, IsInOrder, value_at, with_value, with_changed, without, above, next_above}
use Rattle.cal_base.specs.Lines.ComponentTrees.{first}
use Rattle.cal_base.proofs.Lists.NameMapLemmas.{value_at_with}
use Rattle.collections.specs.KeptCalendars.{each_value}

-- names are the same or not
pub same_or_not : (a b : List ℕ) → (a ≡ b) ⊎ (a ≢ b)
same_or_not a b = elim (cases_Bool (bytes_eq a b)) [
  | inl same ↦ inl ((bytes_eq-Decides a b).0 same)
  | inr other ↦ inr (λ same. false≢true (sym other ∙ (bytes_eq-Decides a b).1 same))
]

pub bytes_same : (a : List ℕ) → bytes_eq a a ≡ true
bytes_same a = (bytes_eq-Decides a a).1 refl

pub bytes_differ : (a b : List ℕ) → a ≢ b → bytes_eq a b ≡ false
bytes_differ a b other = elim (cases_Bool (bytes_eq a b)) [
  | inl same ↦ absurd (other ((bytes_eq-Decides a b).0 same))
  | inr differ ↦ differ
]

-- a look-up goes by the name alone
pub at_name : (name key : List ℕ) → is_at (name_order name) key ≡ bytes_eq name key
at_name name key = is_eq-slice_cmp name key

one_name : (name x y : List ℕ) → is_at (name_order name) x ≡ true → is_at (name_order name) y ≡ eq_by_cmp name_order x y
one_name name x y at = ap (λ n. is_at (name_order n) y) ((bytes_eq-Decides name x).0 (sym (at_name name x) ∙ at))

module _ {V : Type 0} where
  pub value_at_with_same : (named : Named V) (key : List ℕ) (value : V) → value_at (with_value named key value) key ≡ Some value
  value_at_with_same named key value = value_at_with key value key named ∙ ap (λ b. cond b (Some value) (value_at named key)) (bytes_same key)

  pub value_at_with_other : (named : Named V) (key : List ℕ) (value : V) (name : List ℕ) → name ≢ key → value_at (with_value named key value) name ≡ value_at named name
  value_at_with_other named key value name other =
      value_at_with key value name named ∙ ap (λ b. cond b (Some value) (value_at named name)) (bytes_differ name key other)

  without_by : (named : Named V) (key name : List ℕ) → IsInOrder named → value_at (without named key) name ≡ cond (bytes_eq key name) None (value_at named name)
  without_by named key name in_order =
      lookup-remove_entry (eq_by_cmp_equiv nat_list_cmp_total) (is_at (name_order key)) (one_name key) name named (IsDistinct-from_sorted name_order (keys_of named) in_order)
      ∙ ap (λ b. cond b None (value_at named name)) (at_name key name)

  pub value_at_without_same : (named : Named V) (key : List ℕ) → IsInOrder named → value_at (without named key) key ≡ None
  value_at_without_same named key in_order = without_by named key key in_order ∙ ap (λ b. cond b None (value_at named key)) (bytes_same key)

  pub value_at_without_other : (named : Named V) (key name : List ℕ) → IsInOrder named → name ≢ key → value_at (without named key) name ≡ value_at named name
  value_at_without_other named key name in_order other =
      without_by named key name in_order ∙ ap (λ b. cond b None (value_at named name)) (bytes_differ key name (λ same. other (sym same)))

  changed_by : (named : Named V) (key : List ℕ) (value old : V) (name : List ℕ) → value_at named key ≡ Some old
      → value_at (with_changed named key value) name ≡ cond (bytes_eq key name) (Some value) (value_at named name)
  changed_by named key value old name there =
      lookup-set_value (eq_by_cmp_equiv nat_list_cmp_total) (is_at (name_order key)) (one_name key) name value named (subst IsSome (sym there) refl)
      ∙ ap (λ b. cond b (Some value) (value_at named name)) (at_name key name)

  pub value_at_changed_same : (named : Named V) (key : List ℕ) (value old : V) → value_at named key ≡ Some old → value_at (with_changed named key value) key ≡ Some value
  value_at_changed_same named key value old there = changed_by named key value old key there ∙ ap (λ b. cond b (Some value) (value_at named key)) (bytes_same key)

  pub value_at_changed_other : (named : Named V) (key : List ℕ) (value old : V) (name : List ℕ) → value_at named key ≡ Some old → name ≢ key
      → value_at (with_changed named key value) name ≡ value_at named name
  value_at_changed_other named key value old name there other =
      changed_by named key value old name there ∙ ap (λ b. cond b (Some value) (value_at named name)) (bytes_differ key name (λ same. other (sym same)))

-- A function of each value

module _ {V W : Type 0} (f : V → W) where
  pub value_at-each : (named : Named V) (name : List ℕ) → value_at (each_value f named) name ≡ option_map f (value_at named name)
  value_at-each named name = lookup-map_values f (is_at (name_order name)) named

  map-ordering : (order : Ordering) (a b c : Named V) → each_value f (match_ordering order a b c) ≡ match_ordering order (each_value f a) (each_value f b) (each_value f c)
  map-ordering Less a b c = refl
  map-ordering Equal a b c = refl
  map-ordering Greater a b c = refl

  map-cond : (test : Bool) (a b : Named V) → each_value f (cond test a b) ≡ cond test (each_value f a) (each_value f b)
  map-cond true a b = refl
  map-cond false a b = refl

  pub with_value-each : (named : Named V) (name : List ℕ) (value : V) → each_value f (with_value named name value) ≡ with_value (each_value f named) name (f value)
  with_value-each [] name value = refl
  with_value-each (entry ∷ named) name value =
      let order = name_order name entry.0 in
      map-ordering order ((name, value) ∷ entry ∷ named) ((entry.0, value) ∷ named) (entry ∷ with_value named name value)
      ∙ ap (λ rest. match_ordering order ((name, f value) ∷ (entry.0, f entry.1) ∷ each_value f named) ((entry.0, f value) ∷ each_value f named) ((entry.0, f entry.1) ∷ rest)) (with_value-each named name value)

  pub without-each : (named : Named V) (name : List ℕ) → each_value f (without named name) ≡ without (each_value f named) name
  without-each [] name = refl
  without-each (entry ∷ named) name =
      let here = is_at (name_order name) entry.0 in
      map-cond here named (entry ∷ without named name) ∙ ap (λ rest. cond here (each_value f named) ((entry.0, f entry.1) ∷ rest)) (without-each named name)

  above-each : (named : Named V) (name : List ℕ) → above (each_value f named) name ≡ each_value f (above named name)
  above-each [] name = refl
  above-each (entry ∷ named) name =
      let here = is_lt (name_order name entry.0) in
      ap (λ rest. cond here ((entry.0, f entry.1) ∷ rest) rest) (above-each named name) ∙ sym (map-cond here (entry ∷ above named name) (above named name))

  first-each : (named : Named V) → slice_get (each_value f named) 0 ≡ option_map (λ (entry : List ℕ × V). (entry.0, f entry.1)) (slice_get named 0)
  first-each [] = refl
  first-each (entry ∷ named) = refl

  pub next_above-each : (named : Named V) (name : List ℕ) → next_above (each_value f named) name ≡ option_map (λ (entry : List ℕ × V). (entry.0, f entry.1)) (next_above named name)
  next_above-each named name = ap (λ rest. slice_get rest 0) (above-each named name) ∙ first-each (above named name)

-- The first pair that passes a test

-- each key is above a name
pub absent_below : {V : Type 0} (named : Named V) (name : List ℕ) → AllByRecursion (λ key. name_order name key ≡ Less) (keys_of named) → value_at named name ≡ None
absent_below [] name all = refl
absent_below (entry ∷ named) name all = rw (all.0) (absent_below named name all.1)

-- what the first pair that passes is, or that none passes
pub data FirstPassing {V : Type 0} (named : Named V) (test : List ℕ × V → Bool) : Type 0 where
  none : first (filter test named) ≡ None → ((name : List ℕ) (value : V) → value_at named name ≡ Some value → test (name, value) ≡ false) → FirstPassing named test
  some : (entry : List ℕ × V) → first (filter test named) ≡ Some entry → value_at named entry.0 ≡ Some entry.1 → test entry ≡ true → FirstPassing named test

at_head : {V : Type 0} (entry : List ℕ × V) (named : Named V) → value_at (entry ∷ named) entry.0 ≡ Some entry.1
at_head entry named = ap (λ b. cond b (Some entry.1) (value_at named entry.0)) (at_name entry.0 entry.0 ∙ bytes_same entry.0)

at_tail : {V : Type 0} (entry : List ℕ × V) (named : Named V) (name : List ℕ) → name ≢ entry.0 → value_at (entry ∷ named) name ≡ value_at named name
at_tail entry named name other = ap (λ b. cond b (Some entry.1) (value_at named name)) (at_name name entry.0 ∙ bytes_differ name entry.0 other)

pub first_passing : {V : Type 0} (named : Named V) (test : List ℕ × V → Bool) → IsInOrder named → FirstPassing named test
unfolding IsStrictlySortedBy
first_passing [] test in_order = none refl (λ name value at. absurd cc)
first_passing (entry ∷ named) test in_order = elim (cases_Bool (test entry)) [
  | inl passes ↦ some entry (ap (λ b. first (cond b (entry ∷ filter test named) (filter test named))) passes) (at_head entry named) passes
  | inr fails ↦ later (first_passing named test in_order.1) (ap (λ b. first (cond b (entry ∷ filter test named) (filter test named))) fails) fails
] where
  later : FirstPassing named test → first (filter test (entry ∷ named)) ≡ first (filter test named) → test entry ≡ false → FirstPassing (entry ∷ named) test
  later (none nothing all) same fails = none (same ∙ nothing) (λ name value at. elim (same_or_not name entry.0) [
    | inl here ↦
        let is : value ≡ entry.1 = let found = at_head entry named in let there : value_at (entry ∷ named) entry.0 ≡ Some value = subst (λ n. value_at (entry ∷ named) n ≡ Some value) here at in cc in
        subst (λ n. test (n, value) ≡ false) (sym here) (subst (λ v. test (entry.0, v) ≡ false) (sym is) fails)
    | inr other ↦ all name value (sym (at_tail entry named name other) ∙ at)
  ])
  later (some found first_is at passes) same fails =
      let other : found.0 ≢ entry.0 = λ here. let gone = absent_below named entry.0 in_order.0 in let there : value_at named entry.0 ≡ Some found.1 = subst (λ n. value_at named n ≡ Some found.1) here at in cc in
      some found (same ∙ first_is) (at_tail entry named found.0 other ∙ at) passes

as_first : {X : Type 0} (xs : List X) → slice_get xs 0 ≡ first xs
as_first [] = refl
as_first (x ∷ xs) = refl

found_next : {V : Type 0} (named : Named V) (name key : List ℕ) (value : V) → next_above named name ≡ Some (key, value)
    → FirstPassing named (λ pair. is_lt (name_order name pair.0)) → value_at named key ≡ Some value
found_next named name key value next (none nothing all) = let e = as_first (above named name) in absurd cc
found_next {V} named name key value next (some found first_is at passes) =
    let same : Some found ≡ Some (key, value) = sym first_is ∙ (sym (as_first (above named name)) ∙ next) in
    let is : found ≡ (key, value) = cc in
    subst (λ (e : List ℕ × V). value_at named e.0 ≡ Some e.1) is at

-- the next pair above a name is one of the map
pub next_found : {V : Type 0} (named : Named V) (name key : List ℕ) (value : V) → IsInOrder named → next_above named name ≡ Some (key, value) → value_at named key ≡ Some value
next_found named name key value in_order next = found_next named name key value next (first_passing named (λ pair. is_lt (name_order name pair.0)) in_order)

-- Order

keys_of-each : {V W : Type 0} (f : V → W) (named : Named V) → keys_of (each_value f named) ≡ keys_of named
keys_of-each f [] = refl
keys_of-each f (entry ∷ named) = ap (λ keys. entry.0 ∷ keys) (keys_of-each f named)

pub IsInOrder-each : {V W : Type 0} (f : V → W) (named : Named V) → IsInOrder named → IsInOrder (each_value f named)
IsInOrder-each f named in_order = subst (IsStrictlySortedBy name_order) (sym (keys_of-each f named)) in_order

pub IsInOrder-unmapped : {V W : Type 0} (f : V → W) (named : Named V) → IsInOrder (each_value f named) → IsInOrder named
IsInOrder-unmapped f named in_order = subst (IsStrictlySortedBy name_order) (keys_of-each f named) in_order
