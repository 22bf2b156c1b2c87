-- The first dated row of each override, its own, lies in a window that holds the start of an override.
use Rattle.std.proofs.Common.{◌≡◌, ℕ, ◌<◌, ◌≤◌, Bool, true, false, ◌&&◌, ◌||◌, List, [], ◌∷◌, ◌++◌, length, Option, Some, None, refl, sym, ap, ◌∙◌, subst, arith, ℤ, ◌<ℤ◌, ◌⊎◌, inl, inr}
use Rattle.std.specs.Prelude.{◌==◌, All, AllPairs, filter, flat_map, take, option_to_list, option_and_then, option_map, slice_get, is_none}
use Rattle.std.specs.Int.{int_div_euclid}
use Rattle.std.specs.List.{list_any, Contains}
use Rattle.std.proofs.lemmas.Int.{ints}
use Rattle.std.proofs.lemmas.Bool.{eqb-true, and_parts, and_from}
use Rattle.std.proofs.lemmas.List.{append-nil}
use Rattle.std.proofs.lemmas.List.Elements.{All-nil, All-cons, All-map, All-filter, All-contains, All-from_recursion, Contains-append_left, Contains-append_right, Contains-append_cases, filter-append, filter_passes}
use Rattle.std.proofs.lemmas.List.Kept.{AllPairs-filter}
use Rattle.cal_moment.specs.declared.stamp.Stamp.{Stamp}
use Rattle.cal_moment.specs.declared.stamp.Stamp.TheVariants.{Date, Floating, Zoned, Utc}
use Rattle.cal_model.specs.declared.object.Object.{Object}
use Rattle.cal_model.specs.declared.row.Row.{Row}
use Rattle.cal_model.specs.Instances.Alignment.{Aligned, value_of, kind_of}
use Rattle.cal_model.specs.Words.Integers.{same_int}
use Rattle.cal_model.specs.Recurrence.RecurrenceSet.{every_moment}
use Rattle.cal_model.specs.Reports.NeededWindows.{override_windows, window_of_override, start_window}
use Rattle.cal_model.specs.Instances.Rows.{Numbered, numbered, has_id, masters, overrides, ids_start, id_of_override, named_by, row_of, is_dated, has_date, undated_row, undated_rows, starts, row_at, override_row, override_row_from, dated_rows, in_order, rows, window_of, window_seconds, nominal_beside}
use Rattle.cal_model.specs.Instances.Starts.{own_start, end_from}
use Rattle.cal_model.proofs.Words.AllLemmas.{All-everywhere, All-flat_map, All-option}
use Rattle.cal_model.proofs.Instances.RisingLists.{IsBefore, by_id, by_component, HasOtherKey, AllPairs-head, Contains-here, Contains-split, in_order-has, in_order-only, in_order-rising}
use Rattle.cal_model.proofs.Instances.RowsInOrder.{StandsAt, overrides_stand, StandsBehind, own_rows, kept_instances, own_and_kept_apart, kept_behind, filter-none, filter-in_order}
use Rattle.cal_model.proofs.Ranges.WindowLaws.{Contains-filter, Contains-unfilter}
use Rattle.cal_model.proofs.Words.IntegerLemmas.{same_int-self}
use Rattle.cal_model.proofs.Filters.MatchingLaws.{IsNumbered, numbered_is}
use Rattle.cal_model.proofs.Words.ListTests.{any_from, any_filter_map, each_of}

-- what is shown of each row
abbrev pub IsInWindow : Object → Row → Type 0
IsInWindow object row = list_any (same_int (window_of object row)) (override_windows object) ≡ true

all_numbered : (object : Object) → All (IsNumbered object.components) (numbered object)
all_numbered object = All-from_recursion (IsNumbered object.components) (numbered object) (numbered_is object.components [])

-- the components of an object by what they are
of_overrides : (object : Object) (n : Numbered) → Contains (overrides object) n → IsNumbered object.components n × (has_id n ≡ true)
of_overrides object n c = (
  All-contains (IsNumbered object.components) (overrides object) n (All-filter has_id (IsNumbered object.components) (numbered object) (all_numbered object)) c,
  All-contains (λ m. has_id m ≡ true) (overrides object) n (filter_passes has_id (numbered object)) c,
)

-- the row of an override
override_in_window : (object : Object) (ids : Stamp) (all : List ℤ) (n : Numbered) → Contains (overrides object) n → All (IsInWindow object) (override_row object ids all n)
override_in_window object ids all n c =
    All-flat_map (IsInWindow object) (λ s. override_row_from object ids all n s (value_of object.zones s)) (option_to_list (own_start n.component))
    (All-option (λ s. All (IsInWindow object) (override_row_from object ids all n s (value_of object.zones s))) (own_start n.component) from)
  where
    row : Stamp → Aligned → Row
    row s x = row_of (id_of_override object ids all x) (value_of object.zones s) (end_from object.zones n.component (value_of object.zones s)) n.number (kind_of ids) (kind_of s)

    window : (s : Stamp) → own_start n.component ≡ Some s → (x : Aligned) → window_of object (row s x) ≡ start_window object s
    window s own x =
        ap (λ o. int_div_euclid (nominal_beside object.zones (value_of object.zones s) (option_and_then own_start o)) window_seconds) (of_overrides object n c).0
        ∙ ap (λ o. int_div_euclid (nominal_beside object.zones (value_of object.zones s) o) window_seconds) own

    at_each : (s : Stamp) → own_start n.component ≡ Some s → (x : Aligned) → IsInWindow object (row s x)
    at_each s own x =
        any_filter_map (same_int (window_of object (row s x))) (window_of_override object) (overrides object)
        ∙ any_from (λ m. list_any (same_int (window_of object (row s x))) (option_to_list (window_of_override object m))) (overrides object) n c
        (ap (λ o. list_any (same_int (window_of object (row s x))) (option_to_list (option_map (start_window object) o))) own
        ∙ ap (λ w. same_int w (start_window object s) || false) (window s own x)
        ∙ ap (λ t. t || false) (same_int-self (start_window object s)))

    from : (s : Stamp) → own_start n.component ≡ Some s → All (IsInWindow object) (override_row_from object ids all n s (value_of object.zones s))
    from s own = All-map (IsInWindow object) (row s) (named_by object.zones ids n) (All-everywhere (λ x. IsInWindow object (row s x)) (at_each s own) (named_by object.zones ids n))

-- The first of the dated rows of an override

-- a dated row has the number of an override
abbrev is_its : Numbered → Row → Bool
is_its n row = (row.component == n.number) && is_dated row

same_number : (k : ℕ) → (k == k) ≡ true
same_number k = grind arith

-- the row of an override has a date
dated_own : (object : Object) (ids : Stamp) (all : List ℤ) (n : Numbered) → All (λ row. is_its n row ≡ true) (override_row object ids all n)
dated_own object ids all n =
    All-flat_map (λ row. is_its n row ≡ true) (λ s. override_row_from object ids all n s (value_of object.zones s)) (option_to_list (own_start n.component))
    (All-everywhere (λ s. All (λ row. is_its n row ≡ true) (override_row_from object ids all n s (value_of object.zones s))) from (option_to_list (own_start n.component)))
  where
    of_kind : (s : Stamp) → has_date (kind_of s) ≡ true
    of_kind (Date d) = refl
    of_kind (Floating l) = refl
    of_kind (Zoned l zone) = refl
    of_kind (Utc u) = refl

    from : (s : Stamp) → All (λ row. is_its n row ≡ true) (override_row_from object ids all n s (value_of object.zones s))
    from s =
        All-map (λ row. is_its n row ≡ true) (λ x. row_of (id_of_override object ids all x) (value_of object.zones s) (end_from object.zones n.component (value_of object.zones s)) n.number (kind_of ids) (kind_of s)) (named_by object.zones ids n)
        (All-everywhere (λ x. ((n.number == n.number) && has_date (kind_of s)) ≡ true) (λ x. and_from (n.number == n.number) (has_date (kind_of s)) (same_number n.number) (of_kind s)) (named_by object.zones ids n))

-- a list in order begins with one that comes before all others
first_before : (row other : Row) (rows : List Row) → AllPairs IsBefore (row ∷ rows) → Contains (row ∷ rows) other → (row ≡ other) ⊎ IsBefore row other
first_before row other rows up c = elim (Contains-split row other rows c) [
  | inl e ↦ inl e
  | inr b ↦ inr (All-contains (IsBefore row) rows other (AllPairs-head IsBefore row rows up) b)
]

-- nothing stands before itself by its id
not_first : (row other : Row) → ((row ≡ other) ⊎ IsBefore row other) → other.id <ℤ row.id → ⊥
not_first row other (inl e) lt = let same : row.id ≡ other.id = ap (λ (r : Row). r.id) e in omega (arith, ints, lt, same)
not_first row other (inr (by_id gt)) lt = omega (arith, ints, lt, gt)
not_first row other (inr (by_component e gt)) lt = omega (arith, ints, lt, e)

-- a member of one of several lists
Contains-flat_map : {X Y : Type 0} (f : X → List Y) (xs : List X) (x : X) (y : Y) → Contains xs x → Contains (f x) y → Contains (flat_map f xs) y
Contains-flat_map f [] x y c d = let below = c.1 in absurd (omega (arith, below))
Contains-flat_map f (z ∷ zs) x y c d = elim (Contains-split z x zs c) [
  | inl e ↦ Contains-append_left (f z) (flat_map f zs) y (subst (λ w. Contains (f w) y) (sym e) d)
  | inr b ↦ Contains-append_right (f z) (flat_map f zs) y (Contains-flat_map f zs x y b d)
]

module _ (object : Object) (ids : Stamp) (one : length (masters object) ≤ 1) (n : Numbered) (c : Contains (overrides object) n) where
  abbrev all : List ℤ
  all = starts every_moment object

  abbrev own : List Row
  own = own_rows every_moment object ids

  abbrev kept : List Row
  kept = kept_instances every_moment object ids

  stands : StandsAt object true n
  stands = All-contains (StandsAt object true) (overrides object) n (overrides_stand object) c

  -- each row of all overrides lies in such a window
  own_in_windows : All (IsInWindow object) own
  own_in_windows = All-flat_map (IsInWindow object) (override_row object ids all) (overrides object) (each_of (λ m. All (IsInWindow object) (override_row object ids all m)) (overrides object) (override_in_window object ids all))

  -- the list of its dated rows in order, and what stands in it
  in_list : (row : Row) (rows : List Row) → in_order (filter (is_its n) (own ++ kept)) ≡ row ∷ rows → IsInWindow object row
  in_list row rows e =
      let up : AllPairs IsBefore (row ∷ rows) = subst (AllPairs IsBefore) e (in_order-rising (filter (is_its n) (own ++ kept)) (AllPairs-filter HasOtherKey (is_its n) (own ++ kept) (own_and_kept_apart every_moment object ids one))) in
      let there : Contains (in_order (filter (is_its n) (own ++ kept))) row = rw e (Contains-here row rows) in
      let both = Contains-unfilter (is_its n) row (own ++ kept) (in_order-only row (filter (is_its n) (own ++ kept)) there) in
      elim (Contains-append_cases own kept row both.1) [
        | inl mine ↦ All-contains (IsInWindow object) own row own_in_windows mine
        | inr other ↦ (let behind = All-contains (StandsBehind object ids all n) kept row (kept_behind every_moment object ids n stands) other in
            let number : row.component ≡ n.number = eqb-true row.component n.number (and_parts (row.component == n.number) (is_dated row) both.0).0 in
            let its = behind number in
            let first = some_member (override_row object ids all n) its.1 in
            let listed : Contains (in_order (filter (is_its n) (own ++ kept))) first.0 =
            in_order-has first.0 (filter (is_its n) (own ++ kept))
            (Contains-filter (is_its n) first.0 (own ++ kept) (All-contains (λ row. is_its n row ≡ true) (override_row object ids all n) first.0 (dated_own object ids all n) first.1)
            (Contains-append_left own kept first.0 (Contains-flat_map (override_row object ids all) (overrides object) n first.0 c first.1))) in
            absurd (not_first row first.0 (first_before row first.0 rows up (rw e at listed)) (All-contains (λ (a : Row). a.id <ℤ row.id) (override_row object ids all n) first.0 its.0 first.1)))
      ]
    where
      some_member : (xs : List Row) → 0 < length xs → (x : Row) × Contains xs x
      some_member [] some = absurd (omega (arith, some))
      some_member (x ∷ xs) some = (x, Contains-here x xs)

  first_of_rows : (rows : List Row) → in_order (filter (is_its n) (own ++ kept)) ≡ rows → All (IsInWindow object) (take 1 rows)
  first_of_rows [] e = All-nil (IsInWindow object)
  first_of_rows (row ∷ rows) e = All-cons (IsInWindow object) row [] (in_list row rows e) (All-nil (IsInWindow object))

  of_dated : All (IsInWindow object) (take 1 (filter (is_its n) (in_order (own ++ kept))))
  of_dated = subst (λ rows. All (IsInWindow object) (take 1 rows)) (sym (filter-in_order (is_its n) (own ++ kept) (own_and_kept_apart every_moment object ids one))) (first_of_rows (in_order (filter (is_its n) (own ++ kept))) refl)

none_undated : (object : Object) (n : Numbered) → filter (is_its n) (undated_rows object) ≡ []
none_undated object n =
    filter-none (is_its n) (undated_rows object)
    (All-map (λ row. is_its n row ≡ false) undated_row (filter (λ (m : Numbered). is_none (own_start m.component)) (numbered object))
    (All-everywhere (λ m. is_its n (undated_row m) ≡ false) (λ m. and_false (m.number == n.number)) (filter (λ (m : Numbered). is_none (own_start m.component)) (numbered object))))
  where
    and_false : (b : Bool) → (b && false) ≡ false
    and_false true = refl
    and_false false = refl

by_ids : (object : Object) (n : Numbered) → length (masters object) ≤ 1 → Contains (overrides object) n → (ids : Option Stamp) →
    All (IsInWindow object) (take 1 (filter (is_its n) (flat_map (dated_rows (row_at every_moment object) every_moment object) (option_to_list ids))))
by_ids object n one c None = All-nil (IsInWindow object)
by_ids object n one c (Some ids) = rw (append-nil (dated_rows (row_at every_moment object) every_moment object ids)) (of_dated object ids one n c)

pub first_rows-in_windows : (object : Object) → length (masters object) ≤ 1 → (n : Numbered) → Contains (overrides object) n → All (IsInWindow object) (take 1 (filter (is_its n) (rows object)))
first_rows-in_windows object one n c =
    rw (filter-append (is_its n) (undated_rows object) (flat_map (dated_rows (row_at every_moment object) every_moment object) (option_to_list (ids_start object))), none_undated object n)
    (by_ids object n one c (ids_start object))
