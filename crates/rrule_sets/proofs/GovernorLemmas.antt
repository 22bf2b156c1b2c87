-- Overrides that are held tell the same governors, and the same rows, as the definition.
use Rattle.std.proofs.Common.{◌≡◌, ℕ, zero, suc, ◌+◌, ◌<◌, ◌≤◌, List, [], ◌∷◌, ◌++◌, length, map, get_or, refl, sym, ap, ap₂, subst, ◌∙◌, arith, Bool, true, false, ℤ, pos, ◌≤ℤ◌, ◌<ℤ◌, inl, inr, Less, Equal, Greater, nat_lt}
use Rattle.std.specs.Prelude.{◌==◌, All, AllPairs, filter, flat_map, if◌then◌else◌, int_le, int_lt, option_to_list, is_some, take, Option, Some, None}
use Rattle.std.specs.Cmp.{int_cmp_total}
use Rattle.std.specs.Ordering.{int_cmp, is_lt}
use Rattle.std.specs.List.Sorted.{IsPartitionedBy, IsSortedByKey, ties}
use Rattle.std.specs.List.{list_any}
use Rattle.std.proofs.lemmas.Int.{ints, by_lt_z}
use Rattle.std.proofs.lemmas.Bool.{cases_Bool, eqb-true, ltb-true, ltb-false}
use Rattle.std.proofs.lemmas.List.{append_assoc, map-append}
use Rattle.std.proofs.lemmas.List.Elements.{All-head, All-tail, All-nil, All-cons, All-filter, All-map, All-weaker}
use Rattle.std.proofs.lemmas.List.Kept.{AllPairs-filter}
use Rattle.std.proofs.lemmas.List.Sorted.{sorted_far, ranks_by}
use Rattle.cal_moment.specs.declared.stamp.Stamp.{Stamp}
use Rattle.cal_moment.specs.declared.stamp.Stamp.TheVariants.{Date, Floating, Utc, Zoned}
use Rattle.cal_model.specs.declared.object.Component.{Component}
use Rattle.cal_model.specs.declared.object.Extent.TheVariants as extent
use Rattle.cal_model.specs.declared.object.Object.{Object}
use Rattle.cal_model.specs.declared.row.Row.{Row}
use Rattle.cal_model.specs.declared.zone.ZoneTable.{ZoneTable}
use Rattle.cal_model.specs.Words.Integers.{same_int}
use Rattle.cal_model.specs.Words.Lists.{first_or_else}
use Rattle.cal_model.specs.Ranges.Nearness.{HasShortOffsets}
use Rattle.cal_model.specs.Recurrence.RecurrenceSet.{Reading}
use Rattle.cal_model.specs.Instances.Alignment.{Aligned, at, on_day, align, kind_of, midnight_of, names_start, reading_of, written_value}
use Rattle.cal_model.specs.Instances.Starts.{end_beside, end_of_extent, own_start}
use Rattle.cal_model.specs.Instances.Rows.{Numbered, are_served, greatest_id, has_id, id_of_override, is_named, moves_later, named_by, numbered_from, overrides, row_of}
use Rattle.cal_model.specs.Instances.Rows as rows
use Rattle.cal_model.proofs.Instances.DayLaws.{midnight_of-holds}
use Rattle.cal_model.proofs.Instances.KeptStarts.{governors-none, stand_in, stand_in_by as stand_in_of}
use Rattle.cal_model.proofs.Instances.RisingLists.{AllPairs-head, AllPairs-tail}
use Rattle.cal_model.proofs.Instances.RowsInOrder.{IsGovernor, flat_map_same, governors_known}
use Rattle.cal_model.proofs.Words.AllLemmas.{All-everywhere}
use Rattle.cal_model.proofs.Words.IntegerLemmas.{same_int-self, same_int-true}
use Rattle.override_merge.specs.declared.names.Names.{Names}
use Rattle.override_merge.specs.Conversions.{HasRowTimes, IsRowTime}
use Rattle.override_merge.specs.DayStarts.{days_of, starts_on}
use Rattle.override_merge.specs.NamedStarts.{IsNamesOf, named_beside}
use Rattle.override_merge.specs.Parts.{id_by}
use Rattle.override_merge.proofs.NameLemmas.{has_name-is, is_named-names}
use Rattle.rrule_sets.specs.declared.governors.Governor.{Governor}
use Rattle.rrule_sets.specs.HeldGovernors.{HasNoGreaterId, HoldsGovernors, governing, governor_at, governors_by, governors_from, governors_of, greatest_of, held, last_before, last_of, moved_by, moved_row, stand_in_by, with_id}
use Rattle.rrule_sets.proofs.DateStarts.{IsNearRow, near_instant, value_near}
use Rattle.rrule_sets.proofs.NearRowLemmas.{cut_before, filter_swap}

-- The last of a list.

last_of-cons : {X : Type 0} (x y : X) (xs : List X) → last_of xs ≡ y ∷ [] → last_of (x ∷ xs) ≡ y ∷ []
last_of-cons x y [] e = absurd cc
last_of-cons x y (z ∷ xs) e = e

pub last_of-holds : {X : Type 0} (P : X → Type 0) (xs : List X) → All P xs → All P (last_of xs)
last_of-holds P [] all = all
last_of-holds P (x ∷ []) all = all
last_of-holds P (x ∷ y ∷ xs) all = last_of-holds P (y ∷ xs) (All-tail P x (y ∷ xs) all)

last_of-map : {X Y : Type 0} (f : X → Y) (xs : List X) → last_of (map f xs) ≡ map f (last_of xs)
last_of-map f [] = refl
last_of-map f (x ∷ []) = refl
last_of-map f (x ∷ y ∷ xs) = last_of-map f (y ∷ xs)

-- the last is the last of those too that pass a test which it passes
last_of-filter : {X : Type 0} (p : X → Bool) (xs : List X) (y : X) → last_of xs ≡ y ∷ [] → p y ≡ true → last_of (filter p xs) ≡ y ∷ []
last_of-filter p [] y e w = absurd cc
last_of-filter p (x ∷ []) y e w = let same : x ≡ y = cc in let v : p x ≡ true = ap p same ∙ w in rw v e
last_of-filter p (x ∷ z ∷ xs) y e w =
    let rest = last_of-filter p (z ∷ xs) y e w in
    elim (cases_Bool (p x)) [ inl v ↦ rw v (last_of-cons x y (filter p (z ∷ xs)) rest) | inr v ↦ rw v rest ]

-- what is there has a last
has_last : {X : Type 0} (x : X) (xs : List X) → (y : X) × (last_of (x ∷ xs) ≡ y ∷ [])
has_last x [] = (x, refl)
has_last x (z ∷ xs) = has_last z xs

filter-map : {X Y : Type 0} (p : Y → Bool) (f : X → Y) (xs : List X) → filter p (map f xs) ≡ map f (filter (λ x. p (f x)) xs)
filter-map p f [] = refl
filter-map p f (x ∷ xs) = elim (cases_Bool (p (f x))) [ inl w ↦ rw w (ap (λ rest. f x ∷ rest) (filter-map p f xs)) | inr w ↦ rw w (filter-map p f xs) ]

-- The one with the greatest id.

abbrev HasIdBelow : ℤ → rows.Governor → Type 0
HasIdBelow id g = g.id ≤ℤ id

abbrev those : ℤ → List rows.Governor → List rows.Governor
those id gs = filter (λ (g : rows.Governor). same_int id g.id) gs

-- none has a greater id, and of those with its id it is the last
record IsGreatest (y : rows.Governor) (gs : List rows.Governor) : Type 0 where
  greatest : All (HasIdBelow y.id) gs
  last : last_of (those y.id gs) ≡ y ∷ []

apart : (a b : ℤ) → b <ℤ a → same_int a b ≡ false
apart a b lt = elim (cases_Bool (same_int a b)) [ inl w ↦ absurd (let e = same_int-true a b w in omega (arith, ints, lt, e)) | inr w ↦ w ]

greatest_id-is : (g : rows.Governor) (gs : List rows.Governor) → IsGreatest (greatest_id g gs) (g ∷ gs)
greatest_id-is g [] = record { greatest = All-cons (HasIdBelow g.id) g [] (omega (arith, ints)) (All-nil (HasIdBelow g.id)); last = rw (same_int-self g.id) refl }
greatest_id-is g (h ∷ hs) = elim (cases_Bool (int_le g.id h.id)) [
  | inl w ↦ rw w (
      let is = greatest_id-is h hs in
      let y = greatest_id h hs in
      let le : g.id ≤ℤ h.id = grind (arith, ints, w) in
      let below = All-head (HasIdBelow y.id) h hs is.greatest in
      record { greatest = All-cons (HasIdBelow y.id) g (h ∷ hs) (omega (arith, ints, le, below)) is.greatest; last = in_front y.id g y (h ∷ hs) is.last }
      )
  | inr w ↦ rw w (
      let is = greatest_id-is g hs in
      let y = greatest_id g hs in
      let lt : h.id <ℤ g.id = grind (arith, ints, w) in
      let below = All-head (HasIdBelow y.id) g hs is.greatest in
      let out : same_int y.id h.id ≡ false = apart y.id h.id (omega (arith, ints, lt, below)) in
      record {
        greatest = All-cons (HasIdBelow y.id) g (h ∷ hs) below (All-cons (HasIdBelow y.id) h hs (omega (arith, ints, lt, below)) (All-tail (HasIdBelow y.id) g hs is.greatest));
        last = left_out y.id g h y hs out is.last;
      }
      )
]
  where
    in_front : (id : ℤ) (g y : rows.Governor) (gs : List rows.Governor) → last_of (those id gs) ≡ y ∷ [] → last_of (those id (g ∷ gs)) ≡ y ∷ []
    in_front id g y gs e = elim (cases_Bool (same_int id g.id)) [ inl v ↦ rw v (last_of-cons g y (those id gs) e) | inr v ↦ rw v e ]

    left_out : (id : ℤ) (g h y : rows.Governor) (gs : List rows.Governor) → same_int id h.id ≡ false → last_of (those id (g ∷ gs)) ≡ y ∷ [] → last_of (those id (g ∷ h ∷ gs)) ≡ y ∷ []
    left_out id g h y gs out e = let same : those id (g ∷ h ∷ gs) ≡ those id (g ∷ gs) = rw out refl in ap last_of same ∙ e

greatest_id-holds : (P : rows.Governor → Type 0) (g : rows.Governor) (gs : List rows.Governor) → All P (g ∷ gs) → P (greatest_id g gs)
greatest_id-holds P g [] all = All-head P g [] all
greatest_id-holds P g (h ∷ hs) all = elim (cases_Bool (int_le g.id h.id)) [
  | inl w ↦ rw w (greatest_id-holds P h hs (All-tail P g (h ∷ hs) all))
  | inr w ↦ rw w (greatest_id-holds P g hs (All-cons P g hs (All-head P g (h ∷ hs) all) (All-tail P h hs (All-tail P g (h ∷ hs) all))))
]

-- Those that are held.

abbrev HasHeldIdBelow : ℤ → Governor → Type 0
HasHeldIdBelow id g = g.id ≤ℤ id

last_greatest : (gs : List Governor) (y : Governor) → AllPairs HasNoGreaterId gs → last_of gs ≡ y ∷ [] → All (HasHeldIdBelow y.id) gs
last_greatest [] y up e = absurd cc
last_greatest (x ∷ []) y up e = let same : x ≡ y = cc in All-cons (HasHeldIdBelow y.id) x [] (rw same (omega (arith, ints))) (All-nil (HasHeldIdBelow y.id))
last_greatest (x ∷ z ∷ gs) y up e =
    let rest = last_greatest (z ∷ gs) y (AllPairs-tail HasNoGreaterId x (z ∷ gs) up) e in
    let next = All-head (HasNoGreaterId x) z gs (AllPairs-head HasNoGreaterId x (z ∷ gs) up) in
    let below = All-head (HasHeldIdBelow y.id) z gs rest in
    All-cons (HasHeldIdBelow y.id) x (z ∷ gs) (omega (arith, ints, next, below)) rest

-- in the order of their ids, the last is the one with the greatest id, of several with that id the last
last_is_greatest : (zones : List ZoneTable) (all : List rows.Governor) (gs : List Governor) → HoldsGovernors zones all gs → last_of gs ≡ map (held zones) (greatest_of all)
last_is_greatest zones [] [] holds = refl
last_is_greatest zones [] (x ∷ gs) holds =
    let kept = holds.kept x.id in
    let here : with_id x.id (x ∷ gs) ≡ x ∷ with_id x.id gs = rw (same_int-self x.id) refl in
    absurd (let none : x ∷ with_id x.id gs ≡ [] = sym here ∙ kept in cc)
last_is_greatest zones (a ∷ more) gs holds = by_last gs refl
  where
    y : rows.Governor
    y = greatest_id a more

    is : IsGreatest y (a ∷ more)
    is = greatest_id-is a more

    made : (id : ℤ) → with_id id (map (held zones) (a ∷ more)) ≡ map (held zones) (those id (a ∷ more))
    made id = filter-map (λ (g : Governor). same_int id g.id) (held zones) (a ∷ more)

    -- the last of those with the greatest id
    its_last : last_of (with_id y.id gs) ≡ held zones y ∷ []
    its_last = ap last_of (holds.kept y.id ∙ made y.id) ∙ (last_of-map (held zones) (those y.id (a ∷ more)) ∙ ap (map (held zones)) is.last)

    by_last : (hs : List Governor) → hs ≡ gs → last_of gs ≡ held zones y ∷ []
    by_last [] e = absurd (let none : last_of (with_id y.id gs) ≡ [] = ap (λ (xs : List Governor). last_of (with_id y.id xs)) (sym e) in let some = sym its_last ∙ none in cc)
    by_last (x ∷ xs) e =
        let found = has_last x xs in
        let z = found.0 in
        let last : last_of gs ≡ z ∷ [] = ap last_of (sym e) ∙ found.1 in
        let most = last_greatest gs z holds.rising last in
        let least : y.id ≤ℤ z.id = All-head (HasHeldIdBelow z.id) (held zones y) [] (subst (All (HasHeldIdBelow z.id)) its_last
        (last_of-holds (HasHeldIdBelow z.id) (with_id y.id gs) (All-filter (λ (g : Governor). same_int y.id g.id) (HasHeldIdBelow z.id) gs most))) in
        let with_its = last_of-filter (λ (g : Governor). same_int z.id g.id) gs z last (same_int-self z.id) in
        let no_more : z.id ≤ℤ y.id = All-head (HasHeldIdBelow y.id) z [] (subst (All (HasHeldIdBelow y.id)) with_its
        (last_of-holds (HasHeldIdBelow y.id) (with_id z.id gs) (subst (All (HasHeldIdBelow y.id)) (sym (holds.kept z.id))
        (All-filter (λ (g : Governor). same_int z.id g.id) (HasHeldIdBelow y.id) (map (held zones) (a ∷ more)) (All-map (HasHeldIdBelow y.id) (held zones) (a ∷ more) is.greatest))))) in
        let same : z.id ≡ y.id = omega (arith, ints, least, no_more) in
        last ∙ (sym with_its ∙ (ap (λ (id : ℤ). last_of (with_id id gs)) same ∙ its_last))

before_held : (zones : List ZoneTable) (all : List rows.Governor) (gs : List Governor) (r : ℤ) → HoldsGovernors zones all gs →
    HoldsGovernors zones (filter (λ (g : rows.Governor). int_lt g.id r) all) (filter (λ (g : Governor). int_lt g.id r) gs)
before_held zones all gs r holds = record {
  rising = AllPairs-filter HasNoGreaterId (λ (g : Governor). int_lt g.id r) gs holds.rising;
  kept = λ id.
      filter_swap (λ (g : Governor). same_int id g.id) (λ (g : Governor). int_lt g.id r) gs
      ∙ (ap (filter (λ (g : Governor). int_lt g.id r)) (holds.kept id)
      ∙ (filter_swap (λ (g : Governor). int_lt g.id r) (λ (g : Governor). same_int id g.id) (map (held zones) all)
      ∙ ap (with_id id) (filter-map (λ (g : Governor). int_lt g.id r) (held zones) all)));
}

-- The override that governs a start is the one that is found.
pub governing-is : (zones : List ZoneTable) (all : List rows.Governor) (gs : List Governor) → HoldsGovernors zones all gs → (r : ℤ) → last_before r gs ≡ map (held zones) (governing r all)
governing-is zones all gs holds r = last_is_greatest zones (filter (λ (g : rows.Governor). int_lt g.id r) all) (filter (λ (g : Governor). int_lt g.id r) gs) (before_held zones all gs r holds)

pub last_before-holds : (P : Governor → Type 0) (r : ℤ) (gs : List Governor) → All P gs → All P (last_before r gs)
last_before-holds P r gs all = last_of-holds P (filter (λ (g : Governor). int_lt g.id r) gs) (All-filter (λ (g : Governor). int_lt g.id r) P gs all)

-- Sorting.

abbrev id_below : Governor → Governor → Bool
id_below a b = is_lt (int_cmp a.id b.id)

not_below : (x y : ℤ) → is_lt (int_cmp y x) ≡ false → x ≤ℤ y
not_below x y h = by_lt_z y x (λ lt. absurd (let less : int_cmp y x ≡ Less = grind (arith, ints, lt) in let e = rw less at h in cc)) (λ le. omega (arith, ints, le))

pub rises_by_id : (gs : List Governor) → IsSortedByKey (λ (g : Governor). g.id) int_cmp gs → AllPairs HasNoGreaterId gs
rises_by_id gs sorted i j d lt below =
    not_below (get_or gs i d).id (get_or gs j d).id
    (sorted_far id_below (ranks_by int_cmp_total (λ (g : Governor). g.id)) gs sorted i j d (omega (arith, lt)) below)

ties_of_id : (x g : Governor) → ties id_below x g ≡ same_int x.id g.id
ties_of_id x g =
    by_lt_z x.id g.id
    (λ lt. let up : int_cmp x.id g.id ≡ Less = grind (arith, ints, lt) in let other = other_after x.id g.id lt in rw (up, other) refl)
    (λ ge. by_lt_z g.id x.id
    (λ gt. let more : int_cmp x.id g.id ≡ Greater = grind (arith, ints, gt) in let less : int_cmp g.id x.id ≡ Less = grind (arith, ints, gt) in let other = apart x.id g.id gt in rw (more, less, other) refl)
    (λ le. let same : x.id ≡ g.id = omega (arith, ints, ge, le) in
    let equal : int_cmp x.id g.id ≡ Equal = grind (arith, ints, same) in
    let back : int_cmp g.id x.id ≡ Equal = grind (arith, ints, same) in
    let self : same_int x.id g.id ≡ true = rw same (same_int-self g.id) in
    rw (equal, back, self) refl))
  where
    other_after : (a b : ℤ) → a <ℤ b → same_int a b ≡ false
    other_after a b lt = elim (cases_Bool (same_int a b)) [ inl w ↦ absurd (let e = same_int-true a b w in omega (arith, ints, lt, e)) | inr w ↦ w ]

filter_same : {X : Type 0} (p q : X → Bool) (xs : List X) → ((x : X) → p x ≡ q x) → filter p xs ≡ filter q xs
filter_same p q [] h = refl
filter_same p q (x ∷ xs) h = elim (cases_Bool (q x)) [
  | inl w ↦ (let v : p x ≡ true = h x ∙ w in rw (v, w) (ap (λ ys. x ∷ ys) (filter_same p q xs h)))
  | inr w ↦ (let v : p x ≡ false = h x ∙ w in rw (v, w) (filter_same p q xs h))
]

abbrev some_with : ℤ → Governor
some_with id = record { id = id; number = 0; stamp = Utc (record { 0 = pos 0 }); extent = extent.None; moved = pos 0 }

pub kept_by_id : (xs ys : List Governor) → ((x : Governor) → filter (ties id_below x) ys ≡ filter (ties id_below x) xs) → (id : ℤ) → with_id id ys ≡ with_id id xs
kept_by_id xs ys stable id =
    filter_same (λ (g : Governor). same_int id g.id) (ties id_below (some_with id)) ys (λ g. sym (ties_of_id (some_with id) g))
    ∙ (stable (some_with id) ∙ filter_same (ties id_below (some_with id)) (λ (g : Governor). same_int id g.id) xs (ties_of_id (some_with id)))

-- Searching.

pub partitioned_by_id : (gs : List Governor) (t : ℤ) → AllPairs HasNoGreaterId gs → IsPartitionedBy (λ (g : Governor). int_lt g.id t) gs
partitioned_by_id gs t up i j d le below h = elim (cases_Bool (nat_lt i j)) [
  | inl w ↦ (let rises = up i j d (ltb-true _ _ w) below in let at : (get_or gs j d).id <ℤ t = grind (arith, ints, h) in let before : (get_or gs i d).id <ℤ t = omega (arith, ints, rises, at) in grind (arith, ints, before))
  | inr w ↦ (let ge = ltb-false _ _ w in let same : i ≡ j = omega (arith, ge, le) in rw same h)
]

last_of-take : {X : Type 0} (xs : List X) (i : ℕ) (d : X) → i < length xs → last_of (take (suc i) xs) ≡ get_or xs i d ∷ []
last_of-take [] i d lt = absurd (omega (arith, lt))
last_of-take (x ∷ xs) zero d lt = refl
last_of-take (x ∷ []) (suc i) d lt = absurd (omega (arith, lt))
last_of-take (x ∷ y ∷ xs) (suc i) d lt = last_of-take (y ∷ xs) i d (omega (arith, lt))

module _ (gs : List Governor) (r : ℤ) (place : ℕ) (before : (k : ℕ) (d : Governor) → 0 ≤ k → k < place → int_lt (get_or gs k d).id r ≡ true) (after : (k : ℕ) (d : Governor) → place ≤ k → k < length gs → int_lt (get_or gs k d).id r ≡ false) where
  cut : take place gs ≡ filter (λ (g : Governor). int_lt g.id r) gs
  cut = cut_before (λ (g : Governor). int_lt g.id r) gs place before after

  pub none_before : place ≡ 0 → last_before r gs ≡ []
  none_before none = ap last_of (sym cut ∙ ap (λ (n : ℕ). take n gs) none)

  pub found_before : (i : ℕ) (d : Governor) → place ≡ suc i → i < length gs → get_or gs i d ∷ [] ≡ last_before r gs
  found_before i d e lt = sym (ap last_of (sym cut ∙ ap (λ (n : ℕ). take n gs) e) ∙ last_of-take gs i d lt)

-- Which overrides they are.

-- two ways to say which start a name means
of_same : (f g : Aligned → ℤ) → ((x : Aligned) → f x ≡ g x) → (zones : List ZoneTable) (ids : Stamp) (n : Numbered) (later : Bool) (id own : Option Stamp) →
    (if later then flat_map (λ s. map (λ x. governor_at n s (f (align zones x ids))) (option_to_list id)) (option_to_list own) else [])
    ≡ (if later then flat_map (λ s. map (λ x. governor_at n s (g (align zones x ids))) (option_to_list id)) (option_to_list own) else [])
of_same f g same zones ids n false id own = refl
of_same f g same zones ids n true id None = refl
of_same f g same zones ids n true None (Some s) = refl
of_same f g same zones ids n true (Some x) (Some s) = ap (λ i. governor_at n s i ∷ []) (same (align zones x ids))

pub governors_from-same : (f g : Aligned → ℤ) → ((x : Aligned) → f x ≡ g x) → (zones : List ZoneTable) (ids : Stamp) (number : ℕ) (cs : List Component) → governors_from f zones ids number cs ≡ governors_from g zones ids number cs
governors_from-same f g same zones ids number [] = refl
governors_from-same f g same zones ids number (c ∷ cs) =
    ap₂ (λ (xs ys : List rows.Governor). xs ++ ys) (of_same f g same zones ids (record { number = number; component = c }) c.future c.recurrence_id (own_start c)) (governors_from-same f g same zones ids (number + 1) cs)

module _ (object : Object) (ids : Stamp) (all : List ℤ) where
  by_name : (n : Numbered) (id own : Option Stamp) →
      flat_map (λ s. map (λ x. governor_at n s (id_of_override object ids all (align object.zones x ids))) (option_to_list id)) (option_to_list own)
      ≡ flat_map (λ s. map (λ x. governor_at n s (id_of_override object ids all x)) (map (λ x. align object.zones x ids) (option_to_list id))) (option_to_list own)
  by_name n id None = refl
  by_name n None (Some s) = refl
  by_name n (Some x) (Some s) = refl

  none_named : (n : Numbered) (own : Option Stamp) → flat_map (λ s. map (λ x. governor_at n s (id_of_override object ids all (align object.zones x ids))) []) (option_to_list own) ≡ []
  none_named n None = refl
  none_named n (Some s) = refl

  of_later : (n : Numbered) → n.component.future ≡ true → governors_of (id_of_override object ids all) object.zones ids n ≡ rows.governors_by object ids all n
  of_later n f =
      ap (λ (b : Bool). if b then flat_map (λ s. map (λ x. governor_at n s (id_of_override object ids all (align object.zones x ids))) (option_to_list n.component.recurrence_id)) (option_to_list (own_start n.component)) else []) f
      ∙ by_name n n.component.recurrence_id (own_start n.component)

  of_unnamed : (n : Numbered) (later : Bool) → n.component.recurrence_id ≡ None →
      (if later then flat_map (λ s. map (λ x. governor_at n s (id_of_override object ids all (align object.zones x ids))) (option_to_list n.component.recurrence_id)) (option_to_list (own_start n.component)) else []) ≡ []
  of_unnamed n false e = refl
  of_unnamed n true e =
      ap (λ (id : Option Stamp). flat_map (λ s. map (λ x. governor_at n s (id_of_override object ids all (align object.zones x ids))) (option_to_list id)) (option_to_list (own_start n.component))) e
      ∙ none_named n (own_start n.component)

  abbrev later_from : ℕ → List Component → List Numbered
  later_from number cs = filter moves_later (filter has_id (numbered_from number cs))

  one_more : (number : ℕ) (c : Component) (cs : List Component) (id : Option Stamp) (later : Bool) → c.recurrence_id ≡ id → c.future ≡ later →
      governors_from (id_of_override object ids all) object.zones ids (number + 1) cs ≡ flat_map (rows.governors_by object ids all) (later_from (number + 1) cs) →
      governors_from (id_of_override object ids all) object.zones ids number (c ∷ cs) ≡ flat_map (rows.governors_by object ids all) (later_from number (c ∷ cs))
  one_more number c cs None later e f rest =
      let kept : later_from number (c ∷ cs) ≡ later_from (number + 1) cs = rw e refl in
      ap₂ (λ (xs ys : List rows.Governor). xs ++ ys) (of_unnamed (record { number = number; component = c }) c.future e) rest ∙ ap (flat_map (rows.governors_by object ids all)) (sym kept)
  one_more number c cs (Some x) false e f rest =
      let kept : later_from number (c ∷ cs) ≡ later_from (number + 1) cs = rw (e, f) refl in
      let none : governors_of (id_of_override object ids all) object.zones ids (record { number = number; component = c }) ≡ [] = rw f refl in
      ap₂ (λ (xs ys : List rows.Governor). xs ++ ys) none rest ∙ ap (flat_map (rows.governors_by object ids all)) (sym kept)
  one_more number c cs (Some x) true e f rest =
      let kept : later_from number (c ∷ cs) ≡ record { number = number; component = c } ∷ later_from (number + 1) cs = rw (e, f) refl in
      ap₂ (λ (xs ys : List rows.Governor). xs ++ ys) (of_later (record { number = number; component = c }) f) rest ∙ ap (flat_map (rows.governors_by object ids all)) (sym kept)

  all_from : (number : ℕ) (cs : List Component) → governors_from (id_of_override object ids all) object.zones ids number cs ≡ flat_map (rows.governors_by object ids all) (later_from number cs)
  all_from number [] = refl
  all_from number (c ∷ cs) = one_more number c cs c.recurrence_id c.future refl refl (all_from (number + 1) cs)

  pub governors_from-is : governors_from (id_of_override object ids all) object.zones ids 0 object.components ≡ rows.governors object ids all
  governors_from-is = all_from 0 object.components

  pub governors_by-is : (days : List (ℤ × ℤ)) → ((midnight : ℤ) → starts_on midnight days ≡ filter (λ r. names_start (reading_of object.zones ids) r (on_day midnight)) all) →
      governors_by object.zones ids days object.components ≡ rows.governors object ids all
  governors_by-is days kept = governors_from-same (id_by (reading_of object.zones ids) days) (id_of_override object ids all) same object.zones ids 0 object.components ∙ governors_from-is
    where
      same : (x : Aligned) → id_by (reading_of object.zones ids) days x ≡ id_of_override object ids all x
      same (at v) = refl
      same (on_day midnight) = ap (first_or_else ((reading_of object.zones ids).instant midnight)) (kept midnight)

-- Which start a name means is near: that of a stamp which can be converted, where the starts of each day are.
meant_of : (first : ℤ) (rs : List ℤ) → IsNearRow first → All IsRowTime rs → IsNearRow (first_or_else first rs)
meant_of first [] near all = near
meant_of first (r ∷ rs) near all = let time = All-head IsRowTime r rs all in (omega (arith, ints, time), omega (arith, ints, time))

module _ (zones : List ZoneTable) (days : List (ℤ × ℤ)) (short : All HasShortOffsets zones) (near : (midnight : ℤ) → All IsRowTime (starts_on midnight days)) where
  abbrev meant : Stamp → Stamp → ℤ
  meant x ids = id_by (reading_of zones ids) days (align zones x ids)

  on_its_day : (ids x : Stamp) → IsRowTime (written_value x) → IsNearRow (id_by (reading_of zones ids) days (on_day (written_value x)))
  on_its_day ids x time =
      meant_of ((reading_of zones ids).instant (written_value x)) (starts_on (written_value x) days)
      (near_instant zones ids (written_value x) short (omega (arith, ints, time), omega (arith, ints, time))) (near (written_value x))

  of_time : (z : ℤ) → IsRowTime z → IsNearRow z
  of_time z time = (omega (arith, ints, time), omega (arith, ints, time))

  pub meant_near : (x ids : Stamp) → IsRowTime (written_value x) → IsNearRow (meant x ids)
  meant_near x (Date d) time = let day = midnight_of-holds (written_value x) in (omega (arith, ints, day, time), omega (arith, ints, day, time))
  meant_near (Date d) (Floating l) time = on_its_day (Floating l) (Date d) time
  meant_near (Floating k) (Floating l) time = of_time (written_value (Floating k)) time
  meant_near (Zoned k n) (Floating l) time = of_time (written_value (Zoned k n)) time
  meant_near (Utc u) (Floating l) time = of_time u.0 time
  meant_near (Date d) (Zoned l n) time = on_its_day (Zoned l n) (Date d) time
  meant_near (Floating k) (Zoned l n) time = near_instant zones (Zoned l n) (written_value (Floating k)) short (omega (arith, ints, time), omega (arith, ints, time))
  meant_near (Zoned k m) (Zoned l n) time = value_near zones (Zoned k m) short time
  meant_near (Utc u) (Zoned l n) time = of_time u.0 time
  meant_near (Date d) (Utc v) time = on_its_day (Utc v) (Date d) time
  meant_near (Floating k) (Utc v) time = of_time (written_value (Floating k)) time
  meant_near (Zoned k m) (Utc v) time = value_near zones (Zoned k m) short time
  meant_near (Utc u) (Utc v) time = of_time u.0 time

-- One component more.
pub held_more : (zones : List ZoneTable) (ids : Stamp) (name : Aligned → ℤ) (number : ℕ) (c : Component) (cs : List Component) (done whole : List Governor) →
    done ++ map (held zones) (governors_from name zones ids number (c ∷ cs)) ≡ whole →
    (done ++ map (held zones) (governors_of name zones ids (record { number = number; component = c }))) ++ map (held zones) (governors_from name zones ids (number + 1) cs) ≡ whole
held_more zones ids name number c cs done whole made =
    let here = governors_of name zones ids (record { number = number; component = c }) in
    let behind = governors_from name zones ids (number + 1) cs in
    append_assoc done (map (held zones) here) (map (held zones) behind) ∙ (ap (λ (more : List Governor). done ++ more) (sym (map-append (held zones) here behind)) ∙ made)

pub held_last : (zones : List ZoneTable) (ids : Stamp) (name : Aligned → ℤ) (number : ℕ) (cs : List Component) → true ≡ (length cs == 0) → governors_from name zones ids number cs ≡ governors_from name zones ids (number + 1) cs
held_last zones ids name number [] none = refl
held_last zones ids name number (c ∷ cs) none = let same = eqb-true _ _ (sym none) in absurd (omega (arith, same))

-- The starts of rows by their days.

pub days_near : (reading : Reading) (midnight : ℤ) (rs : List Row) → All HasRowTimes rs → All IsRowTime (starts_on midnight (days_of reading rs))
days_near reading midnight [] near = All-nil IsRowTime
days_near reading midnight (row ∷ rs) near =
    let rest = days_near reading midnight rs (All-tail HasRowTimes row rs near) in
    elim (cases_Bool (same_int midnight (midnight_of (reading.local row.id)))) [
      | inl w ↦ rw w (All-cons IsRowTime row.id (starts_on midnight (days_of reading rs)) (All-head HasRowTimes row rs near).id rest)
      | inr w ↦ rw w rest
    ]

pub days_name : (reading : Reading) (midnight : ℤ) (rs : List Row) → starts_on midnight (days_of reading rs) ≡ filter (λ r. names_start reading r (on_day midnight)) (map (λ (r : Row). r.id) rs)
days_name reading midnight [] = refl
days_name reading midnight (row ∷ rs) = elim (cases_Bool (same_int midnight (midnight_of (reading.local row.id)))) [
  | inl w ↦ rw w (ap (λ more. row.id ∷ more) (days_name reading midnight rs))
  | inr w ↦ rw w (days_name reading midnight rs)
]

-- Rows.

moved_row-is : (object : Object) (ids : Stamp) (r : ℤ) (g : rows.Governor) → own_start g.override.component ≡ Some g.start → moved_row object.zones ids r (held object.zones g) ≡ rows.moved_row object ids r g
moved_row-is object ids r g own =
    let zones = object.zones in
    let digits = rows.moved_digits zones g r in
    let start = (reading_of zones g.start).instant digits in
    let ends : end_of_extent zones g.start g.override.component.extent start ≡ end_beside zones g.override.component (own_start g.override.component) start = rw own refl in
    ap (λ (end : ℤ). if are_served digits then row_of r start end g.override.number (kind_of ids) (kind_of g.start) ∷ [] else []) ends

module _ (object : Object) (ids : Stamp) (all : List ℤ) (names : Names) (gs : List Governor) (named : IsNamesOf (named_beside object.zones ids object.components) names) (holds : HoldsGovernors object.zones (rows.governors object ids all) gs) where
  abbrev HasOwnStart : rows.Governor → Type 0
  HasOwnStart g = own_start g.override.component ≡ Some g.start

  by_governors : (row : Row) (before : List rows.Governor) → All HasOwnStart before → moved_by object.zones ids row (map (held object.zones) (greatest_of before)) ≡ stand_in_of object ids row before
  by_governors row [] own = refl
  by_governors row (g ∷ before) own = moved_row-is object ids row.id (greatest_id g before) (greatest_id-holds HasOwnStart g before own)

  stand_in-is : (row : Row) → stand_in_by object.zones ids names gs row ≡ stand_in object ids all row
  stand_in-is row =
      let before = filter (λ (g : rows.Governor). int_lt g.id row.id) (rows.governors object ids all) in
      let own : All HasOwnStart before = All-filter (λ (g : rows.Governor). int_lt g.id row.id) HasOwnStart (rows.governors object ids all)
      (All-weaker (IsGovernor object ids all) HasOwnStart (λ g is. is.own) (rows.governors object ids all) (governors_known object ids all)) in
      ap₂ (λ (b : Bool) (moved : List Row). if b then row ∷ [] else moved)
      (has_name-is (reading_of object.zones ids) row.id (named_beside object.zones ids object.components) names named ∙ sym (is_named-names object ids row.id))
      (ap (moved_by object.zones ids row) (governing-is object.zones (rows.governors object ids all) gs holds row.id) ∙ by_governors row before own)

  pub all_stand_in : (rs : List Row) → flat_map (stand_in_by object.zones ids names gs) rs ≡ flat_map (stand_in object ids all) rs
  all_stand_in rs = flat_map_same (stand_in_by object.zones ids names gs) (stand_in object ids all) rs (All-everywhere (λ row. stand_in_by object.zones ids names gs row ≡ stand_in object ids all row) stand_in-is rs)

-- Where no component moves later instances.

none_later_from : (number : ℕ) (cs : List Component) → list_any (λ (c : Component). c.future) cs ≡ false → list_any moves_later (filter has_id (numbered_from number cs)) ≡ false
none_later_from number [] none = refl
none_later_from number (c ∷ cs) none = elim (cases_Bool c.future) [
  | inl w ↦ absurd (let e = rw w at none in cc)
  | inr w ↦ elim (cases_Bool (is_some c.recurrence_id)) [
    | inl v ↦ rw (v, w) (none_later_from (number + 1) cs (rw w at none))
    | inr v ↦ rw v (none_later_from (number + 1) cs (rw w at none))
  ]
]

pub none_later : (object : Object) → list_any (λ (c : Component). c.future) object.components ≡ false → list_any moves_later (overrides object) ≡ false
none_later object none = none_later_from 0 object.components none

pub stand_in-none : (object : Object) (ids : Stamp) (all : List ℤ) (rs : List Row) → list_any moves_later (overrides object) ≡ false → flat_map (stand_in object ids all) rs ≡ rs
stand_in-none object ids all [] none = refl
stand_in-none object ids all (row ∷ rs) none =
    ap₂ (λ (xs ys : List Row). xs ++ ys)
    (ap (λ gs. if is_named object ids row.id then row ∷ [] else stand_in_of object ids row (filter (λ (g : rows.Governor). int_lt g.id row.id) gs)) (governors-none object ids all none) ∙ same (is_named object ids row.id))
    (stand_in-none object ids all rs none)
  where
    same : (b : Bool) → (if b then row ∷ [] else row ∷ []) ≡ row ∷ []
    same true = refl
    same false = refl
