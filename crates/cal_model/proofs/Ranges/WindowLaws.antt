-- The rows of windows: each dated row lies in one, the rows of several windows are those of the whole list whose nominal start lies in them, and their moments lie near.
use Rattle.std.proofs.Common.{◌≡◌, ℕ, List, [], ◌∷◌, ◌++◌, refl, sym, ◌∙◌, ap, arith, Bool, true, false, ℤ, ◌⊎◌, inl, inr}
use Rattle.std.specs.Prelude.{All, AllPairs, Contains, filter, flat_map, if◌then◌else◌}
use Rattle.std.specs.List.{list_any}
use Rattle.std.proofs.lemmas.Bool.{cases_Bool}
use Rattle.std.proofs.lemmas.List.Elements.{All-head, All-tail, All-append, All-weaker, All-filter, All-contains, All-contains_itself, filter_passes, Contains-append_left, Contains-append_right, Contains-append_cases}
use Rattle.std.proofs.lemmas.List.Kept.{AllPairs-cons, AllPairs-filter}
use Rattle.cal_model.specs.declared.object.Object.{Object}
use Rattle.cal_model.specs.declared.row.Row.{Row}
use Rattle.cal_model.specs.Words.Integers.{same_int}
use Rattle.cal_model.specs.Instances.Rows.{in_order, is_dated, rows_over, rows_in_over, lies_in_window, window_of}
use Rattle.cal_model.proofs.Words.IntegerLemmas.{same_int-self, same_int-true}
use Rattle.cal_model.proofs.Instances.RisingLists.{IsBefore, HasOtherKey, AllPairs-head, AllPairs-tail, Contains-there, Contains-split, in_order-is}

-- Filters.

pub Contains-filter : {X : Type 0} (p : X → Bool) (y : X) (xs : List X) → p y ≡ true → Contains xs y → Contains (filter p xs) y
Contains-filter p y [] h c = c
Contains-filter p y (x ∷ xs) h c = elim (cases_Bool (p x)) [
  | inl w ↦ rw w (elim (Contains-split x y xs c) [ inl e ↦ (0, omega arith, e) | inr b ↦ Contains-there x y (filter p xs) (Contains-filter p y xs h b) ])
  | inr w ↦ rw w (elim (Contains-split x y xs c) [ inl e ↦ absurd (let v : p y ≡ false = rw e at w in cc) | inr b ↦ Contains-filter p y xs h b ])
]

pub Contains-unfilter : {X : Type 0} (p : X → Bool) (y : X) (xs : List X) → Contains (filter p xs) y → (p y ≡ true) × Contains xs y
Contains-unfilter p y xs c = (
  All-contains (λ x. p x ≡ true) (filter p xs) y (filter_passes p xs) c,
  All-contains (Contains xs) (filter p xs) y (All-filter p (Contains xs) xs (All-contains_itself xs)) c,
)

-- Windows.

-- a dated row lies in its own window, and in no other
pub lies_in_window-own : (object : Object) (row : Row) → is_dated row ≡ true → lies_in_window object (window_of object row) row ≡ true
lies_in_window-own object row dated = rw dated (same_int-self (window_of object row))

pub lies_in_window-one : (object : Object) (window : ℤ) (row : Row) → lies_in_window object window row ≡ true → (is_dated row ≡ true) × (window_of object row ≡ window)
lies_in_window-one object window row h = elim (cases_Bool (is_dated row)) [
  | inl dated ↦ (dated, same_int-true (window_of object row) window (rw dated at h))
  | inr undated ↦ (let e = rw undated at h in absurd cc)
]

-- a dated row of the object is among the rows of its window, and what is among them is such a row
pub rows_in-has : (moments : List ℕ) (object : Object) (row : Row) → Contains (rows_over moments object) row → is_dated row ≡ true → Contains (rows_in_over moments object (window_of object row)) row
rows_in-has moments object row c dated =
    Contains-filter (lies_in_window object (window_of object row)) row (rows_over moments object) (lies_in_window-own object row dated) c

pub rows_in-only : (moments : List ℕ) (object : Object) (window : ℤ) (row : Row) → Contains (rows_in_over moments object window) row → Contains (rows_over moments object) row × (is_dated row ≡ true) × (window_of object row ≡ window)
rows_in-only moments object window row c =
    let both = Contains-unfilter (lies_in_window object window) row (rows_over moments object) c in
    let lies = lies_in_window-one object window row both.0 in (both.1, lies.0, lies.1)

-- The rows of several windows.

-- a dated row lies in one of these windows
abbrev pub lies_in_some : Object → List ℤ → Row → Bool
lies_in_some object windows row = if is_dated row then list_any (same_int (window_of object row)) windows else false

-- in a list in order two members are one, or differ in id or component
rising-members : (xs : List Row) (a b : Row) → AllPairs IsBefore xs → Contains xs a → Contains xs b → (a ≡ b) ⊎ HasOtherKey a b
rising-members [] a b up c d = let below = c.1 in absurd (omega (arith, below))
rising-members (x ∷ xs) a b up c d = elim (Contains-split x a xs c) [
  | inl e ↦ elim (Contains-split x b xs d) [
    | inl f ↦ inl (sym e ∙ f)
    | inr g ↦ inr (inl (rw e at (All-contains (IsBefore x) xs b (AllPairs-head IsBefore x xs up) g)))
  ]
  | inr g ↦ elim (Contains-split x b xs d) [
    | inl f ↦ inr (inr (rw f at (All-contains (IsBefore x) xs a (AllPairs-head IsBefore x xs up) g)))
    | inr h ↦ rising-members xs a b (AllPairs-tail IsBefore x xs up) g h
  ]
]

All-from_members : {X : Type 0} (P : X → Type 0) (xs : List X) → ((x : X) → Contains xs x → P x) → All P xs
All-from_members P xs h = All-weaker (Contains xs) P h xs (All-contains_itself xs)

pub AllPairs-append : {X : Type 0} (R : X → X → Type 0) (xs ys : List X) → AllPairs R xs → AllPairs R ys → All (λ x. All (R x) ys) xs → AllPairs R (xs ++ ys)
AllPairs-append R [] ys up on across = on
AllPairs-append R (x ∷ xs) ys up on across =
    AllPairs-cons R x (xs ++ ys) (All-append (R x) xs ys (AllPairs-head R x xs up) (All-head (λ x. All (R x) ys) x xs across))
    (AllPairs-append R xs ys (AllPairs-tail R x xs up) on (All-tail (λ x. All (R x) ys) x xs across))

abbrev AreApart : ℤ → ℤ → Type 0
AreApart a b = (a ≡ b) → ⊥

flat_map-window : (moments : List ℕ) (object : Object) (windows : List ℤ) (row : Row) → Contains (flat_map (rows_in_over moments object) windows) row → Contains windows (window_of object row) × Contains (rows_over moments object) row × (is_dated row ≡ true)
flat_map-window moments object [] row c = let below = c.1 in absurd (omega (arith, below))
flat_map-window moments object (w ∷ ws) row c = elim (Contains-append_cases (rows_in_over moments object w) (flat_map (rows_in_over moments object) ws) row c) [
  | inl here ↦ (let r = rows_in-only moments object w row here in ((0, omega arith, sym r.2), r.0, r.1))
  | inr later ↦ (let r = flat_map-window moments object ws row later in (Contains-there w (window_of object row) ws r.0, r.1, r.2))
]

window-flat_map : (moments : List ℕ) (object : Object) (windows : List ℤ) (row : Row) → Contains windows (window_of object row) → Contains (rows_over moments object) row → is_dated row ≡ true → Contains (flat_map (rows_in_over moments object) windows) row
window-flat_map moments object [] row c there dated = let below = c.1 in absurd (omega (arith, below))
window-flat_map moments object (w ∷ ws) row c there dated = elim (Contains-split w (window_of object row) ws c) [
  | inl e ↦ Contains-append_left (rows_in_over moments object w) (flat_map (rows_in_over moments object) ws) row (rw (sym e) at (rows_in-has moments object row there dated))
  | inr b ↦ Contains-append_right (rows_in_over moments object w) (flat_map (rows_in_over moments object) ws) row (window-flat_map moments object ws row b there dated)
]

AllPairs-weaker : {X : Type 0} (R S : X → X → Type 0) → ((x y : X) → R x y → S x y) → (xs : List X) → AllPairs R xs → AllPairs S xs
AllPairs-weaker R S h xs up i j d lt below = h _ _ (up i j d lt below)

filter-within : {X : Type 0} (p q : X → Bool) → ((x : X) → q x ≡ true → p x ≡ true) → (xs : List X) → filter q (filter p xs) ≡ filter q xs
filter-within p q h [] = refl
filter-within p q h (x ∷ xs) = elim (cases_Bool (p x)) [
  | inl w ↦ elim (cases_Bool (q x)) [
    | inl v ↦ rw (w, v) (ap (λ rest. x ∷ rest) (filter-within p q h xs))
    | inr v ↦ rw (w, v) (filter-within p q h xs)
  ]
  | inr w ↦ elim (cases_Bool (q x)) [
    | inl v ↦ absurd (let yes = h x v in cc)
    | inr v ↦ rw (w, v) (filter-within p q h xs)
  ]
]

-- the object's dated rows stand in order
abbrev pub HasRowsInOrder : List ℕ → Object → Type 0
HasRowsInOrder moments object = AllPairs IsBefore (filter is_dated (rows_over moments object))

if_some_dated : (object : Object) (windows : List ℤ) (row : Row) → lies_in_some object windows row ≡ true → (is_dated row ≡ true) × (list_any (same_int (window_of object row)) windows ≡ true)
if_some_dated object windows row h = elim (cases_Bool (is_dated row)) [
  | inl dated ↦ (dated, rw dated at h)
  | inr undated ↦ (let e = rw undated at h in absurd cc)
]

dated_member : (moments : List ℕ) (object : Object) (row : Row) → Contains (rows_over moments object) row → is_dated row ≡ true → Contains (filter is_dated (rows_over moments object)) row
dated_member moments object row c dated = Contains-filter is_dated row (rows_over moments object) dated c

window_rising : (moments : List ℕ) (object : Object) (window : ℤ) → HasRowsInOrder moments object → AllPairs IsBefore (rows_in_over moments object window)
window_rising moments object window up =
    rw (filter-within is_dated (lies_in_window object window) (λ row h. (lies_in_window-one object window row h).0) (rows_over moments object)) at
    (AllPairs-filter IsBefore (lies_in_window object window) (filter is_dated (rows_over moments object)) up)

windows_apart : (moments : List ℕ) (object : Object) (windows : List ℤ) → HasRowsInOrder moments object → AllPairs AreApart windows → AllPairs HasOtherKey (flat_map (rows_in_over moments object) windows)
windows_apart moments object [] up apart = λ i j d lt below. absurd (omega (arith, below))
windows_apart moments object (w ∷ ws) up apart =
    AllPairs-append HasOtherKey (rows_in_over moments object w) (flat_map (rows_in_over moments object) ws)
    (AllPairs-weaker IsBefore HasOtherKey (λ a b before. inl before) (rows_in_over moments object w) (window_rising moments object w up))
    (windows_apart moments object ws up (AllPairs-tail AreApart w ws apart))
    (All-from_members (λ a. All (HasOtherKey a) (flat_map (rows_in_over moments object) ws)) (rows_in_over moments object w)
    (λ a c. All-from_members (HasOtherKey a) (flat_map (rows_in_over moments object) ws) (λ b d. across a b c d)))
  where
    across : (a b : Row) → Contains (rows_in_over moments object w) a → Contains (flat_map (rows_in_over moments object) ws) b → HasOtherKey a b
    across a b c d =
        let here = rows_in-only moments object w a c in
        let there = flat_map-window moments object ws b d in
        elim (rising-members (filter is_dated (rows_over moments object)) a b up (dated_member moments object a here.0 here.1) (dated_member moments object b there.1 there.2)) [
          | inl e ↦ absurd (All-contains (AreApart w) ws (window_of object b) (AllPairs-head AreApart w ws apart) there.0 (let same = here.2 in sym (rw e at same)))
          | inr other ↦ other
        ]

some_window : (windows : List ℤ) (w : ℤ) → list_any (same_int w) windows ≡ true → Contains windows w
some_window [] w h = absurd cc
some_window (x ∷ xs) w h = elim (cases_Bool (same_int w x)) [
  | inl v ↦ (0, omega arith, sym (same_int-true w x v))
  | inr v ↦ Contains-there x w xs (some_window xs w (rw v at h))
]

has_window : (windows : List ℤ) (w : ℤ) → Contains windows w → list_any (same_int w) windows ≡ true
has_window [] w c = let below = c.1 in absurd (omega (arith, below))
has_window (x ∷ xs) w c = elim (cases_Bool (same_int w x)) [
  | inl v ↦ rw v refl
  | inr v ↦ rw v (elim (Contains-split x w xs c) [
    | inl e ↦ absurd (let self : same_int w x ≡ true = rw e (same_int-self w) in cc)
    | inr b ↦ has_window xs w b
  ])
]

-- the rows of several windows, put in order, are the rows of the whole list that lie in these windows
pub in_order-windows : (moments : List ℕ) (object : Object) (windows : List ℤ) → HasRowsInOrder moments object → AllPairs AreApart windows →
    filter (lies_in_some object windows) (rows_over moments object) ≡ in_order (flat_map (rows_in_over moments object) windows)
in_order-windows moments object windows up apart =
    in_order-is (filter (lies_in_some object windows) (rows_over moments object)) (flat_map (rows_in_over moments object) windows)
    (rw (filter-within is_dated (lies_in_some object windows) (λ row h. (if_some_dated object windows row h).0) (rows_over moments object)) at
    (AllPairs-filter IsBefore (lies_in_some object windows) (filter is_dated (rows_over moments object)) up))
    (windows_apart moments object windows up apart)
    (λ row c. let both = Contains-unfilter (lies_in_some object windows) row (rows_over moments object) c in
    let lies = if_some_dated object windows row both.0 in
    window-flat_map moments object windows row (some_window windows (window_of object row) lies.1) both.1 lies.0)
    (λ row c. let there = flat_map-window moments object windows row c in
    Contains-filter (lies_in_some object windows) row (rows_over moments object) (let dated = there.2 in rw dated (has_window windows (window_of object row) there.0)) there.1)
