-- Lists in rising order: two with the same members are equal, and what `ascending` and `in_order` give rises and has the members of their input.
use Rattle.std.proofs.Common.{◌≡◌, zero, suc, ◌<◌, List, [], ◌∷◌, refl, sym, ◌∙◌, ap, arith, true, false, ℤ, ◌<ℤ◌, ◌⊎◌, inl, inr}
use Rattle.std.specs.Prelude.{All, AllPairs, Contains, int_lt, nat_le}
use Rattle.std.proofs.lemmas.Int.{ints}
use Rattle.std.proofs.lemmas.Bool.{cases_Bool}
use Rattle.std.proofs.lemmas.List.Elements.{All-head, All-tail, All-nil, All-cons, All-weaker, All-contains, All-contains_itself}
use Rattle.std.proofs.lemmas.List.Kept.{AllPairs-cons}
use Rattle.cal_model.specs.declared.row.Row.{Row}
use Rattle.cal_model.specs.Words.Integers.{same_int}
use Rattle.cal_model.specs.Instances.Starts.{put, ascending}
use Rattle.cal_model.specs.Instances.Rows.{comes_before, put_row, in_order}
use Rattle.cal_model.proofs.Words.IntegerLemmas.{same_int-self, same_int-true}
use Rattle.cal_model.proofs.Instances.EachRowLemmas.{All-put_row, All-in_order}

-- Members.

pub Contains-here : {X : Type 0} (x : X) (xs : List X) → Contains (x ∷ xs) x
Contains-here x xs = (0, omega arith, refl)

pub Contains-there : {X : Type 0} (x y : X) (xs : List X) → Contains xs y → Contains (x ∷ xs) y
Contains-there x y xs c = let below = c.1 in (suc c.0, omega (arith, below), c.2)

pub Contains-split : {X : Type 0} (x y : X) (xs : List X) → Contains (x ∷ xs) y → (x ≡ y) ⊎ Contains xs y
Contains-split x y xs (zero, below, e) = inl e
Contains-split x y xs (suc k, below, e) = inr (k, omega (arith, below), e)

Contains-none : {X : Type 0} (y : X) → Contains [] y → ⊥
Contains-none y c = let below = c.1 in omega (arith, below)

-- Pairs.

pub AllPairs-head : {X : Type 0} (R : X → X → Type 0) (x : X) (xs : List X) → AllPairs R (x ∷ xs) → All (R x) xs
AllPairs-head R x xs h k d below = h 0 (suc k) d (omega arith) (omega arith)

pub AllPairs-tail : {X : Type 0} (R : X → X → Type 0) (x : X) (xs : List X) → AllPairs R (x ∷ xs) → AllPairs R xs
AllPairs-tail R x xs h i j d lt below = h (suc i) (suc j) d (omega arith) (omega arith)

AllPairs-nil : {X : Type 0} (R : X → X → Type 0) → AllPairs R []
AllPairs-nil R i j d lt below = absurd (omega arith)

-- Two rising lists with the same members are equal, whatever the order is, as long as of two members only one comes before the other.

pub rising-unique : {X : Type 0} (R : X → X → Type 0) → ((x y : X) → R x y → R y x → ⊥) → (xs ys : List X) → AllPairs R xs → AllPairs R ys →
    ((z : X) → Contains xs z → Contains ys z) → ((z : X) → Contains ys z → Contains xs z) → xs ≡ ys
rising-unique R apart [] [] up on to from = refl
rising-unique R apart [] (y ∷ ys) up on to from = absurd (Contains-none y (from y (Contains-here y ys)))
rising-unique R apart (x ∷ xs) [] up on to from = absurd (Contains-none x (to x (Contains-here x xs)))
rising-unique {X} R apart (x ∷ xs) (y ∷ ys) up on to from =
    let same = heads (Contains-split y x ys (to x (Contains-here x xs))) (Contains-split x y xs (from y (Contains-here y ys))) in
    rw same (ap (λ rest. y ∷ rest) (rising-unique R apart xs ys (AllPairs-tail R x xs up) (AllPairs-tail R y ys on) (to_rest same) (from_rest same)))
  where
    heads : ((y ≡ x) ⊎ Contains ys x) → ((x ≡ y) ⊎ Contains xs y) → x ≡ y
    heads (inl e) c = sym e
    heads (inr b) (inl e) = e
    heads (inr b) (inr c) = absurd (apart x y (All-contains (R x) xs y (AllPairs-head R x xs up) c) (All-contains (R y) ys x (AllPairs-head R y ys on) b))

    to_rest : x ≡ y → (z : X) → Contains xs z → Contains ys z
    to_rest same z c = elim (Contains-split y z ys (to z (Contains-there x z xs c))) [
      | inl e ↦ (let before = All-contains (R x) xs z (AllPairs-head R x xs up) c in let itself : R z z = rw (same ∙ e) at before in absurd (apart z z itself itself))
      | inr b ↦ b
    ]

    from_rest : x ≡ y → (z : X) → Contains ys z → Contains xs z
    from_rest same z c = elim (Contains-split x z xs (from z (Contains-there y z ys c))) [
      | inl e ↦ (let before = All-contains (R y) ys z (AllPairs-head R y ys on) c in let itself : R z z = rw (sym same ∙ e) at before in absurd (apart z z itself itself))
      | inr b ↦ b
    ]

-- `ascending`.

abbrev pub IsBelow : ℤ → ℤ → Type 0
IsBelow a b = a <ℤ b

All-put : (P : ℤ → Type 0) (z : ℤ) (xs : List ℤ) → P z → All P xs → All P (put z xs)
All-put P z [] p all = All-cons P z [] p all
All-put P z (x ∷ xs) p all = elim (cases_Bool (int_lt z x)) [
  | inl w ↦ rw w (All-cons P z (x ∷ xs) p all)
  | inr w ↦ elim (cases_Bool (same_int z x)) [
    | inl v ↦ rw (w, v) all
    | inr v ↦ rw (w, v) (All-cons P x (put z xs) (All-head P x xs all) (All-put P z xs p (All-tail P x xs all)))
  ]
]

different : (z x : ℤ) → same_int z x ≡ false → (z ≡ x) → ⊥
different z x v e = let self : same_int z x ≡ true = rw e (same_int-self x) in absurd cc

put-rising : (z : ℤ) (xs : List ℤ) → AllPairs IsBelow xs → AllPairs IsBelow (put z xs)
put-rising z [] up = AllPairs-cons IsBelow z [] (All-nil _) up
put-rising z (x ∷ xs) up = elim (cases_Bool (int_lt z x)) [
  | inl w ↦ rw w (let lt : z <ℤ x = grind (arith, ints, w) in
      AllPairs-cons IsBelow z (x ∷ xs) (All-cons (IsBelow z) x xs lt (All-weaker (IsBelow x) (IsBelow z) (λ y h. omega (arith, ints, h, lt)) xs (AllPairs-head IsBelow x xs up))) up)
  | inr w ↦ elim (cases_Bool (same_int z x)) [
    | inl v ↦ rw (w, v) up
    | inr v ↦ rw (w, v) (let gt = above w v in
        AllPairs-cons IsBelow x (put z xs) (All-put (IsBelow x) z xs gt (AllPairs-head IsBelow x xs up)) (put-rising z xs (AllPairs-tail IsBelow x xs up)))
  ]
]
  where
    above : int_lt z x ≡ false → same_int z x ≡ false → x <ℤ z
    above w v = let no = different z x v in grind (arith, ints, w, no)

pub ascending-rising : (xs : List ℤ) → AllPairs IsBelow (ascending xs)
ascending-rising [] = AllPairs-nil IsBelow
ascending-rising (x ∷ xs) = put-rising x (ascending xs) (ascending-rising xs)

put-has : (z y : ℤ) (xs : List ℤ) → Contains (z ∷ xs) y → Contains (put z xs) y
put-has z y [] c = c
put-has z y (x ∷ xs) c = elim (cases_Bool (int_lt z x)) [
  | inl w ↦ rw w c
  | inr w ↦ elim (cases_Bool (same_int z x)) [
    | inl v ↦ rw (w, v) (elim (Contains-split z y (x ∷ xs) c) [
      | inl e ↦ (let same = same_int-true z x v in (0, omega arith, sym same ∙ e))
      | inr b ↦ b
    ])
    | inr v ↦ rw (w, v) (elim (Contains-split z y (x ∷ xs) c) [
      | inl e ↦ Contains-there x y (put z xs) (put-has z y xs (0, omega arith, e))
      | inr b ↦ elim (Contains-split x y xs b) [
        | inl e ↦ (0, omega arith, e)
        | inr a ↦ Contains-there x y (put z xs) (put-has z y xs (Contains-there z y xs a))
      ]
    ])
  ]
]

pub ascending-has : (y : ℤ) (xs : List ℤ) → Contains xs y → Contains (ascending xs) y
ascending-has y [] c = c
ascending-has y (x ∷ xs) c = elim (Contains-split x y xs c) [
  | inl e ↦ put-has x y (ascending xs) (0, omega arith, e)
  | inr b ↦ put-has x y (ascending xs) (Contains-there x y (ascending xs) (ascending-has y xs b))
]

-- whatever holds of each member still does; with the membership of a list as what holds, this says that nothing is added
pub All-ascending : (P : ℤ → Type 0) (xs : List ℤ) → All P xs → All P (ascending xs)
All-ascending P [] all = all
All-ascending P (x ∷ xs) all = All-put P x (ascending xs) (All-head P x xs all) (All-ascending P xs (All-tail P x xs all))

pub ascending-only : (y : ℤ) (xs : List ℤ) → Contains (ascending xs) y → Contains xs y
ascending-only y xs c = All-contains (Contains xs) (ascending xs) y (All-ascending (Contains xs) xs (All-contains_itself xs)) c

-- `in_order`.

-- one row stands before another by id, then component
pub data IsBefore (a b : Row) : Type 0 where
  by_id : a.id <ℤ b.id → IsBefore a b
  by_component : a.id ≡ b.id → a.component < b.component → IsBefore a b

IsBefore-apart : (a b : Row) → IsBefore a b → IsBefore b a → ⊥
IsBefore-apart a b (by_id lt) (by_id gt) = omega (arith, ints, lt, gt)
IsBefore-apart a b (by_id lt) (by_component e gt) = omega (arith, ints, lt, e)
IsBefore-apart a b (by_component e lt) (by_id gt) = omega (arith, ints, gt, e)
IsBefore-apart a b (by_component e lt) (by_component f gt) = omega (arith, lt, gt)

IsBefore-trans : (a b c : Row) → IsBefore a b → IsBefore b c → IsBefore a c
IsBefore-trans a b c (by_id lt) (by_id gt) = by_id (omega (arith, ints, lt, gt))
IsBefore-trans a b c (by_id lt) (by_component e gt) = by_id (omega (arith, ints, lt, e))
IsBefore-trans a b c (by_component e lt) (by_id gt) = by_id (omega (arith, ints, gt, e))
IsBefore-trans a b c (by_component e lt) (by_component f gt) = by_component (e ∙ f) (omega (arith, lt, gt))

-- two rows differ in id or component
abbrev pub HasOtherKey : Row → Row → Type 0
HasOtherKey a b = IsBefore a b ⊎ IsBefore b a

before_or_after : (a b : Row) → HasOtherKey a b → (comes_before a b ≡ true → IsBefore a b) × (comes_before a b ≡ false → IsBefore b a)
before_or_after a b (inl (by_id lt)) = (λ h. by_id lt, λ h. absurd (let w : int_lt a.id b.id ≡ true = grind (arith, ints, lt) in let e = rw w at h in cc))
before_or_after a b (inl (by_component e lt)) = (
  λ h. by_component e lt,
  λ h. absurd (
      let w : int_lt a.id b.id ≡ false = grind (arith, ints, e) in
      let v : same_int a.id b.id ≡ true = rw e (same_int-self b.id) in
      let u : nat_le a.component b.component ≡ true = grind (arith, lt) in
      let f = rw (w, v, u) at h in cc),
)
before_or_after a b (inr (by_id gt)) = (
  λ h. absurd (
      let w : int_lt a.id b.id ≡ false = grind (arith, ints, gt) in
      let v : same_int a.id b.id ≡ false = elim (cases_Bool (same_int a.id b.id)) [ inl s ↦ (let e = same_int-true a.id b.id s in absurd (omega (arith, ints, gt, e))) | inr s ↦ s ] in
      let f = rw (w, v) at h in cc),
  λ h. by_id gt,
)
before_or_after a b (inr (by_component e gt)) = (
  λ h. absurd (
      let w : int_lt a.id b.id ≡ false = grind (arith, ints, e) in
      let v : same_int a.id b.id ≡ true = rw e (same_int-self a.id) in
      let u : nat_le a.component b.component ≡ false = grind (arith, gt) in
      let f = rw (w, v, u) at h in cc),
  λ h. by_component e gt,
)

put_row-rising : (row : Row) (xs : List Row) → All (HasOtherKey row) xs → AllPairs IsBefore xs → AllPairs IsBefore (put_row row xs)
put_row-rising row [] other up = AllPairs-cons IsBefore row [] (All-nil _) up
put_row-rising row (x ∷ xs) other up = elim (cases_Bool (comes_before row x)) [
  | inl w ↦ rw w (let lt = (before_or_after row x (All-head (HasOtherKey row) x xs other)).0 w in
      AllPairs-cons IsBefore row (x ∷ xs) (All-cons (IsBefore row) x xs lt (All-weaker (IsBefore x) (IsBefore row) (λ y h. IsBefore-trans row x y lt h) xs (AllPairs-head IsBefore x xs up))) up)
  | inr w ↦ rw w (let gt = (before_or_after row x (All-head (HasOtherKey row) x xs other)).1 w in
      AllPairs-cons IsBefore x (put_row row xs) (All-put_row (IsBefore x) row xs gt (AllPairs-head IsBefore x xs up)) (put_row-rising row xs (All-tail (HasOtherKey row) x xs other) (AllPairs-tail IsBefore x xs up)))
]

-- rows that differ in id or component stand in order
pub in_order-rising : (xs : List Row) → AllPairs HasOtherKey xs → AllPairs IsBefore (in_order xs)
in_order-rising [] other = AllPairs-nil IsBefore
in_order-rising (x ∷ xs) other =
    put_row-rising x (in_order xs) (All-in_order (HasOtherKey x) xs (AllPairs-head HasOtherKey x xs other)) (in_order-rising xs (AllPairs-tail HasOtherKey x xs other))

put_row-has : (row y : Row) (xs : List Row) → Contains (row ∷ xs) y → Contains (put_row row xs) y
put_row-has row y [] c = c
put_row-has row y (x ∷ xs) c = elim (cases_Bool (comes_before row x)) [
  | inl w ↦ rw w c
  | inr w ↦ rw w (elim (Contains-split row y (x ∷ xs) c) [
    | inl e ↦ Contains-there x y (put_row row xs) (put_row-has row y xs (0, omega arith, e))
    | inr b ↦ elim (Contains-split x y xs b) [
      | inl e ↦ (0, omega arith, e)
      | inr a ↦ Contains-there x y (put_row row xs) (put_row-has row y xs (Contains-there row y xs a))
    ]
  ])
]

pub in_order-has : (y : Row) (xs : List Row) → Contains xs y → Contains (in_order xs) y
in_order-has y [] c = c
in_order-has y (x ∷ xs) c = elim (Contains-split x y xs c) [
  | inl e ↦ put_row-has x y (in_order xs) (0, omega arith, e)
  | inr b ↦ put_row-has x y (in_order xs) (Contains-there x y (in_order xs) (in_order-has y xs b))
]

pub in_order-only : (y : Row) (xs : List Row) → Contains (in_order xs) y → Contains xs y
in_order-only y xs c = All-contains (Contains xs) (in_order xs) y (All-in_order (Contains xs) xs (All-contains_itself xs)) c

-- a list of rows in order is `in_order` of any list with its members, in which no key stands twice
pub in_order-is : (xs ys : List Row) → AllPairs IsBefore xs → AllPairs HasOtherKey ys → ((z : Row) → Contains xs z → Contains ys z) → ((z : Row) → Contains ys z → Contains xs z) → xs ≡ in_order ys
in_order-is xs ys up other to from =
    rising-unique IsBefore IsBefore-apart xs (in_order ys) up (in_order-rising ys other) (λ z c. in_order-has z ys (to z c)) (λ z c. from z (in_order-only z ys c))

-- a rising list of numbers is `ascending` of any list with its members
pub ascending-is : (xs ys : List ℤ) → AllPairs IsBelow xs → ((z : ℤ) → Contains xs z → Contains ys z) → ((z : ℤ) → Contains ys z → Contains xs z) → xs ≡ ascending ys
ascending-is xs ys up to from =
    rising-unique IsBelow (λ a b lt gt. omega (arith, ints, lt, gt)) xs (ascending ys) up (ascending-rising ys) (λ z c. ascending-has z ys (to z c)) (λ z c. from z (ascending-only z ys c))
