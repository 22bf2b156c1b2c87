-- Rows that are sorted by id, then component, those that agree in both as they stood, are in order.
use Rattle.std.proofs.Common.{◌≡◌, ℕ, suc, ◌+◌, ◌<◌, ◌≤◌, List, [], ◌∷◌, length, get_or, refl, sym, ap, ◌∙◌, arith, Bool, true, false, ◌⊎◌, inl, inr, Less, Equal, Greater, nat_lt}
use Rattle.std.specs.Prelude.{AllPairs, Contains, filter, nat_le, ◌==◌, ◌&&◌, int_lt, if◌then◌else◌}
use Rattle.std.specs.Ordering.{int_cmp, nat_cmp, is_lt, ordering_then}
use Rattle.std.specs.List.Sorted.{ties}
use Rattle.std.proofs.lemmas.Int.{ints, by_lt_z}
use Rattle.std.proofs.lemmas.Bool.{cases_Bool, ltb-true, ltb-false}
use Rattle.std.proofs.lemmas.List.Elements.{All-nil, All-cons, All-weaker, All-contains}
use Rattle.std.proofs.lemmas.List.Kept.{AllPairs-cons}
use Rattle.cal_model.specs.declared.row.Row.{Row}
use Rattle.cal_model.specs.Words.Integers.{same_int}
use Rattle.cal_model.specs.Instances.Rows.{comes_before, put_row, in_order}
use Rattle.cal_model.proofs.Words.IntegerLemmas.{same_int-self, same_int-true}
use Rattle.cal_model.proofs.Instances.EachRowLemmas.{All-put_row}
use Rattle.cal_model.proofs.Instances.RisingLists.{IsBefore, by_id, by_component, AllPairs-head, AllPairs-tail, Contains-split, Contains-here}
use Rattle.cal_model.proofs.Ranges.WindowLaws.{Contains-unfilter}

-- Keys.

-- a row has the key of another
abbrev pub has_key : Row → Row → Bool
has_key a b = same_int b.id a.id && (b.component == a.component)

eq_self : (n : ℕ) → (n == n) ≡ true
eq_self n = grind arith

pub has_key-self : (a : Row) → has_key a a ≡ true
has_key-self a = let here = same_int-self a.id in let there = eq_self a.component in rw (here, there) refl

key_of_true : (a b : Row) → has_key a b ≡ true → (b.id ≡ a.id) × (b.component ≡ a.component)
key_of_true a b h = elim (cases_Bool (same_int b.id a.id)) [
  | inl w ↦ (same_int-true b.id a.id w, (let rest = rw w at h in grind (arith, rest)))
  | inr w ↦ absurd (let e = rw w at h in cc)
]

true_of_key : (a b : Row) → b.id ≡ a.id → b.component ≡ a.component → has_key a b ≡ true
true_of_key a b ids numbers =
    let here : same_int b.id a.id ≡ true = rw ids (same_int-self a.id) in
    let there : (b.component == a.component) ≡ true = rw numbers (eq_self a.component) in
    rw (here, there) refl

-- a row is not after another
abbrev pub NotAfter : Row → Row → Type 0
NotAfter a b = (has_key a b ≡ true) ⊎ IsBefore a b

three : (a b : Row) → (P : Type 0) → (IsBefore a b → P) → ((a.id ≡ b.id) × (a.component ≡ b.component) → P) → (IsBefore b a → P) → P
three a b P before same after =
    by_lt_z a.id b.id (λ lt. before (by_id lt))
    (λ ge. by_lt_z b.id a.id (λ gt. after (by_id gt))
    (λ le. let ids : a.id ≡ b.id = omega (arith, ints, ge, le) in elim (cases_Bool (nat_lt a.component b.component)) [
      | inl w ↦ before (by_component ids (ltb-true _ _ w))
      | inr w ↦ elim (cases_Bool (nat_lt b.component a.component)) [
        | inl v ↦ after (by_component (sym ids) (ltb-true _ _ v))
        | inr v ↦ (let x = ltb-false _ _ w in let y = ltb-false _ _ v in same (ids, omega (arith, x, y)))
      ]
    ]))

before_trans : (a b c : Row) → IsBefore a b → IsBefore b c → IsBefore a c
before_trans a b c (by_id lt) (by_id gt) = by_id (omega (arith, ints, lt, gt))
before_trans a b c (by_id lt) (by_component e gt) = by_id (omega (arith, ints, lt, e))
before_trans a b c (by_component e lt) (by_id gt) = by_id (omega (arith, ints, gt, e))
before_trans a b c (by_component e lt) (by_component f gt) = by_component (e ∙ f) (omega (arith, lt, gt))

same_before : (a b c : Row) → b.id ≡ a.id → b.component ≡ a.component → IsBefore b c → IsBefore a c
same_before a b c e f (by_id lt) = by_id (omega (arith, ints, lt, e))
same_before a b c e f (by_component g lt) = by_component (sym e ∙ g) (omega (arith, lt, f))

before_same : (a b c : Row) → c.id ≡ b.id → c.component ≡ b.component → IsBefore a b → IsBefore a c
before_same a b c e f (by_id lt) = by_id (omega (arith, ints, lt, e))
before_same a b c e f (by_component g lt) = by_component (g ∙ sym e) (omega (arith, lt, f))

not_after_trans : (a b c : Row) → NotAfter a b → NotAfter b c → NotAfter a c
not_after_trans a b c (inl k) (inl l) = let x = key_of_true a b k in let y = key_of_true b c l in inl (true_of_key a c (y.0 ∙ x.0) (y.1 ∙ x.1))
not_after_trans a b c (inl k) (inr l) = let x = key_of_true a b k in inr (same_before a b c x.0 x.1 l)
not_after_trans a b c (inr k) (inl l) = let y = key_of_true b c l in inr (before_same a b c y.0 y.1 k)
not_after_trans a b c (inr k) (inr l) = inr (before_trans a b c k l)

before_apart : (a b : Row) → IsBefore a b → IsBefore b a → ⊥
before_apart a b (by_id lt) (by_id gt) = omega (arith, ints, lt, gt)
before_apart a b (by_id lt) (by_component e gt) = omega (arith, ints, lt, e)
before_apart a b (by_component e lt) (by_id gt) = omega (arith, ints, gt, e)
before_apart a b (by_component e lt) (by_component f gt) = omega (arith, lt, gt)

both_ways : (a b : Row) → NotAfter a b → NotAfter b a → has_key a b ≡ true
both_ways a b (inl k) l = k
both_ways a b (inr k) (inl l) = let y = key_of_true b a l in true_of_key a b (sym y.0) (sym y.1)
both_ways a b (inr k) (inr l) = absurd (before_apart a b k l)

-- The order that `in_order` puts rows in.

comes_before-same : (a b : Row) → a.id ≡ b.id → a.component ≡ b.component → comes_before a b ≡ true
comes_before-same a b e f =
    let w : int_lt a.id b.id ≡ false = grind (arith, ints, e) in
    let v : same_int a.id b.id ≡ true = rw e (same_int-self b.id) in
    let u : nat_le a.component b.component ≡ true = grind (arith, f) in
    rw (w, v, u) refl

comes_before-true : (a b : Row) → IsBefore a b → comes_before a b ≡ true
comes_before-true a b (by_id lt) = let w : int_lt a.id b.id ≡ true = grind (arith, ints, lt) in rw w refl
comes_before-true a b (by_component e lt) =
    let w : int_lt a.id b.id ≡ false = grind (arith, ints, e) in
    let v : same_int a.id b.id ≡ true = rw e (same_int-self b.id) in
    let u : nat_le a.component b.component ≡ true = grind (arith, lt) in
    rw (w, v, u) refl

comes_before-false : (a b : Row) → IsBefore b a → comes_before a b ≡ false
comes_before-false a b (by_id gt) =
    let w : int_lt a.id b.id ≡ false = grind (arith, ints, gt) in
    let v : same_int a.id b.id ≡ false = elim (cases_Bool (same_int a.id b.id)) [ inl s ↦ (let e = same_int-true a.id b.id s in absurd (omega (arith, ints, gt, e))) | inr s ↦ s ] in
    rw (w, v) refl
comes_before-false a b (by_component e gt) =
    let w : int_lt a.id b.id ≡ false = grind (arith, ints, e) in
    let v : same_int a.id b.id ≡ true = rw e (same_int-self a.id) in
    let u : nat_le a.component b.component ≡ false = grind (arith, gt) in
    rw (w, v, u) refl

of_comes_before : (a b : Row) → comes_before a b ≡ true → NotAfter a b
of_comes_before a b h = three a b (NotAfter a b) (λ x. inr x) (λ s. inl (true_of_key a b (sym s.0) (sym s.1))) (λ x. absurd (let no = comes_before-false a b x in cc))

of_comes_after : (a b : Row) → comes_before a b ≡ false → IsBefore b a
of_comes_after a b h = three a b (IsBefore b a) (λ x. absurd (let yes = comes_before-true a b x in cc)) (λ s. absurd (let yes = comes_before-same a b s.0 s.1 in cc)) (λ x. x)

put_row-sorted : (row : Row) (xs : List Row) → AllPairs NotAfter xs → AllPairs NotAfter (put_row row xs)
put_row-sorted row [] up = AllPairs-cons NotAfter row [] (All-nil _) up
put_row-sorted row (x ∷ xs) up = elim (cases_Bool (comes_before row x)) [
  | inl w ↦ rw w (let le = of_comes_before row x w in
      AllPairs-cons NotAfter row (x ∷ xs) (All-cons (NotAfter row) x xs le (All-weaker (NotAfter x) (NotAfter row) (λ y h. not_after_trans row x y le h) xs (AllPairs-head NotAfter x xs up))) up)
  | inr w ↦ rw w (AllPairs-cons NotAfter x (put_row row xs) (All-put_row (NotAfter x) row xs (inr (of_comes_after row x w)) (AllPairs-head NotAfter x xs up)) (put_row-sorted row xs (AllPairs-tail NotAfter x xs up)))
]

in_order-sorted : (xs : List Row) → AllPairs NotAfter (in_order xs)
in_order-sorted [] = λ i j d lt below. absurd (omega (arith, below))
in_order-sorted (x ∷ xs) = put_row-sorted x (in_order xs) (in_order-sorted xs)

put_row-stable : (z row : Row) (xs : List Row) → filter (has_key z) (put_row row xs) ≡ filter (has_key z) (row ∷ xs)
put_row-stable z row [] = refl
put_row-stable z row (x ∷ xs) = elim (cases_Bool (comes_before row x)) [
  | inl w ↦ rw w refl
  | inr w ↦ (let rest = put_row-stable z row xs in rw w (elim (cases_Bool (has_key z x)) [
    | inl v ↦ elim (cases_Bool (has_key z row)) [
      | inl u ↦ absurd (let a = key_of_true z x v in let b = key_of_true z row u in let yes = comes_before-same row x (b.0 ∙ sym a.0) (b.1 ∙ sym a.1) in cc)
      | inr u ↦ (let kept = rw u at rest in rw (v, u) (ap (λ ys. x ∷ ys) kept))
    ]
    | inr v ↦ elim (cases_Bool (has_key z row)) [
      | inl u ↦ (let kept = rw u at rest in rw (v, u) kept)
      | inr u ↦ (let kept = rw u at rest in rw (v, u) kept)
    ]
  ]))
]

in_order-stable : (z : Row) (xs : List Row) → filter (has_key z) (in_order xs) ≡ filter (has_key z) xs
in_order-stable z [] = refl
in_order-stable z (x ∷ xs) = put_row-stable z x (in_order xs) ∙ first (has_key z x) (in_order-stable z xs)
  where
    first : (b : Bool) {ys zs : List Row} → ys ≡ zs → (if b then x ∷ ys else ys) ≡ (if b then x ∷ zs else zs)
    first b e = ap (λ rest. if b then x ∷ rest else rest) e

-- Two lists in order, in which those of each key stand alike, are equal.

first_contained : (y : Row) (ys zs : List Row) → ((x : Row) → filter (has_key x) (y ∷ ys) ≡ filter (has_key x) zs) → Contains zs y
first_contained y ys zs same =
    let kept : filter (has_key y) zs ≡ y ∷ filter (has_key y) ys = let e = same y in let w = has_key-self y in sym e ∙ rw w refl in
    let there : Contains (filter (has_key y) zs) y = rw kept (Contains-here y (filter (has_key y) ys)) in
    (Contains-unfilter (has_key y) y zs there).1

first_not_after : (y z : Row) (zs : List Row) → AllPairs NotAfter (z ∷ zs) → Contains (z ∷ zs) y → NotAfter z y
first_not_after y z zs up c = elim (Contains-split z y zs c) [
  | inl e ↦ (let self = has_key-self z in inl (rw (← e) self))
  | inr later ↦ All-contains (NotAfter z) zs y (AllPairs-head NotAfter z zs up) later
]

cons_first : (x y : Row) (xs ys : List Row) → x ∷ xs ≡ y ∷ ys → x ≡ y
cons_first x y xs ys e = cc

cons_rest : (x y : Row) (xs ys : List Row) → x ∷ xs ≡ y ∷ ys → xs ≡ ys
cons_rest x y xs ys e = cc

tails_same : (y z : Row) (ys zs : List Row) → y ≡ z → ((x : Row) → filter (has_key x) (y ∷ ys) ≡ filter (has_key x) (z ∷ zs)) → (x : Row) → filter (has_key x) ys ≡ filter (has_key x) zs
tails_same y z ys zs e same x = elim (cases_Bool (has_key x z)) [
  | inl w ↦ (let v : has_key x y ≡ true = rw e w in cons_rest y z (filter (has_key x) ys) (filter (has_key x) zs) (rw (v, w) at (same x)))
  | inr w ↦ (let v : has_key x y ≡ false = rw e w in rw (v, w) at (same x))
]

pub sorted_same : (ys zs : List Row) → AllPairs NotAfter ys → AllPairs NotAfter zs → ((x : Row) → filter (has_key x) ys ≡ filter (has_key x) zs) → ys ≡ zs
sorted_same [] [] up down same = refl
sorted_same [] (z ∷ zs) up down same = absurd (let c = first_contained z zs [] (λ x. sym (same x)) in let below = c.1 in omega (arith, below))
sorted_same (y ∷ ys) [] up down same = absurd (let c = first_contained y ys [] same in let below = c.1 in omega (arith, below))
sorted_same (y ∷ ys) (z ∷ zs) up down same =
    let there = first_not_after y z zs down (first_contained y ys (z ∷ zs) same) in
    let back = first_not_after z y ys up (first_contained z zs (y ∷ ys) (λ x. sym (same x))) in
    let key = both_ways y z back there in
    let self = has_key-self y in
    let heads = rw (self, key) at (same y) in
    let e = cons_first y z (filter (has_key y) ys) (filter (has_key y) zs) heads in
    let rest = sorted_same ys zs (AllPairs-tail NotAfter y ys up) (AllPairs-tail NotAfter z zs down) (tails_same y z ys zs e same) in
    cc

-- What a sort by id, then component, says.

-- the order of keys
abbrev pub key_below : Row → Row → Bool
key_below a b = is_lt (ordering_then (int_cmp a.id b.id) (nat_cmp a.component b.component))

below_of_before : (a b : Row) → IsBefore a b → key_below a b ≡ true
below_of_before a b (by_id lt) = let less : int_cmp a.id b.id ≡ Less = grind (arith, ints, lt) in rw less refl
below_of_before a b (by_component e lt) =
    let equal : int_cmp a.id b.id ≡ Equal = grind (arith, ints, e) in
    let less : nat_cmp a.component b.component ≡ Less = grind (arith, lt) in
    rw (equal, less) refl

not_below_of_after : (a b : Row) → IsBefore b a → key_below a b ≡ false
not_below_of_after a b (by_id gt) = let more : int_cmp a.id b.id ≡ Greater = grind (arith, ints, gt) in rw more refl
not_below_of_after a b (by_component e gt) =
    let equal : int_cmp a.id b.id ≡ Equal = grind (arith, ints, e) in
    let more : nat_cmp a.component b.component ≡ Greater = grind (arith, gt) in
    rw (equal, more) refl

not_below_of_same : (a b : Row) → a.id ≡ b.id → a.component ≡ b.component → key_below a b ≡ false
not_below_of_same a b e f =
    let equal : int_cmp a.id b.id ≡ Equal = grind (arith, ints, e) in
    let also : nat_cmp a.component b.component ≡ Equal = grind (arith, f) in
    rw (equal, also) refl

pub not_after : (x y : Row) → key_below y x ≡ false → NotAfter x y
not_after x y h = three x y (NotAfter x y) (λ b. inr b) (λ s. inl (true_of_key x y (sym s.0) (sym s.1))) (λ b. absurd (let yes = below_of_before y x b in cc))

other_key : (x y : Row) → IsBefore x y → has_key x y ≡ false
other_key x y (by_id lt) = elim (cases_Bool (has_key x y)) [ inl w ↦ (let k = key_of_true x y w in absurd (omega (arith, ints, lt, k))) | inr w ↦ w ]
other_key x y (by_component e lt) = elim (cases_Bool (has_key x y)) [ inl w ↦ (let k = key_of_true x y w in absurd (omega (arith, lt, k))) | inr w ↦ w ]

other_key_after : (x y : Row) → IsBefore y x → has_key x y ≡ false
other_key_after x y (by_id lt) = elim (cases_Bool (has_key x y)) [ inl w ↦ (let k = key_of_true x y w in absurd (omega (arith, ints, lt, k))) | inr w ↦ w ]
other_key_after x y (by_component e lt) = elim (cases_Bool (has_key x y)) [ inl w ↦ (let k = key_of_true x y w in absurd (omega (arith, lt, k))) | inr w ↦ w ]

-- two rows tie where their keys are equal
ties_of_key : (x y : Row) → ties key_below x y ≡ has_key x y
ties_of_key x y = three x y (ties key_below x y ≡ has_key x y)
    (λ b. let up = below_of_before x y b in let other = other_key x y b in rw (up, other) refl)
    (λ s. let up = not_below_of_same x y s.0 s.1 in let down = not_below_of_same y x (sym s.0) (sym s.1) in let key = true_of_key x y (sym s.0) (sym s.1) in rw (up, down, key) refl)
    (λ b. let up = not_below_of_after x y b in let down = below_of_before y x b in let other = other_key_after x y b in rw (up, down, other) refl)

filter_same : (p q : Row → Bool) (xs : List Row) → ((x : Row) → p x ≡ q x) → filter p xs ≡ filter q xs
filter_same p q [] h = refl
filter_same p q (x ∷ xs) h = elim (cases_Bool (q x)) [
  | inl w ↦ (let v : p x ≡ true = h x ∙ w in rw (v, w) (ap (λ ys. x ∷ ys) (filter_same p q xs h)))
  | inr w ↦ (let v : p x ≡ false = h x ∙ w in rw (v, w) (filter_same p q xs h))
]

-- each is not after the next
abbrev pub Climbs : List Row → Type 0
Climbs xs = (k : ℕ) (d : Row) → k + 1 < length xs → NotAfter (get_or xs k d) (get_or xs (k + 1) d)

climbs_tail : (x : Row) (xs : List Row) → Climbs (x ∷ xs) → Climbs xs
climbs_tail x xs h k d below = let next : suc k + 1 ≡ suc (k + 1) = omega arith in rw next at (h (suc k) d (omega (arith, below)))

climbing : (ys : List Row) → Climbs ys → AllPairs NotAfter ys
climbing [] up = λ i j d lt below. absurd (omega (arith, below))
climbing (x ∷ []) up = λ i j d lt below. absurd (omega (arith, lt, below))
climbing (x ∷ y ∷ ys) up =
    let rest = climbing (y ∷ ys) (climbs_tail x (y ∷ ys) up) in
    let first : NotAfter x y = up 0 x (omega arith) in
    AllPairs-cons NotAfter x (y ∷ ys) (All-cons (NotAfter x) y ys first (All-weaker (NotAfter y) (NotAfter x) (λ z h. not_after_trans x y z first h) ys (AllPairs-head NotAfter y ys rest))) rest

pub sorted_in_order : (xs ys : List Row) → ((k : ℕ) (d : Row) → 0 ≤ k → k + 1 < length ys → key_below (get_or ys (k + 1) d) (get_or ys k d) ≡ false) →
    ((x : Row) → filter (ties key_below x) ys ≡ filter (ties key_below x) xs) → ys ≡ in_order xs
sorted_in_order xs ys sorted stable =
    sorted_same ys (in_order xs) (climbing ys (λ k d below. not_after (get_or ys k d) (get_or ys (k + 1) d) (sorted k d (omega arith) below))) (in_order-sorted xs)
    (λ x. filter_same (has_key x) (ties key_below x) ys (λ y. sym (ties_of_key x y)) ∙ (stable x ∙ (filter_same (ties key_below x) (has_key x) xs (ties_of_key x) ∙ sym (in_order-stable x xs))))
