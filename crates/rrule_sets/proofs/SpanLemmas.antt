-- The latest end of the spans that begin at a start stands last among them, where spans are sorted by start, then end.
use Rattle.std.proofs.Common.{◌≡◌, ℕ, zero, suc, ◌+◌, ◌<◌, ◌≤◌, List, [], ◌∷◌, length, get_or, refl, sym, ◌∙◌, arith, true, false, ℤ, ◌<ℤ◌, ◌≤ℤ◌, inl, inr, Less, Equal, nat_lt}
use Rattle.std.specs.Prelude.{All, AllPairs, Contains, int_le, int_lt}
use Rattle.std.specs.Ordering.{int_cmp, is_lt, ordering_then}
use Rattle.std.specs.List.Sorted.{IsPartitionedBy}
use Rattle.std.proofs.lemmas.Int.{ints, by_lt_z}
use Rattle.std.proofs.lemmas.Bool.{cases_Bool, ltb-true, ltb-false}
use Rattle.std.proofs.lemmas.List.Elements.{All-head, All-tail, All-cons, All-weaker}
use Rattle.std.proofs.lemmas.List.Kept.{AllPairs-cons}
use Rattle.cal_model.specs.Words.Integers.{same_int, greatest_of}
use Rattle.cal_model.specs.Instances.Starts.{latest_of}
use Rattle.cal_model.proofs.Words.IntegerLemmas.{same_int-self, same_int-true}
use Rattle.cal_model.proofs.Instances.RisingLists.{AllPairs-head, AllPairs-tail, Contains-here, Contains-there}
use Rattle.rrule_sets.specs.PeriodSpans.{IsNotAfter, ends_at}

not_after_trans : (a b c : ℤ × ℤ) → IsNotAfter a b → IsNotAfter b c → IsNotAfter a c
not_after_trans a b c (inl x) (inl y) = inl (omega (arith, ints, x, y))
not_after_trans a b c (inl x) (inr y) = inl (omega (arith, ints, x, y))
not_after_trans a b c (inr x) (inl y) = inl (omega (arith, ints, x, y))
not_after_trans a b c (inr x) (inr y) = inr (x.0 ∙ y.0, omega (arith, ints, x, y))

-- what a sort says of two neighbours
pub not_after : (x y : ℤ × ℤ) → is_lt (ordering_then (int_cmp y.0 x.0) (int_cmp y.1 x.1)) ≡ false → IsNotAfter x y
not_after x y h =
    by_lt_z x.0 y.0 (λ lt. inl lt)
    (λ ge. by_lt_z y.0 x.0
    (λ gt. absurd (let less : int_cmp y.0 x.0 ≡ Less = grind (arith, ints, gt) in let e = rw less at h in cc))
    (λ le. let same : x.0 ≡ y.0 = omega (arith, ints, ge, le) in
    let equal : int_cmp y.0 x.0 ≡ Equal = grind (arith, ints, same) in
    by_lt_z y.1 x.1
    (λ lower. absurd (let less : int_cmp y.1 x.1 ≡ Less = grind (arith, ints, lower) in let e = rw (equal, less) at h in cc))
    (λ up. inr (same, omega (arith, ints, up)))))

abbrev Climbs : List (ℤ × ℤ) → Type 0
Climbs xs = (k : ℕ) (d : ℤ × ℤ) → k + 1 < length xs → IsNotAfter (get_or xs k d) (get_or xs (k + 1) d)

climbs_tail : (x : ℤ × ℤ) (xs : List (ℤ × ℤ)) → Climbs (x ∷ xs) → Climbs xs
climbs_tail x xs h k d below = let next : suc k + 1 ≡ suc (k + 1) = omega arith in rw next at (h (suc k) d (omega (arith, below)))

pub climbing : (ys : List (ℤ × ℤ)) → Climbs ys → AllPairs IsNotAfter ys
climbing [] up = λ i j d lt below. absurd (omega (arith, below))
climbing (x ∷ []) up = λ i j d lt below. absurd (omega (arith, lt, below))
climbing (x ∷ y ∷ ys) up =
    let rest = climbing (y ∷ ys) (climbs_tail x (y ∷ ys) up) in
    let first : IsNotAfter x y = up 0 x (omega arith) in
    AllPairs-cons IsNotAfter x (y ∷ ys) (All-cons (IsNotAfter x) y ys first (All-weaker (IsNotAfter y) (IsNotAfter x) (λ z h. not_after_trans x y z first h) ys (AllPairs-head IsNotAfter y ys rest))) rest

pub sorted_spans : (ys : List (ℤ × ℤ)) → ((k : ℕ) (d : ℤ × ℤ) → 0 ≤ k → k + 1 < length ys → is_lt (ordering_then (int_cmp (get_or ys (k + 1) d).0 (get_or ys k d).0) (int_cmp (get_or ys (k + 1) d).1 (get_or ys k d).1)) ≡ false) → AllPairs IsNotAfter ys
sorted_spans ys sorted = climbing ys (λ k d below. not_after (get_or ys k d) (get_or ys (k + 1) d) (sorted k d (omega arith) below))

-- A search by starts.

starts_up : (a b : ℤ × ℤ) → IsNotAfter a b → a.0 ≤ℤ b.0
starts_up a b (inl lt) = omega (arith, ints, lt)
starts_up a b (inr e) = omega (arith, ints, e)

pub partitioned : (spans : List (ℤ × ℤ)) (start : ℤ) → AllPairs IsNotAfter spans → IsPartitionedBy (λ (span : ℤ × ℤ). int_le span.0 start) spans
partitioned spans start up i j d le below h = elim (cases_Bool (nat_lt i j)) [
  | inl w ↦ (let rises = starts_up (get_or spans i d) (get_or spans j d) (up i j d (ltb-true _ _ w) below) in let at : (get_or spans j d).0 ≤ℤ start = grind (arith, ints, h) in let before : (get_or spans i d).0 ≤ℤ start = omega (arith, ints, rises, at) in grind (arith, ints, before))
  | inr w ↦ (let ge = ltb-false _ _ w in let same : i ≡ j = omega (arith, ge, le) in rw same h)
]

-- The end of the last span at or before a start.

other_int : (a b : ℤ) → b <ℤ a → same_int a b ≡ false
other_int a b lt = elim (cases_Bool (same_int a b)) [ inl w ↦ (let e = same_int-true a b w in absurd (omega (arith, ints, lt, e))) | inr w ↦ w ]

other_int_after : (a b : ℤ) → a <ℤ b → same_int a b ≡ false
other_int_after a b lt = elim (cases_Bool (same_int a b)) [ inl w ↦ (let e = same_int-true a b w in absurd (omega (arith, ints, lt, e))) | inr w ↦ w ]

-- no span from here on begins at a start that is before them all
none_later : (spans : List (ℤ × ℤ)) (start : ℤ) → All (λ (s : ℤ × ℤ). start <ℤ s.0) spans → ends_at start spans ≡ []
none_later [] start all = refl
none_later (s ∷ ss) start all =
    let other = other_int_after start s.0 (All-head (λ (s : ℤ × ℤ). start <ℤ s.0) s ss all) in
    rw other (none_later ss start (All-tail (λ (s : ℤ × ℤ). start <ℤ s.0) s ss all))

pub none_at : (spans : List (ℤ × ℤ)) (start : ℤ) → ((k : ℕ) (d : ℤ × ℤ) → 0 ≤ k → k < length spans → int_le (get_or spans k d).0 start ≡ false) → ends_at start spans ≡ []
none_at [] start after = refl
none_at (s ∷ ss) start after =
    let h = after 0 s (omega arith) (omega arith) in
    let lt : start <ℤ s.0 = grind (arith, ints, h) in
    let other = other_int_after start s.0 lt in
    rw other (none_at ss start (λ k d low below. after (suc k) d (omega arith) (omega (arith, below))))

-- a number between one and the greatest beside it leaves that the greatest
greatest_raised : (ys : List ℤ) (a z g : ℤ) → z ≤ℤ a → a ≤ℤ g → greatest_of z ys ≡ g → greatest_of a ys ≡ g
greatest_raised [] a z g low high e = omega (arith, ints, low, high, e)
greatest_raised (y ∷ ys) a z g low high e = elim (cases_Bool (int_lt z y)) [
  | inl w ↦ (let rest = rw w at e in elim (cases_Bool (int_lt a y)) [
    | inl v ↦ rw v rest
    | inr v ↦ rw v (let le : y ≤ℤ a = grind (arith, ints, v) in greatest_raised ys a y g le high rest)
  ])
  | inr w ↦ (let rest = rw w at e in elim (cases_Bool (int_lt a y)) [
    | inl v ↦ absurd (let lt : a <ℤ y = grind (arith, ints, v) in let le : y ≤ℤ z = grind (arith, ints, w) in omega (arith, ints, lt, le, low))
    | inr v ↦ rw v (greatest_raised ys a z g low high rest)
  ])
]

greatest_more : (a z : ℤ) (zs : List ℤ) (g : ℤ) → a ≤ℤ g → greatest_of z zs ≡ g → greatest_of a (z ∷ zs) ≡ g
greatest_more a z zs g high e = elim (cases_Bool (int_lt a z)) [
  | inl w ↦ rw w e
  | inr w ↦ rw w (let le : z ≤ℤ a = grind (arith, ints, w) in greatest_raised zs a z g le high e)
]

not_empty_more : (none a g : ℤ) (ends : List ℤ) → Contains ends g → latest_of none ends ≡ g → a ≤ℤ g → latest_of none (a ∷ ends) ≡ g
not_empty_more none a g [] there e le = absurd (let below = there.1 in omega (arith, below))
not_empty_more none a g (z ∷ zs) there e le = greatest_more a z zs g le e

ends_contain : (spans : List (ℤ × ℤ)) (start : ℤ) (k : ℕ) (d : ℤ × ℤ) → k < length spans → same_int start (get_or spans k d).0 ≡ true → Contains (ends_at start spans) (get_or spans k d).1
ends_contain [] start k d below at = absurd (omega (arith, below))
ends_contain (s ∷ ss) start zero d below at = rw at (Contains-here s.1 (ends_at start ss))
ends_contain (s ∷ ss) start (suc k) d below at =
    let there = ends_contain ss start k d (omega (arith, below)) at in
    elim (cases_Bool (same_int start s.0)) [
      | inl w ↦ rw w (Contains-there s.1 (get_or ss k d).1 (ends_at start ss) there)
      | inr w ↦ rw w there
    ]

-- the span before which all begin at or before the start, and behind which all begin later
pub last_at : (spans : List (ℤ × ℤ)) (start : ℤ) (k : ℕ) (d : ℤ × ℤ) → AllPairs IsNotAfter spans → k < length spans →
    ((j : ℕ) (d : ℤ × ℤ) → 0 ≤ j → j < k + 1 → int_le (get_or spans j d).0 start ≡ true) →
    ((j : ℕ) (d : ℤ × ℤ) → k + 1 ≤ j → j < length spans → int_le (get_or spans j d).0 start ≡ false) →
    latest_of start (ends_at start (get_or spans k d ∷ [])) ≡ latest_of start (ends_at start spans)
last_at [] start k d up below before after = absurd (omega (arith, below))
last_at (s ∷ ss) start zero d up below before after =
    let none = none_at ss start (λ j f low lt. after (suc j) f (omega (arith, low)) (omega (arith, lt))) in
    elim (cases_Bool (same_int start s.0)) [
      | inl w ↦ rw (w, none) refl
      | inr w ↦ rw (w, none) refl
    ]
last_at (s ∷ ss) start (suc k) d up below before after =
    let rest = last_at ss start k d (AllPairs-tail IsNotAfter s ss up) (omega (arith, below))
    (λ j f low lt. before (suc j) f (omega arith) (omega (arith, lt)))
    (λ j f low lt. after (suc j) f (omega (arith, low)) (omega (arith, lt))) in
    elim (cases_Bool (same_int start s.0)) [
      | inl w ↦ rw w (
          let here : start ≡ s.0 = same_int-true start s.0 w in
          let reached = before (suc k) d (omega arith) (omega arith) in
          let low : (get_or ss k d).0 ≤ℤ start = grind (arith, ints, reached) in
          let order = AllPairs-head IsNotAfter s ss up k d (omega (arith, below)) in
          elim order [
            | inl lt ↦ absurd (omega (arith, ints, lt, low, here))
            | inr e ↦ (
                let same : start ≡ (get_or ss k d).0 = here ∙ e.0 in
                let at : same_int start (get_or ss k d).0 ≡ true = rw (← same) (same_int-self start) in
                let it : latest_of start (ends_at start ss) ≡ (get_or ss k d).1 = sym rest ∙ rw at refl in
                rest ∙ (it ∙ sym (not_empty_more start s.1 (get_or ss k d).1 (ends_at start ss) (ends_contain ss start k d (omega (arith, below)) at) it e.1)))
          ])
      | inr w ↦ rw w rest
    ]
