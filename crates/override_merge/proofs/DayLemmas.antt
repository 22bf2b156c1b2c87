-- The first start of a local day stands first among those of its day, where starts are sorted by day and those of one day stand as they stood.
use Rattle.std.proofs.Common.{◌≡◌, ℕ, zero, suc, ◌<◌, ◌≤◌, List, [], ◌∷◌, length, map, get_or, refl, sym, ap, ◌∙◌, arith, Bool, true, false, ℤ, pos, ◌<ℤ◌, ◌≤ℤ◌, inl, inr, Less, Equal, Greater, nat_lt}
use Rattle.std.specs.Prelude.{All, AllPairs, filter, int_lt}
use Rattle.std.specs.Cmp.{int_cmp_total}
use Rattle.std.specs.Ordering.{int_cmp, is_lt}
use Rattle.std.specs.List.Sorted.{IsSortedByKey, IsPartitionedBy, ties}
use Rattle.std.proofs.lemmas.Int.{ints, by_lt_z}
use Rattle.std.proofs.lemmas.Bool.{cases_Bool, ltb-true, ltb-false}
use Rattle.std.proofs.lemmas.List.Elements.{All-head, All-tail, All-weaker}
use Rattle.std.proofs.lemmas.List.Sorted.{sorted_far, ranks_by}
use Rattle.cal_model.specs.Words.Integers.{same_int}
use Rattle.cal_model.specs.Words.Lists.{first_or_else}
use Rattle.cal_model.proofs.Words.IntegerLemmas.{same_int-self, same_int-true}
use Rattle.cal_model.proofs.Instances.RisingLists.{AllPairs-head, AllPairs-tail}
use Rattle.override_merge.specs.DayStarts.{starts_on, RisesByDay}

abbrev day_below : ℤ × ℤ → ℤ × ℤ → Bool
day_below a b = is_lt (int_cmp a.0 b.0)

not_below : (x y : ℤ) → is_lt (int_cmp y x) ≡ false → x ≤ℤ y
not_below x y h = by_lt_z y x (λ lt. absurd (let less : int_cmp y x ≡ Less = grind (arith, ints, lt) in let e = rw less at h in cc)) (λ le. omega (arith, ints, le))

pub rises_by_day : (days : List (ℤ × ℤ)) → IsSortedByKey (λ (e : ℤ × ℤ). e.0) int_cmp days → AllPairs RisesByDay days
rises_by_day days sorted i j d lt below =
    not_below (get_or days i d).0 (get_or days j d).0
    (sorted_far day_below (ranks_by int_cmp_total (λ (e : ℤ × ℤ). e.0)) days sorted i j d (omega (arith, lt)) below)

other_int : (a b : ℤ) → a <ℤ b → same_int a b ≡ false
other_int a b lt = elim (cases_Bool (same_int a b)) [ inl w ↦ (let e = same_int-true a b w in absurd (omega (arith, ints, lt, e))) | inr w ↦ w ]

other_int_after : (a b : ℤ) → b <ℤ a → same_int a b ≡ false
other_int_after a b lt = elim (cases_Bool (same_int a b)) [ inl w ↦ (let e = same_int-true a b w in absurd (omega (arith, ints, lt, e))) | inr w ↦ w ]

ties_of_day : (midnight : ℤ) (e : ℤ × ℤ) → ties day_below (midnight, pos 0) e ≡ same_int midnight e.0
ties_of_day midnight e =
    by_lt_z midnight e.0
    (λ lt. let up : int_cmp midnight e.0 ≡ Less = grind (arith, ints, lt) in let other = other_int midnight e.0 lt in rw (up, other) refl)
    (λ ge. by_lt_z e.0 midnight
    (λ gt. let more : int_cmp midnight e.0 ≡ Greater = grind (arith, ints, gt) in let less : int_cmp e.0 midnight ≡ Less = grind (arith, ints, gt) in let other = other_int_after midnight e.0 gt in rw (more, less, other) refl)
    (λ le. let same : midnight ≡ e.0 = omega (arith, ints, ge, le) in
    let equal : int_cmp midnight e.0 ≡ Equal = grind (arith, ints, same) in
    let back : int_cmp e.0 midnight ≡ Equal = grind (arith, ints, same) in
    let self : same_int midnight e.0 ≡ true = rw same (same_int-self e.0) in
    rw (equal, back, self) refl))

filter_same : (p q : ℤ × ℤ → Bool) (xs : List (ℤ × ℤ)) → ((x : ℤ × ℤ) → p x ≡ q x) → filter p xs ≡ filter q xs
filter_same p q [] h = refl
filter_same p q (x ∷ xs) h = elim (cases_Bool (q x)) [
  | inl w ↦ (let v : p x ≡ true = h x ∙ w in rw (v, w) (ap (λ ys. x ∷ ys) (filter_same p q xs h)))
  | inr w ↦ (let v : p x ≡ false = h x ∙ w in rw (v, w) (filter_same p q xs h))
]

pub starts_kept : (xs ys : List (ℤ × ℤ)) → ((x : ℤ × ℤ) → filter (ties day_below x) ys ≡ filter (ties day_below x) xs) → (midnight : ℤ) → starts_on midnight ys ≡ starts_on midnight xs
starts_kept xs ys stable midnight =
    ap (map (λ (e : ℤ × ℤ). e.1))
    (filter_same (λ (e : ℤ × ℤ). same_int midnight e.0) (ties day_below (midnight, pos 0)) ys (λ e. sym (ties_of_day midnight e))
    ∙ (stable (midnight, pos 0) ∙ filter_same (ties day_below (midnight, pos 0)) (λ (e : ℤ × ℤ). same_int midnight e.0) xs (ties_of_day midnight)))

-- A search by days.

pub partitioned : (days : List (ℤ × ℤ)) (midnight : ℤ) → AllPairs RisesByDay days → IsPartitionedBy (λ (e : ℤ × ℤ). int_lt e.0 midnight) days
partitioned days midnight up i j d le below h = elim (cases_Bool (nat_lt i j)) [
  | inl w ↦ (let rises = up i j d (ltb-true _ _ w) below in let lt : (get_or days j d).0 <ℤ midnight = grind (arith, ints, h) in let before : (get_or days i d).0 <ℤ midnight = omega (arith, ints, rises, lt) in grind (arith, ints, before))
  | inr w ↦ (let ge = ltb-false _ _ w in let same : i ≡ j = omega (arith, ge, le) in rw same h)
]

none_after : (days : List (ℤ × ℤ)) (midnight : ℤ) → All (λ (e : ℤ × ℤ). midnight <ℤ e.0) days → starts_on midnight days ≡ []
none_after [] midnight all = refl
none_after (e ∷ es) midnight all =
    let other = other_int midnight e.0 (All-head (λ (e : ℤ × ℤ). midnight <ℤ e.0) e es all) in
    rw other (none_after es midnight (All-tail (λ (e : ℤ × ℤ). midnight <ℤ e.0) e es all))

pub first_at : (days : List (ℤ × ℤ)) (midnight none : ℤ) (at : ℕ) (d : ℤ × ℤ) → AllPairs RisesByDay days → at < length days →
    ((k : ℕ) (d : ℤ × ℤ) → 0 ≤ k → k < at → int_lt (get_or days k d).0 midnight ≡ true) → int_lt (get_or days at d).0 midnight ≡ false →
    first_or_else none (starts_on midnight (get_or days at d ∷ [])) ≡ first_or_else none (starts_on midnight days)
first_at [] midnight none at d up below before here = absurd (omega (arith, below))
first_at (e ∷ es) midnight none zero d up below before here = elim (cases_Bool (same_int midnight e.0)) [
  | inl w ↦ rw w refl
  | inr w ↦ rw w (
      let le : midnight ≤ℤ e.0 = grind (arith, ints, here) in
      let lt : midnight <ℤ e.0 = by_lt_z midnight e.0 (λ lt. lt) (λ ge. absurd (let same : midnight ≡ e.0 = omega (arith, ints, le, ge) in let self : same_int midnight e.0 ≡ true = rw same (same_int-self e.0) in cc)) in
      let later = none_after es midnight (All-weaker (RisesByDay e) (λ (x : ℤ × ℤ). midnight <ℤ x.0) (λ x h. omega (arith, ints, lt, h)) es (AllPairs-head RisesByDay e es up)) in
      rw later refl)
]
first_at (e ∷ es) midnight none (suc at) d up below before here =
    let first : e.0 <ℤ midnight = let h = before 0 d (omega arith) (omega arith) in grind (arith, ints, h) in
    let other = other_int_after midnight e.0 first in
    rw other (first_at es midnight none at d (AllPairs-tail RisesByDay e es up) (omega (arith, below)) (λ k f low lt. before (suc k) f (omega arith) (omega (arith, lt))) here)

pub none_at : (days : List (ℤ × ℤ)) (midnight none : ℤ) → ((k : ℕ) (d : ℤ × ℤ) → 0 ≤ k → k < length days → int_lt (get_or days k d).0 midnight ≡ true) →
    none ≡ first_or_else none (starts_on midnight days)
none_at [] midnight none before = refl
none_at (e ∷ es) midnight none before =
    let first : e.0 <ℤ midnight = let h = before 0 e (omega arith) (omega arith) in grind (arith, ints, h) in
    let other = other_int_after midnight e.0 first in
    rw other (none_at es midnight none (λ k f low lt. before (suc k) f (omega arith) (omega (arith, lt))))
