-- The runs that end behind a moment: a search finds where they begin, they stand in order, and the others are over by then.
use Rattle.std.proofs.Common.{◌≡◌, ℕ, zero, suc, ◌<◌, ◌≤◌, Bool, true, false, List, [], ◌∷◌, length, get_or, drop, refl, ap, inl, inr, nat_lt, arith}
use Rattle.std.specs.Prelude.{ℤ, ◌≤ℤ◌, ◌<ℤ◌, int_le, filter, All}
use Rattle.std.specs.List.Sorted.{IsPartitionedBy}
use Rattle.std.proofs.lemmas.Int.{ints}
use Rattle.std.proofs.lemmas.Bool.{cases_Bool, ltb-true, ltb-false}
use Rattle.std.proofs.lemmas.List.Elements.{All-nil, All-cons, All-head, All-tail, All-weaker, All-filter, filter_passes}
use Rattle.std.proofs.lemmas.List.Kept.{AllPairs-filter}
use Rattle.cal_model.proofs.Instances.RisingLists.{AllPairs-tail}
use Rattle.freebusy.specs.declared.busy.Run.{Run}
use Rattle.slot_finder.specs.FreeTimes.{AreInOrder}
use Rattle.slot_finder.specs.Fits.{ends_behind, IsOutside, AreOutside}
use Rattle.slot_finder.proofs.Comparisons.{le_of, le_is, above_of, lt_of, ge_of, lt_is, not_lt_is}

-- Where a list is cut.

pub cut_behind : {X : Type 0} (p q : X → Bool) → ((x : X) → p x ≡ true → q x ≡ false) → ((x : X) → p x ≡ false → q x ≡ true) → (xs : List X) (i : ℕ)
    → ((k : ℕ) (d : X) → 0 ≤ k → k < i → p (get_or xs k d) ≡ true) → ((k : ℕ) (d : X) → i ≤ k → k < length xs → p (get_or xs k d) ≡ false) → drop i xs ≡ filter q xs
cut_behind p q out into [] zero before after = refl
cut_behind p q out into [] (suc i) before after = refl
cut_behind p q out into (x ∷ xs) zero before after =
    let here : q x ≡ true = into x (after 0 x (omega arith) (omega arith)) in
    rw here (ap (λ rest. x ∷ rest) (cut_behind p q out into xs zero (λ k d low lt. absurd (omega (arith, lt))) (λ k d low lt. after (suc k) d (omega arith) (omega (arith, lt)))))
cut_behind p q out into (x ∷ xs) (suc i) before after =
    let here : q x ≡ false = out x (before 0 x (omega arith) (omega arith)) in
    rw here (cut_behind p q out into xs i (λ k d low lt. before (suc k) d (omega arith) (omega (arith, lt))) (λ k d low lt. after (suc k) d (omega (arith, low)) (omega (arith, lt))))

-- what holds of each item that a test drops, and of those that it keeps, holds of all
All-unfiltered : {X : Type 0} (p : X → Bool) (P : X → Type 0) → ((x : X) → p x ≡ false → P x) → (xs : List X) → All P (filter p xs) → All P xs
All-unfiltered p P left [] all = All-nil P
All-unfiltered p P left (x ∷ xs) all = elim (cases_Bool (p x)) [
  | inl kept ↦ (let both : All P (x ∷ filter p xs) = rw kept at all in All-cons P x xs (All-head P x (filter p xs) both) (All-unfiltered p P left xs (All-tail P x (filter p xs) both)))
  | inr out ↦ (let rest : All P (filter p xs) = rw out at all in All-cons P x xs (left x out) (All-unfiltered p P left xs rest))
]

-- Runs by their ends.

pub partitioned_by_end : (runs : List Run) (at : ℤ) → AreInOrder runs → IsPartitionedBy (λ (run : Run). int_le run.end.0 at) runs
partitioned_by_end runs at order i j d le below h = elim (cases_Bool (nat_lt i j)) [
  | inl w ↦ (let apart = order.apart i j d (ltb-true _ _ w) below in
      let some = order.each j d below in
      let there : (get_or runs j d).end.0 ≤ℤ at = le_of (get_or runs j d).end.0 at h in
      le_is (get_or runs i d).end.0 at (omega (arith, ints, apart, some, there)))
  | inr w ↦ (let ge = ltb-false _ _ w in let same : i ≡ j = omega (arith, ge, le) in rw same h)
]

pub over_not_behind : (run : Run) (at : ℤ) → int_le run.end.0 at ≡ true → ends_behind at run ≡ false
over_not_behind run at over = not_lt_is at run.end.0 (le_of run.end.0 at over)

pub behind_not_over : (run : Run) (at : ℤ) → int_le run.end.0 at ≡ false → ends_behind at run ≡ true
behind_not_over run at later = lt_is at run.end.0 (above_of run.end.0 at later)

pub order_behind : (runs : List Run) (at : ℤ) → AreInOrder runs → AreInOrder (filter (ends_behind at) runs)
order_behind runs at order = record {
  each = All-filter (ends_behind at) (λ (run : Run). run.start.0 <ℤ run.end.0) runs order.each;
  apart = AllPairs-filter (λ (run later : Run). run.end.0 ≤ℤ later.start.0) (ends_behind at) runs order.apart;
}

pub end_behind : (runs : List Run) (at : ℤ) → All (λ (run : Run). at <ℤ run.end.0) (filter (ends_behind at) runs)
end_behind runs at =
    All-weaker (λ (run : Run). ends_behind at run ≡ true) (λ (run : Run). at <ℤ run.end.0) (λ run is. lt_of at run.end.0 is) (filter (ends_behind at) runs) (filter_passes (ends_behind at) runs)

-- the runs that do not end behind a moment lie outside what begins there or later
pub outside_behind : (runs : List Run) (at low high : ℤ) → at ≤ℤ low → AreOutside low high (filter (ends_behind at) runs) → AreOutside low high runs
outside_behind runs at low high from outside =
    All-unfiltered (ends_behind at) (IsOutside low high) (λ run over. let ended : run.end.0 ≤ℤ at = ge_of at run.end.0 over in inl (omega (arith, ints, ended, from))) runs outside

-- The first run of some, and those behind it.

pub order_tail : (run : Run) (behind : List Run) → AreInOrder (run ∷ behind) → AreInOrder behind
order_tail run behind order = record {
  each = All-tail (λ (r : Run). r.start.0 <ℤ r.end.0) run behind order.each;
  apart = AllPairs-tail (λ (r later : Run). r.end.0 ≤ℤ later.start.0) run behind order.apart;
}

pub end_later : (run : Run) (behind : List Run) → AreInOrder (run ∷ behind) → All (λ (r : Run). run.end.0 <ℤ r.end.0) behind
end_later run behind order k d below =
    let apart : run.end.0 ≤ℤ (get_or behind k d).start.0 = order.apart 0 (suc k) d (omega arith) (omega (arith, below)) in
    let some : (get_or behind k d).start.0 <ℤ (get_or behind k d).end.0 = order.each (suc k) d (omega (arith, below)) in
    omega (arith, ints, apart, some)

start_later : (run : Run) (behind : List Run) (high : ℤ) → AreInOrder (run ∷ behind) → high ≤ℤ run.start.0 → All (λ (r : Run). high ≤ℤ r.start.0) behind
start_later run behind high order far k d below =
    let apart : run.end.0 ≤ℤ (get_or behind k d).start.0 = order.apart 0 (suc k) d (omega arith) (omega (arith, below)) in
    let some : run.start.0 <ℤ run.end.0 = All-head (λ (r : Run). r.start.0 <ℤ r.end.0) run behind order.each in
    omega (arith, ints, apart, some, far)

-- where the first run starts behind some seconds, they all do
pub outside_from : (run : Run) (behind : List Run) (low high : ℤ) → AreInOrder (run ∷ behind) → high ≤ℤ run.start.0 → AreOutside low high (run ∷ behind)
outside_from run behind low high order far =
    All-cons (IsOutside low high) run behind (inr far)
    (All-weaker (λ (r : Run). high ≤ℤ r.start.0) (IsOutside low high) (λ r later. inr later) behind (start_later run behind high order far))
