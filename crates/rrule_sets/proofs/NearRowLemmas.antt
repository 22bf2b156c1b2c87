-- Rows that stand by their ids are cut where the ids pass a value, and a range of digits has no start that is not within a day of it.
use Rattle.std.proofs.Common.{◌≡◌, ℕ, zero, suc, ◌<◌, ◌≤◌, List, [], ◌∷◌, length, get_or, refl, ap, arith, Bool, true, false, ℤ, pos, ◌+ℤ◌, ◌-ℤ◌, ◌<ℤ◌, ◌≤ℤ◌, inl, inr, nat_lt}
use Rattle.std.specs.Prelude.{All, AllPairs, filter, int_le, int_lt, take, drop, ◌&&◌}
use Rattle.std.specs.List.Sorted.{IsPartitionedBy}
use Rattle.std.proofs.lemmas.Int.{ints}
use Rattle.std.proofs.lemmas.Bool.{cases_Bool, ltb-true, ltb-false}
use Rattle.cal_moment.specs.declared.stamp.Stamp.{Stamp}
use Rattle.cal_model.specs.declared.row.Row.{Row}
use Rattle.cal_model.specs.declared.zone.ZoneTable.{ZoneTable}
use Rattle.cal_model.specs.Instances.Alignment.{reading_of}
use Rattle.cal_model.specs.Ranges.Nearness.{HasShortOffsets}
use Rattle.cal_model.proofs.Ranges.RowBounds.{local-near}
use Rattle.rrule_sets.specs.declared.range.Digits.{Digits}
use Rattle.rrule_sets.specs.DigitRanges.{in_digits, starts_in}
use Rattle.rrule_sets.specs.NearRows.{HasLesserId, is_near_id}
use Rattle.rrule_sets.specs.NeededDigits.{HasRange}

-- Where a list is cut.

pub cut_behind : {X : Type 0} (p q : X → Bool) → ((x : X) → p x ≡ true → q x ≡ false) → ((x : X) → p x ≡ false → q x ≡ true) → (xs : List X) (i : ℕ) →
    ((k : ℕ) (d : X) → 0 ≤ k → k < i → p (get_or xs k d) ≡ true) → ((k : ℕ) (d : X) → i ≤ k → k < length xs → p (get_or xs k d) ≡ false) → drop i xs ≡ filter q xs
cut_behind p q out into [] zero before after = refl
cut_behind p q out into [] (suc i) before after = refl
cut_behind p q out into (x ∷ xs) zero before after =
    let here : q x ≡ true = into x (after 0 x (omega arith) (omega arith)) in
    rw here (ap (λ rest. x ∷ rest) (cut_behind p q out into xs zero (λ k d low lt. absurd (omega (arith, lt))) (λ k d low lt. after (suc k) d (omega arith) (omega (arith, lt)))))
cut_behind p q out into (x ∷ xs) (suc i) before after =
    let here : q x ≡ false = out x (before 0 x (omega arith) (omega arith)) in
    rw here (cut_behind p q out into xs i (λ k d low lt. before (suc k) d (omega arith) (omega (arith, lt))) (λ k d low lt. after (suc k) d (omega (arith, low)) (omega (arith, lt))))

pub cut_before : {X : Type 0} (p : X → Bool) → (xs : List X) (i : ℕ) →
    ((k : ℕ) (d : X) → 0 ≤ k → k < i → p (get_or xs k d) ≡ true) → ((k : ℕ) (d : X) → i ≤ k → k < length xs → p (get_or xs k d) ≡ false) → take i xs ≡ filter p xs
cut_before p [] zero before after = refl
cut_before p [] (suc i) before after = refl
cut_before p (x ∷ xs) zero before after =
    let here : p x ≡ false = after 0 x (omega arith) (omega arith) in
    rw here (cut_before p xs zero (λ k d low lt. absurd (omega (arith, lt))) (λ k d low lt. after (suc k) d (omega arith) (omega (arith, lt))))
cut_before p (x ∷ xs) (suc i) before after =
    let here : p x ≡ true = before 0 x (omega arith) (omega arith) in
    rw here (ap (λ rest. x ∷ rest) (cut_before p xs i (λ k d low lt. before (suc k) d (omega arith) (omega (arith, lt))) (λ k d low lt. after (suc k) d (omega (arith, low)) (omega (arith, lt)))))

pub filter_both : {X : Type 0} (p q : X → Bool) → (xs : List X) → filter p (filter q xs) ≡ filter (λ x. p x && q x) xs
filter_both p q [] = refl
filter_both p q (x ∷ xs) = elim (cases_Bool (p x)) [
  | inl w ↦ elim (cases_Bool (q x)) [
    | inl v ↦ rw (v, w) (ap (λ rest. x ∷ rest) (filter_both p q xs))
    | inr v ↦ rw (v, w) (filter_both p q xs)
  ]
  | inr w ↦ elim (cases_Bool (q x)) [
    | inl v ↦ rw (v, w) (filter_both p q xs)
    | inr v ↦ rw (v, w) (filter_both p q xs)
  ]
]

pub filter_swap : {X : Type 0} (p q : X → Bool) → (xs : List X) → filter p (filter q xs) ≡ filter q (filter p xs)
filter_swap p q [] = refl
filter_swap p q (x ∷ xs) = elim (cases_Bool (p x)) [
  | inl w ↦ elim (cases_Bool (q x)) [
    | inl v ↦ rw (v, w, v) (ap (λ rest. x ∷ rest) (filter_swap p q xs))
    | inr v ↦ rw (v, w, v) (filter_swap p q xs)
  ]
  | inr w ↦ elim (cases_Bool (q x)) [
    | inl v ↦ rw (v, w) (filter_swap p q xs)
    | inr v ↦ rw (v, w) (filter_swap p q xs)
  ]
]

-- Ids.

pub partitioned_by_id : (rows : List Row) (t : ℤ) → AllPairs HasLesserId rows → IsPartitionedBy (λ (row : Row). int_lt row.id t) rows
partitioned_by_id rows t up i j d le below h = elim (cases_Bool (nat_lt i j)) [
  | inl w ↦ (let rises = up i j d (ltb-true _ _ w) below in let at : (get_or rows j d).id <ℤ t = grind (arith, ints, h) in let before : (get_or rows i d).id <ℤ t = omega (arith, ints, rises, at) in grind (arith, ints, before))
  | inr w ↦ (let ge = ltb-false _ _ w in let same : i ≡ j = omega (arith, ge, le) in rw same h)
]

pub not_below : (a b : ℤ) → int_lt a b ≡ true → int_le b a ≡ false
not_below a b h = let lt : a <ℤ b = grind (arith, ints, h) in grind (arith, ints, lt)

pub not_from : (a b : ℤ) → int_lt a b ≡ false → int_le b a ≡ true
not_from a b h = let le : b ≤ℤ a = grind (arith, ints, h) in grind (arith, ints, le)

-- Digits.

-- a start whose digits lie in a part of a range is kept by the range, and lies within a day of the part
pub kept_near : (zones : List ZoneTable) (ids : Stamp) (whole range : Digits) (r : ℤ) → All HasShortOffsets zones → HasRange whole range → starts_in zones ids range r ≡ true → (is_near_id range r && starts_in zones ids whole r) ≡ true
kept_near zones ids whole range r short has there = of_digits ((reading_of zones ids).local r) (local-near zones ids r short) there
  where
    left : (a b : Bool) → (a && b) ≡ true → a ≡ true
    left true b h = refl
    left false b h = absurd cc

    right : (a b : Bool) → (a && b) ≡ true → b ≡ true
    right true b h = h
    right false b h = absurd cc

    of_digits : (l : ℤ) → (l <ℤ (r +ℤ pos 86400)) × (r <ℤ (l +ℤ pos 86400)) → in_digits range l ≡ true → (is_near_id range r && in_digits whole l) ≡ true
    of_digits l near inside =
        let a : int_le range.low l ≡ true = left (int_le range.low l) (int_lt l range.high) inside in
        let b : int_lt l range.high ≡ true = right (int_le range.low l) (int_lt l range.high) inside in
        let low : range.low ≤ℤ l = grind (arith, ints, a) in
        let high : l <ℤ range.high = grind (arith, ints, b) in
        let first = near.0 in
        let second = near.1 in
        let from = has.from in
        let to = has.to in
        let c : r <ℤ (range.high +ℤ pos 86400) = omega (arith, ints, second, high) in
        let d : (range.low -ℤ pos 86400) ≤ℤ r = omega (arith, ints, first, low) in
        let e : whole.low ≤ℤ l = omega (arith, ints, from, low) in
        let f : l <ℤ whole.high = omega (arith, ints, to, high) in
        let c' : int_lt r (range.high +ℤ pos 86400) ≡ true = grind (arith, ints, c) in
        let d' : int_le (range.low -ℤ pos 86400) r ≡ true = grind (arith, ints, d) in
        let e' : int_le whole.low l ≡ true = grind (arith, ints, e) in
        let f' : int_lt l whole.high ≡ true = grind (arith, ints, f) in
        rw (c', d', e', f') refl
