-- The end of an instance from the starts and the spans of a range alone: a start in the range is a plain one, or begins a period, exactly where it does so among those of the range.
use Rattle.std.proofs.Common.{◌≡◌, List, [], ◌∷◌, map, refl, sym, ap, ap₂, subst, ◌∙◌, arith, Bool, true, ℤ, ◌<ℤ◌, ◌≤ℤ◌, inl, inr}
use Rattle.std.specs.Prelude.{All, Contains, filter, int_lt}
use Rattle.std.specs.List.{list_any}
use Rattle.std.specs.List.Sorted.{IsPermutation}
use Rattle.std.proofs.lemmas.Int.{ints}
use Rattle.std.proofs.lemmas.Bool.{cases_Bool}
use Rattle.std.proofs.lemmas.List.Elements.{All-nil, All-cons}
use Rattle.std.proofs.lemmas.List.Sorted.{Contains-permutation, IsPermutation-sym}
use Rattle.std.proofs.lemmas.Map.Views.{any-filter_same}
use Rattle.cal_moment.specs.declared.stamp.Period.{Period}
use Rattle.cal_moment.specs.declared.stamp.Stamp.{Stamp}
use Rattle.cal_model.specs.declared.zone.ZoneTable.{ZoneTable}
use Rattle.cal_model.specs.Instances.Starts.{ascending, date_start, end_of_period, latest_of}
use Rattle.cal_model.specs.Words.Integers.{same_int, greatest_of}
use Rattle.cal_model.proofs.Instances.LeastStarts.{greatest_of-is}
use Rattle.cal_model.proofs.Instances.RisingLists.{Contains-here, Contains-split, Contains-there}
use Rattle.cal_model.proofs.Ranges.WindowLaws.{Contains-filter, Contains-unfilter}
use Rattle.cal_model.proofs.Words.IntegerLemmas.{same_int-true}
use Rattle.override_merge.proofs.NameLemmas.{any_ascending}
use Rattle.rrule_sets.specs.PeriodSpans.{ends_at, period_span}
use Rattle.rrule_sets.proofs.StartsInRange.{SameMembers}

-- a number that is kept is among those that are kept exactly where it is among all
pub any_kept : (keep : ℤ → Bool) (r : ℤ) (xs : List ℤ) → keep r ≡ true → list_any (same_int r) (ascending (filter keep xs)) ≡ list_any (same_int r) xs
any_kept keep r xs kept =
    any_ascending r (filter keep xs)
    ∙ any-filter_same (same_int r) keep true (λ k same. let e = same_int-true r k same in rw (← e) kept) xs

-- The greatest of a list is one of it, and none exceeds it.

greatest_has : (z : ℤ) (xs : List ℤ) → Contains (z ∷ xs) (greatest_of z xs)
greatest_has z [] = Contains-here z []
greatest_has z (x ∷ xs) = elim (cases_Bool (int_lt z x)) [
  | inl w ↦ rw w (Contains-there z (greatest_of x xs) (x ∷ xs) (greatest_has x xs))
  | inr w ↦ rw w (elim (Contains-split z (greatest_of z xs) xs (greatest_has z xs)) [
    | inl e ↦ (0, omega arith, e)
    | inr later ↦ Contains-there z (greatest_of z xs) (x ∷ xs) (Contains-there x (greatest_of z xs) xs later)
  ])
]

greatest_from : (z : ℤ) (xs : List ℤ) → z ≤ℤ greatest_of z xs
greatest_from z [] = omega (arith, ints)
greatest_from z (x ∷ xs) = elim (cases_Bool (int_lt z x)) [
  | inl w ↦ rw w (let lt : z <ℤ x = grind (arith, ints, w) in let rest = greatest_from x xs in omega (arith, ints, lt, rest))
  | inr w ↦ rw w (greatest_from z xs)
]

greatest_most : (z : ℤ) (xs : List ℤ) (y : ℤ) → Contains (z ∷ xs) y → y ≤ℤ greatest_of z xs
greatest_most z [] y c = elim (Contains-split z y [] c) [
  | inl e ↦ omega (arith, ints, e)
  | inr none ↦ (let below = none.1 in absurd (omega (arith, below)))
]
greatest_most z (x ∷ xs) y c = elim (cases_Bool (int_lt z x)) [
  | inl w ↦ rw w (let lt : z <ℤ x = grind (arith, ints, w) in elim (Contains-split z y (x ∷ xs) c) [
    | inl e ↦ (let from = greatest_from x xs in omega (arith, ints, lt, e, from))
    | inr later ↦ greatest_most x xs y later
  ])
  | inr w ↦ rw w (let le : x ≤ℤ z = grind (arith, ints, w) in elim (Contains-split z y (x ∷ xs) c) [
    | inl e ↦ (let from = greatest_from z xs in omega (arith, ints, e, from))
    | inr later ↦ elim (Contains-split x y xs later) [
      | inl e ↦ (let from = greatest_from z xs in omega (arith, ints, le, e, from))
      | inr deep ↦ greatest_most z xs y (Contains-there z y xs deep)
    ]
  ])
]

each_most : (P : ℤ → Type 0) (xs : List ℤ) → ((y : ℤ) → Contains xs y → P y) → All P xs
each_most P [] h = All-nil P
each_most P (x ∷ xs) h = All-cons P x xs (h x (Contains-here x xs)) (each_most P xs (λ y c. h y (Contains-there x y xs c)))

-- the latest of some ends depends on the members alone
pub latest_same : (none : ℤ) (xs ys : List ℤ) → SameMembers xs ys → latest_of none xs ≡ latest_of none ys
latest_same none [] [] same = refl
latest_same none [] (y ∷ ys) same = (let c = same.from y (Contains-here y ys) in let below = c.1 in absurd (omega (arith, below)))
latest_same none (x ∷ xs) [] same = (let c = same.to x (Contains-here x xs) in let below = c.1 in absurd (omega (arith, below)))
latest_same none (x ∷ xs) (y ∷ ys) same =
    greatest_of-is x xs (greatest_of y ys) (same.from (greatest_of y ys) (greatest_has y ys))
    (each_most (λ z. z ≤ℤ greatest_of y ys) (x ∷ xs) (λ z c. greatest_most y ys z (same.to z c)))

-- Spans.

pub record IsSpanAt (spans : List (ℤ × ℤ)) (start end : ℤ) : Type 0 where
  pub span : ℤ × ℤ
  pub among : Contains spans span
  pub start_is : same_int start span.0 ≡ true
  pub end_is : span.1 ≡ end

ends_from : (start : ℤ) (spans : List (ℤ × ℤ)) (end : ℤ) → Contains (ends_at start spans) end → IsSpanAt spans start end
ends_from start [] end c = (let below = c.1 in absurd (omega (arith, below)))
ends_from start (s ∷ ss) end c = elim (cases_Bool (same_int start s.0)) [
  | inl w ↦ elim (Contains-split s.1 end (ends_at start ss) (rw w at c)) [
    | inl e ↦ record { span = s; among = Contains-here s ss; start_is = w; end_is = e }
    | inr later ↦ (let found = ends_from start ss end later in record { span = found.span; among = Contains-there s found.span ss found.among; start_is = found.start_is; end_is = found.end_is })
  ]
  | inr w ↦ (let found = ends_from start ss end (rw w at c) in record { span = found.span; among = Contains-there s found.span ss found.among; start_is = found.start_is; end_is = found.end_is })
]

ends_to : (start : ℤ) (spans : List (ℤ × ℤ)) (span : ℤ × ℤ) → Contains spans span → same_int start span.0 ≡ true → Contains (ends_at start spans) span.1
ends_to start [] span c at_start = (let below = c.1 in absurd (omega (arith, below)))
ends_to start (s ∷ ss) span c at_start = elim (cases_Bool (same_int start s.0)) [
  | inl w ↦ rw w (elim (Contains-split s span ss c) [
    | inl e ↦ (0, omega arith, ap (λ (x : ℤ × ℤ). x.1) e)
    | inr later ↦ Contains-there s.1 span.1 (ends_at start ss) (ends_to start ss span later at_start)
  ])
  | inr w ↦ elim (Contains-split s span ss c) [
    | inl e ↦ absurd (let here : same_int start s.0 ≡ true = rw e at_start in cc)
    | inr later ↦ rw w (ends_to start ss span later at_start)
  ]
]

-- the spans that begin at a start that is kept are among those that are kept, in any order
pub latest_kept : (keep : ℤ → Bool) (start : ℤ) (spans sorted : List (ℤ × ℤ)) → keep start ≡ true → IsPermutation (filter (λ (span : ℤ × ℤ). keep span.0) spans) sorted →
    latest_of start (ends_at start sorted) ≡ latest_of start (ends_at start spans)
latest_kept keep start spans sorted kept moved = latest_same start (ends_at start sorted) (ends_at start spans) (record { to = to; from = from })
  where
    to : (end : ℤ) → Contains (ends_at start sorted) end → Contains (ends_at start spans) end
    to end c =
        let found = ends_from start sorted end c in
        let there = Contains-permutation sorted (filter (λ (span : ℤ × ℤ). keep span.0) spans) found.span (IsPermutation-sym (filter (λ (span : ℤ × ℤ). keep span.0) spans) sorted moved) found.among in
        let both = Contains-unfilter (λ (span : ℤ × ℤ). keep span.0) found.span spans there in
        subst (λ (z : ℤ). Contains (ends_at start spans) z) found.end_is (ends_to start spans found.span both.1 found.start_is)

    from : (end : ℤ) → Contains (ends_at start spans) end → Contains (ends_at start sorted) end
    from end c =
        let found = ends_from start spans end c in
        let at_start = same_int-true start found.span.0 found.start_is in
        let stays : keep found.span.0 ≡ true = rw (← at_start) kept in
        let there = Contains-permutation (filter (λ (span : ℤ × ℤ). keep span.0) spans) sorted found.span moved (Contains-filter (λ (span : ℤ × ℤ). keep span.0) found.span spans stays found.among) in
        subst (λ (z : ℤ). Contains (ends_at start sorted) z) found.end_is (ends_to start sorted found.span there found.start_is)

-- the ends of the periods that begin at a start
pub ends_of_periods : (zones : List ZoneTable) (s : Stamp) (r : ℤ) (periods : List Period) →
    ends_at r (map (period_span zones s) periods) ≡ map (λ (p : Period). end_of_period zones s r p.end) (filter (λ (p : Period). same_int r (date_start zones s p.start)) periods)
ends_of_periods zones s r [] = refl
ends_of_periods zones s r (p ∷ ps) = elim (cases_Bool (same_int r (date_start zones s p.start))) [
  | inl w ↦ (let here = same_int-true r (date_start zones s p.start) w in
      let first : end_of_period zones s (date_start zones s p.start) p.end ≡ end_of_period zones s r p.end = ap (λ start. end_of_period zones s start p.end) (sym here) in
      rw w (ap₂ (λ (y : ℤ) (ys : List ℤ). y ∷ ys) first (ends_of_periods zones s r ps)))
  | inr w ↦ rw w (ends_of_periods zones s r ps)
]
