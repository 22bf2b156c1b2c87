-- Laws of recurrence sets: numbers in a row rise, and every moment behind the first comes after the start.
use Rattle.std.proofs.Common.{ℕ, zero, suc, ◌+◌, ◌-◌, ◌<◌, List, arith, nat_lt}
use Rattle.std.specs.Prelude.{All, AllPairs, filter, nat_le, Option, None, Some}
use Rattle.std.proofs.lemmas.Bool.{ltb-true}
use Rattle.std.proofs.lemmas.List.Elements.{All-cons, All-filter, All-take, filter_passes}
use Rattle.std.proofs.lemmas.List.Kept.{AllPairs-cons}
use Rattle.cal_model.specs.declared.rule.Rule.{Rule}
use Rattle.cal_model.specs.Words.Lists.{counted_from}
use Rattle.cal_model.specs.Recurrence.RecurrenceSet.{Reading, found_moments, at_places, until_passes, first_counted, later_moments, last_written}

-- each is below all later ones
abbrev pub Rises : List ℕ → Type 0
Rises xs = AllPairs (λ x y. x < y) xs

all_after : (first from n : ℕ) → first < from → All (λ m. first < m) (counted_from from n)
unfolding counted_from
all_after first from zero h = λ k d lt. absurd (omega arith)
all_after first from (suc n) h = All-cons (λ m. first < m) from (counted_from (from + 1) n) h (all_after first (from + 1) n (omega arith))

-- numbers in a row rise
pub Rises-counted_from : (first n : ℕ) → Rises (counted_from first n)
unfolding counted_from
Rises-counted_from first zero = λ i j d lt below. absurd (omega arith)
Rises-counted_from first (suc n) = AllPairs-cons (λ x y. x < y) first (counted_from (first + 1) n) (all_after first (first + 1) n (omega arith)) (Rises-counted_from (first + 1) n)

after_start : (start : ℕ) (kept : List ℕ) → All (λ m. start < m) (filter (λ m. nat_lt start m) kept)
after_start start kept = λ k d below. ltb-true _ _ (filter_passes (λ m. nat_lt start m) kept k d below)

All-first_counted : (P : ℕ → Type 0) (count : Option ℕ) (later : List ℕ) → All P later → All P (first_counted count later)
All-first_counted P None later h = h
All-first_counted P (Some count) later h = All-take P (count - 1) later h

-- what is kept of a list before COUNT
abbrev pub uncounted : Rule → ℕ → Reading → List ℕ → List ℕ
uncounted rule start reading moments =
    filter (until_passes reading rule.until) (filter (λ m. nat_lt start m) (at_places rule (found_moments rule start reading moments)))

-- every other member comes after the start
pub later_moments-after : (moments : List ℕ) (rule : Rule) (start : ℕ) (reading : Reading) → All (λ m. start < m) (later_moments rule start reading moments)
later_moments-after moments rule start reading =
    let kept = at_places rule (found_moments rule start reading moments) in
    let after = after_start start (at_places rule (found_moments rule start reading moments)) in
    let until = All-filter (until_passes reading rule.until) (λ m. start < m) (filter (λ m. nat_lt start m) (at_places rule (found_moments rule start reading moments))) after in
    All-filter (λ m. nat_le m last_written) (λ m. start < m) (first_counted rule.count (uncounted rule start reading moments))
    (All-first_counted (λ m. start < m) rule.count (uncounted rule start reading moments) until)
