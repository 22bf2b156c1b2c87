use Rattle.std.proofs.Common.{◌≡◌, ◌++◌, length, map, ℤ}
use Rattle.rrule_sets.proofs.asked.put_period_starts.Given as goal

-- the starts so far, and those of the periods that are left
abbrev pub invariant-periods : goal.invariant-periods
invariant-periods l = l.out ++ map (λ (period : ℤ × ℤ). period.0) l.rest ≡ l.initial.out ++ map (λ (period : ℤ × ℤ). period.0) l.periods

abbrev pub decreases-periods : goal.decreases-periods
decreases-periods l = length l.rest
