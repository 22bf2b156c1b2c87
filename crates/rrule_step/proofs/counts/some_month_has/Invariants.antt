use Rattle.std.proofs.Common.{ℕ, ◌+◌, ◌*◌, ◌<◌, ◌≤◌}
use Rattle.cal_model.specs.Recurrence.Passing.{day_passes}
use Rattle.cal_model.proofs.Words.CountedRuns.{count_in}
use Rattle.rrule_step.specs.Periods.{month_begin}
use Rattle.rrule_step.proofs.counts.some_month_has.Given as goal

-- none of those so far has so many
abbrev pub invariant-loop-number : goal.invariant-loop-number
invariant-loop-number l = (k : ℕ) → 24000 ≤ k → k < l.number → count_in (day_passes l.rule l.plan.start.day) (month_begin k) (month_begin (k + 1)) * l.times < l.least
