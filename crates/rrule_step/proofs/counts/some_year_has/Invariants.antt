use Rattle.std.proofs.Common.{ℕ, ◌+◌, ◌*◌, ◌<◌, ◌≤◌}
use Rattle.cal_moment.specs.Calendar.{first_of_year}
use Rattle.cal_model.specs.Recurrence.Passing.{day_passes}
use Rattle.cal_model.proofs.Words.CountedRuns.{count_in}
use Rattle.rrule_step.proofs.counts.some_year_has.Given as goal

-- none of those so far has so many
abbrev pub invariant-loop-year : goal.invariant-loop-year
invariant-loop-year l = (k : ℕ) → 2000 ≤ k → k < l.year → count_in (day_passes l.rule l.plan.start.day) (first_of_year k) (first_of_year (k + 1)) * l.times < l.least
