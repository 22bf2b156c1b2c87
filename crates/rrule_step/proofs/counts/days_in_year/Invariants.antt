use Rattle.std.proofs.Common.{◌+◌, ◌*◌, ◌≤◌}
use Rattle.cal_model.specs.Recurrence.Passing.{day_passes}
use Rattle.cal_model.proofs.Words.CountedRuns.{count_in}
use Rattle.rrule_step.specs.Periods.{month_begin}
use Rattle.rrule_step.proofs.counts.days_in_year.Given as goal

-- the days of the months so far
abbrev pub invariant-loop-month : goal.invariant-loop-month
invariant-loop-month l = record {
  counted : count_in (day_passes l.rule l.plan.start.day) (month_begin (12 * l.year)) (month_begin (12 * l.year + l.month)) ≤ l.days;
  bound : l.days ≤ 31 * l.month;
}
