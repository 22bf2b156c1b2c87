use Rattle.std.proofs.Common.{◌+◌, ◌-◌, ◌*◌, ◌≤◌}
use Rattle.cal_model.specs.Recurrence.NextPassing.{NonePasses}
use Rattle.rrule_step.specs.Periods.{month_begin}
use Rattle.rrule_step.specs.StartMoment.{moment_of}
use Rattle.rrule_step.proofs.step.next_moment.Given as goal

-- no month so far has one
abbrev pub invariant-loop-month : goal.invariant-loop-month
invariant-loop-month l =
    (12 ≤ l.month) × (l.month ≤ 25224) × NonePasses l.rule (moment_of l.plan.start) l.plan.dated (86400 * l.from.day + l.from.second) (86400 * month_begin l.month)

abbrev pub decreases-loop-month : goal.decreases-loop-month
decreases-loop-month l = 25224 - l.month
