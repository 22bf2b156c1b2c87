use Rattle.std.proofs.Common.{◌+◌, ◌-◌, ◌*◌, ◌≤◌}
use Rattle.cal_model.specs.Recurrence.NextPassing.{NonePasses}
use Rattle.rrule_step.specs.StartMoment.{moment_of}
use Rattle.rrule_step.proofs.step.next_in_month.Given as goal

-- no day so far has one
abbrev pub invariant-loop-day : goal.invariant-loop-day
invariant-loop-day l =
    (l.month.first ≤ l.day) × (l.from.day ≤ l.day) × NonePasses l.rule (moment_of l.plan.start) l.plan.dated (86400 * l.from.day + l.from.second) (86400 * l.day)

abbrev pub decreases-loop-day : goal.decreases-loop-day
decreases-loop-day l = l.month.first + l.month.size - l.day
