use Rattle.std.proofs.Common.{◌+◌, ◌*◌}
use Rattle.cal_model.specs.Recurrence.NextPassing.{NonePasses}
use Rattle.rrule_filter.specs.StartMoment.{moment_of}
use Rattle.rrule_filter.proofs.walk.next_moment.Given as goal

-- no day so far has one
abbrev pub invariant-loop-this : goal.invariant-loop-this
invariant-loop-this l = NonePasses l.rule (moment_of l.start) l.start.dated (86400 * l.day + l.from) (86400 * l.this)
