use Rattle.std.proofs.Common.{◌+◌, ◌*◌}
use Rattle.cal_model.specs.Recurrence.NextPassing.{NonePasses}
use Rattle.rrule_filter.specs.StartMoment.{moment_of}
use Rattle.rrule_filter.proofs.times.next_in_day.Given as goal

-- no hour so far has one
abbrev pub invariant-loop-hour : goal.invariant-loop-hour
invariant-loop-hour l =
    NonePasses l.rule (moment_of l.start) l.start.dated (86400 * l.today.day + l.from) (86400 * l.today.day + 3600 * l.hour)
