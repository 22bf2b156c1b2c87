use Rattle.std.proofs.Common.{◌+◌, ◌*◌}
use Rattle.cal_model.specs.Recurrence.NextPassing.{NonePasses}
use Rattle.rrule_filter.specs.StartMoment.{moment_of}
use Rattle.rrule_filter.proofs.times.next_in_minute.Given as goal

-- no second so far passes
abbrev pub invariant-loop-second : goal.invariant-loop-second
invariant-loop-second l =
    NonePasses l.rule (moment_of l.start) l.start.dated (86400 * l.today.day + 3600 * l.hour + 60 * l.minute + l.from) (86400 * l.today.day + 3600 * l.hour + 60 * l.minute + l.second)
