use Rattle.std.proofs.Common.{◌+◌, ◌*◌}
use Rattle.cal_model.specs.Recurrence.NextPassing.{NonePasses}
use Rattle.rrule_filter.specs.StartMoment.{moment_of}
use Rattle.rrule_filter.proofs.times.next_in_hour.Given as goal

-- no minute so far has one
abbrev pub invariant-loop-minute : goal.invariant-loop-minute
invariant-loop-minute l =
    NonePasses l.rule (moment_of l.start) l.start.dated (86400 * l.today.day + 3600 * l.hour + l.from) (86400 * l.today.day + 3600 * l.hour + 60 * l.minute)
