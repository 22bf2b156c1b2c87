use Rattle.std.proofs.Common.{◌*◌, ◌-◌}
use Rattle.rrule_step.specs.Clock.{in_hour}
use Rattle.rrule_step.specs.Firsts.{NoneHolds}
use Rattle.rrule_step.proofs.times.next_in_hour.Given as goal

-- no minute so far has one
abbrev pub invariant-loop-next : goal.invariant-loop-next
invariant-loop-next l = NoneHolds (in_hour l.minutes l.seconds) l.from (60 * l.minute)

abbrev pub decreases-loop-next : goal.decreases-loop-next
decreases-loop-next l = 60 - l.minute
