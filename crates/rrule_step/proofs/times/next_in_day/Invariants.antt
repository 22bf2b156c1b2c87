use Rattle.std.proofs.Common.{◌*◌, ◌-◌}
use Rattle.rrule_step.specs.Clock.{in_day}
use Rattle.rrule_step.specs.Firsts.{NoneHolds}
use Rattle.rrule_step.proofs.times.next_in_day.Given as goal

-- no hour so far has one
abbrev pub invariant-loop-next : goal.invariant-loop-next
invariant-loop-next l = NoneHolds (in_day l.hours l.minutes l.seconds) l.from (3600 * l.hour)

abbrev pub decreases-loop-next : goal.decreases-loop-next
decreases-loop-next l = 24 - l.hour
