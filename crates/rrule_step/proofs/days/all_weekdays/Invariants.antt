use Rattle.std.proofs.Common.{◌≡◌, ℕ, ◌+◌, ◌<◌, false, nat_lt}
use Rattle.std.specs.Prelude.{if◌then◌else◌}
use Rattle.cal_moment.specs.Calendar.{weekday_of}
use Rattle.rrule_step.specs.Ordinals.{asks_of}
use Rattle.rrule_step.specs.Sets.{has}
use Rattle.rrule_step.proofs.days.all_weekdays.Given as goal

-- the days of the weekdays so far
abbrev pub invariant-loop-weekday : goal.invariant-loop-weekday
invariant-loop-weekday l = (i : ℕ) → i < 31 → has l.set i ≡ (if nat_lt (weekday_of (l.first + i)) l.weekday then asks_of l.ordinals (weekday_of (l.first + i)) (l.before + i + 1) l.size else false)
