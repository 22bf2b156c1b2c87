use Rattle.std.proofs.Common.{◌≡◌, ℕ, ◌+◌, ◌*◌, ◌<◌, ◌==◌, true, false, nat_lt}
use Rattle.std.specs.Prelude.{if◌then◌else◌}
use Rattle.cal_moment.specs.Calendar.{weekday_of}
use Rattle.rrule_step.specs.Ordinals.{asks_for}
use Rattle.rrule_step.specs.Sets.{has}
use Rattle.rrule_step.proofs.days.with_weeks.Given as goal

-- the days of the weeks so far
abbrev pub invariant-loop-week : goal.invariant-loop-week
invariant-loop-week l = (i : ℕ) → i < 31 → has l.set i ≡ (if (if nat_lt i (l.at + 7 * l.week) then (if l.weekday == weekday_of (l.first + i) then asks_for (has l.front) (has l.back) (l.before + i + 1) l.size else false) else false) then true else has l.fn.set i)
