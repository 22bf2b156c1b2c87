use Rattle.std.proofs.Common.{◌≡◌, ℕ, ◌+◌, ◌<◌, false, nat_lt}
use Rattle.std.specs.Prelude.{if◌then◌else◌}
use Rattle.rrule_step.specs.Sets.{has}
use Rattle.rrule_step.specs.Periods.{is_counted}
use Rattle.rrule_step.proofs.periods.counted_hours.Given as goal

-- the hours so far
abbrev pub invariant-loop-hour : goal.invariant-loop-hour
invariant-loop-hour l = (h : ℕ) → h < 24 → has l.set h ≡ (if nat_lt h l.hour then is_counted l.first l.interval (l.number + h) else false)
