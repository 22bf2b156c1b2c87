use Rattle.std.proofs.Common.{◌≡◌, ℕ, ◌+◌, ◌-◌, ◌<◌, false, nat_lt}
use Rattle.std.specs.Prelude.{if◌then◌else◌}
use Rattle.cal_model.specs.Recurrence.Passing.{week_passes}
use Rattle.rrule_step.specs.Sets.{has}
use Rattle.rrule_step.proofs.weeks.named_weeks.Given as goal

-- the days so far, and whether the week of the last one passes
abbrev pub invariant-loop-i : goal.invariant-loop-i
invariant-loop-i l =
    ((k : ℕ) → k < 31 → has l.set k ≡ (if nat_lt k l.i then week_passes l.rule (l.month.first + k) else false))
    × (0 < l.i → l.passes ≡ week_passes l.rule (l.month.first + l.i - 1))
