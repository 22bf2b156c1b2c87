use Rattle.std.proofs.Common.{◌≡◌, ℕ, ◌+◌, ◌<◌, false, nat_lt, slice_index_or}
use Rattle.std.specs.Prelude.{if◌then◌else◌}
use Rattle.rrule_step.specs.Sets.{has}
use Rattle.rrule_step.proofs.days.marked_days.Given as goal

-- the days so far
abbrev pub invariant-loop-i : goal.invariant-loop-i
invariant-loop-i l = (k : ℕ) → k < 31 → has l.set k ≡ (if nat_lt k l.i then slice_index_or l.table (l.before + k) false else false)
