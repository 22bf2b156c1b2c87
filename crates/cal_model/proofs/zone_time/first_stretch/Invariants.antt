use Rattle.std.proofs.Common.{◌≡◌, ℕ, ◌<◌, false}
use Rattle.cal_model.specs.Conversions.Stretches.{has_local}
use Rattle.cal_model.proofs.zone_time.first_stretch.Given as goal

-- no stretch before has it
abbrev pub invariant-loop-k : goal.invariant-loop-k
invariant-loop-k l = (j : ℕ) → j < l.k → has_local l.table l.local j ≡ false
