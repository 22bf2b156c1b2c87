-- A count that rose stays so, seen from an earlier one.
use Rattle.std.proofs.Common.{ℕ, ◌<◌, ◌≤◌, arith, inl, inr}
use Rattle.std.specs.Prelude.{◌⊎◌}
use Rattle.std.proofs.lemmas.Bool.{cases_lt}
use Rattle.cal_base.specs.World.Outside.{Rose}

-- a count that rose behind a moment rose since
pub rose_since : (first second third : ℕ) → first ≤ second → second ≤ third → Rose second third → Rose first third
rose_since first second third early late (inl less) = inl (omega arith)
rose_since first second third early late (inr full) = by_order (cases_lt first second)
  where
    by_order : (first < second) ⊎ (second ≤ first) → Rose first third
    by_order (inl less) = inl (omega arith)
    by_order (inr same) = inr (omega arith)

-- and is not 0
pub rose_some : (first second : ℕ) → first ≤ second → Rose first second → 0 < second
rose_some first second early (inl less) = omega (arith, less)
rose_some first second early (inr full) = omega (arith, early, full)
