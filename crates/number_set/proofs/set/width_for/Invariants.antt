use Rattle.std.proofs.Common.{◌-◌, ◌≡◌, ℕ, ◌<◌, ◌≤◌, ◌^◌}
use Rattle.number_set.specs.Trees.{doubled}
use Rattle.number_set.proofs.set.width_for.Given as goal

pub record IsOnTheWay (width wide high : ℕ) : Type 0 where
  pub power : wide ≡ doubled high
  pub grows : width ≤ wide
  pub fits : wide < 2 ^ 63

abbrev pub invariant-loop-wide : goal.invariant-loop-wide
invariant-loop-wide l = IsOnTheWay l.fn.width l.wide l.high

abbrev pub decreases-loop-wide : goal.decreases-loop-wide
decreases-loop-wide l = l.bound - l.wide
