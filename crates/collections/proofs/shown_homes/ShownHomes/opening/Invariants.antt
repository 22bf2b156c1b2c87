use Rattle.std.proofs.Common.{◌≡◌}
use Rattle.collections.specs.Homes.{opening_homes}
use Rattle.collections.proofs.shown_homes.ShownHomes.opening.Given as goal

abbrev pub invariant-loop-number : goal.invariant-loop-number
invariant-loop-number l = l.homes ≡ opening_homes l.number
