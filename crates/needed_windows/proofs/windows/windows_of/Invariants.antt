use Rattle.std.proofs.Common.{◌≤◌, length}
use Rattle.std.specs.Prelude.{All, AllPairs}
use Rattle.needed_windows.specs.Stretches.{IsStretch, StartsNoLater, places}
use Rattle.needed_windows.proofs.StretchLemmas.{IsSwept}
use Rattle.needed_windows.proofs.windows.windows_of.Given as goal

abbrev pub invariant-stretches : goal.invariant-stretches
invariant-stretches l = record {
  swept : IsSwept l.stretches l.rest l.next l.windows;
  bound : l.next ≤ places;
  each : All IsStretch l.rest;
  rising : AllPairs StartsNoLater l.rest;
}

abbrev pub decreases-stretches : goal.decreases-stretches
decreases-stretches l = length l.rest
