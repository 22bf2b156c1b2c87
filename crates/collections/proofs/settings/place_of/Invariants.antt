use Rattle.std.proofs.Common.{◌≡◌, ◌+◌, drop}
use Rattle.collections.specs.Settings.{place_in}
use Rattle.collections.proofs.settings.place_of.Given as goal

abbrev pub invariant-loop-at : goal.invariant-loop-at
invariant-loop-at l = place_in l.items l.name ≡ l.at + place_in (drop l.at l.items) l.name
