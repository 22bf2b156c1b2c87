use Rattle.std.proofs.Common.{◌≡◌, take}
use Rattle.ical_values.proofs.zones.copied.Given as goal

abbrev pub invariant-names : goal.invariant-names
invariant-names l = l.copies ≡ take l.name-index l.names
