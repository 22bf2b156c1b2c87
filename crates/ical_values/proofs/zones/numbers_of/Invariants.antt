use Rattle.std.proofs.Common.{take}
use Rattle.ical_values.specs.ZonePlaces.{HasFirstPlaces}
use Rattle.ical_values.proofs.zones.numbers_of.Given as goal

-- the first places among the names so far
abbrev pub invariant-names : goal.invariant-names
invariant-names l = HasFirstPlaces l.numbers (take l.place l.names)
