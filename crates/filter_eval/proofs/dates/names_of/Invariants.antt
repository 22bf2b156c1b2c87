use Rattle.std.proofs.Common.{◌≡◌, take}
use Rattle.cal_model.specs.Objects.ZoneReading.{zone_names}
use Rattle.filter_eval.proofs.dates.names_of.Given as goal

-- the names of the zones so far
abbrev pub invariant-zones : goal.invariant-zones
invariant-zones l = l.names ≡ zone_names (take l.zone-index l.zones)
