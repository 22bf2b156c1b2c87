use Rattle.std.proofs.Common.{◌≡◌, ◌++◌, length}
use Rattle.cal_model.specs.Objects.ZoneReading.{zone_names}
use Rattle.cal_object.proofs.calendar_zones.copied_names.Given as goal

abbrev pub invariant-zones : goal.invariant-zones
invariant-zones l = l.names ++ zone_names l.rest ≡ zone_names l.zones

abbrev pub decreases-zones : goal.decreases-zones
decreases-zones l = length l.rest
