-- Zones whose local times are at hand for many conversions.
use Rattle.std.specs.Prelude.{ℕ, ◌<◌, List, map}
use Rattle.cal_moment.specs.declared.stamp.Stamp.{Stamp}
use Rattle.cal_moment.specs.declared.stamp.Stamp.TheVariants.{Zoned}
use Rattle.cal_model.specs.declared.local_times.LocalTimes.{LocalTimes}
use Rattle.cal_model.specs.declared.zone.ZoneTable.{ZoneTable}

-- the tables of the zones
abbrev pub tables_of : List LocalTimes → List ZoneTable
tables_of zones = map (λ (times : LocalTimes). times.table.now) zones

-- the zone of a stamp is one of so many
abbrev pub HasZone : ℕ → Stamp → Type 0
HasZone zones (Zoned local number) = number < zones
HasZone zones other = Unit {0}
