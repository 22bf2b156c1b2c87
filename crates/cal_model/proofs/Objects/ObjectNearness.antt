-- Each object that was read has what the laws of nearness ask for: short offsets in its zones, and no DATE in its periods.
use Rattle.std.proofs.Common.{sym, subst}
use Rattle.std.specs.Prelude.{All}
use Rattle.std.proofs.lemmas.List.Elements.{All-weaker}
use Rattle.cal_model.specs.declared.object.Component.{Component}
use Rattle.cal_model.specs.declared.object.Object.{Object}
use Rattle.cal_model.specs.declared.zone.ZoneTable.{ZoneTable}
use Rattle.cal_model.specs.Ranges.Nearness.{HasNearRows, HasShortOffsets, IsTimed}
use Rattle.cal_model.specs.Objects.ObjectFacts.{IsRead, IsReadComponent, IsReadObject, IsZone}
use Rattle.cal_model.specs.TimeZones.TableBounds.{IsTable}
use Rattle.cal_model.proofs.TimeZones.NearTimes.{HasShortOffsets-table}
use Rattle.cal_model.proofs.Objects.ObjectFactLaws.{IsReadObject-read}
use Rattle.cal_model.proofs.TimeZones.ZoneTableLaws.{IsTable-table_of}

-- a table of parts that were read
pub HasShortOffsets-zone : (zone : ZoneTable) → IsZone zone → HasShortOffsets zone
HasShortOffsets-zone zone is = HasShortOffsets-table zone (subst IsTable (sym is.table) (IsTable-table_of zone.name is.parts is.read))

pub HasNearRows-object : (object : Object) → IsReadObject object → HasNearRows object
HasNearRows-object object is = record {
  offsets = All-weaker IsZone HasShortOffsets HasShortOffsets-zone object.zones is.zones;
  periods = All-weaker (IsReadComponent object) (λ (c : Component). All IsTimed c.periods) (λ c facts. facts.timed_periods) object.components is.components;
}

-- each object that octets are
pub HasNearRows-read : (object : Object) → IsRead object → HasNearRows object
HasNearRows-read object read = HasNearRows-object object (IsReadObject-read object read)
