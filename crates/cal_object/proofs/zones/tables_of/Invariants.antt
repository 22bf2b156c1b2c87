use Rattle.std.proofs.Common.{◌≡◌, ◌++◌, ◌+◌, length, map, filter, All}
use Rattle.cal_model.specs.Recurrence.RecurrenceSet.{every_moment}
use Rattle.cal_model.specs.TimeZones.TableBounds.{IsTable}
use Rattle.cal_model.specs.Objects.ZoneReading as spec
use Rattle.cal_object.specs.ZoneFaults.{first_bad}
use Rattle.cal_object.proofs.zones.tables_of.Given as goal

-- the tables so far, and those of the components to come, are all; none was bad
abbrev pub invariant-nodes : goal.invariant-nodes
invariant-nodes l = record {
  number : l.child + length l.rest ≡ length l.nodes;
  convertible : All IsTable l.tables;
  all : l.tables ++ map (spec.zone_table every_moment) (filter spec.is_zone l.rest) ≡ map (spec.zone_table every_moment) (filter spec.is_zone l.nodes);
  bad : first_bad l.child l.room l.rest ≡ first_bad 0 50_000 l.nodes;
}

abbrev pub decreases-nodes : goal.decreases-nodes
decreases-nodes l = length l.rest
