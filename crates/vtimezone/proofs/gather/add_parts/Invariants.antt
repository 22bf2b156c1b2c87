use Rattle.std.proofs.Common.{◌≡◌, ◌+◌, ◌++◌, All, flat_map, length}
use Rattle.cal_model.specs.Recurrence.RecurrenceSet.{every_moment}
use Rattle.cal_model.specs.TimeZones.TableBounds.{IsPart}
use Rattle.cal_model.specs.TimeZones.ZoneOnsets as zone
use Rattle.vtimezone.specs.Gathered as spec
use Rattle.vtimezone.proofs.gather.add_parts.Given as goal

-- what was put there, and the changes of the parts to come, are all
abbrev pub invariant-loop-part : goal.invariant-loop-part
invariant-loop-part g l = record {
  parts : All IsPart l.rest;
  all : spec.changes_of l.changes ++ flat_map (zone.part_changes every_moment) l.rest ≡ spec.changes_of l.fn.changes ++ flat_map (zone.part_changes every_moment) l.parts;
  room : l.room + zone.table_count l.parts ≡ l.fn.room + zone.table_count l.rest;
}

abbrev pub decreases-loop-part : goal.decreases-loop-part
decreases-loop-part g l = length l.rest
