-- The zone in which floating times and dates are read (RFC 4791, 5.2.2, 7.3 and 9.8).
-- A choice among three; how the text of a zone is read stands in `ObjectReading` (`read_zone`).
use Rattle.std.specs.Prelude.{Option, unwrap_or}
use Rattle.cal_base.specs.Lines.ComponentTrees.{or_else}
use Rattle.cal_model.specs.declared.zone.ZoneTable.{ZoneTable}
use Rattle.cal_model.specs.Instances.Alignment.{utc_zone}

-- The report's own timezone, else the calendar's, else UTC. A calendar-multiget and a query for busy times have no timezone of their own.
abbrev pub floating_zone : Option ZoneTable → Option ZoneTable → ZoneTable
floating_zone reports calendars = unwrap_or (or_else reports calendars) utc_zone
