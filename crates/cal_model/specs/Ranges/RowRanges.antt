-- Whether a row of an object meets a range: by its own time, or by an alarm that counts from it (RFC 4791, 9.9).
-- A test of one row; which rows there are, and how they are found, stands elsewhere.
use Rattle.std.specs.Prelude.{Bool, true, false, ◌&&◌, ◌||◌, List, option_to_list, slice_get}
use Rattle.std.specs.List.{list_any}
use Rattle.cal_model.specs.declared.object.Alarm.{Alarm}
use Rattle.cal_model.specs.declared.object.Component.{Component}
use Rattle.cal_model.specs.declared.object.Trigger.{Trigger}
use Rattle.cal_model.specs.declared.object.Trigger.TheVariants.{At, From}
use Rattle.cal_model.specs.declared.object.Object.{Object}
use Rattle.cal_model.specs.declared.row.Range.{Range}
use Rattle.cal_model.specs.declared.row.Row.{Row}
use Rattle.cal_model.specs.declared.zone.ZoneTable.{ZoneTable}
use Rattle.cal_model.specs.Ranges.Overlap.{row_overlaps, alarm_overlaps, dated_fixed}

-- the component of a row
abbrev pub component_of_row : Object → Row → List Component
component_of_row object row = option_to_list (slice_get object.components row.component)

-- the row's own time overlaps the range
abbrev pub row_in_range : Object → ZoneTable → Range → Row → Bool
row_in_range object zone range row = list_any (λ c. row_overlaps c row range zone) (component_of_row object row)

-- a trigger that counts from a row; an absolute one needs none
abbrev pub is_relative : Trigger → Bool
is_relative (At u) = false
is_relative (From related length) = true

-- some alarm that counts from the row goes off in the range
abbrev pub alarm_in_range : ZoneTable → Range → Row → Component → Alarm → Bool
alarm_in_range zone range row c alarm = is_relative alarm.trigger && alarm_overlaps alarm c (dated_fixed row zone) range

abbrev pub row_alarm_in_range : Object → ZoneTable → Range → Row → Bool
row_alarm_in_range object zone range row = list_any (λ (c : Component). list_any (alarm_in_range zone range row c) c.alarms) (component_of_row object row)

-- The row can meet the range: a test of the range may depend on it.
abbrev pub row_meets : Object → ZoneTable → Range → Row → Bool
row_meets object zone range row = row_in_range object zone range row || row_alarm_in_range object zone range row
