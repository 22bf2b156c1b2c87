-- The times at which an object makes its owner busy, each with its class. From RFC 4791, 7.10, and RFC 5545, 3.2.9 and 3.8.2.6.
-- One list over all rows of the object, whatever range is asked for. Which class a second has, where several times cover it, and the runs of one class stand in `BusyRuns`.
use Rattle.std.specs.Prelude.{ℕ, List, [], ◌++◌, map, filter, flat_map, option_to_list, option_and_then, slice_get, ℤ, Option}
use Rattle.cal_moment.specs.declared.stamp.Period.{Period}
use Rattle.cal_model.specs.declared.object.Class.{Class}
use Rattle.cal_model.specs.declared.object.Component.{Component}
use Rattle.cal_model.specs.declared.object.Kind.{Kind}
use Rattle.cal_model.specs.declared.object.Kind.TheVariants.{FreeBusy}
use Rattle.cal_model.specs.declared.object.Object.{Object}
use Rattle.cal_model.specs.declared.row.Row.{Row}
use Rattle.cal_model.specs.declared.zone.ZoneTable.{ZoneTable}
use Rattle.cal_model.specs.Ranges.Overlap.{fixed, stored_period}
use Rattle.cal_model.specs.Recurrence.RecurrenceSet.{every_moment}
use Rattle.cal_model.specs.Instances.Rows.{is_dated, rows_over}

-- busy from the start up to the end, in seconds since 1970 in UTC
pub record BusyTime : Type 0 where
  pub class : Class
  pub start : ℤ
  pub end : ℤ

-- the class of a row is that of its component; none for one that counts as free
abbrev pub class_of_row : Object → Row → Option Class
class_of_row object row = option_and_then (λ (c : Component). c.busy) (slice_get object.components row.component)

-- a row makes busy from its start to its end, floating and DATE moments read in the zone
abbrev pub time_of_row : ZoneTable → Row → Class → BusyTime
time_of_row zone row class = record { class = class; start = (fixed row zone).start; end = (fixed row zone).end }

abbrev pub times_of_row : ZoneTable → Object → Row → List BusyTime
times_of_row zone object row = map (time_of_row zone row) (option_to_list (class_of_row object row))

-- a stored period, unless it is FREE
abbrev pub time_of_period : Period → Class → BusyTime
time_of_period period class = record { class = class; start = (stored_period period).0; end = (stored_period period).1 }

abbrev pub times_of_stored : Option Class × Period → List BusyTime
times_of_stored stored = map (time_of_period stored.1) (option_to_list stored.0)

-- a VFREEBUSY alone has stored periods
abbrev pub stored_periods : Kind → Component → List (Option Class × Period)
stored_periods FreeBusy c = c.stored_busy
stored_periods other c = []

-- the busy times of the rows that have a date, then those of the stored periods; floating values are read in the given zone, which is that of the calendar, else UTC
abbrev pub busy_times_over : List ℕ → ZoneTable → Object → List BusyTime
busy_times_over moments zone object =
    flat_map (times_of_row zone object) (filter is_dated (rows_over moments object))
    ++ flat_map times_of_stored (flat_map (λ (c : Component). stored_periods c.kind c) object.components)

abbrev pub busy_times : ZoneTable → Object → List BusyTime
busy_times = busy_times_over every_moment
