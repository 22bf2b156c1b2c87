-- The rows and the runs of the public call as busy times of the model.
use Rattle.std.specs.Prelude.{List, map}
use Rattle.cal_model.specs.Busy.BusyTimes.{BusyTime}
use Rattle.freebusy.specs.declared.busy.BusyRow.{BusyRow}
use Rattle.freebusy.specs.declared.busy.Run.{Run}

abbrev pub time_of : BusyRow → BusyTime
time_of row = record { class = row.class; start = row.start; end = row.end }

abbrev pub times_of : List BusyRow → List BusyTime
times_of rows = map time_of rows

abbrev pub time_of_run : Run → BusyTime
time_of_run run = record { class = run.class; start = run.start.0; end = run.end.0 }

-- a run as a row
abbrev pub row_of_run : Run → BusyRow
row_of_run run = record { class = run.class; start = run.start.0; end = run.end.0 }
