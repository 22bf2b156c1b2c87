-- The lines of runs of busy time.
use Rattle.std.specs.Prelude.{ℕ, List, map}
use Rattle.cal_moment.specs.Calendar.{IsCalendarMoment}
use Rattle.cal_model.specs.Busy.FreeBusyText.{run_line}
use Rattle.cal_model.specs.Words.TextLines.{lines_text}
use Rattle.freebusy.specs.declared.busy.Run.{Run}
use Rattle.freebusy.specs.Times.{time_of_run}

-- a line for each run
abbrev pub run_lines : List Run → List ℕ
run_lines runs = lines_text (map run_line (map time_of_run runs))

-- a run whose moments can be written
pub record IsWithinDates (run : Run) : Type 0 where
  pub start : IsCalendarMoment run.start.0
  pub end : IsCalendarMoment run.end.0
