-- The busy times of an object, as far as the rows of some windows give them.
use Rattle.std.specs.Prelude.{List, ◌++◌, flat_map, ℤ, Option}
use Rattle.cal_moment.specs.declared.stamp.Period.{Period}
use Rattle.cal_model.specs.declared.object.Class.{Class}
use Rattle.cal_model.specs.declared.object.Component.{Component}
use Rattle.cal_model.specs.declared.object.Object.{Object}
use Rattle.cal_model.specs.declared.row.Row.{Row}
use Rattle.cal_model.specs.declared.zone.ZoneTable.{ZoneTable}
use Rattle.cal_model.specs.Busy.BusyTimes.{BusyTime, times_of_row, times_of_stored, stored_periods}
use Rattle.cal_model.specs.Instances.Rows.{rows_in}
use Rattle.cal_model.specs.Ranges.Overlap.{stored_period}
use Rattle.overlap_rules.specs.Bounds.{IsNear}

-- those of some rows
abbrev pub times_of_rows : ZoneTable → Object → List Row → List BusyTime
times_of_rows zone object rows = flat_map (times_of_row zone object) rows

-- those of the rows in some windows
abbrev pub times_in : ZoneTable → Object → List ℤ → List BusyTime
times_in zone object windows = flat_map (λ window. times_of_rows zone object (rows_in object window)) windows

-- those that components store
abbrev pub stored_times : List Component → List BusyTime
stored_times components = flat_map times_of_stored (flat_map (λ (c : Component). stored_periods c.kind c) components)

-- both
abbrev pub times_by_windows : ZoneTable → Object → List ℤ → List BusyTime
times_by_windows zone object windows = times_in zone object windows ++ stored_times object.components

-- a stored period lies near 1970
pub record IsNearPeriod (period : Period) : Type 0 where
  pub start : IsNear (stored_period period).0
  pub end : IsNear (stored_period period).1

abbrev pub IsNearStored : Option Class × Period → Type 0
IsNearStored stored = IsNearPeriod stored.1
