-- How far an end lies from the start of its component, if that has one.
use Rattle.std.specs.Prelude.{ℕ, ◌-ℤ◌, unsigned_abs, List, Option, Some, None}
use Rattle.cal_moment.specs.declared.stamp.Stamp.{Stamp}
use Rattle.cal_model.specs.declared.zone.ZoneTable.{ZoneTable}
use Rattle.cal_model.specs.Instances.Alignment.{value_of}

abbrev pub start_distance : List ZoneTable → Option Stamp → Stamp → ℕ
start_distance zones None end = 0
start_distance zones (Some start) end = unsigned_abs (value_of zones end -ℤ value_of zones start)
