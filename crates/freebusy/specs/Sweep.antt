-- Runs that are found from the last to the first, stretch by stretch.
use Rattle.std.specs.Prelude.{◌&&◌, if◌then◌else◌, List, [], ◌∷◌, map, reverse, Option, Some, None, ℤ, int_lt}
use Rattle.cal_model.specs.declared.object.Class.{Class}
use Rattle.cal_model.specs.Busy.BusyTimes.{BusyTime}
use Rattle.cal_model.specs.Busy.BusyRuns.{same_class}
use Rattle.cal_model.specs.Words.Integers.{same_int}
use Rattle.freebusy.specs.declared.busy.Run.{Run}
use Rattle.freebusy.specs.Times.{time_of_run}

-- what was found, of which the first run comes last
abbrev pub in_order : List Run → List BusyTime
in_order found = map time_of_run (reverse found)

-- a run before others: it lengthens the next one where that follows at once and has its class
abbrev pub with_run : BusyTime → List BusyTime → List BusyTime
with_run run [] = run ∷ []
with_run run (next ∷ later) =
    if same_class run.class next.class && same_int next.start run.end then record next { start = run.start } ∷ later else run ∷ next ∷ later

-- a stretch of one class before others, if it has a second and a class
abbrev pub with_stretch : Option Class → ℤ → ℤ → List BusyTime → List BusyTime
with_stretch None from to runs = runs
with_stretch (Some class) from to runs = if int_lt from to then with_run (record { class = class; start = from; end = to }) runs else runs
