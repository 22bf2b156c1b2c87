-- When a calendar is busy (RFC 4791, 7.10): the class of each second, and the longest runs of one class in a range.
-- A class is told for each second by itself, and runs join the seconds. A body may sweep over starts and ends: `AreRuns` says what its list has to be, and one list alone is that (`BusyRunLaws`).
use Rattle.std.specs.Prelude.{◌≡◌, ◌≢◌, ℕ, zero, suc, Bool, true, false, ◌&&◌, if◌then◌else◌, List, [], ◌∷◌, filter, flat_map, Option, Some, None, ℤ, pos, ◌+ℤ◌, ◌-ℤ◌, int_le, int_lt, ◌≤ℤ◌, ◌<ℤ◌, nat_abs, AllPairs, All}
use Rattle.cal_model.specs.declared.object.Class.{Class}
use Rattle.cal_model.specs.declared.object.Class.TheVariants.{Busy, Unavailable, Tentative}
use Rattle.cal_model.specs.declared.object.Object.{Object}
use Rattle.cal_model.specs.declared.row.Range.{Range}
use Rattle.cal_model.specs.declared.zone.ZoneTable.{ZoneTable}
use Rattle.cal_model.specs.Busy.BusyTimes.{BusyTime, busy_times}
use Rattle.cal_model.specs.Words.Integers.{same_int}

-- a time covers its start and not its end
abbrev pub covers : ℤ → BusyTime → Bool
covers t time = int_le time.start t && int_lt t time.end

-- BUSY is the greatest class, then comes BUSY-UNAVAILABLE, then BUSY-TENTATIVE
abbrev pub greater : Class → Option Class → Class
greater Busy other = Busy
greater Unavailable (Some Busy) = Busy
greater Unavailable other = Unavailable
greater Tentative None = Tentative
greater Tentative (Some class) = class

abbrev pub greatest_class : List BusyTime → Option Class
greatest_class [] = None
greatest_class (time ∷ times) = Some (greater time.class (greatest_class times))

-- The class of a second: the greatest of the times that cover it, or none.
abbrev pub class_at : List BusyTime → ℤ → Option Class
class_at times t = greatest_class (filter (covers t) times)

abbrev pub same_class : Class → Class → Bool
same_class Busy Busy = true
same_class Unavailable Unavailable = true
same_class Tentative Tentative = true
same_class first second = false

-- Runs, from the last second to the first

abbrev pub one_second : ℤ → Class → BusyTime
one_second t class = record { class = class; start = t; end = t +ℤ pos 1 }

-- a second of a class before some runs: it lengthens the first where that follows at once and has its class
abbrev pub with_class : ℤ → Class → List BusyTime → List BusyTime
with_class t class [] = one_second t class ∷ []
with_class t class (run ∷ runs) =
    if same_class class run.class && same_int run.start (t +ℤ pos 1) then record run { start = t } ∷ runs else one_second t class ∷ run ∷ runs

abbrev pub with_second : ℤ → Option Class → List BusyTime → List BusyTime
with_second t None runs = runs
with_second t (Some class) runs = with_class t class runs

-- the runs of so many seconds from t on, each of the class that is given for it
abbrev pub runs_from : (ℤ → Option Class) → ℤ → ℕ → List BusyTime
runs_from class t zero = []
runs_from class t (suc n) = with_second t (class t) (runs_from class (t +ℤ pos 1) n)

-- the seconds of a range; one that ends before it starts has none
abbrev pub size : Range → ℕ
size range = if int_lt range.start.0 range.end.0 then nat_abs (range.end.0 -ℤ range.start.0) else 0

-- The longest runs of one class in a range, in order: a function of the class of each second of the range, and of nothing else.
abbrev pub runs_of_classes : (ℤ → Option Class) → Range → List BusyTime
runs_of_classes class range = runs_from class range.start.0 (size range)

-- the same of some busy times
abbrev pub runs : List BusyTime → Range → List BusyTime
runs times range = runs_of_classes (class_at times) range

-- What makes a list of runs the right one, without a word on how it is found: they lie in the range in order, each second has the class that the runs say, and no run goes on in the next one.
pub record AreRuns (times : List BusyTime) (range : Range) (found : List BusyTime) : Type 0 where
  pub within : All (λ (run : BusyTime). (range.start.0 ≤ℤ run.start) × (run.start <ℤ run.end) × (run.end ≤ℤ range.end.0)) found
  pub in_order : AllPairs (λ (run later : BusyTime). run.end ≤ℤ later.start) found
  pub longest : AllPairs (λ (run later : BusyTime). run.end ≡ later.start → run.class ≢ later.class) found
  pub classes : (t : ℤ) → range.start.0 ≤ℤ t → t <ℤ range.end.0 → class_at found t ≡ class_at times t

-- A calendar: the busy times of all its objects. Floating values are read in the calendar's own zone, else in UTC.
abbrev pub calendar_times : ZoneTable → List Object → List BusyTime
calendar_times zone objects = flat_map (busy_times zone) objects

abbrev pub calendar_runs : ZoneTable → List Object → Range → List BusyTime
calendar_runs zone objects range = runs (calendar_times zone objects) range
