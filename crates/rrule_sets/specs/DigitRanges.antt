-- Which starts have their local digits in a range.
use Rattle.std.specs.Prelude.{Bool, ◌&&◌, List, ℤ, int_le, int_lt}
use Rattle.cal_moment.specs.declared.stamp.Stamp.{Stamp}
use Rattle.cal_model.specs.declared.zone.ZoneTable.{ZoneTable}
use Rattle.cal_model.specs.Instances.Alignment.{reading_of}
use Rattle.rrule_sets.specs.declared.range.Digits.{Digits}

abbrev pub in_digits : Digits → ℤ → Bool
in_digits range l = int_le range.low l && int_lt l range.high

-- by the clock of a stamp
abbrev pub starts_in : List ZoneTable → Stamp → Digits → ℤ → Bool
starts_in zones s range r = in_digits range ((reading_of zones s).local r)
