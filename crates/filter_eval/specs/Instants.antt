-- How far moments, lengths and local times reach that filters add, and the least of some instants.
use Rattle.std.specs.Prelude.{List, [], ◌∷◌, Option, Some, None, ℤ, pos, neg_ℤ, ◌+ℤ◌}
use Rattle.cal_moment.specs.Calendar.{IsBetween, IsCalendarMoment}
use Rattle.cal_moment.specs.declared.stamp.Length.{Length}
use Rattle.cal_moment.specs.declared.stamp.Stamp.{Stamp}
use Rattle.cal_model.specs.Instances.Alignment.{written_value}
use Rattle.cal_model.specs.TimeZones.Zones.{instant_of, local_at}
use Rattle.cal_model.specs.declared.zone.ZoneTable.{ZoneTable}
use Rattle.cal_model.specs.Words.Integers.{least_of}

-- a stamp of the years 1 to 9999, as each is that was read
abbrev pub IsDated : Stamp → Type 0
IsDated stamp = IsCalendarMoment (written_value stamp)

-- a moment of these years, or within a day of them
abbrev pub IsNearDates : ℤ → Type 0
IsNearDates = IsBetween (neg_ℤ (pos 1_000_000_000_000)) (pos 1_000_000_000_000)

-- some digits of a zone, so many seconds of days later by its clock, as an instant
abbrev pub zoned_later : ZoneTable → ℤ → ℤ → ℤ
zoned_later zone digits later = instant_of zone (local_at zone (instant_of zone digits) +ℤ later)

-- the seconds of days that a DURATION has
abbrev pub IsOfLength : ℤ → Type 0
IsOfLength = IsBetween (neg_ℤ (pos 604_800_000_000_000)) (pos 604_800_000_000_000)

-- a length as a DURATION spells it
pub record IsLength (length : Length) : Type 0 where
  pub days : IsBetween (neg_ℤ (pos 6_999_999_993)) (pos 6_999_999_993) length.days
  pub seconds : IsBetween (neg_ℤ (pos 10_800_000_000_000)) (pos 10_800_000_000_000) length.seconds

-- what sums of a moment and a length reach
abbrev pub IsWide : ℤ → Type 0
IsWide = IsBetween (neg_ℤ (pos 1_000_000_000_000_000)) (pos 1_000_000_000_000_000)

-- those less an offset
abbrev pub IsInReach : ℤ → Type 0
IsInReach = IsBetween (neg_ℤ (pos 2_000_000_000_000_000)) (pos 2_000_000_000_000_000)

-- digits that the days of a local time reach
abbrev pub IsOfDays : ℤ → Type 0
IsOfDays = IsBetween (neg_ℤ (pos 180_000_000_000_000)) (pos 180_000_000_000_000)

-- no onset that leads past such digits is as early as this
abbrev pub earliest : ℤ
earliest = neg_ℤ (pos 2_000_000_000_000_000)

-- the least of some instants, if there is one
abbrev pub least_there : List ℤ → Option ℤ
least_there [] = None
least_there (u ∷ us) = Some (least_of u us)

-- the lesser of two instants that may be there
abbrev pub lesser : Option ℤ → Option ℤ → Option ℤ
lesser None second = second
lesser (Some first) None = Some first
lesser (Some first) (Some second) = Some (least_of first (second ∷ []))
