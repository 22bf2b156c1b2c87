-- A stamp beside a start: which instants, digits or days are compared. From RFC 5545, 3.8.2.4, 3.8.4.4, 3.8.5.1 and 3.3.6.
-- A table by the kinds of the two stamps. It knows no component and no rule.
use Rattle.std.specs.Prelude.{ℕ, Bool, true, false, List, [], get_or, ℤ, pos, ◌+ℤ◌, ◌-ℤ◌, ◌*ℤ◌}
use Rattle.std.specs.Int.{int_div_euclid}
use Rattle.cal_moment.specs.Calendar.{moment_of_seconds}
use Rattle.cal_moment.specs.declared.stamp.Stamp.{Stamp}
use Rattle.cal_moment.specs.declared.stamp.Stamp.TheVariants.{Date, Floating, Zoned, Utc}
use Rattle.cal_moment.specs.declared.stamp.Length.{Length}
use Rattle.cal_model.specs.declared.zone.ZoneTable.{ZoneTable}
use Rattle.cal_model.specs.declared.row.RowKind.{RowKind}
use Rattle.cal_model.specs.declared.row.RowKind.TheVariants as kind
use Rattle.cal_model.specs.Words.Integers.{same_int}
use Rattle.cal_model.specs.Values.LocalTimes.{local_seconds}
use Rattle.cal_model.specs.TimeZones.Zones.{exists_in, instant_of, local_at}
use Rattle.cal_model.specs.Recurrence.RecurrenceSet.{Reading, plain_reading, utc_reading}

-- the zone whose clock shows UTC
abbrev pub utc_zone : ZoneTable
utc_zone = record { name = []; before = pos 0; onsets = [] }

-- the zone of that number in an object
abbrev pub zone_of : List ZoneTable → ℕ → ZoneTable
zone_of zones number = get_or zones number utc_zone

-- a stamp's written value: the digits, of a DATE those of its midnight, of an instant those in UTC
abbrev pub written_value : Stamp → ℤ
written_value (Date d) = d.0 *ℤ pos 86400
written_value (Floating l) = local_seconds l
written_value (Zoned l zone) = local_seconds l
written_value (Utc u) = u.0

-- the same as a moment of a rule
abbrev pub written_moment : Stamp → ℕ
written_moment s = moment_of_seconds (written_value s)

abbrev pub zoned_reading : ZoneTable → Reading
zoned_reading zone = record { dated = false; timed = true; exists = exists_in zone; instant = instant_of zone; local = local_at zone }

-- how a start's moments are read
abbrev pub reading_of : List ZoneTable → Stamp → Reading
reading_of zones (Date d) = plain_reading true
reading_of zones (Floating l) = plain_reading false
reading_of zones (Zoned l zone) = zoned_reading (zone_of zones zone)
reading_of zones (Utc u) = utc_reading

-- the value of a stamp by itself: its instant, its digits, or the midnight of its day
abbrev pub value_of : List ZoneTable → Stamp → ℤ
value_of zones s = (reading_of zones s).instant (written_value s)

abbrev pub kind_of : Stamp → RowKind
kind_of (Date d) = kind.Date
kind_of (Floating l) = kind.Floating
kind_of (Zoned l zone) = kind.Instant
kind_of (Utc u) = kind.Instant

-- the midnight of the day of some digits
abbrev pub midnight_of : ℤ → ℤ
midnight_of l = int_div_euclid l (pos 86400) *ℤ pos 86400

-- what a stamp says beside a start: one value, or a local day, by its midnight
pub data Aligned : Type 0 where
  at : ℤ → Aligned
  on_day : ℤ → Aligned

-- beside a start that isn't a DATE
abbrev pub align_timed : List ZoneTable → Stamp → Stamp → Aligned
align_timed zones (Date d) s = on_day (written_value (Date d))
align_timed zones (Floating l) s = at ((reading_of zones s).instant (written_value (Floating l)))
align_timed zones (Zoned l zone) s = at (value_of zones (Zoned l zone))
align_timed zones (Utc u) s = at u.0

-- beside a floating start digits are compared, whatever the stamp is
abbrev pub align_floating : Stamp → Aligned
align_floating (Date d) = on_day (written_value (Date d))
align_floating (Floating l) = at (written_value (Floating l))
align_floating (Zoned l zone) = at (written_value (Zoned l zone))
align_floating (Utc u) = at u.0

-- the stamp x beside the start s; the table has a row for each kind of s
abbrev pub align : List ZoneTable → Stamp → Stamp → Aligned
align zones x (Date d) = at (midnight_of (written_value x))
align zones x (Floating l) = align_floating x
align zones x (Zoned l zone) = align_timed zones x (Zoned l zone)
align zones x (Utc u) = align_timed zones x (Utc u)

-- an EXDATE or a RECURRENCE-ID names a start: that value, or any that starts on the local day
abbrev pub names_start : Reading → ℤ → Aligned → Bool
names_start reading r (at v) = same_int v r
names_start reading r (on_day midnight) = same_int midnight (midnight_of (reading.local r))

-- an RDATE's start: a local day is read at the time of day of the start
abbrev pub start_on : Reading → Stamp → Aligned → ℤ
start_on reading s (at v) = v
start_on reading s (on_day midnight) = reading.instant (midnight +ℤ (written_value s -ℤ midnight_of (written_value s)))

-- a start plus a length: days in local time, then seconds as time
abbrev pub plus_length : Reading → ℤ → Length → ℤ
plus_length reading r length = reading.instant (reading.local r +ℤ length.days *ℤ pos 86400) +ℤ length.seconds
