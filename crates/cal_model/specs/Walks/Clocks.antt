-- The readings that clocks stand for.
use Rattle.std.specs.Prelude.{true, false}
use Rattle.cal_model.specs.declared.walk.clock.Clock.{Clock}
use Rattle.cal_model.specs.declared.walk.clock.Clock.TheVariants as clock
use Rattle.cal_model.specs.TimeZones.TableBounds.{IsTable, IsOffset}
use Rattle.cal_model.specs.Recurrence.RecurrenceSet.{Reading, plain_reading, utc_reading, onset_reading}
use Rattle.cal_model.specs.Instances.Alignment.{zoned_reading}

abbrev pub reading_by : Clock → Reading
reading_by clock.Date = plain_reading true
reading_by clock.Floating = plain_reading false
reading_by clock.Utc = utc_reading
reading_by (clock.Zoned zone) = zoned_reading zone.now
reading_by (clock.Onset from) = onset_reading from

-- the table of a zone is one that parts make, and an offset is less than a day
abbrev pub IsClock : Clock → Type 0
IsClock (clock.Zoned zone) = IsTable zone.now
IsClock (clock.Onset from) = IsOffset from
IsClock other = Unit {0}
