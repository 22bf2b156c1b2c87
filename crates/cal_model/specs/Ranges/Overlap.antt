-- Overlap of a range with the instance of a component, an alarm, a stored period or a date property. After RFC 4791, 9.9; RFC 5545, 3.6.6 and 3.8.6.
-- One table: a line for each kind of component, what each line asks, and which line fits. A range has its start and not its end. No order of tests is said.
use Rattle.std.specs.Prelude.{◌+◌, Bool, true, false, ◌&&◌, ◌||◌, if◌then◌else◌, List, map, option_map, option_to_list, is_some, ℤ, pos, ◌+ℤ◌, ◌*ℤ◌, int_le, int_lt, Option, Some, None}
use Rattle.cal_moment.specs.declared.stamp.Stamp.{Stamp}
use Rattle.cal_moment.specs.declared.stamp.Stamp.TheVariants.{Date}
use Rattle.cal_moment.specs.declared.stamp.Utc.{Utc}
use Rattle.cal_moment.specs.declared.stamp.Length.{Length}
use Rattle.cal_moment.specs.declared.stamp.Period.{Period}
use Rattle.cal_moment.specs.declared.stamp.PeriodEnd.{PeriodEnd}
use Rattle.cal_moment.specs.declared.stamp.PeriodEnd.TheVariants.{At, After}
use Rattle.cal_model.specs.declared.object.Component.{Component}
use Rattle.cal_model.specs.declared.object.Class.{Class}
use Rattle.cal_model.specs.declared.object.Kind.{Kind}
use Rattle.cal_model.specs.declared.object.Kind.TheVariants.{Event, Todo, Journal, FreeBusy}
use Rattle.cal_model.specs.declared.object.Extent.{Extent}
use Rattle.cal_model.specs.declared.object.Extent.TheVariants as extent
use Rattle.cal_model.specs.declared.object.Alarm.{Alarm}
use Rattle.cal_model.specs.declared.object.Trigger.{Trigger}
use Rattle.cal_model.specs.declared.object.Trigger.TheVariants as trigger
use Rattle.cal_model.specs.declared.object.Related.{Related}
use Rattle.cal_model.specs.declared.object.Related.TheVariants as related
use Rattle.cal_model.specs.declared.row.Row.{Row}
use Rattle.cal_model.specs.declared.row.Range.{Range}
use Rattle.cal_model.specs.declared.row.Fixed.{Fixed}
use Rattle.cal_model.specs.declared.row.RowKind.{RowKind}
use Rattle.cal_model.specs.declared.row.RowKind.TheVariants as kind
use Rattle.cal_model.specs.declared.zone.ZoneTable.{ZoneTable}
use Rattle.cal_model.specs.Words.Lists.{numbers_between}
use Rattle.std.specs.List.{list_any}
use Rattle.cal_model.specs.TimeZones.Zones.{instant_of}
use Rattle.cal_model.specs.Instances.Alignment.{written_value, value_of, kind_of, reading_of, plus_length}
use Rattle.cal_model.specs.Instances.Rows.{is_dated}

-- The lines.

pub data Line : Type 0 where
  -- an event up to its end, or a day of an event or a journal
  spans : Line
  -- its start alone: an event that takes no time, a to-do with DTSTART alone, a journal at a time
  begins : Line
  -- a to-do from DTSTART for a DURATION
  lasts : Line
  -- a to-do from DTSTART to DUE
  runs_to_due : Line
  -- a to-do with DUE and no DTSTART
  due_alone : Line
  -- a to-do without a start, by COMPLETED and CREATED, or by the one that it has
  completed_and_created : ℤ → ℤ → Line
  completed : ℤ → Line
  created : ℤ → Line
  -- a VFREEBUSY from DTSTART to DTEND
  stated : Line
  -- another VFREEBUSY, by its periods
  stored : List (ℤ × ℤ) → Line
  -- a to-do without any of these dates
  always : Line
  -- an event or a journal without DTSTART
  never : Line

-- some period of a list meets the range from a to b
abbrev pub some_meets : ℤ → ℤ → List (ℤ × ℤ) → Bool
some_meets a b periods = list_any (λ (p : ℤ × ℤ). int_lt a p.1 && int_lt p.0 b) periods

-- what a line asks of the range from a to b and the instance from s to e
abbrev pub holds : Line → ℤ → ℤ → ℤ → ℤ → Bool
holds spans a b s e = int_lt a e && int_lt s b
holds begins a b s e = int_le a s && int_lt s b
holds lasts a b s e = int_le a e && (int_lt s b || int_le e b)
holds runs_to_due a b s e = (int_lt a e || int_le a s) && (int_lt s b || int_le e b)
holds due_alone a b s e = int_lt a e && int_le e b
holds (completed_and_created done made) a b s e = (int_le a made || int_le a done) && (int_le made b || int_le done b)
holds (completed done) a b s e = int_le a done && int_le done b
holds (created made) a b s e = int_lt made b
holds stated a b s e = int_le a e && int_lt s b
holds (stored periods) a b s e = some_meets a b periods
holds always a b s e = true
holds never a b s e = false

-- Which line fits.

-- above 0
abbrev pub is_positive : Length → Bool
is_positive length = int_lt (pos 0) length.days || int_lt (pos 0) length.seconds

-- an event, by DTSTART and its end
abbrev pub line_of_event : Option Stamp → Extent → Line
line_of_event None end = never
line_of_event (Some s) (extent.End e) = spans
line_of_event (Some s) (extent.Lasting length) = if is_positive length then spans else begins
line_of_event (Some s) extent.WholeDay = spans
line_of_event (Some s) other = begins

-- a to-do by COMPLETED and CREATED
abbrev pub line_of_dates : Option Utc → Option Utc → Line
line_of_dates (Some done) (Some made) = completed_and_created done.0 made.0
line_of_dates (Some done) None = completed done.0
line_of_dates None (Some made) = created made.0
line_of_dates None None = always

-- a to-do, by DTSTART and its end, else by its other dates; a DURATION without DTSTART counts for nothing
abbrev pub line_of_todo : Option Stamp → Extent → Line → Line
line_of_todo (Some s) (extent.Lasting length) by_dates = lasts
line_of_todo (Some s) (extent.Due e) by_dates = runs_to_due
line_of_todo (Some s) other by_dates = begins
line_of_todo None (extent.Due e) by_dates = due_alone
line_of_todo None other by_dates = by_dates

-- a journal, by DTSTART
abbrev pub line_of_journal : Option Stamp → Line
line_of_journal None = never
line_of_journal (Some (Date d)) = spans
line_of_journal (Some other) = begins

-- a VFREEBUSY, by DTSTART and DTEND, else by its periods
abbrev pub line_of_free_busy : Option Stamp → Extent → List (ℤ × ℤ) → Line
line_of_free_busy (Some s) (extent.End e) periods = stated
line_of_free_busy other end periods = stored periods

-- the seconds of a length, a day as 86,400
abbrev pub seconds_of : Length → ℤ
seconds_of length = length.days *ℤ pos 86400 +ℤ length.seconds

-- a stored period, whose stamps are in UTC
abbrev pub period_end : ℤ → PeriodEnd → ℤ
period_end start (At e) = written_value e
period_end start (After length) = start +ℤ seconds_of length

abbrev pub stored_period : Period → ℤ × ℤ
stored_period p = (written_value p.start, period_end (written_value p.start) p.end)

-- the line that fits a component
abbrev pub line_of_kind : Kind → Component → Line
line_of_kind Event c = line_of_event c.start c.extent
line_of_kind Todo c = line_of_todo c.start c.extent (line_of_dates c.completed c.created)
line_of_kind Journal c = line_of_journal c.start
line_of_kind FreeBusy c = line_of_free_busy c.start c.extent (map (λ (s : Option Class × Period). stored_period s.1) c.stored_busy)

abbrev pub line_of : Component → Line
line_of c = line_of_kind c.kind c

-- an instance from and to these moments overlaps a range: the line alone, of which `row_overlaps` is the test of a row
abbrev pub overlaps : Component → Fixed → Range → Bool
overlaps c at range = holds (line_of c) range.start.0 range.end.0 at.start at.end

-- Rows in UTC: floating and DATE moments are read in the given zone.

abbrev pub in_zone : RowKind → ZoneTable → ℤ → ℤ
in_zone kind.Floating zone l = instant_of zone l
in_zone kind.Date zone l = instant_of zone l
in_zone other zone u = u

abbrev pub fixed : Row → ZoneTable → Fixed
fixed row zone = record { start = in_zone row.kind zone row.start; end = in_zone row.kind zone row.end }

-- a VJOURNAL that is a DATE lasts that day for a range, also where DTEND or DURATION gives its row another end
abbrev pub lasts_its_day : Kind → RowKind → Bool
lasts_its_day Journal kind.Date = true
lasts_its_day other its_kind = false

-- a row as a range looks at it
abbrev pub row_for_range : Component → Row → Row
row_for_range c row = if lasts_its_day c.kind row.kind then record row { end = row.start +ℤ pos 86400 } else row

-- A row of a component overlaps a range, where floating and DATE moments are read in the zone. This is the test that filters, calendar data and busy times ask. It takes the row and the zone and not two moments, since a VJOURNAL that is a DATE counts for its day whatever end its row has: `overlaps` beside `fixed` would say otherwise there.
abbrev pub row_overlaps : Component → Row → Range → ZoneTable → Bool
row_overlaps c row range zone = overlaps c (fixed (row_for_range c row) zone) range

-- Alarms.

-- the moments from which the alarms of a row count; an Undated row has none
abbrev pub dated_fixed : Row → ZoneTable → Option Fixed
dated_fixed row zone = if is_dated row then Some (fixed row zone) else None

-- the end is there where the component says it
abbrev pub has_end : Extent → Bool
has_end (extent.End e) = true
has_end (extent.Due e) = true
has_end (extent.Lasting length) = true
has_end other = false

-- the moment from which an alarm counts; an absent start or end gives none
abbrev pub moment_related : Related → Component → Option Fixed → Option ℤ
moment_related r c None = None
moment_related related.Start c (Some at) = if is_some c.start then Some at.start else None
moment_related related.End c (Some at) = if has_end c.extent then Some at.end else None

abbrev pub first_trigger : Trigger → Component → Option Fixed → Option ℤ
first_trigger (trigger.At u) c at = Some u.0
first_trigger (trigger.From r length) c at = option_map (λ t. t +ℤ seconds_of length) (moment_related r c at)

-- a moment that is in the range, which has its start and not its end
abbrev pub is_in : Range → ℤ → Bool
is_in range t = int_le range.start.0 t && int_lt t range.end.0

-- the first trigger, and so many repeats, each a gap after the one before
abbrev pub some_trigger : Alarm → Range → ℤ → Bool
some_trigger alarm range t =
    list_any (λ k. is_in range (t +ℤ pos k *ℤ seconds_of alarm.gap)) (numbers_between 0 (alarm.repeat + 1))

abbrev pub alarm_overlaps : Alarm → Component → Option Fixed → Range → Bool
alarm_overlaps alarm c at range = list_any (some_trigger alarm range) (option_to_list (first_trigger alarm.trigger c at))

-- Date properties by themselves. Which lines these are, and how each is read, stands in `DateProperties`.

-- the instant of a written stamp, floating and DATE values read in the given zone
abbrev pub date_in : List ZoneTable → ZoneTable → Stamp → ℤ
date_in zones zone date = in_zone (kind_of date) zone (value_of zones date)

-- the end of a component by its DTSTART and DURATION, in place of a DTEND or DUE
abbrev pub effective_end : List ZoneTable → ZoneTable → Stamp → Length → ℤ
effective_end zones zone s length = in_zone (kind_of s) zone (plus_length (reading_of zones s) (value_of zones s) length)
