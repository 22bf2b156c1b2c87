-- Examples of the starts and ends of one component, over the moments at one time of day of some days in a row.
use Rattle.std.specs.Prelude.{◌≡◌, refl, ℕ, ◌+◌, ◌*◌, List, [], ◌∷◌, map, length, take, drop, ℤ, pos, ◌-ℤ◌, Option, Some, None, false}
use Rattle.cal_moment.specs.declared.stamp.Stamp.{Stamp}
use Rattle.cal_moment.specs.declared.stamp.Stamp.TheVariants.{Date, Floating, Zoned, Utc}
use Rattle.cal_moment.specs.declared.stamp.Length.{Length}
use Rattle.cal_moment.specs.declared.stamp.PeriodEnd.TheVariants.{At, After}
use Rattle.cal_moment.specs.Calendar.{day_of_date, year_of, month_of, day_of_month, epoch_day}
use Rattle.cal_model.specs.declared.rule.Freq.TheVariants.{Daily, Weekly, Yearly}
use Rattle.cal_model.specs.declared.object.Component.{Component}
use Rattle.cal_base.specs.declared.line.Node.TheViews.{roll-Node}
use Rattle.cal_model.specs.declared.object.Object.{Object}
use Rattle.cal_model.specs.declared.object.Kind.TheVariants.{Event, Todo, FreeBusy}
use Rattle.cal_model.specs.declared.object.Extent.{Extent}
use Rattle.cal_model.specs.declared.object.Extent.TheVariants as extent
use Rattle.cal_model.specs.declared.row.Row.{Row}
use Rattle.cal_model.specs.declared.row.RowKind.TheVariants as kind
use Rattle.cal_model.specs.Words.Lists.{counted_from}
use Rattle.cal_model.specs.Recurrence.Passing.{day_passes, time_passes}
use Rattle.cal_examples.proofs.PassingExamples.{each}
use Rattle.cal_examples.proofs.RecurrenceSetExamples.{daily_at}
use Rattle.cal_model.specs.TimeZones.Zones.{offset_at, exists_in, instant_of}
use Rattle.cal_examples.proofs.ZoneExamples.{new_york, written}
use Rattle.cal_model.specs.Instances.Rows.{rows_over, row_of}

-- a stamp in the object's first zone, by its day from 1970 and its second
abbrev pub zoned : ℕ → ℕ → ℕ → ℕ → ℕ → Stamp
zoned y m d hour minute = Zoned (record { day = pos (day_of_date y m d) -ℤ pos epoch_day; second = 3600 * hour + 60 * minute }) 0

abbrev pub floating : ℕ → ℕ → ℕ → ℕ → ℕ → Stamp
floating y m d hour minute = Floating (record { day = pos (day_of_date y m d) -ℤ pos epoch_day; second = 3600 * hour + 60 * minute })

abbrev pub utc : ℕ → ℕ → ℕ → ℕ → ℕ → Stamp
utc y m d hour minute = Utc (record { 0 = written y m d hour minute 0 })

abbrev pub date : ℕ → ℕ → ℕ → Stamp
date y m d = Date (record { 0 = pos (day_of_date y m d) -ℤ pos epoch_day })

-- a VEVENT from a start
abbrev pub event : Option Stamp → Extent → Component
event start extent = record {
  kind = Event;
  child = 0;
  start = start;
  extent = extent;
  recurrence_id = None;
  rules = [];
  dates = [];
  periods = [];
  except = [];
  completed = None;
  created = None;
  busy = None;
  stored_busy = [];
  alarms = [];
  future = false;
}

abbrev pub object_of : List Component → Object
object_of components = record { kind = Event; uid = []; tree = roll-Node (record { name = []; lines = []; children = [] }); zones = new_york ∷ []; components = components }

abbrev pub instant_row : ℤ → ℤ → ℤ → ℕ → Row
instant_row id start end number = row_of id start end number kind.Instant kind.Instant

-- weekly meetings over the change to summer time, one of them taken away
abbrev pub meeting : Component
meeting = record (event (Some (zoned 2025 3 4 10 0)) (extent.End (zoned 2025 3 4 11 0))) {
  rules = record (each Weekly) { count = Some 5 } ∷ [];
  except = zoned 2025 3 18 10 0 ∷ [];
}

-- DURATION: a day is added in local time, an hour as time; over the change they differ
abbrev pub days_and_time : ℤ → ℤ → Length
days_and_time days seconds = record { days = days; seconds = seconds }

one_day : rows_over [] (object_of (event (Some (zoned 2025 3 8 10 0)) (extent.Lasting (days_and_time (pos 1) (pos 0))) ∷ []))
    ≡ instant_row (written 2025 3 8 15 0 0) (written 2025 3 8 15 0 0) (written 2025 3 9 14 0 0) 0 ∷ []
unfolding exists_in instant_of offset_at
one_day = refl

day_of_hours : rows_over [] (object_of (event (Some (zoned 2025 3 8 10 0)) (extent.Lasting (days_and_time (pos 0) (pos 86400))) ∷ []))
    ≡ instant_row (written 2025 3 8 15 0 0) (written 2025 3 8 15 0 0) (written 2025 3 9 15 0 0) 0 ∷ []
unfolding exists_in instant_of offset_at
day_of_hours = refl

-- of two RDATE periods with one start the longest stands; the start itself keeps the component's length; an RDATE that repeats is one row
abbrev pub with_periods : Component
with_periods = record (event (Some (utc 2025 1 1 9 0)) (extent.End (utc 2025 1 1 10 0))) {
  dates = utc 2025 1 3 9 0 ∷ utc 2025 1 3 9 0 ∷ [];
  periods = record { start = utc 2025 1 2 9 0; end = After (days_and_time (pos 0) (pos 1800)) }
      ∷ record { start = utc 2025 1 2 9 0; end = At (utc 2025 1 2 12 0) }
      ∷ record { start = utc 2025 1 1 9 0; end = At (utc 2025 1 1 12 0) } ∷ [];
}

periods : rows_over [] (object_of (with_periods ∷ []))
    ≡ instant_row (written 2025 1 1 9 0 0) (written 2025 1 1 9 0 0) (written 2025 1 1 10 0 0) 0
    ∷ instant_row (written 2025 1 2 9 0 0) (written 2025 1 2 9 0 0) (written 2025 1 2 12 0 0) 0
    ∷ instant_row (written 2025 1 3 9 0 0) (written 2025 1 3 9 0 0) (written 2025 1 3 10 0 0) 0
    ∷ []
unfolding exists_in instant_of offset_at
periods = refl

-- leap days as dates: 121 rows, the last in 2096
abbrev pub leap_days : Component
leap_days = record (event (Some (date 1604 2 29)) extent.WholeDay) { rules = each Yearly ∷ [] }

abbrev pub around_leap_days : List ℕ
around_leap_days = map (λ n. 86400 * day_of_date (1600 + n) 2 29) (counted_from 0 502)

how_many : length (rows_over around_leap_days (object_of (leap_days ∷ []))) ≡ 121
unfolding year_of month_of day_of_month day_passes time_passes counted_from
how_many = refl

abbrev pub day_row : ℤ → ℤ → Row
day_row start end = row_of start start end 0 kind.Date kind.Date

first_and_last : (take 1 (rows_over around_leap_days (object_of (leap_days ∷ []))) ≡ day_row (written 1604 2 29 0 0 0) (written 1604 3 1 0 0 0) ∷ [])
    × (drop 120 (rows_over around_leap_days (object_of (leap_days ∷ []))) ≡ day_row (written 2096 2 29 0 0 0) (written 2096 3 1 0 0 0) ∷ [])
unfolding year_of month_of day_of_month day_passes time_passes counted_from
first_and_last = (refl, refl)

-- a second that daylight saving skips isn't there, and COUNT passes over it
abbrev pub at_half_past_two : Component
at_half_past_two = record (event (Some (zoned 2025 3 8 2 30)) extent.Point) { rules = record (each Daily) { count = Some 3 } ∷ [] }

skipped : rows_over (daily_at 9000 (day_of_date 2025 3 1) 30) (object_of (at_half_past_two ∷ []))
    ≡ instant_row (written 2025 3 8 7 30 0) (written 2025 3 8 7 30 0) (written 2025 3 8 7 30 0) 0
    ∷ instant_row (written 2025 3 10 6 30 0) (written 2025 3 10 6 30 0) (written 2025 3 10 6 30 0) 0
    ∷ instant_row (written 2025 3 11 6 30 0) (written 2025 3 11 6 30 0) (written 2025 3 11 6 30 0) 0
    ∷ []
unfolding year_of month_of day_of_month day_passes time_passes counted_from exists_in instant_of offset_at
skipped = refl

-- a DTSTART that is skipped stands at the shifted time, and a DURATION counts its day from there
in_the_gap : rows_over [] (object_of (event (Some (zoned 2025 3 9 2 30)) (extent.Lasting (days_and_time (pos 1) (pos 0))) ∷ []))
    ≡ instant_row (written 2025 3 9 7 30 0) (written 2025 3 9 7 30 0) (written 2025 3 10 7 30 0) 0 ∷ []
unfolding exists_in instant_of offset_at
in_the_gap = refl

-- DTEND keeps the exact length: 23 hours on the short day stay 23 hours on the next
over_a_short_day : rows_over (daily_at 36000 (day_of_date 2025 3 1) 12) (object_of (record (event (Some (zoned 2025 3 8 10 0)) (extent.End (zoned 2025 3 9 10 0))) { rules = record (each Daily) { count = Some 2 } ∷ [] } ∷ []))
    ≡ instant_row (written 2025 3 8 15 0 0) (written 2025 3 8 15 0 0) (written 2025 3 9 14 0 0) 0
    ∷ instant_row (written 2025 3 9 14 0 0) (written 2025 3 9 14 0 0) (written 2025 3 10 13 0 0) 0
    ∷ []
unfolding year_of month_of day_of_month day_passes time_passes counted_from exists_in instant_of offset_at
over_a_short_day = refl

-- late in the evening in New York, where it is the next day in UTC
abbrev pub evenings : List Stamp → Component
evenings except = record (event (Some (zoned 2025 1 5 23 0)) extent.Point) { rules = record (each Daily) { count = Some 3 } ∷ []; except = except }

abbrev pub evening : ℕ → Row
evening day = instant_row (written 2025 1 day 4 0 0) (written 2025 1 day 4 0 0) (written 2025 1 day 4 0 0) 0

-- an EXDATE that is a day takes what starts on it in the zone of DTSTART; a time in UTC, in the zone or of no zone takes the same
excepted : (rows_over (daily_at 82800 (day_of_date 2025 1 1) 10) (object_of (evenings (date 2025 1 6 ∷ []) ∷ [])) ≡ evening 6 ∷ evening 8 ∷ [])
    × (rows_over (daily_at 82800 (day_of_date 2025 1 1) 10) (object_of (evenings (utc 2025 1 7 4 0 ∷ []) ∷ [])) ≡ evening 6 ∷ evening 8 ∷ [])
    × (rows_over (daily_at 82800 (day_of_date 2025 1 1) 10) (object_of (evenings (zoned 2025 1 6 23 0 ∷ []) ∷ [])) ≡ evening 6 ∷ evening 8 ∷ [])
    × (rows_over (daily_at 82800 (day_of_date 2025 1 1) 10) (object_of (evenings (floating 2025 1 6 23 0 ∷ []) ∷ [])) ≡ evening 6 ∷ evening 8 ∷ [])
    × (rows_over (daily_at 82800 (day_of_date 2025 1 1) 10) (object_of (evenings (zoned 2025 1 5 23 0 ∷ []) ∷ [])) ≡ evening 7 ∷ evening 8 ∷ [])
unfolding year_of month_of day_of_month day_passes time_passes counted_from exists_in instant_of offset_at
excepted = (refl, refl, refl, refl, refl)

-- beside a floating start digits count, also those of UTC; beside a DATE the written day
of_no_zone : rows_over (daily_at 32400 (day_of_date 2025 1 1) 10) (object_of (record (event (Some (floating 2025 1 1 9 0)) extent.Point) { rules = record (each Daily) { count = Some 2 } ∷ []; except = utc 2025 1 2 9 0 ∷ [] } ∷ []))
    ≡ row_of (written 2025 1 1 9 0 0) (written 2025 1 1 9 0 0) (written 2025 1 1 9 0 0) 0 kind.Floating kind.Floating ∷ []
unfolding year_of month_of day_of_month day_passes time_passes counted_from
of_no_zone = refl

days : rows_over (daily_at 0 (day_of_date 2025 1 1) 10) (object_of (record (event (Some (date 2025 1 1)) extent.WholeDay) { rules = record (each Daily) { count = Some 3 } ∷ []; except = utc 2025 1 2 9 0 ∷ [] } ∷ []))
    ≡ day_row (written 2025 1 1 0 0 0) (written 2025 1 2 0 0 0) ∷ day_row (written 2025 1 3 0 0 0) (written 2025 1 4 0 0 0) ∷ []
unfolding year_of month_of day_of_month day_passes time_passes counted_from
days = refl

-- an RDATE that is a day begins at the time of day of DTSTART, by the clock
on_a_day : rows_over [] (object_of (record (event (Some (zoned 2025 3 4 10 0)) extent.Point) { dates = date 2025 7 1 ∷ [] } ∷ []))
    ≡ instant_row (written 2025 3 4 15 0 0) (written 2025 3 4 15 0 0) (written 2025 3 4 15 0 0) 0
    ∷ instant_row (written 2025 7 1 14 0 0) (written 2025 7 1 14 0 0) (written 2025 7 1 14 0 0) 0
    ∷ []
unfolding exists_in instant_of offset_at
on_a_day = refl

-- beside a DATE an RDATE period is its day alone
period_beside_date : rows_over [] (object_of (record (event (Some (date 2025 1 1)) extent.WholeDay) { periods = record { start = utc 2025 1 3 9 0; end = After (days_and_time (pos 0) (pos 3600)) } ∷ [] } ∷ []))
    ≡ day_row (written 2025 1 1 0 0 0) (written 2025 1 2 0 0 0) ∷ day_row (written 2025 1 3 0 0 0) (written 2025 1 4 0 0 0) ∷ []
period_beside_date = refl

-- a VFREEBUSY has one row by DTSTART and DTEND, whatever it repeats; with DURATION it is Undated
abbrev pub free_busy : Extent → Component
free_busy extent = record (event (Some (utc 2025 1 1 9 0)) extent) { kind = FreeBusy; rules = each Daily ∷ []; dates = utc 2025 1 3 9 0 ∷ [] }

free_busy_rows : (rows_over (daily_at 32400 (day_of_date 2025 1 1) 3) (object_of (free_busy (extent.End (utc 2025 1 1 17 0)) ∷ [])) ≡ instant_row (written 2025 1 1 9 0 0) (written 2025 1 1 9 0 0) (written 2025 1 1 17 0 0) 0 ∷ [])
    × (rows_over [] (object_of (free_busy (extent.Lasting (days_and_time (pos 0) (pos 3600))) ∷ [])) ≡ row_of (pos 0) (pos 0) (pos 0) 0 kind.Undated kind.Undated ∷ [])
free_busy_rows = (refl, refl)

-- a component without DTSTART has one Undated row, and a VTODO with DUE alone one at DUE
undated : rows_over [] (object_of (event None extent.None ∷ [])) ≡ row_of (pos 0) (pos 0) (pos 0) 0 kind.Undated kind.Undated ∷ []
undated = refl

due : rows_over [] (object_of (record (event None (extent.Due (utc 2025 3 10 9 0))) { kind = Todo } ∷ []))
    ≡ instant_row (written 2025 3 10 9 0 0) (written 2025 3 10 9 0 0) (written 2025 3 10 9 0 0) 0 ∷ []
due = refl
