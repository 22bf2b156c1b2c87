-- Examples of overrides that move all later instances.
use Rattle.std.specs.Prelude.{◌≡◌, refl, ◌+◌, ◌*◌, Bool, true, false, List, [], ◌∷◌, map, pos, Some, None}
use Rattle.cal_moment.specs.Calendar.{day_of_date, moment_of_date, year_of, month_of, day_of_month}
use Rattle.cal_moment.specs.declared.stamp.PeriodEnd.TheVariants.{After}
use Rattle.cal_model.specs.declared.rule.Freq.TheVariants.{Hourly, Daily, Weekly}
use Rattle.cal_model.specs.declared.object.Component.{Component}
use Rattle.cal_model.specs.declared.object.Object.{Object}
use Rattle.cal_model.specs.declared.object.Extent.TheVariants as extent
use Rattle.cal_model.specs.declared.object.Kind.TheVariants.{Todo}
use Rattle.cal_model.specs.declared.row.Row.{Row}
use Rattle.cal_model.specs.declared.row.RowKind.TheVariants as kind
use Rattle.cal_model.specs.Words.Lists.{counted_from}
use Rattle.cal_model.specs.Recurrence.Passing.{day_passes, time_passes}
use Rattle.cal_examples.proofs.PassingExamples.{each}
use Rattle.cal_examples.proofs.RecurrenceSetExamples.{daily_at}
use Rattle.cal_model.specs.TimeZones.Zones.{offset_at, exists_in, instant_of}
use Rattle.cal_examples.proofs.ZoneExamples.{written}
use Rattle.cal_model.specs.Instances.Rows.{rows_over, row_of}
use Rattle.cal_examples.proofs.RowExamples.{event, object_of, utc, zoned, date, instant_row, days_and_time}
use Rattle.cal_model.specs.Objects.ObjectReading.{settled}
use Rattle.cal_model.specs.Ranges.Cost.{last_day}

-- from the third on a day and two hours later, but for the fourth, which an override of its own moves
later_weeks : rows_over (daily_at 32400 (day_of_date 2025 3 1) 60)
    (object_of (record (event (Some (utc 2025 3 3 9 0)) (extent.End (utc 2025 3 3 10 0))) { rules = record (each Weekly) { count = Some 5 } ∷ [] }
    ∷ record (event (Some (utc 2025 3 18 11 0)) (extent.End (utc 2025 3 18 12 30))) { recurrence_id = Some (utc 2025 3 17 9 0); future = true }
    ∷ record (event (Some (utc 2025 3 24 15 0)) (extent.End (utc 2025 3 24 16 0))) { recurrence_id = Some (utc 2025 3 24 9 0) } ∷ []))
    ≡ instant_row (written 2025 3 3 9 0 0) (written 2025 3 3 9 0 0) (written 2025 3 3 10 0 0) 0
    ∷ instant_row (written 2025 3 10 9 0 0) (written 2025 3 10 9 0 0) (written 2025 3 10 10 0 0) 0
    ∷ instant_row (written 2025 3 17 9 0 0) (written 2025 3 18 11 0 0) (written 2025 3 18 12 30 0) 1
    ∷ instant_row (written 2025 3 24 9 0 0) (written 2025 3 24 15 0 0) (written 2025 3 24 16 0 0) 2
    ∷ instant_row (written 2025 3 31 9 0 0) (written 2025 4 1 11 0 0) (written 2025 4 1 12 30 0) 1
    ∷ []
unfolding year_of month_of day_of_month day_passes time_passes counted_from
later_weeks = refl

-- in New York the move is one of local digits
over_the_change : rows_over (daily_at 36000 (day_of_date 2025 3 1) 30)
    (object_of (record (event (Some (zoned 2025 3 2 10 0)) (extent.End (zoned 2025 3 2 11 0))) { rules = record (each Weekly) { count = Some 3 } ∷ [] }
    ∷ record (event (Some (zoned 2025 3 2 12 0)) (extent.End (zoned 2025 3 2 13 0))) { recurrence_id = Some (zoned 2025 3 2 10 0); future = true } ∷ []))
    ≡ instant_row (written 2025 3 2 15 0 0) (written 2025 3 2 17 0 0) (written 2025 3 2 18 0 0) 1
    ∷ instant_row (written 2025 3 9 14 0 0) (written 2025 3 9 16 0 0) (written 2025 3 9 17 0 0) 1
    ∷ instant_row (written 2025 3 16 14 0 0) (written 2025 3 16 16 0 0) (written 2025 3 16 17 0 0) 1
    ∷ []
unfolding year_of month_of day_of_month day_passes time_passes counted_from exists_in instant_of offset_at
over_the_change = refl

-- Two that move later instances: the one with the greater id governs what follows it. One that names its start by a day has that start as id.
two_moves : rows_over (daily_at 32400 (day_of_date 2025 3 1) 60)
    (object_of (record (event (Some (utc 2025 3 3 9 0)) extent.Point) { rules = record (each Weekly) { count = Some 5 } ∷ [] }
    ∷ record (event (Some (utc 2025 3 17 12 0)) extent.Point) { recurrence_id = Some (date 2025 3 17); future = true }
    ∷ record (event (Some (utc 2025 3 10 10 0)) extent.Point) { recurrence_id = Some (utc 2025 3 10 9 0); future = true } ∷ []))
    ≡ instant_row (written 2025 3 3 9 0 0) (written 2025 3 3 9 0 0) (written 2025 3 3 9 0 0) 0
    ∷ instant_row (written 2025 3 10 9 0 0) (written 2025 3 10 10 0 0) (written 2025 3 10 10 0 0) 2
    ∷ instant_row (written 2025 3 17 9 0 0) (written 2025 3 17 12 0 0) (written 2025 3 17 12 0 0) 1
    ∷ instant_row (written 2025 3 24 9 0 0) (written 2025 3 24 12 0 0) (written 2025 3 24 12 0 0) 1
    ∷ instant_row (written 2025 3 31 9 0 0) (written 2025 3 31 12 0 0) (written 2025 3 31 12 0 0) 1
    ∷ []
unfolding year_of month_of day_of_month day_passes time_passes counted_from
two_moves = refl

-- a start that is moved past the end of 2100 is no row
past_the_end : rows_over (daily_at 32400 (day_of_date 2100 12 1) 31)
    (object_of (record (event (Some (utc 2100 12 28 9 0)) extent.Point) { rules = record (each Daily) { count = Some 4 } ∷ [] }
    ∷ record (event (Some (utc 2100 12 29 9 0)) extent.Point) { recurrence_id = Some (utc 2100 12 28 9 0); future = true } ∷ []))
    ≡ instant_row (written 2100 12 28 9 0 0) (written 2100 12 29 9 0 0) (written 2100 12 29 9 0 0) 1
    ∷ instant_row (written 2100 12 29 9 0 0) (written 2100 12 30 9 0 0) (written 2100 12 30 9 0 0) 1
    ∷ instant_row (written 2100 12 30 9 0 0) (written 2100 12 31 9 0 0) (written 2100 12 31 9 0 0) 1
    ∷ []
unfolding year_of month_of day_of_month day_passes time_passes counted_from
past_the_end = refl

-- A plain override within what one that moves later instances governs, and a second such one behind it: each start has the last before it, and differences are not added up.

abbrev pub seven_weeks : List Component
seven_weeks =
    record (event (Some (utc 2025 3 3 9 0)) (extent.End (utc 2025 3 3 10 0))) { rules = record (each Weekly) { count = Some 7 } ∷ [] }
    ∷ record (event (Some (utc 2025 3 18 11 0)) (extent.End (utc 2025 3 18 12 30))) { child = 1; recurrence_id = Some (utc 2025 3 17 9 0); future = true }
    ∷ record (event (Some (utc 2025 3 24 15 0)) (extent.End (utc 2025 3 24 16 0))) { child = 2; recurrence_id = Some (utc 2025 3 24 9 0) }
    ∷ record (event (Some (utc 2025 4 6 8 0)) (extent.Lasting (days_and_time (pos 0) (pos 900)))) { child = 3; recurrence_id = Some (utc 2025 4 7 9 0); future = true }
    ∷ []

abbrev pub rows_of_seven_weeks : List Row
rows_of_seven_weeks =
    instant_row (written 2025 3 3 9 0 0) (written 2025 3 3 9 0 0) (written 2025 3 3 10 0 0) 0
    ∷ instant_row (written 2025 3 10 9 0 0) (written 2025 3 10 9 0 0) (written 2025 3 10 10 0 0) 0
    ∷ instant_row (written 2025 3 17 9 0 0) (written 2025 3 18 11 0 0) (written 2025 3 18 12 30 0) 1
    ∷ instant_row (written 2025 3 24 9 0 0) (written 2025 3 24 15 0 0) (written 2025 3 24 16 0 0) 2
    ∷ instant_row (written 2025 3 31 9 0 0) (written 2025 4 1 11 0 0) (written 2025 4 1 12 30 0) 1
    ∷ instant_row (written 2025 4 7 9 0 0) (written 2025 4 6 8 0 0) (written 2025 4 6 8 15 0) 3
    ∷ instant_row (written 2025 4 14 9 0 0) (written 2025 4 13 8 0 0) (written 2025 4 13 8 15 0) 3
    ∷ []

in_seven_weeks : rows_over (daily_at 32400 (day_of_date 2025 3 1) 60) (object_of seven_weeks) ≡ rows_of_seven_weeks
unfolding year_of month_of day_of_month day_passes time_passes counted_from
in_seven_weeks = refl

-- an EXDATE takes away a start before it is moved; one at a moved start takes nothing
excepted_before_the_move : rows_over (daily_at 32400 (day_of_date 2025 3 1) 30)
    (object_of (record (event (Some (utc 2025 3 1 9 0)) extent.Point) { rules = record (each Daily) { count = Some 5 } ∷ []; except = utc 2025 3 4 9 0 ∷ utc 2025 3 5 11 0 ∷ [] }
    ∷ record (event (Some (utc 2025 3 2 11 0)) (extent.Lasting (days_and_time (pos 0) (pos 3600)))) { recurrence_id = Some (utc 2025 3 2 9 0); future = true } ∷ []))
    ≡ instant_row (written 2025 3 1 9 0 0) (written 2025 3 1 9 0 0) (written 2025 3 1 9 0 0) 0
    ∷ instant_row (written 2025 3 2 9 0 0) (written 2025 3 2 11 0 0) (written 2025 3 2 12 0 0) 1
    ∷ instant_row (written 2025 3 3 9 0 0) (written 2025 3 3 11 0 0) (written 2025 3 3 12 0 0) 1
    ∷ instant_row (written 2025 3 5 9 0 0) (written 2025 3 5 11 0 0) (written 2025 3 5 12 0 0) 1
    ∷ []
unfolding year_of month_of day_of_month day_passes time_passes counted_from
excepted_before_the_move = refl

-- RDATEs and RDATE periods are governed like other starts, and the override gives the end
dates_and_periods : rows_over (daily_at 32400 (day_of_date 2025 3 1) 30)
    (object_of (record (event (Some (utc 2025 3 1 9 0)) extent.Point) {
      rules = record (each Daily) { count = Some 3 } ∷ [];
      dates = utc 2025 3 10 12 0 ∷ [];
      periods = record { start = utc 2025 3 11 6 0; end = After (days_and_time (pos 0) (pos 32400)) } ∷ [];
    }
    ∷ record (event (Some (utc 2025 3 2 10 30)) (extent.End (utc 2025 3 2 11 0))) { recurrence_id = Some (utc 2025 3 2 9 0); future = true } ∷ []))
    ≡ instant_row (written 2025 3 1 9 0 0) (written 2025 3 1 9 0 0) (written 2025 3 1 9 0 0) 0
    ∷ instant_row (written 2025 3 2 9 0 0) (written 2025 3 2 10 30 0) (written 2025 3 2 11 0 0) 1
    ∷ instant_row (written 2025 3 3 9 0 0) (written 2025 3 3 10 30 0) (written 2025 3 3 11 0 0) 1
    ∷ instant_row (written 2025 3 10 12 0 0) (written 2025 3 10 13 30 0) (written 2025 3 10 14 0 0) 1
    ∷ instant_row (written 2025 3 11 6 0 0) (written 2025 3 11 7 30 0) (written 2025 3 11 8 0 0) 1
    ∷ []
unfolding year_of month_of day_of_month day_passes time_passes counted_from
dates_and_periods = refl

-- one that names no start is added, and governs what lies behind its id
of_no_start : rows_over (daily_at 32400 (day_of_date 2025 3 1) 30)
    (object_of (record (event (Some (utc 2025 3 1 9 0)) extent.Point) { rules = record (each Daily) { count = Some 4 } ∷ [] }
    ∷ record (event (Some (utc 2025 3 2 13 0)) (extent.Lasting (days_and_time (pos 0) (pos 1800)))) { recurrence_id = Some (utc 2025 3 2 12 0); future = true } ∷ []))
    ≡ instant_row (written 2025 3 1 9 0 0) (written 2025 3 1 9 0 0) (written 2025 3 1 9 0 0) 0
    ∷ instant_row (written 2025 3 2 9 0 0) (written 2025 3 2 9 0 0) (written 2025 3 2 9 0 0) 0
    ∷ instant_row (written 2025 3 2 12 0 0) (written 2025 3 2 13 0 0) (written 2025 3 2 13 30 0) 1
    ∷ instant_row (written 2025 3 3 9 0 0) (written 2025 3 3 10 0 0) (written 2025 3 3 10 30 0) 1
    ∷ instant_row (written 2025 3 4 9 0 0) (written 2025 3 4 10 0 0) (written 2025 3 4 10 30 0) 1
    ∷ []
unfolding year_of month_of day_of_month day_passes time_passes counted_from
of_no_start = refl

-- digits that the clock skips are read by the offset before: on 9 March 02:30 stands at 03:30
into_a_gap : rows_over (daily_at 5400 (day_of_date 2025 3 1) 30)
    (object_of (record (event (Some (zoned 2025 3 7 1 30)) extent.Point) { rules = record (each Daily) { count = Some 4 } ∷ [] }
    ∷ record (event (Some (zoned 2025 3 7 2 30)) (extent.Lasting (days_and_time (pos 0) (pos 3600)))) { recurrence_id = Some (zoned 2025 3 7 1 30); future = true } ∷ []))
    ≡ instant_row (written 2025 3 7 6 30 0) (written 2025 3 7 7 30 0) (written 2025 3 7 8 30 0) 1
    ∷ instant_row (written 2025 3 8 6 30 0) (written 2025 3 8 7 30 0) (written 2025 3 8 8 30 0) 1
    ∷ instant_row (written 2025 3 9 6 30 0) (written 2025 3 9 7 30 0) (written 2025 3 9 8 30 0) 1
    ∷ instant_row (written 2025 3 10 5 30 0) (written 2025 3 10 6 30 0) (written 2025 3 10 7 30 0) 1
    ∷ []
unfolding year_of month_of day_of_month day_passes time_passes counted_from exists_in instant_of offset_at
into_a_gap = refl

-- one by a local day takes the place of each start of the day; its id, and so the move, is that of the first
both_of_a_day : rows_over (map (λ n. moment_of_date 2025 3 1 9 0 0 + 43200 * n) (counted_from 0 10))
    (object_of (record (event (Some (utc 2025 3 1 9 0)) extent.Point) { rules = record (each Hourly) { interval = 12; count = Some 7 } ∷ [] }
    ∷ record (event (Some (utc 2025 3 2 10 0)) extent.Point) { recurrence_id = Some (date 2025 3 2); future = true } ∷ []))
    ≡ instant_row (written 2025 3 1 9 0 0) (written 2025 3 1 9 0 0) (written 2025 3 1 9 0 0) 0
    ∷ instant_row (written 2025 3 1 21 0 0) (written 2025 3 1 21 0 0) (written 2025 3 1 21 0 0) 0
    ∷ instant_row (written 2025 3 2 9 0 0) (written 2025 3 2 10 0 0) (written 2025 3 2 10 0 0) 1
    ∷ instant_row (written 2025 3 3 9 0 0) (written 2025 3 3 10 0 0) (written 2025 3 3 10 0 0) 1
    ∷ instant_row (written 2025 3 3 21 0 0) (written 2025 3 3 22 0 0) (written 2025 3 3 22 0 0) 1
    ∷ instant_row (written 2025 3 4 9 0 0) (written 2025 3 4 10 0 0) (written 2025 3 4 10 0 0) 1
    ∷ []
unfolding year_of month_of day_of_month day_passes time_passes counted_from
both_of_a_day = refl

-- a moment and the local day that it is on have one id: both rows stand, and the later component governs
two_of_one_id : rows_over (daily_at 32400 (day_of_date 2025 3 1) 30)
    (object_of (record (event (Some (utc 2025 3 3 9 0)) extent.Point) { rules = record (each Daily) { count = Some 4 } ∷ [] }
    ∷ record (event (Some (utc 2025 3 4 11 0)) extent.Point) { recurrence_id = Some (date 2025 3 4); future = true }
    ∷ record (event (Some (utc 2025 3 4 10 0)) extent.Point) { recurrence_id = Some (utc 2025 3 4 9 0); future = true } ∷ []))
    ≡ instant_row (written 2025 3 3 9 0 0) (written 2025 3 3 9 0 0) (written 2025 3 3 9 0 0) 0
    ∷ instant_row (written 2025 3 4 9 0 0) (written 2025 3 4 11 0 0) (written 2025 3 4 11 0 0) 1
    ∷ instant_row (written 2025 3 4 9 0 0) (written 2025 3 4 10 0 0) (written 2025 3 4 10 0 0) 2
    ∷ instant_row (written 2025 3 5 9 0 0) (written 2025 3 5 10 0 0) (written 2025 3 5 10 0 0) 2
    ∷ instant_row (written 2025 3 6 9 0 0) (written 2025 3 6 10 0 0) (written 2025 3 6 10 0 0) 2
    ∷ []
unfolding year_of month_of day_of_month day_passes time_passes counted_from
two_of_one_id = refl

-- whole days: the move and the length are days
whole_days : rows_over (daily_at 0 (day_of_date 2025 3 1) 30)
    (object_of (record (event (Some (date 2025 3 3)) extent.WholeDay) { rules = record (each Weekly) { count = Some 3 } ∷ [] }
    ∷ record (event (Some (date 2025 3 12)) (extent.Lasting (days_and_time (pos 2) (pos 0)))) { recurrence_id = Some (date 2025 3 10); future = true } ∷ []))
    ≡ row_of (written 2025 3 3 0 0 0) (written 2025 3 3 0 0 0) (written 2025 3 4 0 0 0) 0 kind.Date kind.Date
    ∷ row_of (written 2025 3 10 0 0 0) (written 2025 3 12 0 0 0) (written 2025 3 14 0 0 0) 1 kind.Date kind.Date
    ∷ row_of (written 2025 3 17 0 0 0) (written 2025 3 19 0 0 0) (written 2025 3 21 0 0 0) 1 kind.Date kind.Date
    ∷ []
unfolding year_of month_of day_of_month day_passes time_passes counted_from
whole_days = refl

-- who moves later instances by a day and an hour to earlier has five days more to look at: window 315 ends on 15 May 2025
abbrev pub to_earlier : Object
to_earlier = object_of (record (event (Some (utc 2025 3 3 9 0)) extent.Point) { rules = record (each Weekly) { count = Some 5 } ∷ [] }
    ∷ record (event (Some (utc 2025 3 9 8 0)) extent.Point) { recurrence_id = Some (utc 2025 3 10 9 0); future = true } ∷ [])

later_days : last_day [] to_earlier (pos 315) ≡ day_of_date 2025 5 20
later_days = refl

-- a to-do whose override has DUE and no DTSTART moves itself alone (`settled`); were it to move later ones, they would be due two days on
abbrev pub due_moved : Bool → Object
due_moved future =
    object_of (record (event (Some (utc 2025 3 3 9 0)) extent.Point) { kind = Todo; rules = record (each Weekly) { count = Some 3 } ∷ [] }
    ∷ record (event None (extent.Due (utc 2025 3 11 9 0))) { kind = Todo; recurrence_id = Some (utc 2025 3 10 9 0); future = future } ∷ [])

is_settled : settled (due_moved true) ≡ due_moved false
is_settled = refl

moves_itself : rows_over (daily_at 32400 (day_of_date 2025 3 1) 30) (due_moved false)
    ≡ instant_row (written 2025 3 3 9 0 0) (written 2025 3 3 9 0 0) (written 2025 3 3 9 0 0) 0
    ∷ instant_row (written 2025 3 10 9 0 0) (written 2025 3 11 9 0 0) (written 2025 3 11 9 0 0) 1
    ∷ instant_row (written 2025 3 17 9 0 0) (written 2025 3 17 9 0 0) (written 2025 3 17 9 0 0) 0
    ∷ []
unfolding year_of month_of day_of_month day_passes time_passes counted_from
moves_itself = refl
