-- Examples of cost and margin.
use Rattle.std.specs.Prelude.{◌≡◌, refl, ℕ, true, false, List, [], ◌∷◌, pos, neg_ℤ, Some, None}
use Rattle.cal_moment.specs.Calendar.{day_of_date, year_of, month_of, day_of_month}
use Rattle.cal_model.specs.declared.object.Object.{Object}
use Rattle.cal_model.specs.declared.object.Extent.TheVariants as extent
use Rattle.cal_moment.specs.declared.stamp.PeriodEnd.TheVariants.{At}
use Rattle.cal_model.specs.declared.object.Related.TheVariants as related
use Rattle.cal_model.specs.declared.object.Trigger.TheVariants as trigger
use Rattle.cal_model.specs.declared.row.Range.{Range}
use Rattle.cal_model.specs.declared.row.Row.{Row}
use Rattle.cal_model.specs.declared.rule.Freq.TheVariants.{Daily, Weekly}
use Rattle.cal_model.specs.Words.Lists.{counted_from}
use Rattle.cal_model.specs.Recurrence.Passing.{day_passes, time_passes}
use Rattle.cal_examples.proofs.PassingExamples.{each}
use Rattle.cal_examples.proofs.RecurrenceSetExamples.{daily_at}
use Rattle.cal_examples.proofs.ZoneExamples.{written}
use Rattle.cal_examples.proofs.RowExamples.{event, object_of, instant_row, days_and_time, utc, date}
use Rattle.cal_model.specs.Instances.Alignment.{utc_zone}
use Rattle.cal_model.specs.Instances.Rows.{rows_in_over}
use Rattle.cal_model.specs.Ranges.Overlap.{row_overlaps}
use Rattle.cal_model.specs.Ranges.Cost.{cost_over, margin, window_meets}
use Rattle.cal_model.specs.Reports.NeededWindows.{counts}

abbrev pub from_new_year : List ℕ
from_new_year = daily_at 32400 (day_of_date 2025 1 1) 200

-- daily from 1 January: the window from 8 January to 12 March has 71 moments up to its end; COUNT changes nothing
daily : cost_over from_new_year (object_of (record (event (Some (utc 2025 1 1 9 0)) extent.Point) { rules = record (each Daily) { count = Some 3 } ∷ [] } ∷ [])) (pos 314) ≡ 74
unfolding year_of month_of day_of_month day_passes time_passes counted_from
daily = refl

-- weekly, a week that begins in the window counts whole: the Wednesdays up to 12 March
weekly : cost_over from_new_year (object_of (record (event (Some (utc 2025 1 1 9 0)) extent.Point) { rules = each Weekly ∷ [] } ∷ [])) (pos 314) ≡ 14
unfolding year_of month_of day_of_month day_passes time_passes counted_from
weekly = refl

-- an override that names a day by its DATE moves the last day to it
named_day : cost_over from_new_year (object_of (record (event (Some (utc 2025 1 1 9 0)) extent.Point) { rules = each Daily ∷ [] }
    ∷ record (event (Some (utc 2025 4 1 9 0)) extent.Point) { recurrence_id = Some (date 2025 3 20) } ∷ [])) (pos 314) ≡ 83
unfolding year_of month_of day_of_month day_passes time_passes counted_from
named_day = refl

-- an event of a hundred days: a range near its end meets the window of its start
abbrev pub long : Object
long = object_of (event (Some (utc 2025 1 1 0 0)) (extent.End (utc 2025 4 11 0 0)) ∷ [])

abbrev pub near_its_end : Range
near_its_end = record { start = record { 0 = written 2025 4 10 0 0 0 }; end = record { 0 = written 2025 4 10 1 0 0 } }

abbrev pub row_of_long : Row
row_of_long = instant_row (written 2025 1 1 0 0 0) (written 2025 1 1 0 0 0) (written 2025 4 11 0 0 0) 0

-- it has one row, in the window of its start, and a range near its end meets that row
long_row : (rows_in_over [] long (pos 313) ≡ row_of_long ∷ []) × (rows_in_over [] long (pos 315) ≡ [])
    × (row_overlaps (event (Some (utc 2025 1 1 0 0)) (extent.End (utc 2025 4 11 0 0))) row_of_long near_its_end utc_zone ≡ true)
long_row = (refl, refl, refl)

hundred_days : margin long ≡ 8_985_600
hundred_days = refl

windows : (window_meets (margin long) near_its_end (pos 313) ≡ true) × (window_meets (margin long) near_its_end (pos 312) ≡ false)
windows = (refl, refl)

-- an alarm that repeats reaches farther: a day before, and three times more a day apart
abbrev pub with_alarm : Object
with_alarm = object_of (record (event (Some (utc 2025 1 1 9 0)) extent.Point) {
  alarms = record { trigger = trigger.From related.Start (days_and_time (neg_ℤ (pos 1)) (pos 0)); repeat = 3; gap = days_and_time (pos 1) (pos 0) } ∷ [];
} ∷ [])

four_days_more : margin with_alarm ≡ 691_200
four_days_more = refl

-- the greatest length counts, that of an RDATE period too
of_period : margin (object_of (record (event (Some (utc 2025 1 1 9 0)) (extent.Lasting (days_and_time (pos 0) (pos 3600)))) { periods = record { start = utc 2025 1 2 9 0; end = At (utc 2025 1 3 9 0) } ∷ [] } ∷ [])) ≡ 432_000
of_period = refl

-- RDATEs, periods and RECURRENCE-IDs count one each, and a rule that isn't used two and what passes: here nothing
counted : cost_over [] (object_of (record (event (Some (utc 2025 1 1 9 0)) extent.Point) { dates = utc 2025 1 2 9 0 ∷ utc 2025 1 3 9 0 ∷ []; periods = record { start = utc 2025 1 4 9 0; end = At (utc 2025 1 5 9 0) } ∷ [] }
    ∷ record (event None extent.Point) { recurrence_id = Some (utc 2025 1 1 9 0); rules = each Daily ∷ [] } ∷ [])) (pos 314) ≡ 7
counted = refl

-- an override that moved to June is looked for there, in window 316, whatever the range is
abbrev pub far_override : Object
far_override = object_of (event (Some (utc 2025 3 25 9 0)) extent.Point ∷ record (event (Some (utc 2025 6 2 9 0)) extent.Point) { recurrence_id = Some (utc 2025 3 25 9 0) } ∷ [])

looked_at : (counts far_override (near_its_end ∷ []) (pos 316) ≡ true) × (counts far_override (near_its_end ∷ []) (pos 315) ≡ true) × (counts far_override (near_its_end ∷ []) (pos 314) ≡ false)
looked_at = (refl, refl, refl)
