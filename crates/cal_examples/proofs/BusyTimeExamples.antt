-- Examples of busy times.
use Rattle.std.specs.Prelude.{◌≡◌, refl, ℕ, [], ◌∷◌, pos, Option, Some, None}
use Rattle.cal_moment.specs.Calendar.{day_of_date, year_of, month_of, day_of_month}
use Rattle.cal_moment.specs.declared.stamp.PeriodEnd.TheVariants.{At, After}
use Rattle.cal_model.specs.declared.object.Class.{Class}
use Rattle.cal_model.specs.declared.object.Class.TheVariants as class
use Rattle.cal_model.specs.declared.object.Component.{Component}
use Rattle.cal_model.specs.declared.object.Kind.TheVariants.{FreeBusy}
use Rattle.cal_model.specs.declared.object.Extent.TheVariants as extent
use Rattle.cal_model.specs.declared.rule.Freq.TheVariants.{Daily}
use Rattle.cal_model.specs.Words.Lists.{counted_from}
use Rattle.cal_model.specs.Recurrence.Passing.{day_passes, time_passes}
use Rattle.cal_model.specs.TimeZones.Zones.{offset_at, exists_in, instant_of}
use Rattle.cal_model.specs.Instances.Alignment.{utc_zone}
use Rattle.cal_model.specs.Busy.BusyTimes.{BusyTime, busy_times_over}
use Rattle.cal_examples.proofs.PassingExamples.{each}
use Rattle.cal_examples.proofs.RecurrenceSetExamples.{daily_at}
use Rattle.cal_examples.proofs.ZoneExamples.{new_york, written}
use Rattle.cal_examples.proofs.RowExamples.{event, object_of, days_and_time, utc, floating, date}

-- an hour of 10 March 2025, in UTC
abbrev pub on_the_10th : Class → ℕ → ℕ → BusyTime
on_the_10th class from to = record { class = class; start = written 2025 3 10 from 0 0; end = written 2025 3 10 to 0 0 }

abbrev pub from_to : ℕ → ℕ → Option Class → Component
from_to from to class = record (event (Some (utc 2025 3 10 from 0)) (extent.End (utc 2025 3 10 to 0))) { busy = class }

-- a tentative event, one that is busy, and one that counts as free
three : (busy_times_over [] utc_zone (object_of (from_to 9 11 (Some class.Tentative) ∷ [])) ≡ on_the_10th class.Tentative 9 11 ∷ [])
    × (busy_times_over [] utc_zone (object_of (from_to 10 12 (Some class.Busy) ∷ [])) ≡ on_the_10th class.Busy 10 12 ∷ [])
    × (busy_times_over [] utc_zone (object_of (from_to 8 13 None ∷ [])) ≡ [])
three = (refl, refl, refl)

-- an instance has the class of its own component: the second day's is tentative by its override
by_override : busy_times_over (daily_at 32400 (day_of_date 2025 3 9) 5) utc_zone
    (object_of (record (event (Some (utc 2025 3 9 9 0)) (extent.End (utc 2025 3 9 10 0))) { rules = record (each Daily) { count = Some 2 } ∷ []; busy = Some class.Busy }
    ∷ record (from_to 10 11 (Some class.Tentative)) { recurrence_id = Some (utc 2025 3 10 9 0) } ∷ []))
    ≡ record { class = class.Busy; start = written 2025 3 9 9 0 0; end = written 2025 3 9 10 0 0 } ∷ on_the_10th class.Tentative 10 11 ∷ []
unfolding year_of month_of day_of_month day_passes time_passes counted_from
by_override = refl

-- an override that counts as free leaves the time of its instance free
freed : busy_times_over [] utc_zone (object_of (from_to 9 10 (Some class.Busy) ∷ record (from_to 9 10 None) { recurrence_id = Some (utc 2025 3 10 9 0) } ∷ [])) ≡ []
freed = refl

-- times of no zone and days are read in the calendar's zone: four hours behind UTC on the 10th
of_no_zone : (busy_times_over [] new_york (object_of (record (event (Some (floating 2025 3 10 9 0)) (extent.Lasting (days_and_time (pos 0) (pos 3600)))) { busy = Some class.Busy } ∷ [])) ≡ on_the_10th class.Busy 13 14 ∷ [])
    × (busy_times_over [] new_york (object_of (record (event (Some (date 2025 3 10)) extent.WholeDay) { busy = Some class.Busy } ∷ [])) ≡ record { class = class.Busy; start = written 2025 3 10 4 0 0; end = written 2025 3 11 4 0 0 } ∷ [])
unfolding exists_in instant_of offset_at
of_no_zone = (refl, refl)

-- the end that an RDATE period gives counts, also where the component has none
with_period : busy_times_over [] utc_zone (object_of (record (event (Some (utc 2025 3 10 9 0)) extent.Point) { busy = Some class.Busy; periods = record { start = utc 2025 3 10 12 0; end = At (utc 2025 3 10 14 0) } ∷ [] } ∷ []))
    ≡ on_the_10th class.Busy 9 9 ∷ on_the_10th class.Busy 12 14 ∷ []
with_period = refl

-- a VFREEBUSY gives its periods and not its own time; a FREE period gives nothing
stored : busy_times_over [] utc_zone (object_of (record (from_to 0 23 None) {
  kind = FreeBusy;
  stored_busy = (Some class.Unavailable, record { start = utc 2025 3 10 9 0; end = At (utc 2025 3 10 10 0) })
      ∷ (None, record { start = utc 2025 3 10 10 0; end = At (utc 2025 3 10 11 0) })
      ∷ (Some class.Busy, record { start = utc 2025 3 10 12 0; end = After (days_and_time (pos 0) (pos 7200)) }) ∷ [];
} ∷ []))
    ≡ on_the_10th class.Unavailable 9 10 ∷ on_the_10th class.Busy 12 14 ∷ []
stored = refl

-- in another kind FREEBUSY lines say nothing, also where the component itself counts as free
stored_in_event : busy_times_over [] utc_zone (object_of (record (from_to 9 10 None) {
  stored_busy = (Some class.Busy, record { start = utc 2025 3 10 12 0; end = After (days_and_time (pos 0) (pos 3600)) }) ∷ [];
} ∷ []))
    ≡ []
stored_in_event = refl

-- a component without a start makes nobody busy
undated : busy_times_over [] utc_zone (object_of (record (event None extent.Point) { busy = Some class.Busy } ∷ [])) ≡ []
undated = refl
