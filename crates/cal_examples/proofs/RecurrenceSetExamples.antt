-- Examples of recurrence sets, from RFC 5545, 3.8.5.3. Each is taken over the moments at one time of day of some days in a row, the rule having no other moments.
use Rattle.std.specs.Prelude.{◌≡◌, refl, ℕ, ◌+◌, ◌*◌, true, false, List, [], ◌∷◌, ◌++◌, map, flat_map, length, pos, negsuc, ◌-ℤ◌, Some}
use Rattle.cal_moment.specs.Calendar.{day_of_date, moment_of_date, first_of_year, year_of, month_of, day_of_month, seconds_since_1970, epoch_day}
use Rattle.cal_model.specs.declared.rule.Rule.{Rule}
use Rattle.cal_model.specs.declared.rule.Until.{Until}
use Rattle.cal_model.specs.declared.rule.Until.TheVariants.{Day, Local, Utc}
use Rattle.cal_model.specs.declared.rule.Freq.TheVariants.{Hourly, Daily, Monthly, Yearly}
use Rattle.cal_model.specs.declared.zone.ZoneTable.{ZoneTable}
use Rattle.cal_model.specs.Words.Lists.{counted_from, last_or_else}
use Rattle.cal_model.specs.Recurrence.Passing.{day_passes, time_passes}
use Rattle.cal_examples.proofs.PassingExamples.{each, every_weekday, at_nine, tuesday_and_sunday}
use Rattle.cal_model.specs.Recurrence.RecurrenceSet.{Reading, recurrence_set_over, not_past, plain_reading, utc_reading}
use Rattle.cal_model.specs.TimeZones.Zones.{offset_at, exists_in, instant_of, local_at}
use Rattle.cal_examples.proofs.ZoneExamples.{written, new_york}

-- the moments at a second of the day, of so many days from a date on
abbrev pub daily_at : ℕ → ℕ → ℕ → List ℕ
daily_at second first n = map (λ day. 86400 * day + second) (counted_from first n)

abbrev pub nines : List (ℕ × ℕ × ℕ) → List ℕ
nines dates = map (λ (d : ℕ × ℕ × ℕ). at_nine d.0 d.1 d.2) dates

abbrev pub floating : Reading
floating = plain_reading false

-- 31 January, March, May and July
counted : recurrence_set_over (daily_at 32400 (day_of_date 2025 1 1) 400) (record (each Monthly) { by_month_day = pos 31 ∷ []; count = Some 4 }) (at_nine 2025 1 31) utc_reading
    ≡ nines ((2025, 1, 31) ∷ (2025, 3, 31) ∷ (2025, 5, 31) ∷ (2025, 7, 31) ∷ [])
unfolding year_of month_of day_of_month day_passes time_passes counted_from
counted = refl

-- the last weekday but one of the month
abbrev pub working_days : Rule
working_days = record (each Monthly) {
  by_day = every_weekday 0 ∷ every_weekday 1 ∷ every_weekday 2 ∷ every_weekday 3 ∷ every_weekday 4 ∷ [];
  by_set_pos = negsuc 1 ∷ [];
  count = Some 4;
}

last_but_one : recurrence_set_over (daily_at 32400 (day_of_date 1997 9 1) 122) working_days (at_nine 1997 9 29) floating
    ≡ nines ((1997, 9, 29) ∷ (1997, 10, 30) ∷ (1997, 11, 27) ∷ (1997, 12, 30) ∷ [])
unfolding year_of month_of day_of_month day_passes time_passes counted_from
last_but_one = refl

-- the third of Tuesday, Wednesday and Thursday: those before the start have their places too
third_day : recurrence_set_over (daily_at 32400 (day_of_date 1997 9 1) 91) (record (each Monthly) { by_day = every_weekday 1 ∷ every_weekday 2 ∷ every_weekday 3 ∷ []; by_set_pos = pos 3 ∷ []; count = Some 3 }) (at_nine 1997 9 4) floating
    ≡ nines ((1997, 9, 4) ∷ (1997, 10, 7) ∷ (1997, 11, 6) ∷ [])
unfolding year_of month_of day_of_month day_passes time_passes counted_from
third_day = refl

-- weeks from Monday and from Sunday
from_monday : recurrence_set_over (daily_at 32400 (day_of_date 1997 8 1) 90) (record (tuesday_and_sunday 0) { count = Some 4 }) (at_nine 1997 8 5) floating
    ≡ nines ((1997, 8, 5) ∷ (1997, 8, 10) ∷ (1997, 8, 19) ∷ (1997, 8, 24) ∷ [])
unfolding year_of month_of day_of_month day_passes time_passes counted_from
from_monday = refl

from_sunday : recurrence_set_over (daily_at 32400 (day_of_date 1997 8 1) 90) (record (tuesday_and_sunday 6) { count = Some 4 }) (at_nine 1997 8 5) floating
    ≡ nines ((1997, 8, 5) ∷ (1997, 8, 17) ∷ (1997, 8, 19) ∷ (1997, 8, 31) ∷ [])
unfolding year_of month_of day_of_month day_passes time_passes counted_from
from_sunday = refl

-- the start that the rule leaves out stays and is counted
start_stays : recurrence_set_over (daily_at 32400 (day_of_date 1997 9 1) 486) (record (each Monthly) { by_day = every_weekday 4 ∷ []; by_month_day = pos 13 ∷ []; count = Some 4 }) (at_nine 1997 9 2) floating
    ≡ nines ((1997, 9, 2) ∷ (1998, 2, 13) ∷ (1998, 3, 13) ∷ (1998, 11, 13) ∷ [])
unfolding year_of month_of day_of_month day_passes time_passes counted_from
start_stays = refl

-- in New York 9 March has no 02:30, and isn't counted
abbrev pub in_zone : ZoneTable → Reading
in_zone zone = record { dated = false; timed = true; exists = exists_in zone; instant = instant_of zone; local = local_at zone }

abbrev pub in_new_york : Reading
in_new_york = in_zone new_york

skipped : recurrence_set_over (daily_at 9000 (day_of_date 2025 3 1) 30) (record (each Daily) { count = Some 3 }) (moment_of_date 2025 3 8 2 30 0) in_new_york
    ≡ moment_of_date 2025 3 8 2 30 0 ∷ moment_of_date 2025 3 10 2 30 0 ∷ moment_of_date 2025 3 11 2 30 0 ∷ []
unfolding year_of month_of day_of_month day_passes time_passes counted_from exists_in offset_at
skipped = refl

-- UNTIL in UTC beside a zoned start compares instants, and what it names counts
until_instant : recurrence_set_over (daily_at 9000 (day_of_date 2025 3 1) 30) (record (each Daily) { until = Some (Utc (record { 0 = seconds_since_1970 (moment_of_date 2025 3 10 6 30 0) })) }) (moment_of_date 2025 3 8 2 30 0) in_new_york
    ≡ moment_of_date 2025 3 8 2 30 0 ∷ moment_of_date 2025 3 10 2 30 0 ∷ []
unfolding year_of month_of day_of_month day_passes time_passes counted_from exists_in instant_of offset_at
until_instant = refl

until_second_less : recurrence_set_over (daily_at 9000 (day_of_date 2025 3 1) 30) (record (each Daily) { until = Some (Utc (record { 0 = seconds_since_1970 (moment_of_date 2025 3 10 6 29 59) })) }) (moment_of_date 2025 3 8 2 30 0) in_new_york
    ≡ moment_of_date 2025 3 8 2 30 0 ∷ []
unfolding year_of month_of day_of_month day_passes time_passes counted_from exists_in instant_of offset_at
until_second_less = refl

-- UNTIL before the start leaves the start
until_before : recurrence_set_over (daily_at 32400 (day_of_date 2025 1 1) 30) (record (each Daily) { until = Some (Day (record { 0 = pos 20000 })) }) (at_nine 2025 1 1) floating ≡ at_nine 2025 1 1 ∷ []
unfolding year_of month_of day_of_month day_passes time_passes counted_from
until_before = refl

-- past the last written value nothing is kept, though COUNT asks for more
written_end : recurrence_set_over (daily_at 0 (day_of_date 2100 12 1) 60) (record (each Daily) { count = Some 999_999_999 }) (moment_of_date 2100 12 31 0 0 0) utc_reading ≡ moment_of_date 2100 12 31 0 0 0 ∷ []
unfolding year_of month_of day_of_month day_passes time_passes counted_from
written_end = refl

-- the same three as instants
skipped_instants : map (λ m. instant_of new_york (seconds_since_1970 m)) (moment_of_date 2025 3 8 2 30 0 ∷ moment_of_date 2025 3 10 2 30 0 ∷ moment_of_date 2025 3 11 2 30 0 ∷ [])
    ≡ written 2025 3 8 7 30 0 ∷ written 2025 3 10 6 30 0 ∷ written 2025 3 11 6 30 0 ∷ []
unfolding instant_of offset_at
skipped_instants = refl

-- the moments at each half hour of a day
abbrev half_hours : ℕ → ℕ → ℕ → List ℕ
half_hours y m d = map (λ n. moment_of_date y m d 0 0 0 + 1800 * n) (counted_from 0 48)

-- HOURLY counts hours of the local clock. In spring the skipped one is no moment; in autumn the one that stands twice is one moment, at its first instant.
hours_in_spring : recurrence_set_over (half_hours 2025 3 9) (record (each Hourly) { count = Some 4 }) (moment_of_date 2025 3 9 0 30 0) in_new_york
    ≡ moment_of_date 2025 3 9 0 30 0 ∷ moment_of_date 2025 3 9 1 30 0 ∷ moment_of_date 2025 3 9 3 30 0 ∷ moment_of_date 2025 3 9 4 30 0 ∷ []
unfolding year_of month_of day_of_month day_passes time_passes counted_from exists_in offset_at
hours_in_spring = refl

hours_in_autumn : recurrence_set_over (half_hours 2025 11 2) (record (each Hourly) { count = Some 3 }) (moment_of_date 2025 11 2 0 30 0) in_new_york
    ≡ moment_of_date 2025 11 2 0 30 0 ∷ moment_of_date 2025 11 2 1 30 0 ∷ moment_of_date 2025 11 2 2 30 0 ∷ []
unfolding year_of month_of day_of_month day_passes time_passes counted_from exists_in offset_at
hours_in_autumn = refl

-- a start within the gap stays, and is counted beside the moment with the same instant
start_in_gap : recurrence_set_over (half_hours 2025 3 9) (record (each Hourly) { count = Some 3 }) (moment_of_date 2025 3 9 2 30 0) in_new_york
    ≡ moment_of_date 2025 3 9 2 30 0 ∷ moment_of_date 2025 3 9 3 30 0 ∷ moment_of_date 2025 3 9 4 30 0 ∷ []
unfolding year_of month_of day_of_month day_passes time_passes counted_from exists_in offset_at
start_in_gap = refl

-- what is skipped has no place for BYSETPOS: on 9 March the first of 02:30 and 03:30 is 03:30
places_without_gap : recurrence_set_over (half_hours 2025 3 8 ++ half_hours 2025 3 9 ++ half_hours 2025 3 10) (record (each Daily) { by_hour = 2 ∷ 3 ∷ []; by_set_pos = pos 1 ∷ [] }) (moment_of_date 2025 3 8 2 30 0) in_new_york
    ≡ moment_of_date 2025 3 8 2 30 0 ∷ moment_of_date 2025 3 9 3 30 0 ∷ moment_of_date 2025 3 10 2 30 0 ∷ []
unfolding year_of month_of day_of_month day_passes time_passes counted_from exists_in offset_at
places_without_gap = refl

-- a place that a period does not have gives nothing, and a place named twice gives one moment
places_twice : recurrence_set_over (daily_at 32400 (day_of_date 2025 1 1) 60) (record (each Monthly) { by_day = every_weekday 0 ∷ []; by_set_pos = pos 4 ∷ negsuc 0 ∷ pos 5 ∷ [] }) (at_nine 2025 1 1) floating
    ≡ nines ((2025, 1, 1) ∷ (2025, 1, 27) ∷ (2025, 2, 24) ∷ [])
unfolding year_of month_of day_of_month day_passes time_passes counted_from
places_twice = refl

-- What UNTIL is compared by.

abbrev noon : ℕ
noon = moment_of_date 2025 1 2 12 0 0

abbrev until_date : ℕ → ℕ → ℕ → Until
until_date y m d = Day (record { 0 = pos (day_of_date y m d) -ℤ pos epoch_day })

abbrev until_local : ℕ → ℕ → ℕ → ℕ → Until
until_local y m d second = Local (record { day = pos (day_of_date y m d) -ℤ pos epoch_day; second = second })

abbrev until_utc : ℕ → ℕ → ℕ → ℕ → Until
until_utc y m d second = Utc (record { 0 = written y m d 0 0 second })

-- a DATE, whatever the start is: the day; in UTC and in a zone too that of the digits
by_date : (not_past floating (until_date 2025 1 2) noon ≡ true) × (not_past in_new_york (until_date 2025 1 2) (moment_of_date 2025 1 2 23 59 59) ≡ true) × (not_past utc_reading (until_date 2025 1 1) noon ≡ false) × (not_past (plain_reading true) (until_date 2025 1 2) noon ≡ true)
by_date = (refl, refl, refl, refl)

-- beside a start that is a DATE: the day that UNTIL writes
beside_a_date : (not_past (plain_reading true) (until_local 2025 1 2 0) noon ≡ true) × (not_past (plain_reading true) (until_utc 2025 1 2 0) noon ≡ true) × (not_past (plain_reading true) (until_utc 2025 1 1 86399) noon ≡ false)
beside_a_date = (refl, refl, refl)

-- in UTC beside a start in UTC or in a zone: the instant; 12:00 in New York is 17:00 in UTC
by_instant : (not_past utc_reading (until_utc 2025 1 2 43200) noon ≡ true) × (not_past utc_reading (until_utc 2025 1 2 43199) noon ≡ false) × (not_past in_new_york (until_utc 2025 1 2 61200) noon ≡ true) × (not_past in_new_york (until_utc 2025 1 2 61199) noon ≡ false)
unfolding instant_of offset_at
by_instant = (refl, refl, refl, refl)

-- in UTC beside a floating start, and without a zone beside any start that is a time: the digits
by_digits : (not_past floating (until_utc 2025 1 2 43200) noon ≡ true) × (not_past floating (until_utc 2025 1 2 43199) noon ≡ false) × (not_past floating (until_local 2025 1 2 43199) noon ≡ false) × (not_past utc_reading (until_local 2025 1 2 43200) noon ≡ true) × (not_past in_new_york (until_local 2025 1 2 43200) noon ≡ true) × (not_past in_new_york (until_local 2025 1 2 43199) noon ≡ false)
by_digits = (refl, refl, refl, refl, refl, refl)

-- each 29 February from 1604 on, as the one day that can pass in a year: the 60th, or the 59th beside it
abbrev leap_days : List ℕ
leap_days = recurrence_set_over (flat_map (λ y. 86400 * (first_of_year y + 58) ∷ 86400 * (first_of_year y + 59) ∷ []) (counted_from 1604 498)) (each Yearly) (moment_of_date 1604 2 29 0 0 0) (plain_reading true)

how_many_leap_days : (length leap_days ≡ 121) × (last_or_else 0 leap_days ≡ moment_of_date 2096 2 29 0 0 0)
unfolding year_of month_of day_of_month day_passes time_passes counted_from
how_many_leap_days = (refl, refl)
