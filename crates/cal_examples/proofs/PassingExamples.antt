-- Examples of the passing test, from RFC 5545, 3.8.5.3, and of where two readings part.
use Rattle.std.specs.Prelude.{◌≡◌, refl, ℕ, ◌+◌, ◌*◌, true, false, List, [], ◌∷◌, map, filter, ℤ, pos, negsuc, None}
use Rattle.cal_moment.specs.Calendar.{day_of_date, moment_of_date, year_of, month_of, day_of_month, weekday_of}
use Rattle.cal_model.specs.declared.rule.Rule.{Rule}
use Rattle.cal_model.specs.declared.rule.DayPart.{DayPart}
use Rattle.cal_model.specs.declared.rule.Freq.{Freq}
use Rattle.cal_model.specs.declared.rule.Freq.TheVariants.{Hourly, Daily, Weekly, Monthly, Yearly}
use Rattle.cal_model.specs.Words.Lists.{counted_from}
use Rattle.cal_model.specs.Recurrence.NextPassing.{end_day}
use Rattle.cal_model.specs.Recurrence.Passing.{passes, day_passes, time_passes, week_of_year}

-- a date's number, and back
leap_day : day_of_date 2000 2 29 ≡ 730544
leap_day = refl

its_fields : (year_of 730544 ≡ 2000) × (month_of 730544 ≡ 2) × (day_of_month 730544 ≡ 29) × (weekday_of 730544 ≡ 1)
unfolding year_of month_of day_of_month
its_fields = (refl, refl, refl, refl)

-- rules end with 2101
the_end : day_of_date 2102 1 1 ≡ end_day
the_end = refl

-- a rule of the frequency alone, with weeks from Monday on
abbrev pub each : Freq → Rule
each freq = record {
  freq = freq;
  interval = 1;
  count = None;
  until = None;
  week_start = 0;
  by_month = [];
  by_week = [];
  by_year_day = [];
  by_month_day = [];
  by_day = [];
  by_hour = [];
  by_minute = [];
  by_second = [];
  by_set_pos = [];
}

abbrev pub every_weekday : ℕ → DayPart
every_weekday weekday = record { ordinal = pos 0; weekday = weekday }

abbrev pub nth_weekday : ℤ → ℕ → DayPart
nth_weekday n weekday = record { ordinal = n; weekday = weekday }

-- 09:00 of a date, and of a day
abbrev pub at_nine : ℕ → ℕ → ℕ → ℕ
at_nine y m d = moment_of_date y m d 9 0 0

abbrev pub nine_of_day : ℕ → ℕ
nine_of_day day = 86400 * day + 32400

-- the days from a date on, so many, at whose 09:00 the rule passes
abbrev pub days_at_nine : Rule → ℕ → ℕ → ℕ → List ℕ
days_at_nine rule start first n = filter (λ day. passes rule start false (nine_of_day day)) (counted_from first n)

abbrev pub of_months : ℕ → List (ℕ × ℕ) → List ℕ
of_months year dates = map (λ (d : ℕ × ℕ). day_of_date year d.0 d.1) dates

-- a day of the month that short months lack
thirty_first : days_at_nine (record (each Monthly) { by_month_day = pos 31 ∷ [] }) (at_nine 2025 1 31) (day_of_date 2025 1 1) 365
    ≡ of_months 2025 ((1, 31) ∷ (3, 31) ∷ (5, 31) ∷ (7, 31) ∷ (8, 31) ∷ (10, 31) ∷ (12, 31) ∷ [])
unfolding year_of month_of day_of_month day_passes time_passes counted_from
thirty_first = refl

-- every other week on Tuesday and Sunday: what a week is decides
abbrev pub tuesday_and_sunday : ℕ → Rule
tuesday_and_sunday week_start = record (each Weekly) { interval = 2; week_start = week_start; by_day = every_weekday 1 ∷ every_weekday 6 ∷ [] }

weeks_from_monday : days_at_nine (tuesday_and_sunday 0) (at_nine 1997 8 5) (day_of_date 1997 8 5) 21 ≡ of_months 1997 ((8, 5) ∷ (8, 10) ∷ (8, 19) ∷ (8, 24) ∷ [])
unfolding year_of month_of day_of_month day_passes time_passes counted_from
weeks_from_monday = refl

weeks_from_sunday : days_at_nine (tuesday_and_sunday 6) (at_nine 1997 8 5) (day_of_date 1997 8 5) 27 ≡ of_months 1997 ((8, 5) ∷ (8, 17) ∷ (8, 19) ∷ (8, 31) ∷ [])
unfolding year_of month_of day_of_month day_passes time_passes counted_from
weeks_from_sunday = refl

-- with BYMONTH the ordinal counts in the month, else in the year, from its end too
third_sunday_of_march : days_at_nine (record (each Yearly) { by_month = 3 ∷ []; by_day = nth_weekday (pos 3) 6 ∷ [] }) (at_nine 2025 3 1) (day_of_date 2025 1 1) 365 ≡ day_of_date 2025 3 16 ∷ []
unfolding year_of month_of day_of_month day_passes time_passes counted_from
third_sunday_of_march = refl

last_sunday_but_one : days_at_nine (record (each Yearly) { by_day = nth_weekday (negsuc 1) 6 ∷ [] }) (at_nine 2025 1 1) (day_of_date 2025 1 1) 730 ≡ day_of_date 2025 12 21 ∷ day_of_date 2026 12 20 ∷ []
unfolding year_of month_of day_of_month day_passes time_passes counted_from
last_sunday_but_one = refl

-- days of the year, from both ends
year_days : days_at_nine (record (each Yearly) { interval = 3; by_year_day = pos 1 ∷ pos 100 ∷ pos 200 ∷ negsuc 0 ∷ [] }) (at_nine 1997 1 1) (day_of_date 1997 1 1) 1461
    ≡ day_of_date 1997 1 1 ∷ day_of_date 1997 4 10 ∷ day_of_date 1997 7 19 ∷ day_of_date 1997 12 31 ∷ day_of_date 2000 1 1 ∷ day_of_date 2000 4 9 ∷ day_of_date 2000 7 18 ∷ day_of_date 2000 12 31 ∷ []
unfolding year_of month_of day_of_month day_passes time_passes counted_from
year_days = refl

-- week 53, and the last week of a year, of a day in January that still belongs to the year before
week_fifty_three : week_of_year 0 (day_of_date 2021 1 3) ≡ 53
unfolding year_of
week_fifty_three = refl

last_week : days_at_nine (record (each Yearly) { by_week = negsuc 0 ∷ []; by_day = every_weekday 6 ∷ [] }) (at_nine 2020 1 1) (day_of_date 2020 1 1) 735
    ≡ day_of_date 2021 1 3 ∷ day_of_date 2022 1 2 ∷ []
unfolding year_of month_of day_of_month day_passes time_passes counted_from
last_week = refl

-- WKST says which week is the first: 1 January 2026 is a Thursday
first_week : (week_of_year 0 (day_of_date 2026 1 1) ≡ 1) × (week_of_year 6 (day_of_date 2026 1 1) ≡ 53) × (week_of_year 3 (day_of_date 2026 1 1) ≡ 1)
unfolding year_of
first_week = (refl, refl, refl)

-- week 1 may begin in the calendar year before, which is the year that INTERVAL counts: the Monday of week 1 of 2026 is in 2025, and that of 2027 in 2027
week_one_in_december : days_at_nine (record (each Yearly) { interval = 2; by_week = pos 1 ∷ []; by_day = every_weekday 0 ∷ [] }) (at_nine 2025 1 1) (day_of_date 2025 1 1) 1095
    ≡ day_of_date 2025 12 29 ∷ day_of_date 2027 1 4 ∷ []
unfolding year_of month_of day_of_month day_passes time_passes counted_from
week_one_in_december = refl

-- BYWEEKNO alone leaves the weekday to the start; few years have a week 53
week_fifty_three_alone : days_at_nine (record (each Yearly) { by_week = pos 53 ∷ [] }) (at_nine 2015 1 1) (day_of_date 2015 1 1) 4018
    ≡ day_of_date 2015 12 31 ∷ day_of_date 2020 12 31 ∷ []
unfolding year_of month_of day_of_month day_passes time_passes counted_from
week_fifty_three_alone = refl

-- BYYEARDAY limits BYDAY, and the last day of the year but 365 is there in leap years alone
day_of_the_year_and_week : days_at_nine (record (each Yearly) { by_year_day = pos 1 ∷ negsuc 365 ∷ []; by_day = every_weekday 0 ∷ every_weekday 3 ∷ [] }) (at_nine 2020 1 1) (day_of_date 2020 1 1) 3288
    ≡ day_of_date 2024 1 1 ∷ day_of_date 2026 1 1 ∷ []
unfolding year_of month_of day_of_month day_passes time_passes counted_from
day_of_the_year_and_week = refl

last_but_365 : days_at_nine (record (each Yearly) { by_year_day = negsuc 365 ∷ [] }) (at_nine 2020 1 1) (day_of_date 2020 1 1) 3653
    ≡ day_of_date 2020 1 1 ∷ day_of_date 2024 1 1 ∷ day_of_date 2028 1 1 ∷ []
unfolding year_of month_of day_of_month day_passes time_passes counted_from
last_but_365 = refl

-- MONTHLY with BYMONTH alone takes the start's day, and WEEKLY with BYMONTH alone its weekday
months_of_a_month : days_at_nine (record (each Monthly) { by_month = 2 ∷ 4 ∷ [] }) (at_nine 2023 1 29) (day_of_date 2023 1 1) 730 ≡ day_of_date 2023 4 29 ∷ day_of_date 2024 2 29 ∷ day_of_date 2024 4 29 ∷ []
unfolding year_of month_of day_of_month day_passes time_passes counted_from
months_of_a_month = refl

weeks_of_a_month : days_at_nine (record (each Weekly) { by_month = 2 ∷ [] }) (at_nine 2025 1 1) (day_of_date 2025 1 1) 365 ≡ of_months 2025 ((2, 5) ∷ (2, 12) ∷ (2, 19) ∷ (2, 26) ∷ [])
unfolding year_of month_of day_of_month day_passes time_passes counted_from
weeks_of_a_month = refl

-- DAILY is limited by the day of the month, from its end too
last_days : days_at_nine (record (each Daily) { by_month_day = negsuc 0 ∷ [] }) (at_nine 2024 1 1) (day_of_date 2024 1 1) 121 ≡ of_months 2024 ((1, 31) ∷ (2, 29) ∷ (3, 31) ∷ (4, 30) ∷ [])
unfolding year_of month_of day_of_month day_passes time_passes counted_from
last_days = refl

-- YEARLY from 29 February: leap years alone
leap_years : days_at_nine (each Yearly) (at_nine 2096 2 29) (day_of_date 2096 1 1) 3288 ≡ day_of_date 2096 2 29 ∷ day_of_date 2104 2 29 ∷ []
unfolding year_of month_of day_of_month day_passes time_passes counted_from
leap_years = refl

-- HOURLY leaves the hour free, and INTERVAL counts hours over midnight
hours : filter (passes (record (each Hourly) { interval = 5 }) (at_nine 2025 1 1) false) (map (λ h. at_nine 2025 1 1 + 3600 * h) (counted_from 0 21))
    ≡ at_nine 2025 1 1 ∷ moment_of_date 2025 1 1 14 0 0 ∷ moment_of_date 2025 1 1 19 0 0 ∷ moment_of_date 2025 1 2 0 0 0 ∷ moment_of_date 2025 1 2 5 0 0 ∷ []
unfolding year_of month_of day_of_month day_passes time_passes counted_from
hours = refl

-- every three hours from 9:00 on, as far as 17:00
abbrev minutes_of : ℕ → ℕ → ℕ → List ℕ
minutes_of y m d = map (λ n. moment_of_date y m d 0 0 0 + 60 * n) (counted_from 0 1440)

three_hours : filter (passes (record (each Hourly) { interval = 3; by_hour = 9 ∷ 10 ∷ 11 ∷ 12 ∷ 13 ∷ 14 ∷ 15 ∷ 16 ∷ 17 ∷ [] }) (at_nine 1997 9 2) false) (minutes_of 1997 9 2)
    ≡ at_nine 1997 9 2 ∷ moment_of_date 1997 9 2 12 0 0 ∷ moment_of_date 1997 9 2 15 0 0 ∷ []
unfolding year_of month_of day_of_month day_passes time_passes counted_from
three_hours = refl

-- every 20 minutes of two hours; under HOURLY the same parts give each hour
twenty_minutes : filter (passes (record (each Daily) { by_hour = 9 ∷ 16 ∷ []; by_minute = 0 ∷ 20 ∷ 40 ∷ [] }) (at_nine 1997 9 2) false) (minutes_of 1997 9 3)
    ≡ at_nine 1997 9 3 ∷ moment_of_date 1997 9 3 9 20 0 ∷ moment_of_date 1997 9 3 9 40 0 ∷ moment_of_date 1997 9 3 16 0 0 ∷ moment_of_date 1997 9 3 16 20 0 ∷ moment_of_date 1997 9 3 16 40 0 ∷ []
unfolding year_of month_of day_of_month day_passes time_passes counted_from
twenty_minutes = refl

each_quarter_past : filter (passes (record (each Hourly) { by_minute = 15 ∷ []; by_day = every_weekday 1 ∷ [] }) (moment_of_date 1997 9 2 20 0 0) false) (map (λ n. moment_of_date 1997 9 2 19 0 0 + 900 * n) (counted_from 0 24))
    ≡ moment_of_date 1997 9 2 20 15 0 ∷ moment_of_date 1997 9 2 21 15 0 ∷ moment_of_date 1997 9 2 22 15 0 ∷ moment_of_date 1997 9 2 23 15 0 ∷ []
unfolding year_of month_of day_of_month day_passes time_passes counted_from
each_quarter_past = refl

-- BYSECOND; where it is not there, the second is the start's
seconds : filter (passes (record (each Daily) { by_second = 0 ∷ 59 ∷ [] }) (moment_of_date 2025 1 1 9 0 30) false) (map (λ n. moment_of_date 2025 1 2 8 59 0 + n) (counted_from 0 180))
    ≡ at_nine 2025 1 2 ∷ moment_of_date 2025 1 2 9 0 59 ∷ []
unfolding year_of month_of day_of_month day_passes time_passes counted_from
seconds = refl

each_half_hour_twice : filter (passes (record (each Hourly) { by_minute = 30 ∷ []; by_second = 15 ∷ 45 ∷ [] }) (moment_of_date 2025 1 1 9 30 0) false) (map (λ n. moment_of_date 2025 1 1 10 29 0 + 15 * n) (counted_from 0 12))
    ≡ moment_of_date 2025 1 1 10 30 15 ∷ moment_of_date 2025 1 1 10 30 45 ∷ []
unfolding year_of month_of day_of_month day_passes time_passes counted_from
each_half_hour_twice = refl

second_of_the_start : filter (passes (record (each Daily) { by_minute = 1 ∷ [] }) (moment_of_date 2025 1 1 9 0 30) false) (map (λ n. moment_of_date 2025 1 2 8 59 0 + n) (counted_from 0 180))
    ≡ moment_of_date 2025 1 2 9 1 30 ∷ []
unfolding year_of month_of day_of_month day_passes time_passes counted_from
second_of_the_start = refl

-- a start that is a DATE takes no part of the time
no_time : passes (record (each Daily) { by_hour = 9 ∷ [] }) (moment_of_date 2025 1 1 0 0 0) true (moment_of_date 2025 1 2 0 0 0) ≡ true
unfolding year_of month_of day_of_month day_passes time_passes
no_time = refl

-- nothing before the start's period passes, and in that period what lies before the start does
same_week : passes (record (each Weekly) { by_day = every_weekday 0 ∷ [] }) (at_nine 2025 1 1) false (at_nine 2024 12 30) ≡ true
unfolding year_of month_of day_of_month day_passes time_passes
same_week = refl

week_before : passes (record (each Weekly) { by_day = every_weekday 0 ∷ [] }) (at_nine 2025 1 1) false (at_nine 2024 12 23) ≡ false
unfolding year_of month_of day_of_month day_passes time_passes
week_before = refl

-- beside a start that is a DATE HOURLY still counts hours: every five of them reach midnight every fifth day
five_hours_of_days : filter (passes (record (each Hourly) { interval = 5 }) (moment_of_date 2025 1 1 0 0 0) true) (map (λ h. moment_of_date 2025 1 1 0 0 0 + 3600 * h) (counted_from 0 250))
    ≡ moment_of_date 2025 1 1 0 0 0 ∷ moment_of_date 2025 1 6 0 0 0 ∷ moment_of_date 2025 1 11 0 0 0 ∷ []
unfolding year_of month_of day_of_month day_passes time_passes counted_from
five_hours_of_days = refl
