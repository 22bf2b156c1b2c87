-- The examples of RFC 5545, 3.8.5.3, that have one time of day, with the RFC's own lists. Those that have no end there are cut by a COUNT.
-- All are in New York's time; each is taken over the 09:00 of so many days from its start's first of January on.
use Rattle.std.specs.Prelude.{◌≡◌, refl, ℕ, List, [], ◌∷◌, ◌++◌, map, pos, negsuc, neg_ℤ, Option, Some}
use Rattle.cal_moment.specs.Calendar.{day_of_date, year_of, month_of, day_of_month}
use Rattle.cal_model.specs.declared.rule.Rule.{Rule}
use Rattle.cal_model.specs.declared.rule.Until.{Until}
use Rattle.cal_model.specs.declared.rule.Until.TheVariants.{Utc}
use Rattle.cal_model.specs.declared.rule.Freq.TheVariants.{Daily, Weekly, Monthly, Yearly}
use Rattle.cal_model.specs.declared.zone.ZoneTable.{ZoneTable}
use Rattle.cal_model.specs.Words.Lists.{counted_from}
use Rattle.cal_model.specs.Recurrence.Passing.{day_passes, time_passes}
use Rattle.cal_model.specs.Recurrence.RecurrenceSet.{recurrence_set_over}
use Rattle.cal_model.specs.TimeZones.Zones.{offset_at, exists_in, instant_of}
use Rattle.cal_examples.proofs.PassingExamples.{each, every_weekday, nth_weekday, at_nine}
use Rattle.cal_examples.proofs.RecurrenceSetExamples.{daily_at, nines, in_zone}
use Rattle.cal_examples.proofs.ZoneExamples.{written, onset}

-- New York in 1997 and 1998
abbrev pub new_york_then : ZoneTable
new_york_then = record {
  name = [];
  before = neg_ℤ (pos 18000);
  onsets = onset (written 1997 4 6 7 0 0) (neg_ℤ (pos 14400)) ∷ onset (written 1997 10 26 6 0 0) (neg_ℤ (pos 18000))
      ∷ onset (written 1998 4 5 7 0 0) (neg_ℤ (pos 14400)) ∷ onset (written 1998 10 25 6 0 0) (neg_ℤ (pos 18000)) ∷ [];
}

abbrev until_utc : ℕ → ℕ → ℕ → ℕ → ℕ → ℕ → Option Until
until_utc y m d hour minute second = Some (Utc (record { 0 = written y m d hour minute second }))

-- a rule from a date on, over so many days
abbrev starts : Rule → ℕ × ℕ × ℕ → ℕ → List ℕ
starts rule start days = recurrence_set_over (daily_at 32400 (day_of_date start.0 1 1) days) rule (at_nine start.0 start.1 start.2) (in_zone new_york_then)

abbrev january : ℕ → List ℕ
january y = map (λ d. at_nine y 1 d) (counted_from 1 31)

-- DAILY

-- each day, ten times: FREQ=DAILY;COUNT=10
ten_days : starts (record (each Daily) { count = Some 10 }) (1997, 9, 2) 273
    ≡ nines ((1997, 9, 2) ∷ (1997, 9, 3) ∷ (1997, 9, 4) ∷ (1997, 9, 5) ∷ (1997, 9, 6) ∷ (1997, 9, 7) ∷ (1997, 9, 8) ∷ (1997, 9, 9) ∷ (1997, 9, 10) ∷
    (1997, 9, 11) ∷ [])
unfolding year_of month_of day_of_month day_passes time_passes counted_from exists_in instant_of offset_at
ten_days = refl

-- every ten days, five times: FREQ=DAILY;INTERVAL=10;COUNT=5
every_tenth_day : starts (record (each Daily) { interval = 10; count = Some 5 }) (1997, 9, 2) 304
    ≡ nines ((1997, 9, 2) ∷ (1997, 9, 12) ∷ (1997, 9, 22) ∷ (1997, 10, 2) ∷ (1997, 10, 12) ∷ [])
unfolding year_of month_of day_of_month day_passes time_passes counted_from exists_in instant_of offset_at
every_tenth_day = refl

-- each day of January, for three years; UNTIL names the last, which counts: FREQ=DAILY;UNTIL=20000131T140000Z;BYMONTH=1
each_day_of_january : starts (record (each Daily) { until = until_utc 2000 1 31 14 0 0; by_month = 1 ∷ [] }) (1998, 1, 1) 800
    ≡ january 1998 ++ january 1999 ++ january 2000
unfolding year_of month_of day_of_month day_passes time_passes counted_from exists_in instant_of offset_at
each_day_of_january = refl

-- the same as days of the week in a month: FREQ=YEARLY;UNTIL=20000131T140000Z;BYMONTH=1;BYDAY=SU,MO,TU,WE,TH,FR,SA
january_by_year : starts (record (each Yearly) { until = until_utc 2000 1 31 14 0 0; by_month = 1 ∷ []; by_day = every_weekday 6 ∷ every_weekday 0 ∷ every_weekday 1 ∷ every_weekday 2 ∷ every_weekday 3 ∷ every_weekday 4 ∷ every_weekday 5 ∷ [] }) (1998, 1, 1) 800
    ≡ january 1998 ++ january 1999 ++ january 2000
unfolding year_of month_of day_of_month day_passes time_passes counted_from exists_in instant_of offset_at
january_by_year = refl

-- WEEKLY

-- each week, ten times, over the end of summer time: FREQ=WEEKLY;COUNT=10
ten_weeks : starts (record (each Weekly) { count = Some 10 }) (1997, 9, 2) 327
    ≡ nines ((1997, 9, 2) ∷ (1997, 9, 9) ∷ (1997, 9, 16) ∷ (1997, 9, 23) ∷ (1997, 9, 30) ∷ (1997, 10, 7) ∷ (1997, 10, 14) ∷ (1997, 10, 21) ∷ (1997, 10, 28) ∷
    (1997, 11, 4) ∷ [])
unfolding year_of month_of day_of_month day_passes time_passes counted_from exists_in instant_of offset_at
ten_weeks = refl

-- each week until a moment: FREQ=WEEKLY;UNTIL=19971224T000000Z
weeks_until : starts (record (each Weekly) { until = until_utc 1997 12 24 0 0 0 }) (1997, 9, 2) 396
    ≡ nines ((1997, 9, 2) ∷ (1997, 9, 9) ∷ (1997, 9, 16) ∷ (1997, 9, 23) ∷ (1997, 9, 30) ∷ (1997, 10, 7) ∷ (1997, 10, 14) ∷ (1997, 10, 21) ∷ (1997, 10, 28) ∷
    (1997, 11, 4) ∷ (1997, 11, 11) ∷ (1997, 11, 18) ∷ (1997, 11, 25) ∷ (1997, 12, 2) ∷ (1997, 12, 9) ∷ (1997, 12, 16) ∷ (1997, 12, 23) ∷ [])
unfolding year_of month_of day_of_month day_passes time_passes counted_from exists_in instant_of offset_at
weeks_until = refl

-- Tuesday and Thursday for five weeks: FREQ=WEEKLY;UNTIL=19971007T000000Z;WKST=SU;BYDAY=TU,TH
tuesdays_and_thursdays : starts (record (each Weekly) { until = until_utc 1997 10 7 0 0 0; week_start = 6; by_day = every_weekday 1 ∷ every_weekday 3 ∷ [] }) (1997, 9, 2) 314
    ≡ nines ((1997, 9, 2) ∷ (1997, 9, 4) ∷ (1997, 9, 9) ∷ (1997, 9, 11) ∷ (1997, 9, 16) ∷ (1997, 9, 18) ∷ (1997, 9, 23) ∷ (1997, 9, 25) ∷ (1997, 9, 30) ∷
    (1997, 10, 2) ∷ [])
unfolding year_of month_of day_of_month day_passes time_passes counted_from exists_in instant_of offset_at
tuesdays_and_thursdays = refl

-- every other week on Monday, Wednesday and Friday: FREQ=WEEKLY;INTERVAL=2;UNTIL=19971224T000000Z;WKST=SU;BYDAY=MO,WE,FR
every_other_week : starts (record (each Weekly) { interval = 2; until = until_utc 1997 12 24 0 0 0; week_start = 6; by_day = every_weekday 0 ∷ every_weekday 2 ∷ every_weekday 4 ∷ [] }) (1997, 9, 1) 395
    ≡ nines ((1997, 9, 1) ∷ (1997, 9, 3) ∷ (1997, 9, 5) ∷ (1997, 9, 15) ∷ (1997, 9, 17) ∷ (1997, 9, 19) ∷ (1997, 9, 29) ∷ (1997, 10, 1) ∷ (1997, 10, 3) ∷
    (1997, 10, 13) ∷ (1997, 10, 15) ∷ (1997, 10, 17) ∷ (1997, 10, 27) ∷ (1997, 10, 29) ∷ (1997, 10, 31) ∷ (1997, 11, 10) ∷ (1997, 11, 12) ∷
    (1997, 11, 14) ∷ (1997, 11, 24) ∷ (1997, 11, 26) ∷ (1997, 11, 28) ∷ (1997, 12, 8) ∷ (1997, 12, 10) ∷ (1997, 12, 12) ∷ (1997, 12, 22) ∷ [])
unfolding year_of month_of day_of_month day_passes time_passes counted_from exists_in instant_of offset_at
every_other_week = refl

-- MONTHLY

-- the first Friday, ten times: FREQ=MONTHLY;COUNT=10;BYDAY=1FR
first_fridays : starts (record (each Monthly) { count = Some 10; by_day = nth_weekday (pos 1) 4 ∷ [] }) (1997, 9, 5) 540
    ≡ nines ((1997, 9, 5) ∷ (1997, 10, 3) ∷ (1997, 11, 7) ∷ (1997, 12, 5) ∷ (1998, 1, 2) ∷ (1998, 2, 6) ∷ (1998, 3, 6) ∷ (1998, 4, 3) ∷ (1998, 5, 1) ∷
    (1998, 6, 5) ∷ [])
unfolding year_of month_of day_of_month day_passes time_passes counted_from exists_in instant_of offset_at
first_fridays = refl

-- the first and the last Sunday of every other month: FREQ=MONTHLY;INTERVAL=2;COUNT=10;BYDAY=1SU,-1SU
first_and_last_sundays : starts (record (each Monthly) { interval = 2; count = Some 10; by_day = nth_weekday (pos 1) 6 ∷ nth_weekday (negsuc 0) 6 ∷ [] }) (1997, 9, 7) 535
    ≡ nines ((1997, 9, 7) ∷ (1997, 9, 28) ∷ (1997, 11, 2) ∷ (1997, 11, 30) ∷ (1998, 1, 4) ∷ (1998, 1, 25) ∷ (1998, 3, 1) ∷ (1998, 3, 29) ∷ (1998, 5, 3) ∷
    (1998, 5, 31) ∷ [])
unfolding year_of month_of day_of_month day_passes time_passes counted_from exists_in instant_of offset_at
first_and_last_sundays = refl

-- the last Monday but one: FREQ=MONTHLY;COUNT=6;BYDAY=-2MO
second_to_last_mondays : starts (record (each Monthly) { count = Some 6; by_day = nth_weekday (negsuc 1) 0 ∷ [] }) (1997, 9, 22) 431
    ≡ nines ((1997, 9, 22) ∷ (1997, 10, 20) ∷ (1997, 11, 17) ∷ (1997, 12, 22) ∷ (1998, 1, 19) ∷ (1998, 2, 16) ∷ [])
unfolding year_of month_of day_of_month day_passes time_passes counted_from exists_in instant_of offset_at
second_to_last_mondays = refl

-- the last day but two: FREQ=MONTHLY;BYMONTHDAY=-3;COUNT=6
third_to_last_days : starts (record (each Monthly) { by_month_day = negsuc 2 ∷ []; count = Some 6 }) (1997, 9, 28) 441
    ≡ nines ((1997, 9, 28) ∷ (1997, 10, 29) ∷ (1997, 11, 28) ∷ (1997, 12, 29) ∷ (1998, 1, 29) ∷ (1998, 2, 26) ∷ [])
unfolding year_of month_of day_of_month day_passes time_passes counted_from exists_in instant_of offset_at
third_to_last_days = refl

-- the 2nd and the 15th: FREQ=MONTHLY;COUNT=10;BYMONTHDAY=2,15
second_and_fifteenth : starts (record (each Monthly) { count = Some 10; by_month_day = pos 2 ∷ pos 15 ∷ [] }) (1997, 9, 2) 399
    ≡ nines ((1997, 9, 2) ∷ (1997, 9, 15) ∷ (1997, 10, 2) ∷ (1997, 10, 15) ∷ (1997, 11, 2) ∷ (1997, 11, 15) ∷ (1997, 12, 2) ∷ (1997, 12, 15) ∷ (1998, 1, 2) ∷
    (1998, 1, 15) ∷ [])
unfolding year_of month_of day_of_month day_passes time_passes counted_from exists_in instant_of offset_at
second_and_fifteenth = refl

-- the first and the last day: FREQ=MONTHLY;COUNT=10;BYMONTHDAY=1,-1
first_and_last_days : starts (record (each Monthly) { count = Some 10; by_month_day = pos 1 ∷ negsuc 0 ∷ [] }) (1997, 9, 30) 416
    ≡ nines ((1997, 9, 30) ∷ (1997, 10, 1) ∷ (1997, 10, 31) ∷ (1997, 11, 1) ∷ (1997, 11, 30) ∷ (1997, 12, 1) ∷ (1997, 12, 31) ∷ (1998, 1, 1) ∷ (1998, 1, 31) ∷
    (1998, 2, 1) ∷ [])
unfolding year_of month_of day_of_month day_passes time_passes counted_from exists_in instant_of offset_at
first_and_last_days = refl

-- every 18 months, the 10th to the 15th: FREQ=MONTHLY;INTERVAL=18;COUNT=10;BYMONTHDAY=10,11,12,13,14,15
every_eighteen_months : starts (record (each Monthly) { interval = 18; count = Some 10; by_month_day = pos 10 ∷ pos 11 ∷ pos 12 ∷ pos 13 ∷ pos 14 ∷ pos 15 ∷ [] }) (1997, 9, 10) 821
    ≡ nines ((1997, 9, 10) ∷ (1997, 9, 11) ∷ (1997, 9, 12) ∷ (1997, 9, 13) ∷ (1997, 9, 14) ∷ (1997, 9, 15) ∷ (1999, 3, 10) ∷ (1999, 3, 11) ∷ (1999, 3, 12) ∷
    (1999, 3, 13) ∷ [])
unfolding year_of month_of day_of_month day_passes time_passes counted_from exists_in instant_of offset_at
every_eighteen_months = refl

-- each Tuesday of every other month: FREQ=MONTHLY;INTERVAL=2;BYDAY=TU;COUNT=18
tuesdays_of_months : starts (record (each Monthly) { interval = 2; by_day = every_weekday 1 ∷ []; count = Some 18 }) (1997, 9, 2) 474
    ≡ nines ((1997, 9, 2) ∷ (1997, 9, 9) ∷ (1997, 9, 16) ∷ (1997, 9, 23) ∷ (1997, 9, 30) ∷ (1997, 11, 4) ∷ (1997, 11, 11) ∷ (1997, 11, 18) ∷ (1997, 11, 25) ∷
    (1998, 1, 6) ∷ (1998, 1, 13) ∷ (1998, 1, 20) ∷ (1998, 1, 27) ∷ (1998, 3, 3) ∷ (1998, 3, 10) ∷ (1998, 3, 17) ∷ (1998, 3, 24) ∷ (1998, 3, 31) ∷ [])
unfolding year_of month_of day_of_month day_passes time_passes counted_from exists_in instant_of offset_at
tuesdays_of_months = refl

-- the first Saturday after the first Sunday: BYMONTHDAY limits BYDAY: FREQ=MONTHLY;BYDAY=SA;BYMONTHDAY=7,8,9,10,11,12,13;COUNT=10
after_the_first_sunday : starts (record (each Monthly) { by_day = every_weekday 5 ∷ []; by_month_day = pos 7 ∷ pos 8 ∷ pos 9 ∷ pos 10 ∷ pos 11 ∷ pos 12 ∷ pos 13 ∷ []; count = Some 10 }) (1997, 9, 13) 548
    ≡ nines ((1997, 9, 13) ∷ (1997, 10, 11) ∷ (1997, 11, 8) ∷ (1997, 12, 13) ∷ (1998, 1, 10) ∷ (1998, 2, 7) ∷ (1998, 3, 7) ∷ (1998, 4, 11) ∷ (1998, 5, 9) ∷
    (1998, 6, 13) ∷ [])
unfolding year_of month_of day_of_month day_passes time_passes counted_from exists_in instant_of offset_at
after_the_first_sunday = refl

-- Friday the 13th, four times with a start that is none: FREQ=MONTHLY;BYDAY=FR;BYMONTHDAY=13;COUNT=6
fridays_the_thirteenth : starts (record (each Monthly) { by_day = every_weekday 4 ∷ []; by_month_day = pos 13 ∷ []; count = Some 6 }) (1997, 9, 2) 1401
    ≡ nines ((1997, 9, 2) ∷ (1998, 2, 13) ∷ (1998, 3, 13) ∷ (1998, 11, 13) ∷ (1999, 8, 13) ∷ (2000, 10, 13) ∷ [])
unfolding year_of month_of day_of_month day_passes time_passes counted_from exists_in instant_of offset_at
fridays_the_thirteenth = refl

-- a day that February lacks is passed over: FREQ=MONTHLY;BYMONTHDAY=15,30;COUNT=5
no_thirtieth_of_february : starts (record (each Monthly) { by_month_day = pos 15 ∷ pos 30 ∷ []; count = Some 5 }) (2007, 1, 15) 108
    ≡ nines ((2007, 1, 15) ∷ (2007, 1, 30) ∷ (2007, 2, 15) ∷ (2007, 3, 15) ∷ (2007, 3, 30) ∷ [])
unfolding year_of month_of day_of_month day_passes time_passes counted_from exists_in instant_of offset_at
no_thirtieth_of_february = refl

-- the third Tuesday, Wednesday or Thursday: FREQ=MONTHLY;COUNT=3;BYDAY=TU,WE,TH;BYSETPOS=3
third_of_three : starts (record (each Monthly) { count = Some 3; by_day = every_weekday 1 ∷ every_weekday 2 ∷ every_weekday 3 ∷ []; by_set_pos = pos 3 ∷ [] }) (1997, 9, 4) 329
    ≡ nines ((1997, 9, 4) ∷ (1997, 10, 7) ∷ (1997, 11, 6) ∷ [])
unfolding year_of month_of day_of_month day_passes time_passes counted_from exists_in instant_of offset_at
third_of_three = refl

-- the last working day but one: FREQ=MONTHLY;BYDAY=MO,TU,WE,TH,FR;BYSETPOS=-2;COUNT=7
last_working_day_but_one : starts (record (each Monthly) { by_day = every_weekday 0 ∷ every_weekday 1 ∷ every_weekday 2 ∷ every_weekday 3 ∷ every_weekday 4 ∷ []; by_set_pos = negsuc 1 ∷ []; count = Some 7 }) (1997, 9, 29) 473
    ≡ nines ((1997, 9, 29) ∷ (1997, 10, 30) ∷ (1997, 11, 27) ∷ (1997, 12, 30) ∷ (1998, 1, 29) ∷ (1998, 2, 26) ∷ (1998, 3, 30) ∷ [])
unfolding year_of month_of day_of_month day_passes time_passes counted_from exists_in instant_of offset_at
last_working_day_but_one = refl

-- YEARLY

-- June and July, with the day of the month of the start: FREQ=YEARLY;COUNT=10;BYMONTH=6,7
june_and_july : starts (record (each Yearly) { count = Some 10; by_month = 6 ∷ 7 ∷ [] }) (1997, 6, 10) 1671
    ≡ nines ((1997, 6, 10) ∷ (1997, 7, 10) ∷ (1998, 6, 10) ∷ (1998, 7, 10) ∷ (1999, 6, 10) ∷ (1999, 7, 10) ∷ (2000, 6, 10) ∷ (2000, 7, 10) ∷ (2001, 6, 10) ∷
    (2001, 7, 10) ∷ [])
unfolding year_of month_of day_of_month day_passes time_passes counted_from exists_in instant_of offset_at
june_and_july = refl

-- January, February and March of every other year: FREQ=YEARLY;INTERVAL=2;COUNT=10;BYMONTH=1,2,3
every_other_year : starts (record (each Yearly) { interval = 2; count = Some 10; by_month = 1 ∷ 2 ∷ 3 ∷ [] }) (1997, 3, 10) 2279
    ≡ nines ((1997, 3, 10) ∷ (1999, 1, 10) ∷ (1999, 2, 10) ∷ (1999, 3, 10) ∷ (2001, 1, 10) ∷ (2001, 2, 10) ∷ (2001, 3, 10) ∷ (2003, 1, 10) ∷ (2003, 2, 10) ∷
    (2003, 3, 10) ∷ [])
unfolding year_of month_of day_of_month day_passes time_passes counted_from exists_in instant_of offset_at
every_other_year = refl

-- the 1st, 100th and 200th day of every third year: FREQ=YEARLY;INTERVAL=3;COUNT=10;BYYEARDAY=1,100,200
days_of_the_year : starts (record (each Yearly) { interval = 3; count = Some 10; by_year_day = pos 1 ∷ pos 100 ∷ pos 200 ∷ [] }) (1997, 1, 1) 3307
    ≡ nines ((1997, 1, 1) ∷ (1997, 4, 10) ∷ (1997, 7, 19) ∷ (2000, 1, 1) ∷ (2000, 4, 9) ∷ (2000, 7, 18) ∷ (2003, 1, 1) ∷ (2003, 4, 10) ∷ (2003, 7, 19) ∷
    (2006, 1, 1) ∷ [])
unfolding year_of month_of day_of_month day_passes time_passes counted_from exists_in instant_of offset_at
days_of_the_year = refl

-- the 20th Monday of the year: FREQ=YEARLY;BYDAY=20MO;COUNT=3
twentieth_mondays : starts (record (each Yearly) { by_day = nth_weekday (pos 20) 0 ∷ []; count = Some 3 }) (1997, 5, 19) 886
    ≡ nines ((1997, 5, 19) ∷ (1998, 5, 18) ∷ (1999, 5, 17) ∷ [])
unfolding year_of month_of day_of_month day_passes time_passes counted_from exists_in instant_of offset_at
twentieth_mondays = refl

-- the Monday of week 20: FREQ=YEARLY;BYWEEKNO=20;BYDAY=MO;COUNT=3
mondays_of_week_twenty : starts (record (each Yearly) { by_week = pos 20 ∷ []; by_day = every_weekday 0 ∷ []; count = Some 3 }) (1997, 5, 12) 886
    ≡ nines ((1997, 5, 12) ∷ (1998, 5, 11) ∷ (1999, 5, 17) ∷ [])
unfolding year_of month_of day_of_month day_passes time_passes counted_from exists_in instant_of offset_at
mondays_of_week_twenty = refl

-- each Thursday of March: FREQ=YEARLY;BYMONTH=3;BYDAY=TH;COUNT=11
thursdays_in_march : starts (record (each Yearly) { by_month = 3 ∷ []; by_day = every_weekday 3 ∷ []; count = Some 11 }) (1997, 3, 13) 833
    ≡ nines ((1997, 3, 13) ∷ (1997, 3, 20) ∷ (1997, 3, 27) ∷ (1998, 3, 5) ∷ (1998, 3, 12) ∷ (1998, 3, 19) ∷ (1998, 3, 26) ∷ (1999, 3, 4) ∷ (1999, 3, 11) ∷
    (1999, 3, 18) ∷ (1999, 3, 25) ∷ [])
unfolding year_of month_of day_of_month day_passes time_passes counted_from exists_in instant_of offset_at
thursdays_in_march = refl

-- each Thursday of June, July and August: FREQ=YEARLY;BYDAY=TH;BYMONTH=6,7,8;COUNT=15
thursdays_in_summer : starts (record (each Yearly) { by_day = every_weekday 3 ∷ []; by_month = 6 ∷ 7 ∷ 8 ∷ []; count = Some 15 }) (1997, 6, 5) 546
    ≡ nines ((1997, 6, 5) ∷ (1997, 6, 12) ∷ (1997, 6, 19) ∷ (1997, 6, 26) ∷ (1997, 7, 3) ∷ (1997, 7, 10) ∷ (1997, 7, 17) ∷ (1997, 7, 24) ∷ (1997, 7, 31) ∷
    (1997, 8, 7) ∷ (1997, 8, 14) ∷ (1997, 8, 21) ∷ (1997, 8, 28) ∷ (1998, 6, 4) ∷ (1998, 6, 11) ∷ [])
unfolding year_of month_of day_of_month day_passes time_passes counted_from exists_in instant_of offset_at
thursdays_in_summer = refl

-- the first Tuesday after the first Monday of November, every four years: FREQ=YEARLY;INTERVAL=4;BYMONTH=11;BYDAY=TU;BYMONTHDAY=2,3,4,5,6,7,8;COUNT=3
election_days : starts (record (each Yearly) { interval = 4; by_month = 11 ∷ []; by_day = every_weekday 1 ∷ []; by_month_day = pos 2 ∷ pos 3 ∷ pos 4 ∷ pos 5 ∷ pos 6 ∷ pos 7 ∷ pos 8 ∷ []; count = Some 3 }) (1996, 11, 5) 3248
    ≡ nines ((1996, 11, 5) ∷ (2000, 11, 7) ∷ (2004, 11, 2) ∷ [])
unfolding year_of month_of day_of_month day_passes time_passes counted_from exists_in instant_of offset_at
election_days = refl
