-- Rules that are read (RFC 5545, 3.3.10 and 3.8.5.3), texts that are refused, and what tells two readings apart.
use Rattle.std.specs.Prelude.{◌≡◌, refl, ℕ, [], ◌∷◌, Some, None, codes, ℤ, pos, neg_ℤ}
use Rattle.cal_model.specs.declared.rule.DayPart.{DayPart}
use Rattle.cal_model.specs.declared.rule.Freq.TheVariants.{Secondly, Minutely, Hourly, Daily, Weekly, Monthly, Yearly}
use Rattle.cal_model.specs.declared.rule.Until.TheVariants.{Day as UntilDay, Local as UntilLocal, Utc as UntilUtc}
use Rattle.cal_model.specs.Values.ValueTexts.{count_of, integer_of, date_of, time_of, date_time_of}
use Rattle.cal_model.specs.Values.RuleTexts.{rule_in_grammar, rule_of, every_time}

-- a weekday with its ordinal
abbrev day : ℤ → ℕ → DayPart
day ordinal weekday = record { ordinal = ordinal; weekday = weekday }

-- RFC 5545, 3.8.5.3

daily_ten_times : rule_of (codes "FREQ=DAILY;COUNT=10") ≡ Some (record (every_time Daily) { count = Some 10 })
unfolding rule_in_grammar count_of integer_of date_of time_of date_time_of
daily_ten_times = refl

daily_until : rule_of (codes "FREQ=DAILY;UNTIL=19971224T000000Z") ≡ Some (record (every_time Daily) { until = Some (UntilUtc (record { 0 = pos 882921600 })) })
unfolding rule_in_grammar count_of integer_of date_of time_of date_time_of
daily_until = refl

every_ten_days : rule_of (codes "FREQ=DAILY;INTERVAL=10;COUNT=5") ≡ Some (record (every_time Daily) { interval = 10; count = Some 5 })
unfolding rule_in_grammar count_of integer_of date_of time_of date_time_of
every_ten_days = refl

every_day_in_january : rule_of (codes "FREQ=YEARLY;UNTIL=20000131T140000Z;BYMONTH=1;BYDAY=SU,MO,TU,WE,TH,FR,SA") ≡ Some (record (every_time Yearly) { until = Some (UntilUtc (record { 0 = pos 949327200 })); by_month = 1 ∷ []; by_day = day (pos 0) 6 ∷ day (pos 0) 0 ∷ day (pos 0) 1 ∷ day (pos 0) 2 ∷ day (pos 0) 3 ∷ day (pos 0) 4 ∷ day (pos 0) 5 ∷ [] })
unfolding rule_in_grammar count_of integer_of date_of time_of date_time_of
every_day_in_january = refl

tuesdays_and_thursdays : rule_of (codes "FREQ=WEEKLY;UNTIL=19971007T000000Z;WKST=SU;BYDAY=TU,TH") ≡ Some (record (every_time Weekly) { until = Some (UntilUtc (record { 0 = pos 876182400 })); week_start = 6; by_day = day (pos 0) 1 ∷ day (pos 0) 3 ∷ [] })
unfolding rule_in_grammar count_of integer_of date_of time_of date_time_of
tuesdays_and_thursdays = refl

first_and_last_sunday : rule_of (codes "FREQ=MONTHLY;INTERVAL=2;COUNT=10;BYDAY=1SU,-1SU") ≡ Some (record (every_time Monthly) { interval = 2; count = Some 10; by_day = day (pos 1) 6 ∷ day (neg_ℤ (pos 1)) 6 ∷ [] })
unfolding rule_in_grammar count_of integer_of date_of time_of date_time_of
first_and_last_sunday = refl

third_to_last_day : rule_of (codes "FREQ=MONTHLY;BYMONTHDAY=-3") ≡ Some (record (every_time Monthly) { by_month_day = neg_ℤ (pos 3) ∷ [] })
unfolding rule_in_grammar count_of integer_of date_of time_of date_time_of
third_to_last_day = refl

first_and_last_day : rule_of (codes "FREQ=MONTHLY;COUNT=10;BYMONTHDAY=1,-1") ≡ Some (record (every_time Monthly) { count = Some 10; by_month_day = pos 1 ∷ neg_ℤ (pos 1) ∷ [] })
unfolding rule_in_grammar count_of integer_of date_of time_of date_time_of
first_and_last_day = refl

days_of_the_year : rule_of (codes "FREQ=YEARLY;INTERVAL=3;COUNT=10;BYYEARDAY=1,100,200") ≡ Some (record (every_time Yearly) { interval = 3; count = Some 10; by_year_day = pos 1 ∷ pos 100 ∷ pos 200 ∷ [] })
unfolding rule_in_grammar count_of integer_of date_of time_of date_time_of
days_of_the_year = refl

twentieth_monday : rule_of (codes "FREQ=YEARLY;BYDAY=20MO") ≡ Some (record (every_time Yearly) { by_day = day (pos 20) 0 ∷ [] })
unfolding rule_in_grammar count_of integer_of date_of time_of date_time_of
twentieth_monday = refl

week_twenty : rule_of (codes "FREQ=YEARLY;BYWEEKNO=20;BYDAY=MO") ≡ Some (record (every_time Yearly) { by_week = pos 20 ∷ []; by_day = day (pos 0) 0 ∷ [] })
unfolding rule_in_grammar count_of integer_of date_of time_of date_time_of
week_twenty = refl

thursdays_of_summer : rule_of (codes "FREQ=YEARLY;BYDAY=TH;BYMONTH=6,7,8") ≡ Some (record (every_time Yearly) { by_day = day (pos 0) 3 ∷ []; by_month = 6 ∷ 7 ∷ 8 ∷ [] })
unfolding rule_in_grammar count_of integer_of date_of time_of date_time_of
thursdays_of_summer = refl

friday_the_thirteenth : rule_of (codes "FREQ=MONTHLY;BYDAY=FR;BYMONTHDAY=13") ≡ Some (record (every_time Monthly) { by_day = day (pos 0) 4 ∷ []; by_month_day = pos 13 ∷ [] })
unfolding rule_in_grammar count_of integer_of date_of time_of date_time_of
friday_the_thirteenth = refl

election_day : rule_of (codes "FREQ=YEARLY;INTERVAL=4;BYMONTH=11;BYDAY=TU;BYMONTHDAY=2,3,4,5,6,7,8") ≡ Some (record (every_time Yearly) { interval = 4; by_month = 11 ∷ []; by_day = day (pos 0) 1 ∷ []; by_month_day = pos 2 ∷ pos 3 ∷ pos 4 ∷ pos 5 ∷ pos 6 ∷ pos 7 ∷ pos 8 ∷ [] })
unfolding rule_in_grammar count_of integer_of date_of time_of date_time_of
election_day = refl

third_of_three : rule_of (codes "FREQ=MONTHLY;COUNT=3;BYDAY=TU,WE,TH;BYSETPOS=3") ≡ Some (record (every_time Monthly) { count = Some 3; by_day = day (pos 0) 1 ∷ day (pos 0) 2 ∷ day (pos 0) 3 ∷ []; by_set_pos = pos 3 ∷ [] })
unfolding rule_in_grammar count_of integer_of date_of time_of date_time_of
third_of_three = refl

second_to_last_weekday : rule_of (codes "FREQ=MONTHLY;BYDAY=MO,TU,WE,TH,FR;BYSETPOS=-2") ≡ Some (record (every_time Monthly) { by_day = day (pos 0) 0 ∷ day (pos 0) 1 ∷ day (pos 0) 2 ∷ day (pos 0) 3 ∷ day (pos 0) 4 ∷ []; by_set_pos = neg_ℤ (pos 2) ∷ [] })
unfolding rule_in_grammar count_of integer_of date_of time_of date_time_of
second_to_last_weekday = refl

every_three_hours : rule_of (codes "FREQ=HOURLY;INTERVAL=3;UNTIL=19970902T170000Z") ≡ Some (record (every_time Hourly) { interval = 3; until = Some (UntilUtc (record { 0 = pos 873219600 })) })
unfolding rule_in_grammar count_of integer_of date_of time_of date_time_of
every_three_hours = refl

every_quarter : rule_of (codes "FREQ=MINUTELY;INTERVAL=15;COUNT=6") ≡ Some (record (every_time Minutely) { interval = 15; count = Some 6 })
unfolding rule_in_grammar count_of integer_of date_of time_of date_time_of
every_quarter = refl

twenty_minutes : rule_of (codes "FREQ=DAILY;BYHOUR=9,10,11,12,13,14,15,16;BYMINUTE=0,20,40") ≡ Some (record (every_time Daily) { by_hour = 9 ∷ 10 ∷ 11 ∷ 12 ∷ 13 ∷ 14 ∷ 15 ∷ 16 ∷ []; by_minute = 0 ∷ 20 ∷ 40 ∷ [] })
unfolding rule_in_grammar count_of integer_of date_of time_of date_time_of
twenty_minutes = refl

weeks_begin_on_sunday : rule_of (codes "FREQ=WEEKLY;INTERVAL=2;COUNT=4;BYDAY=TU,SU;WKST=SU") ≡ Some (record (every_time Weekly) { interval = 2; count = Some 4; by_day = day (pos 0) 1 ∷ day (pos 0) 6 ∷ []; week_start = 6 })
unfolding rule_in_grammar count_of integer_of date_of time_of date_time_of
weeks_begin_on_sunday = refl

-- What is read

-- parts in any order, and names, frequencies and days in any case
any_order : rule_of (codes "COUNT=2;freq=daily;WkSt=tu;BYday=mo") ≡ Some (record (every_time Daily) { count = Some 2; week_start = 1; by_day = day (pos 0) 0 ∷ [] })
unfolding rule_in_grammar count_of integer_of date_of time_of date_time_of
any_order = refl

-- one empty part at the end is passed over
empty_part_at_the_end : rule_of (codes "FREQ=DAILY;") ≡ Some (every_time Daily)
unfolding rule_in_grammar count_of integer_of date_of time_of date_time_of
empty_part_at_the_end = refl

-- a part of another's own has any value
parts_of_others : rule_of (codes "FREQ=DAILY;X-A=;x-=a=b,c") ≡ Some (every_time Daily)
unfolding rule_in_grammar count_of integer_of date_of time_of date_time_of
parts_of_others = refl

-- numbers may have a plus and zeros in front
zeros_and_signs : rule_of (codes "FREQ=DAILY;INTERVAL=+007;BYHOUR=-0,+9") ≡ Some (record (every_time Daily) { interval = 7; by_hour = 0 ∷ 9 ∷ [] })
unfolding rule_in_grammar count_of integer_of date_of time_of date_time_of
zeros_and_signs = refl

-- a value may stand twice
values_twice : rule_of (codes "FREQ=DAILY;BYHOUR=9,9") ≡ Some (record (every_time Daily) { by_hour = 9 ∷ 9 ∷ [] })
unfolding rule_in_grammar count_of integer_of date_of time_of date_time_of
values_twice = refl

-- second 60 is read as 59
second_60 : rule_of (codes "FREQ=DAILY;BYSECOND=60,59,0") ≡ Some (record (every_time Daily) { by_second = 59 ∷ 59 ∷ 0 ∷ [] })
unfolding rule_in_grammar count_of integer_of date_of time_of date_time_of
second_60 = refl

-- a date, and a local time
until_day : rule_of (codes "FREQ=DAILY;UNTIL=19700102") ≡ Some (record (every_time Daily) { until = Some (UntilDay (record { 0 = pos 1 })) })
unfolding rule_in_grammar count_of integer_of date_of time_of date_time_of
until_day = refl

until_local : rule_of (codes "FREQ=DAILY;UNTIL=19700102T000001") ≡ Some (record (every_time Daily) { until = Some (UntilLocal (record { day = pos 1; second = 1 })) })
unfolding rule_in_grammar count_of integer_of date_of time_of date_time_of
until_local = refl

-- an ordinal may stand beside other parts by the year
ordinal_beside_year_day : rule_of (codes "FREQ=YEARLY;BYYEARDAY=1;BYDAY=-53SU") ≡ Some (record (every_time Yearly) { by_year_day = pos 1 ∷ []; by_day = day (neg_ℤ (pos 53)) 6 ∷ [] })
unfolding rule_in_grammar count_of integer_of date_of time_of date_time_of
ordinal_beside_year_day = refl

-- BYSETPOS needs no other part
place_without_other_part : rule_of (codes "FREQ=DAILY;BYSETPOS=-366") ≡ Some (record (every_time Daily) { by_set_pos = neg_ℤ (pos 366) ∷ [] })
unfolding rule_in_grammar count_of integer_of date_of time_of date_time_of
place_without_other_part = refl

-- by the hour the days of a year and of a month can stand, and so by the second
hourly_parts : rule_of (codes "FREQ=HOURLY;BYYEARDAY=-1;BYMONTHDAY=31") ≡ Some (record (every_time Hourly) { by_year_day = neg_ℤ (pos 1) ∷ []; by_month_day = pos 31 ∷ [] })
unfolding rule_in_grammar count_of integer_of date_of time_of date_time_of
hourly_parts = refl

secondly_parts : rule_of (codes "FREQ=SECONDLY;BYYEARDAY=-1;BYMONTHDAY=31") ≡ Some (record (every_time Secondly) { by_year_day = neg_ℤ (pos 1) ∷ []; by_month_day = pos 31 ∷ [] })
unfolding rule_in_grammar count_of integer_of date_of time_of date_time_of
secondly_parts = refl

-- What is refused

-- FREQ has to be there, once, and as one word
no_freq : rule_of (codes "COUNT=10") ≡ None
unfolding rule_in_grammar count_of integer_of date_of time_of date_time_of
no_freq = refl

nothing : rule_of (codes "") ≡ None
unfolding rule_in_grammar count_of integer_of date_of time_of date_time_of
nothing = refl

two_freqs : rule_of (codes "FREQ=DAILY;FREQ=DAILY") ≡ None
unfolding rule_in_grammar count_of integer_of date_of time_of date_time_of
two_freqs = refl

freq_list : rule_of (codes "FREQ=DAILY,WEEKLY") ≡ None
unfolding rule_in_grammar count_of integer_of date_of time_of date_time_of
freq_list = refl

freq_word : rule_of (codes "FREQ=FORTNIGHTLY") ≡ None
unfolding rule_in_grammar count_of integer_of date_of time_of date_time_of
freq_word = refl

-- no part stands twice, in whatever case
other_twice : rule_of (codes "FREQ=DAILY;X-A=1;x-a=2") ≡ None
unfolding rule_in_grammar count_of integer_of date_of time_of date_time_of
other_twice = refl

-- an unknown part
unknown_part : rule_of (codes "FREQ=DAILY;BYEASTER=0") ≡ None
unfolding rule_in_grammar count_of integer_of date_of time_of date_time_of
unknown_part = refl

-- a part without `=`, without a name, and two empty parts at the end
no_equals : rule_of (codes "FREQ=DAILY;COUNT") ≡ None
unfolding rule_in_grammar count_of integer_of date_of time_of date_time_of
no_equals = refl

no_name : rule_of (codes "FREQ=DAILY;=1") ≡ None
unfolding rule_in_grammar count_of integer_of date_of time_of date_time_of
no_name = refl

two_empty : rule_of (codes "FREQ=DAILY;;") ≡ None
unfolding rule_in_grammar count_of integer_of date_of time_of date_time_of
two_empty = refl

empty_in_front : rule_of (codes ";FREQ=DAILY") ≡ None
unfolding rule_in_grammar count_of integer_of date_of time_of date_time_of
empty_in_front = refl

-- COUNT and INTERVAL are at least 1, and are no lists
count_zero : rule_of (codes "FREQ=DAILY;COUNT=0") ≡ None
unfolding rule_in_grammar count_of integer_of date_of time_of date_time_of
count_zero = refl

interval_zero : rule_of (codes "FREQ=DAILY;INTERVAL=000") ≡ None
unfolding rule_in_grammar count_of integer_of date_of time_of date_time_of
interval_zero = refl

count_list : rule_of (codes "FREQ=DAILY;COUNT=1,2") ≡ None
unfolding rule_in_grammar count_of integer_of date_of time_of date_time_of
count_list = refl

-- COUNT beside UNTIL
count_and_until : rule_of (codes "FREQ=DAILY;COUNT=1;UNTIL=19971224") ≡ None
unfolding rule_in_grammar count_of integer_of date_of time_of date_time_of
count_and_until = refl

-- T and Z are upper case
until_lower_case : rule_of (codes "FREQ=DAILY;UNTIL=19971224t000000z") ≡ None
unfolding rule_in_grammar count_of integer_of date_of time_of date_time_of
until_lower_case = refl

-- each bound
hour_24 : rule_of (codes "FREQ=DAILY;BYHOUR=24") ≡ None
unfolding rule_in_grammar count_of integer_of date_of time_of date_time_of
hour_24 = refl

minute_60 : rule_of (codes "FREQ=DAILY;BYMINUTE=60") ≡ None
unfolding rule_in_grammar count_of integer_of date_of time_of date_time_of
minute_60 = refl

second_61 : rule_of (codes "FREQ=DAILY;BYSECOND=61") ≡ None
unfolding rule_in_grammar count_of integer_of date_of time_of date_time_of
second_61 = refl

month_0 : rule_of (codes "FREQ=DAILY;BYMONTH=0") ≡ None
unfolding rule_in_grammar count_of integer_of date_of time_of date_time_of
month_0 = refl

month_13 : rule_of (codes "FREQ=DAILY;BYMONTH=13") ≡ None
unfolding rule_in_grammar count_of integer_of date_of time_of date_time_of
month_13 = refl

month_day_0 : rule_of (codes "FREQ=MONTHLY;BYMONTHDAY=0") ≡ None
unfolding rule_in_grammar count_of integer_of date_of time_of date_time_of
month_day_0 = refl

month_day_32 : rule_of (codes "FREQ=MONTHLY;BYMONTHDAY=-32") ≡ None
unfolding rule_in_grammar count_of integer_of date_of time_of date_time_of
month_day_32 = refl

year_day_367 : rule_of (codes "FREQ=YEARLY;BYYEARDAY=367") ≡ None
unfolding rule_in_grammar count_of integer_of date_of time_of date_time_of
year_day_367 = refl

week_54 : rule_of (codes "FREQ=YEARLY;BYWEEKNO=-54") ≡ None
unfolding rule_in_grammar count_of integer_of date_of time_of date_time_of
week_54 = refl

place_367 : rule_of (codes "FREQ=YEARLY;BYSETPOS=367") ≡ None
unfolding rule_in_grammar count_of integer_of date_of time_of date_time_of
place_367 = refl

ordinal_0 : rule_of (codes "FREQ=YEARLY;BYDAY=0MO") ≡ None
unfolding rule_in_grammar count_of integer_of date_of time_of date_time_of
ordinal_0 = refl

ordinal_54 : rule_of (codes "FREQ=YEARLY;BYDAY=54MO") ≡ None
unfolding rule_in_grammar count_of integer_of date_of time_of date_time_of
ordinal_54 = refl

ordinal_alone : rule_of (codes "FREQ=YEARLY;BYDAY=5") ≡ None
unfolding rule_in_grammar count_of integer_of date_of time_of date_time_of
ordinal_alone = refl

-- a list has a value, and none is empty
empty_list : rule_of (codes "FREQ=DAILY;BYHOUR=") ≡ None
unfolding rule_in_grammar count_of integer_of date_of time_of date_time_of
empty_list = refl

empty_value : rule_of (codes "FREQ=DAILY;BYHOUR=1,") ≡ None
unfolding rule_in_grammar count_of integer_of date_of time_of date_time_of
empty_value = refl

-- the parts that a frequency does not have
week_by_month : rule_of (codes "FREQ=MONTHLY;BYWEEKNO=1") ≡ None
unfolding rule_in_grammar count_of integer_of date_of time_of date_time_of
week_by_month = refl

week_by_second : rule_of (codes "FREQ=SECONDLY;BYWEEKNO=1") ≡ None
unfolding rule_in_grammar count_of integer_of date_of time_of date_time_of
week_by_second = refl

year_day_by_month : rule_of (codes "FREQ=MONTHLY;BYYEARDAY=1") ≡ None
unfolding rule_in_grammar count_of integer_of date_of time_of date_time_of
year_day_by_month = refl

year_day_by_week : rule_of (codes "FREQ=WEEKLY;BYYEARDAY=1") ≡ None
unfolding rule_in_grammar count_of integer_of date_of time_of date_time_of
year_day_by_week = refl

year_day_by_day : rule_of (codes "FREQ=DAILY;BYYEARDAY=1") ≡ None
unfolding rule_in_grammar count_of integer_of date_of time_of date_time_of
year_day_by_day = refl

month_day_by_week : rule_of (codes "FREQ=WEEKLY;BYMONTHDAY=1") ≡ None
unfolding rule_in_grammar count_of integer_of date_of time_of date_time_of
month_day_by_week = refl

-- an ordinal by the week or the day, and beside BYWEEKNO
ordinal_by_week : rule_of (codes "FREQ=WEEKLY;BYDAY=1MO") ≡ None
unfolding rule_in_grammar count_of integer_of date_of time_of date_time_of
ordinal_by_week = refl

ordinal_by_day : rule_of (codes "FREQ=DAILY;BYDAY=MO,-1TU") ≡ None
unfolding rule_in_grammar count_of integer_of date_of time_of date_time_of
ordinal_by_day = refl

ordinal_beside_week : rule_of (codes "FREQ=YEARLY;BYWEEKNO=20;BYDAY=1MO") ≡ None
unfolding rule_in_grammar count_of integer_of date_of time_of date_time_of
ordinal_beside_week = refl

-- The bound on BYSETPOS

-- 24 times of day are the most; a value that stands twice counts once, and second 60 is second 59
twenty_four_times : rule_of (codes "FREQ=DAILY;BYHOUR=1,2,3,4,5,6;BYMINUTE=0,15,30,45,45;BYSETPOS=1") ≡ Some (record (every_time Daily) { by_hour = 1 ∷ 2 ∷ 3 ∷ 4 ∷ 5 ∷ 6 ∷ []; by_minute = 0 ∷ 15 ∷ 30 ∷ 45 ∷ 45 ∷ []; by_set_pos = pos 1 ∷ [] })
unfolding rule_in_grammar count_of integer_of date_of time_of date_time_of
twenty_four_times = refl

two_last_seconds : rule_of (codes "FREQ=DAILY;BYSECOND=0,1,2,3,4,5,6,7,8,9,10,11,12,13,14,15,16,17,18,19,20,21,22,59,60;BYSETPOS=1") ≡ Some (record (every_time Daily) { by_second = 0 ∷ 1 ∷ 2 ∷ 3 ∷ 4 ∷ 5 ∷ 6 ∷ 7 ∷ 8 ∷ 9 ∷ 10 ∷ 11 ∷ 12 ∷ 13 ∷ 14 ∷ 15 ∷ 16 ∷ 17 ∷ 18 ∷ 19 ∷ 20 ∷ 21 ∷ 22 ∷ 59 ∷ 59 ∷ []; by_set_pos = pos 1 ∷ [] })
unfolding rule_in_grammar count_of integer_of date_of time_of date_time_of
two_last_seconds = refl

-- 25 are too many, though the grammar of the parts has them; without BYSETPOS they are not
twenty_five_times : rule_of (codes "FREQ=DAILY;BYHOUR=1,2,3,4,5;BYMINUTE=0,10,20,30,40;BYSETPOS=1") ≡ None
unfolding rule_in_grammar count_of integer_of date_of time_of date_time_of
twenty_five_times = refl

in_grammar : rule_of (codes "FREQ=DAILY;BYHOUR=1,2,3,4,5;BYMINUTE=0,10,20,30,40") ≡ Some (record (every_time Daily) { by_hour = 1 ∷ 2 ∷ 3 ∷ 4 ∷ 5 ∷ []; by_minute = 0 ∷ 10 ∷ 20 ∷ 30 ∷ 40 ∷ [] })
unfolding rule_in_grammar count_of integer_of date_of time_of date_time_of
in_grammar = refl
