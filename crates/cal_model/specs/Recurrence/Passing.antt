-- A local moment passes a rule with a start. From RFC 5545, 3.3.10.
-- It passes where all of these hold: its period counts, each BY part that is there holds its value, and what no part speaks of is as the start has it. The test knows one moment, the rule and its start: no other moment, no list of a period's moments, no zone, no COUNT, UNTIL or BYSETPOS.
--
-- The RFC's table says for each frequency whether a part limits (keeps some of the moments) or expands (makes several of one). For one moment both ask the same, that the part holds its value. What they differ in is what is left to the start: a part that expands frees its unit, and a unit that neither the frequency nor a part frees is the start's. That is what "The defaults" and "The time of day" say. Which parts cannot stand beside a frequency is a matter of the rule's text, and so is not asked here.
-- Of the table's notes these are left: an ordinal of BYDAY counts in the month or in the year (`counts_in_month`), and BYWEEKNO counts in the year to which the week belongs, while the period is the calendar year of the day: 29 December 2025 is in week 1, and in the period of 2025.
--
-- Moments are seconds from 1 January of the year 0 (`Rattle.cal_moment.specs.Calendar`). `if` stands where `&&` would, so that an example stops at the first test that fails.
use Rattle.std.specs.Prelude.{ℕ, ◌+◌, ◌-◌, ◌*◌, ◌/◌, ◌%◌, Bool, true, false, not, ◌==◌, nat_le, if◌then◌else◌, List, [], ◌∷◌, ℤ, pos, negsuc}
use Rattle.cal_moment.specs.Calendar.{first_of_year, year_length, month_length, year_of, day_of_year, month_of, day_of_month, weekday_of, day_of_moment, second_of_day}
use Rattle.cal_model.specs.declared.rule.Rule.{Rule}
use Rattle.cal_model.specs.declared.rule.DayPart.{DayPart}
use Rattle.cal_model.specs.declared.rule.Freq.{Freq}
use Rattle.cal_model.specs.declared.rule.Freq.TheVariants.{Secondly, Minutely, Hourly, Daily, Weekly, Monthly, Yearly}
use Rattle.cal_model.specs.Words.Lists.{is_empty, has_number, passes_each}
use Rattle.cal_model.specs.Words.Integers.{some_names_place}
use Rattle.std.specs.List.{list_any}

-- Periods: FREQ, INTERVAL and WKST.

-- how many weeks have begun by a day, where weeks begin on that weekday
abbrev pub week_number_of : ℕ → ℕ → ℕ
week_number_of week_start day = (day + 5 + 7 - week_start) / 7

-- the number of the period in which a moment lies; hours are counted by the local clock, over midnight
abbrev pub period_number : Freq → ℕ → ℕ → ℕ
period_number Secondly week_start m = m
period_number Minutely week_start m = m / 60
period_number Hourly week_start m = m / 3600
period_number Daily week_start m = day_of_moment m
period_number Weekly week_start m = week_number_of week_start (day_of_moment m)
period_number Monthly week_start m = 12 * year_of (day_of_moment m) + month_of (day_of_moment m)
period_number Yearly week_start m = year_of (day_of_moment m)

-- INTERVAL: every so many periods, from that of the start on, which is one of them; what lies in it before the start passes
abbrev pub period_passes : Rule → ℕ → ℕ → Bool
period_passes rule start m =
    let first = period_number rule.freq rule.week_start start in
    let this = period_number rule.freq rule.week_start m in
    if nat_le first this then (this - first) % rule.interval == 0 else false

-- Weeks of the year. A week belongs to the year in which most of its days lie, so that of its fourth day; week 1 is the first that has at least four days in its year.

-- the fourth day of a day's week
abbrev pub fourth_day : ℕ → ℕ → ℕ
fourth_day week_start day = day - (weekday_of day + 7 - week_start) % 7 + 3

-- the fourth day of the first week of a year: the one from 1 to 7 January with the fourth weekday
abbrev pub first_fourth_day : ℕ → ℕ → ℕ
first_fourth_day week_start year =
    first_of_year year + (week_start + 3 + 7 - weekday_of (first_of_year year)) % 7

-- the number of a day's week in the year to which the week belongs: the year of its fourth day
abbrev pub week_of_year : ℕ → ℕ → ℕ
week_of_year week_start day =
    let fourth = fourth_day week_start day in
    (fourth - first_fourth_day week_start (year_of fourth)) / 7 + 1

-- how many weeks belong to that year
abbrev pub weeks_of_year : ℕ → ℕ → ℕ
weeks_of_year week_start day =
    let year = year_of (fourth_day week_start day) in
    (first_of_year (year + 1) - 1 - first_fourth_day week_start year) / 7 + 1

-- The parts that speak of days. One that is not there says nothing.

-- BYDAY counts weekdays in the month under MONTHLY or beside BYMONTH, else in the year
abbrev pub counts_in_month : Freq → List ℕ → Bool
counts_in_month Monthly by_month = true
counts_in_month other by_month = not (is_empty by_month)

-- an ordinal names this occurrence of a weekday in a month or a year, by the day's place there and from the end by its size; 0 is each
abbrev pub ordinal_passes : ℕ → ℕ → ℤ → Bool
ordinal_passes place size (pos n) = if n == 0 then true else n == (place + 6) / 7
ordinal_passes place size (negsuc n) = n == (size - place) / 7

-- a day is one of those of a BYDAY part, `place` of `size` days of its month or year
abbrev pub weekday_passes : ℕ → ℕ → ℕ → DayPart → Bool
weekday_passes weekday place size part =
    if part.weekday == weekday then ordinal_passes place size part.ordinal else false

-- BYMONTH
abbrev pub month_passes : Rule → ℕ → Bool
month_passes rule day = if is_empty rule.by_month then true else has_number rule.by_month (month_of day)

-- BYWEEKNO: -1 is the last week of the year to which the week belongs
abbrev pub week_passes : Rule → ℕ → Bool
week_passes rule day =
    if is_empty rule.by_week then true
    else some_names_place rule.by_week (week_of_year rule.week_start day) (weeks_of_year rule.week_start day)

-- BYYEARDAY: -1 is 31 December
abbrev pub year_day_passes : Rule → ℕ → Bool
year_day_passes rule day =
    if is_empty rule.by_year_day then true
    else some_names_place rule.by_year_day (day_of_year day) (year_length (year_of day))

-- BYMONTHDAY: -1 is the last day of the month
abbrev pub month_day_passes : Rule → ℕ → Bool
month_day_passes rule day =
    if is_empty rule.by_month_day then true
    else some_names_place rule.by_month_day (day_of_month day) (month_length (year_of day) (month_of day))

-- BYDAY
abbrev pub by_day_passes : Rule → ℕ → Bool
by_day_passes rule day =
    if is_empty rule.by_day then true
    else (if counts_in_month rule.freq rule.by_month
    then list_any (weekday_passes (weekday_of day) (day_of_month day) (month_length (year_of day) (month_of day))) rule.by_day
    else list_any (weekday_passes (weekday_of day) (day_of_year day) (year_length (year_of day))) rule.by_day)

-- The defaults: "information missing from the rule is taken from DTSTART".

-- BYYEARDAY, BYMONTHDAY or BYDAY is there
abbrev pub has_day_part : Rule → Bool
has_day_part rule =
    if is_empty rule.by_year_day then (if is_empty rule.by_month_day then not (is_empty rule.by_day) else true) else true

abbrev pub same_weekday : ℕ → ℕ → Bool
same_weekday start day = weekday_of day == weekday_of start

abbrev pub same_month_day : ℕ → ℕ → Bool
same_month_day start day = day_of_month day == day_of_month start

-- what the start gives of the day where none of BYWEEKNO, BYYEARDAY, BYMONTHDAY and BYDAY is there; under YEARLY the month too, unless BYMONTH gives it
abbrev pub day_default : Freq → Rule → ℕ → ℕ → Bool
day_default Weekly rule start day = same_weekday start day
day_default Monthly rule start day = same_month_day start day
day_default Yearly rule start day =
    if same_month_day start day
    then (if is_empty rule.by_month then month_of day == month_of start else true)
    else false
day_default other rule start day = true

-- of these four, BYWEEKNO alone leaves the weekday to the start
abbrev pub default_passes : Rule → ℕ → ℕ → Bool
default_passes rule start day =
    if has_day_part rule then true
    else (if is_empty rule.by_week then day_default rule.freq rule start day else same_weekday start day)

-- all that the rule and its start say of days
abbrev pub day_tests : Rule → ℕ → List (ℕ → Bool)
day_tests rule start =
    month_passes rule ∷ month_day_passes rule ∷ by_day_passes rule ∷ year_day_passes rule ∷ week_passes rule ∷ default_passes rule start ∷ []

-- a day passes all of it
unfoldable pub day_passes : Rule → ℕ → ℕ → Bool
day_passes rule start day = passes_each (day_tests rule start) day

-- The time of day: BYHOUR, BYMINUTE and BYSECOND.

-- a part of the time, or the start's value where the part is absent
abbrev pub part_passes : List ℕ → ℕ → ℕ → Bool
part_passes part of_start value = if is_empty part then value == of_start else has_number part value

-- under HOURLY each hour of a period that counts
abbrev pub hour_passes : Freq → List ℕ → ℕ → ℕ → Bool
hour_passes Hourly part of_start hour = if is_empty part then true else has_number part hour
hour_passes other part of_start hour = part_passes part of_start hour

-- a second of the day passes; beside a start that is a DATE the three parts count as absent, and the first second stands for the day
unfoldable pub time_passes : Rule → ℕ → Bool → ℕ → Bool
time_passes rule of_start dated second =
    if dated then second == 0
    else (if hour_passes rule.freq rule.by_hour (of_start / 3600) (second / 3600)
    then (if part_passes rule.by_minute (of_start / 60 % 60) (second / 60 % 60)
    then part_passes rule.by_second (of_start % 60) (second % 60)
    else false)
    else false)

-- The test, of a rule, the moment and the kind of its start, and a moment. SECONDLY and MINUTELY rules are refused before anything is asked of them.

abbrev pub passes : Rule → ℕ → Bool → ℕ → Bool
passes rule start dated m =
    if period_passes rule start m
    then (if day_passes rule (day_of_moment start) (day_of_moment m)
    then time_passes rule (second_of_day start) dated (second_of_day m)
    else false)
    else false
