-- The Gregorian calendar, carried back before its first use (RFC 5545, 3.3.4, after ISO 8601).
-- Days are counted from 1 January of the year 0, so no number here is negative, and `/` and `%` are those of the naturals.
use Rattle.std.specs.Prelude.{◌≡◌, ℕ, zero, suc, ◌+◌, ◌-◌, ◌*◌, ◌/◌, ◌%◌, Bool, not, ◌&&◌, ◌||◌, ◌==◌, nat_lt, if◌then◌else◌, List, [], ◌∷◌, count_by, ℤ, pos, neg_ℤ, ◌+ℤ◌, ◌-ℤ◌, ◌≤ℤ◌, unsigned_abs}
use Rattle.std.specs.Int.{IsInRange}

-- a number from the lowest to the highest
abbrev pub IsBetween : ℤ → ℤ → ℤ → Type 0
IsBetween low high n = (low ≤ℤ n) × (n ≤ℤ high)

-- every fourth year, but of the centuries only every fourth
abbrev pub is_leap : ℕ → Bool
is_leap y = (y % 4 == 0) && (not (y % 100 == 0) || (y % 400 == 0))

-- the days of a year
abbrev pub year_length : ℕ → ℕ
year_length y = if is_leap y then 366 else 365

-- thirty days have September, April, June and November
abbrev pub month_length : ℕ → ℕ → ℕ
month_length y m =
    if m == 2 then (if is_leap y then 29 else 28)
    else (if (m == 4) || (m == 6) || (m == 9) || (m == 11) then 30 else 31)

-- how many days lie before 1 January of the year: `first_of_year 0` is 0, and each year adds its length (`first_of_year-suc`)
abbrev pub first_of_year : ℕ → ℕ
first_of_year y = 365 * y + (y + 3) / 4 + (y + 399) / 400 - (y + 99) / 100

-- how many days of the year lie before the first of the month
abbrev pub days_before_month : ℕ → ℕ → ℕ
days_before_month y zero = 0
days_before_month y (suc zero) = 0
days_before_month y (suc (suc m)) = days_before_month y (suc m) + month_length y (suc m)

-- the number of a date
abbrev pub day_of_date : ℕ → ℕ → ℕ → ℕ
day_of_date y m d = first_of_year y + days_before_month y m + (d - 1)

-- the calendar of the years 1 to 9999 has this date
abbrev pub IsDate : ℕ → ℕ → ℕ → Type 0
IsDate y m d = IsInRange 1 9999 y × IsInRange 1 12 m × IsInRange 1 (month_length y m) d

-- the same, for a year that may be written as a negative number
abbrev pub IsDateOf : ℤ → ℕ → ℕ → Type 0
IsDateOf y m d = (pos 1 ≤ℤ y) × IsDate (unsigned_abs y) m d

-- the year that the mean length of a year gives for a day, at most one off
abbrev pub near_year : ℕ → ℕ
near_year day = day * 400 / 146097

-- the year of a day: its first day is at or before that day, and the next year's after it
unfoldable pub year_of : ℕ → ℕ
year_of day =
    let y = near_year day in
    if nat_lt day (first_of_year y) then y - 1
    else (if nat_lt day (first_of_year (y + 1)) then y else y + 1)

-- the place of a day in its year, from 1
abbrev pub day_of_year : ℕ → ℕ
day_of_year day = day - first_of_year (year_of day) + 1

-- January to December
abbrev pub the_months : List ℕ
the_months = 1 ∷ 2 ∷ 3 ∷ 4 ∷ 5 ∷ 6 ∷ 7 ∷ 8 ∷ 9 ∷ 10 ∷ 11 ∷ 12 ∷ []

-- the month of a day: how many months of its year begin at or before it
unfoldable pub month_of : ℕ → ℕ
month_of day =
    count_by (λ m. nat_lt (days_before_month (year_of day) m) (day_of_year day)) the_months

-- the day of the month, from 1
unfoldable pub day_of_month : ℕ → ℕ
day_of_month day = day_of_year day - days_before_month (year_of day) (month_of day)

-- these are the year, the month and the day of the month of a day
abbrev pub IsFieldsOf : ℕ → ℕ → ℕ → ℕ → Type 0
IsFieldsOf day y m d = (y ≡ year_of day) × (m ≡ month_of day) × (d ≡ day_of_month day)

-- Monday is 0 and Sunday 6; 1 January of the year 0 was a Saturday
abbrev pub weekday_of : ℕ → ℕ
weekday_of day = (day + 5) % 7

-- the number of 1 January 1970
abbrev pub epoch_day : ℕ
epoch_day = 719_528

-- a day since 1970 that lies in the years 1 to 9999
abbrev pub IsCalendarDay : ℤ → Type 0
IsCalendarDay = IsBetween (neg_ℤ (pos 719_162)) (pos 2_932_896)

-- seconds from 1970 of such a day
abbrev pub IsCalendarMoment : ℤ → Type 0
IsCalendarMoment = IsBetween (neg_ℤ (pos 62_135_596_800)) (pos 253_402_300_799)

-- the number of a day that is counted from 1970
abbrev pub day_number : ℤ → ℕ
day_number day = unsigned_abs (day +ℤ pos epoch_day)

-- and back
abbrev pub day_since_1970 : ℕ → ℤ
day_since_1970 day = pos day -ℤ pos epoch_day

-- a local time as seconds from 1 January of the year 0, by its day since 1970 and its second
abbrev pub moment_number : ℤ → ℕ → ℕ
moment_number day second = 86400 * day_number day + second

-- the day of such a moment
abbrev pub day_of_moment : ℕ → ℕ
day_of_moment moment = moment / 86400

-- its second of the day
abbrev pub second_of_day : ℕ → ℕ
second_of_day moment = moment % 86400

-- the same moment as local seconds from 1970
abbrev pub seconds_since_1970 : ℕ → ℤ
seconds_since_1970 moment = pos moment -ℤ pos (86400 * epoch_day)

-- and back
abbrev pub moment_of_seconds : ℤ → ℕ
moment_of_seconds seconds = unsigned_abs (seconds +ℤ pos (86400 * epoch_day))

-- a moment by its date and time of day
abbrev pub moment_of_date : ℕ → ℕ → ℕ → ℕ → ℕ → ℕ → ℕ
moment_of_date y m d hour minute second =
    86400 * day_of_date y m d + (3600 * hour + 60 * minute + second)
