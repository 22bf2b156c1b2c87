-- The texts of dates, times, lengths and offsets, and what each spells (RFC 5545, 3.3.4, 3.3.5, 3.3.6 and 3.3.14).
-- Each definition goes over whole texts. A digit d is the octet 48 + d.
use Rattle.std.specs.Prelude.{◌≡◌, ℕ, zero, suc, ◌+◌, ◌*◌, ◌/◌, ◌%◌, ◌^◌, ◌≤◌, Bool, if◌then◌else◌, List, [], ◌∷◌, ◌++◌, codes, min, ℤ, pos, neg_ℤ, ◌⊎◌}
use Rattle.cal_moment.specs.declared.stamp.Day.{Day}
use Rattle.cal_moment.specs.declared.stamp.Local.{Local}
use Rattle.cal_moment.specs.Calendar.{IsDate, day_of_date, day_since_1970, year_of, month_of, day_of_month, day_of_moment, second_of_day, moment_of_seconds}

-- so many digits of a number below 10 ^ count, leading zeros among them
abbrev pub digits : ℕ → ℕ → List ℕ
digits zero n = []
digits (suc count) n = (48 + n / 10 ^ count) ∷ digits count (n % 10 ^ count)

-- RFC 5545, 3.3.4: four digits of the year, two of the month and two of the day
abbrev pub date_text : ℕ → ℕ → ℕ → List ℕ
date_text year month day = digits 4 year ++ (digits 2 month ++ digits 2 day)

-- RFC 5545, 3.3.12: two digits each of the hour, the minute and the second
abbrev pub time_text : ℕ → ℕ → ℕ → List ℕ
time_text hour minute second = digits 2 hour ++ (digits 2 minute ++ digits 2 second)

-- a date of the years 1 to 9999, and its day since 1970
pub record SpellsDate (text : List ℕ) (value : Day) : Type 0 where
  pub year : ℕ
  pub month : ℕ
  pub day : ℕ
  pub date : IsDate year month day
  pub spelled : text ≡ date_text year month day
  pub number : value.0 ≡ day_since_1970 (day_of_date year month day)

-- a time of day, and its seconds from midnight; a leap second, 60, is the second before it
pub record SpellsTime (text : List ℕ) (value : ℕ) : Type 0 where
  pub hour : ℕ
  pub minute : ℕ
  pub second : ℕ
  pub hour_in : hour ≤ 23
  pub minute_in : minute ≤ 59
  pub second_in : second ≤ 60
  pub spelled : text ≡ time_text hour minute second
  pub number : value ≡ 3600 * hour + 60 * minute + min second 59

-- Z behind a time of UTC
abbrev pub utc_text : Bool → List ℕ
utc_text utc = if utc then codes "Z" else []

-- RFC 5545, 3.3.5: a date, T and a time of day, and then Z where it is of UTC
pub record SpellsDateTime (text : List ℕ) (value : Local × Bool) : Type 0 where
  pub date : List ℕ
  pub time : List ℕ
  pub spells_date : SpellsDate date (record { 0 = value.0.day })
  pub spells_time : SpellsTime time value.0.second
  pub spelled : text ≡ date ++ (codes "T" ++ (time ++ utc_text value.1))

-- the one text that is written for a day, by its number from the year 0
abbrev pub written_date : ℕ → List ℕ
written_date day = date_text (year_of day) (month_of day) (day_of_month day)

-- the one text that is written for a local time, by its moment from the year 0; its second is below 60
abbrev pub written_local : ℕ → List ℕ
written_local moment =
    let second = second_of_day moment in
    written_date (day_of_moment moment) ++ (codes "T" ++ time_text (second / 3600) (second / 60 % 60) (second % 60))

-- the local time in UTC of seconds since 1970
abbrev pub local_of_seconds : ℤ → Local
local_of_seconds seconds =
    let moment = moment_of_seconds seconds in
    record { day = day_since_1970 (day_of_moment moment); second = second_of_day moment }

-- nothing, which is second 0, or two digits of a second
abbrev pub SpellsSecond : List ℕ → ℕ → Type 0
SpellsSecond text second = ((text ≡ []) × (second ≡ 0)) ⊎ ((second ≤ 59) × (text ≡ digits 2 second))

-- minus or plus
abbrev pub sign_text : Bool → List ℕ
sign_text negative = if negative then codes "-" else codes "+"

-- a natural number, or its negative
abbrev pub signed : Bool → ℕ → ℤ
signed negative n = if negative then neg_ℤ (pos n) else pos n

-- RFC 5545, 3.3.14: a sign, an hour, a minute and perhaps a second; all of it in seconds
pub record SpellsOffset (text : List ℕ) (value : ℤ) : Type 0 where
  pub negative : Bool
  pub hour : ℕ
  pub minute : ℕ
  pub second : ℕ
  pub second_text : List ℕ
  pub hour_in : hour ≤ 23
  pub minute_in : minute ≤ 59
  pub spells_second : SpellsSecond second_text second
  pub spelled : text ≡ sign_text negative ++ (digits 2 hour ++ (digits 2 minute ++ second_text))
  pub number : value ≡ signed negative (3600 * hour + 60 * minute + second)
