-- What the definitions say of single days and texts.
use Rattle.std.proofs.Common.{◌≡◌, ℕ, ◌+◌, ◌*◌, ◌/◌, ◌≤◌, true, false, List, [], ◌∷◌, ◌++◌, refl, arith, inl, inr, pos, neg_ℤ}
use Rattle.std.specs.Prelude.{codes}
use Rattle.cal_moment.specs.BadPlace.{IsIn, IsBadAt}
use Rattle.cal_moment.specs.Calendar.{is_leap, day_of_date, year_of, month_of, day_of_month, weekday_of, epoch_day, day_since_1970, moment_of_date, seconds_since_1970}
use Rattle.cal_moment.specs.LengthTexts.{SpellsLength}
use Rattle.cal_moment.specs.LengthTexts.SpellsBody.{weeks}
use Rattle.cal_moment.specs.Stops.{GoOnAlike}
use Rattle.cal_moment.specs.Texts.{digits, SpellsDate, SpellsTime, SpellsOffset, written_local}
use Rattle.cal_moment.proofs.DateLemmas.{date_spells, length-date}
use Rattle.cal_moment.proofs.DigitLemmas.{digits_then}
use Rattle.cal_moment.proofs.StopsLemmas.{bad_at}

-- of the centuries every fourth is a leap year
leap_1600 : is_leap 1600 ≡ true
leap_1600 = refl

common_1900 : is_leap 1900 ≡ false
common_1900 = refl

leap_2000 : is_leap 2000 ≡ true
leap_2000 = refl

common_2100 : is_leap 2100 ≡ false
common_2100 = refl

-- the first and the last day, and that of 1970
first_day : day_of_date 1 1 1 ≡ 366
first_day = refl

last_day : day_since_1970 (day_of_date 9999 12 31) ≡ pos 2_932_896
last_day = refl

day_of_1970 : day_of_date 1970 1 1 ≡ epoch_day
day_of_1970 = refl

day_before_1970 : day_since_1970 (day_of_date 1969 12 31) ≡ neg_ℤ (pos 1)
day_before_1970 = refl

-- 28 February 1900 is followed by 1 March, that of 2000 by 29 February
march_1900 : day_of_date 1900 2 28 + 1 ≡ day_of_date 1900 3 1
march_1900 = refl

leap_day_2000 : day_of_date 2000 2 28 + 2 ≡ day_of_date 2000 3 1
leap_day_2000 = refl

-- the day has its date again
fields_of_leap_day : (year_of (day_of_date 2000 2 29) ≡ 2000) × (month_of (day_of_date 2000 2 29) ≡ 2) × (day_of_month (day_of_date 2000 2 29) ≡ 29)
unfolding year_of month_of day_of_month
fields_of_leap_day = (refl, refl, refl)

fields_of_last_day : (year_of 3_652_424 ≡ 9999) × (month_of 3_652_424 ≡ 12) × (day_of_month 3_652_424 ≡ 31)
unfolding year_of month_of day_of_month
fields_of_last_day = (refl, refl, refl)

-- 1 January 1970 was a Thursday, and 14 July 1997 a Monday
thursday : weekday_of epoch_day ≡ 3
thursday = refl

monday : weekday_of (day_of_date 1997 7 14) ≡ 0
monday = refl

-- the first moment of the calendar's next century
moment_of_2000 : seconds_since_1970 (moment_of_date 2000 1 1 0 0 0) ≡ pos 946_684_800
moment_of_2000 = refl

-- RFC 5545, 3.3.4
july_14 : SpellsDate (codes "19970714") (record { 0 = day_since_1970 (day_of_date 1997 7 14) })
july_14 = record { year = 1997; month = 7; day = 14; date = (omega arith, omega arith, omega arith); spelled = refl; number = refl }

-- RFC 5545, 3.3.5: a leap second is the second before it
leap_second : SpellsTime (codes "235960") 86399
leap_second = record { hour = 23; minute = 59; second = 60; hour_in = omega arith; minute_in = omega arith; second_in = omega arith; spelled = refl; number = refl }

-- RFC 5545, 3.3.14
new_york : SpellsOffset (codes "-0500") (neg_ℤ (pos 18000))
new_york = record { negative = true; hour = 5; minute = 0; second = 0; second_text = []; hour_in = omega arith; minute_in = omega arith; spells_second = inl (refl, refl); spelled = refl; number = refl }

-- RFC 5545, 3.3.6
seven_weeks : SpellsLength (codes "P7W") (record { days = pos 49; seconds = pos 0 })
seven_weeks = record { sign = []; negative = false; body = codes "7W"; days = 49; seconds = 0; spells_sign = inr (refl, refl); spells_body = weeks (codes "7") 7 (record { width = 1; some = omega arith; most = omega arith; fits = omega arith; spelled = refl }) refl refl refl; spelled = refl; days_number = refl; seconds_number = refl }

-- a leap second isn't written: the last moment of 1970-01-01
written_last_second : written_local (86400 * epoch_day + 86399) ≡ codes "19700101T235959"
unfolding year_of month_of day_of_month
written_last_second = refl

-- no date begins with 2025023
no_day_thirty : (next : List ℕ) → IsIn SpellsDate (codes "202502" ++ next) → ¬ GoOnAlike next (codes "30")
no_day_thirty [] h alike = alike
no_day_thirty (c ∷ next) h alike =
    let s = h.1 in
    let year = digits_then 4 2025 s.year (digits 2 2 ++ (c ∷ next)) (digits 2 s.month ++ digits 2 s.day) (omega arith) (omega (arith, s.date)) s.spelled in
    let month = digits_then 2 2 s.month (c ∷ next) (digits 2 s.day) (omega arith) (omega (arith, s.date)) year.1 in
    let short : s.day ≤ 28 = rw (← year.0, ← month.0) at s.date.2.1 in
    let first : c ≡ 48 + s.day / 10 = cc (month.1) in
    omega (arith, first, alike, short)

bad_february : IsBadAt SpellsDate (codes "20250230") 6
bad_february = bad_at SpellsDate (codes "20250230") (codes "30") (record { front = codes "202502"; more = codes "10"; split = refl; begins = date_spells 2025 2 10 (omega arith, omega arith, omega arith); apart = no_day_thirty })

-- a date that ends too early is bad at its end
no_short_date : (next : List ℕ) → IsIn SpellsDate (codes "2025031" ++ next) → ¬ GoOnAlike next []
no_short_date [] h alike = let eight = length-date (codes "2025031" ++ []) h in omega (arith, eight)
no_short_date (c ∷ next) h alike = alike

bad_end : IsBadAt SpellsDate (codes "2025031") 7
bad_end = bad_at SpellsDate (codes "2025031") [] (record { front = codes "2025031"; more = codes "0"; split = refl; begins = date_spells 2025 3 10 (omega arith, omega arith, omega arith); apart = no_short_date })
