-- The days of `jiff_core`, which counts years one by one from -10000, are those of the calendar.
use Rattle.std.proofs.Common.{◌≡◌, ℕ, zero, suc, ◌+◌, ◌≤◌, refl, ap, arith, sub-one, ℤ, pos, neg_ℤ, ◌+ℤ◌, ◌≤ℤ◌, unsigned_abs}
use Rattle.std.proofs.lemmas.Int.{by_lt_z}
use Rattle.jiff_core.specs.declared.civil.date.Date.{Date}
use Rattle.jiff_core.specs.Calendar.{day_count, days_from_civil, days_of_months, weekday_number}
use Rattle.jiff_core.specs.Date.{epoch_day}
use Rattle.jiff_core.proofs.SignedLemmas.{signed_arith, signed_casts, one_part}
use Rattle.jiff_core.proofs.MarchLemmas.{day_count-early}
use Rattle.jiff_core.proofs.CalendarLemmas.{days_from_civil-day_count, day_count-lt_year, day_count-day_of_year, weekday_number-parts}
use Rattle.jiff_core.proofs.DateLemmas.{civil}
use Rattle.cal_moment.specs.Calendar.{month_length, days_before_month, day_of_date, IsDate, IsDateOf, IsFieldsOf, day_number, weekday_of}
use Rattle.cal_moment.proofs.CalendarLaws.{fields_of_date}

-- 1 January of the year 1
day_count-first : day_count (pos 1) 1 1 ≡ 3_652_791
day_count-first = day_count-early (pos 1) 10000 1 1 refl (omega arith) (omega arith) (omega arith)

-- a date from that day on has a year from 1 on
pub year_from_one : (d : Date) → neg_ℤ (pos 719_162) ≤ℤ epoch_day d → pos 1 ≤ℤ d.year
year_from_one d h =
    by_lt_z d.year (pos 1)
    (λ lt. absurd (omega (arith, signed_arith, days_from_civil-day_count, day_count-first, day_count-lt_year d.year d.month d.day (pos 1) 1 1 (civil d) (omega arith) lt)))
    (λ le. le)

days_of_months_is : (y m : ℕ) → days_of_months (pos y) m ≡ days_before_month y (suc m)
unfolding days_of_months
days_of_months_is y zero = refl
days_of_months_is y (suc m) = ap (λ n. n + month_length y (suc m)) (days_of_months_is y m)

-- the number of a date is `jiff_core`'s, but for where the count begins
days_from_civil_is : (y m d : ℕ) → 1 ≤ y → 1 ≤ m → 1 ≤ d → days_from_civil (pos y) m d +ℤ pos 719_528 ≡ pos (day_of_date y m d)
days_from_civil_is zero m d hy hm hd = absurd (omega arith)
days_from_civil_is (suc y) zero d hy hm hd = absurd (omega arith)
days_from_civil_is (suc y) (suc m) d hy hm hd =
    let months = days_of_months_is (suc y) m in
    let within = day_count-day_of_year (pos (suc y)) (suc m) d hd in
    let first = day_count-early (pos (suc y)) (y + 10000) 1 1 (omega (arith, signed_arith)) (omega arith) (omega arith) (omega arith) in
    let number = days_from_civil-day_count (pos (suc y)) (suc m) d in
    omega (arith, signed_arith, months, rw sub-one at within, first, number)

-- a year from 1 on is a natural number
year_is_pos : (y : ℤ) → pos 1 ≤ℤ y → y ≡ pos (unsigned_abs y)
year_is_pos y h = omega (arith, signed_arith, one_part y)

number_is : (y m d : ℕ) (day : ℤ) → IsDate y m d → days_from_civil (pos y) m d ≡ day → day_number day ≡ day_of_date y m d
number_is y m d day date e =
    ap unsigned_abs (rw e at (days_from_civil_is y m d date.0.0 date.1.0 date.2.0))

-- what the calendar says of a day and its date
pub record IsDayOf (day year : ℤ) (m d : ℕ) : Type 0 where
  pub date : IsDateOf year m d
  pub number : day_number day ≡ day_of_date (unsigned_abs year) m d
  pub fields : IsFieldsOf (day_number day) (unsigned_abs year) m d

day_of_pos : (y m d : ℕ) (day : ℤ) → IsDate y m d → days_from_civil (pos y) m d ≡ day → IsDayOf day (pos y) m d
day_of_pos y m d day date e =
    let number = number_is y m d day date e in
    record {
      date = (omega (arith, signed_arith, date.0), date);
      number = number;
      fields = rw number (fields_of_date y m d date.1 date.2);
    }

-- a date of `jiff_core` in the years from 1 on
pub day_of_jiff : (date : Date) (day : ℤ) → neg_ℤ (pos 719_162) ≤ℤ day → epoch_day date ≡ day → IsDayOf day date.year date.month date.day
day_of_jiff date day late e =
    let low : pos 1 ≤ℤ date.year = year_from_one date (rw e late) in
    let year = year_is_pos date.year low in
    let range : IsDate (unsigned_abs date.year) date.month date.day = (omega (arith, signed_arith, low, one_part date.year), date.month_in, date.day_in) in
    rw (← year) at (day_of_pos (unsigned_abs date.year) date.month date.day day range (rw year at e))

-- the day of the week, counted from another day
pub weekday_is : (day : ℤ) (w : ℕ) → neg_ℤ (pos 719_162) ≤ℤ day → w ≡ weekday_number day → w ≡ weekday_of (day_number day)
weekday_is day w late e =
    omega (arith, signed_casts, e, weekday_number-parts day, one_part day, one_part (day +ℤ pos 719_528))

-- a date of the years from 1 on is at or after the first of them
pub day_is_late : (date : Date) → pos 1 ≤ℤ date.year → neg_ℤ (pos 719_162) ≤ℤ epoch_day date
day_is_late date h =
    let year = year_is_pos date.year h in
    let number = days_from_civil_is (unsigned_abs date.year) date.month date.day (omega (arith, signed_arith, h, one_part date.year)) date.month_in.0 date.day_in.0 in
    let same = rw (← year) at number in
    omega (arith, signed_arith, same, h, one_part date.year)
