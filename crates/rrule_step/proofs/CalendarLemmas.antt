-- Months and years by their first days.
use Rattle.std.proofs.Common.{◌≡◌, ◌≢◌, ℕ, ◌+◌, ◌-◌, ◌*◌, ◌/◌, ◌%◌, ◌<◌, ◌≤◌, refl, sym, arith, true, false, inl, inr, nat_lt, ◌==◌}
use Rattle.std.specs.Int.{IsInRange}
use Rattle.std.proofs.lemmas.Bool.{cases_Bool, ltb-true, ltb-false, eqb-true}
use Rattle.cal_moment.specs.Calendar.{first_of_year, year_of, day_of_year, year_length, month_of, day_of_month, days_before_month, month_length, day_of_date, weekday_of}
use Rattle.cal_moment.proofs.CalendarLaws.{first_of_year-le, year_of-first, days_before_month-le, month_length-bounds, day_of_date-within, year_of-day_of_date, month_of-day_of_date, fields_of_date, days_before_month-next, days_before_month-end, first_of_year-suc}
use Rattle.cal_model.proofs.Recurrence.DateFields.{day_of_date-fields}
use Rattle.cal_model.proofs.Recurrence.Rising.{month_of-last, period_number-le}
use Rattle.cal_model.specs.declared.rule.Rule.{Rule}
use Rattle.cal_model.specs.declared.rule.Freq.TheVariants.{Monthly}
use Rattle.cal_model.specs.Recurrence.Passing.{fourth_day, week_passes}
use Rattle.rrule_step.specs.Periods.{month_begin}

-- The number of a day's month, in the order of days.

within : (month : ℕ) → IsInRange 1 12 (month % 12 + 1)
within month = (omega arith, omega arith)

some_day : (y m : ℕ) → IsInRange 1 (month_length y m) 1
some_day y m = let bounds = month_length-bounds y m in (omega arith, omega (arith, bounds))

pub month_from : (month day : ℕ) → month_begin month ≤ day → month + 1 ≤ 12 * year_of day + month_of day
month_from month day le =
    let y = month / 12 in let m = month % 12 + 1 in
    let year = year_of-day_of_date (month / 12) (month % 12 + 1) 1 (within month) (some_day (month / 12) (month % 12 + 1)) in
    let of = month_of-day_of_date (month / 12) (month % 12 + 1) 1 (within month) (some_day (month / 12) (month % 12 + 1)) in
    let a : 86400 * month_begin month / 86400 ≡ month_begin month = omega arith in
    let b : 86400 * day / 86400 ≡ day = omega arith in
    let rises = period_number-le Monthly 0 (86400 * month_begin month) (86400 * day) (omega arith) in
    let plain = rw (a, b) at rises in
    omega (arith, plain, year, of)

pub month_before : (month day : ℕ) → day < month_begin month → 12 * year_of day + month_of day ≤ month
month_before month day lt = elim (cases_Bool (nat_lt month (12 * year_of day + month_of day))) [
  | inr w ↦ ltb-false _ _ w
  | inl w ↦
      (let over : month < 12 * year_of day + month_of day = ltb-true _ _ w in
      let most = month_of-last day in
      let is = day_of_date-fields day in
      absurd (elim (cases_Bool (nat_lt (month / 12) (year_of day))) [
        | inl later ↦ (let after : month / 12 < year_of day = ltb-true _ _ later in
            let end = day_of_date-within (month / 12) (month % 12 + 1) 1 (within month) (some_day (month / 12) (month % 12 + 1)) in
            let le = first_of_year-le (month / 12 + 1) (year_of day) (omega (arith, after)) in
            let from = year_of-first day in
            omega (arith, end, le, from, lt))
        | inr same ↦ (let not_after : year_of day ≤ month / 12 = ltb-false _ _ same in
            let year : year_of day ≡ month / 12 = omega (arith, not_after, over, most) in
            let le = days_before_month-le (month / 12) (month % 12 + 1) (month_of day) (omega (arith, year, over)) in
            let there : day_of_date (month / 12) (month_of day) (day_of_month day) ≡ day = rw year at is in
            omega (arith, le, there, lt))
      ]))
]

-- A month by its days.

module _ (y m i : ℕ) (month : IsInRange 1 12 m) (lt : i < month_length y m) where
  day_is : day_of_date y m (i + 1) ≡ day_of_date y m 1 + i
  day_is = omega arith

  of_month : IsInRange 1 (month_length y m) (i + 1)
  of_month = (omega arith, omega (arith, lt))

  pub year_in : year_of (day_of_date y m 1 + i) ≡ y
  year_in = let is = year_of-day_of_date y m (i + 1) month of_month in rw day_is at is

  pub month_in : month_of (day_of_date y m 1 + i) ≡ m
  month_in = let is = month_of-day_of_date y m (i + 1) month of_month in rw day_is at is

  pub of_month_in : day_of_month (day_of_date y m 1 + i) ≡ i + 1
  of_month_in = let is = fields_of_date y m (i + 1) month of_month in let of = sym is.2 in rw day_is at of

  pub of_year_in : day_of_year (day_of_date y m 1 + i) ≡ days_before_month y m + i + 1
  of_year_in = rw year_in (omega arith)

-- Weeks.

-- days of one weekday are seven apart
pub weekday_step : (first weekday at i k : ℕ) → weekday < 7 → at ≡ (weekday + 7 - weekday_of first) % 7 →
    (weekday_of (first + i) == weekday) ≡ true → nat_lt i (at + 7 * k) ≡ false → nat_lt i (at + 7 * (k + 1)) ≡ true → i ≡ at + 7 * k
weekday_step first weekday at i k small is on low high =
    let same = eqb-true _ _ on in let a = ltb-false _ _ low in let b = ltb-true _ _ high in omega (arith, same, a, b, is, small)

pub weekday_on : (first weekday at k : ℕ) → weekday < 7 → at ≡ (weekday + 7 - weekday_of first) % 7 → weekday_of (first + (at + 7 * k)) ≡ weekday
weekday_on first weekday at k small is = omega (arith, small, is)

-- a week goes on until the next day on which weeks begin
pub week_goes_on : (rule : Rule) (day : ℕ) → 7 ≤ day → rule.week_start < 7 → weekday_of (day + 1) ≢ rule.week_start → week_passes rule (day + 1) ≡ week_passes rule day
week_goes_on rule day late small other =
    let same : fourth_day rule.week_start (day + 1) ≡ fourth_day rule.week_start day = omega (arith, late, small, other) in
    rw same refl

-- a year has 52 weeks or 53
pub weeks_within : (year first : ℕ) → first_of_year year ≤ first → first < first_of_year year + 7 → (52 ≤ (first_of_year (year + 1) - 1 - first) / 7 + 1) × ((first_of_year (year + 1) - 1 - first) / 7 + 1 ≤ 53)
weeks_within year first low high =
    let next = first_of_year-suc year in
    let days = year_bounds year in
    (omega (arith, next, days, low, high), omega (arith, next, days, low, high))
  where
    year_bounds : (year : ℕ) → (365 ≤ year_length year) × (year_length year ≤ 366)
    year_bounds year = grind arith

-- a day's month by its number
pub month_begun : (day year month : ℕ) → year ≡ year_of day → month ≡ month_of day → 1 ≤ month → month ≤ 12 → month_begin (12 * year + month - 1) ≤ day
month_begun day year month is_year is_month some most =
    let is = day_of_date-fields day in
    let there = rw (sym is_year, sym is_month) at is in
    let y : (12 * year + month - 1) / 12 ≡ year = omega (arith, some, most) in
    let m : (12 * year + month - 1) % 12 + 1 ≡ month = omega (arith, some, most) in
    rw (y, m) (omega (arith, there))

-- the years of the days of rules
pub year_small : (day : ℕ) → day < 767740 → year_of day ≤ 2101
year_small day lt = elim (cases_Bool (nat_lt 2101 (year_of day))) [
  | inr w ↦ ltb-false _ _ w
  | inl w ↦ (let over : 2101 < year_of day = ltb-true _ _ w in let le = first_of_year-le 2102 (year_of day) (omega (arith, over)) in let from = year_of-first day in absurd (omega (arith, le, from, lt)))
]

-- a month ends where the next one begins
pub month_begin-next : (month : ℕ) → month_begin (month + 1) ≡ month_begin month + month_length (month / 12) (month % 12 + 1)
month_begin-next month = elim (cases_Bool (nat_lt (month % 12) 11)) [
  | inl w ↦ (let early : month % 12 < 11 = ltb-true _ _ w in
      let y : (month + 1) / 12 ≡ month / 12 = omega (arith, early) in
      let m : (month + 1) % 12 + 1 ≡ month % 12 + 1 + 1 = omega (arith, early) in
      let next = days_before_month-next (month / 12) (month % 12 + 1) (omega arith) in
      rw (y, m, next) (omega arith))
  | inr w ↦ (let late = ltb-false _ _ w in
      let last : month % 12 + 1 ≡ 12 = omega (arith, late) in
      let y : (month + 1) / 12 ≡ month / 12 + 1 = omega (arith, late) in
      let m : (month + 1) % 12 + 1 ≡ 1 = omega (arith, late) in
      let next = days_before_month-next (month / 12) 12 (omega arith) in
      let end = days_before_month-end (month / 12) in
      let after = first_of_year-suc (month / 12) in
      rw (y, m, last) (omega (arith, next, end, after)))
]
