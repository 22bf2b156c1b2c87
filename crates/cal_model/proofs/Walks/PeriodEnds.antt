-- Where a month and a year end.
use Rattle.std.proofs.Common.{◌≡◌, ℕ, ◌+◌, ◌-◌, ◌*◌, ◌/◌, ◌<◌, ◌≤◌, ap, sym, ◌∙◌, arith, nat_lt, inl, inr}
use Rattle.std.specs.Int.{IsInRange}
use Rattle.std.proofs.lemmas.Bool.{cases_Bool, ltb-true, ltb-false}
use Rattle.cal_moment.specs.Calendar.{first_of_year, year_of, year_length, month_of, days_before_month, month_length, day_of_date}
use Rattle.cal_moment.proofs.CalendarLaws.{first_of_year-le, first_of_year-suc, year_of-first, year_of-last, year_of-only, days_before_month-next, days_before_month-end, month_length-bounds, day_of_date-within, year_of-day_of_date, month_of-day_of_date}
use Rattle.cal_model.specs.declared.rule.Rule.{Rule}
use Rattle.cal_model.specs.declared.rule.Freq.TheVariants.{Monthly, Yearly}
use Rattle.cal_model.specs.Recurrence.Passing.{period_number}
use Rattle.cal_model.specs.Walks.KeptMoments.{number_of, EndsPeriod}
use Rattle.cal_model.proofs.Recurrence.Rising.{month_of-first, month_of-last, period_number-le}
use Rattle.cal_model.proofs.Walks.BeginLemmas.{year_at_first}

-- the years of the days of rules
year_at_most : (d : ℕ) → d < 767740 → year_of d ≤ 2101
year_at_most d early = elim (cases_Bool (nat_lt 2101 (year_of d))) [
  | inr w ↦ ltb-false _ _ w
  | inl w ↦ (let over : 2101 < year_of d = ltb-true _ _ w in let le = first_of_year-le 2102 (year_of d) (omega (arith, over)) in let from = year_of-first d in absurd (omega (arith, le, from, early)))
]

pub year_within : (d e : ℕ) → d < 767740 → e ≡ first_of_year (year_of d + 1) → e ≤ 767740
year_within d e early is =
    let years = year_at_most d early in
    let le = first_of_year-le (year_of d + 1) 2102 (omega (arith, years)) in
    omega (arith, is, le)

-- the first day behind the month of a day
module _ (d e : ℕ) (is : e ≡ day_of_date (year_of d) (month_of d) 1 + month_length (year_of d) (month_of d)) where
  in_year : IsInRange 1 12 (month_of d)
  in_year = (month_of-first d, month_of-last d)

  last_day : IsInRange 1 (month_length (year_of d) (month_of d)) (month_length (year_of d) (month_of d))
  last_day = let size = month_length-bounds (year_of d) (month_of d) in (omega (arith, size), omega arith)

  before_it : day_of_date (year_of d) (month_of d) (month_length (year_of d) (month_of d)) ≡ e - 1
  before_it = let size = month_length-bounds (year_of d) (month_of d) in omega (arith, is, size)

  -- the day before it lies in that month
  pub year_before : year_of (e - 1) ≡ year_of d
  year_before = let at = year_of-day_of_date (year_of d) (month_of d) (month_length (year_of d) (month_of d)) in_year last_day in rw before_it at at

  pub month_before : month_of (e - 1) ≡ month_of d
  month_before = let at = month_of-day_of_date (year_of d) (month_of d) (month_length (year_of d) (month_of d)) in_year last_day in rw before_it at at

  -- it lies in a later one
  pub number_behind : 12 * year_of d + month_of d < 12 * year_of e + month_of e
  number_behind =
      let some = month_of-first d in let most = month_of-last d in
      let next = days_before_month-next (year_of d) (month_of d) some in
      elim (cases_Bool (nat_lt (month_of d) 12)) [
        | inl w ↦ (let early : month_of d < 12 = ltb-true _ _ w in
            let first_size = month_length-bounds (year_of d) (month_of d + 1) in
            let one : IsInRange 1 (month_length (year_of d) (month_of d + 1)) 1 = (omega arith, omega (arith, first_size)) in
            let month : IsInRange 1 12 (month_of d + 1) = (omega arith, omega (arith, early)) in
            let there : day_of_date (year_of d) (month_of d + 1) 1 ≡ e = omega (arith, next, is) in
            let year = year_of-day_of_date (year_of d) (month_of d + 1) 1 month one in
            let of = month_of-day_of_date (year_of d) (month_of d + 1) 1 month one in
            let a = rw there at year in let b = rw there at of in
            omega (arith, a, b))
        | inr w ↦ (let late = ltb-false _ _ w in
            let last : month_of d ≡ 12 = omega (arith, late, most) in
            let after = first_of_year-suc (year_of d) in
            let thirteen : month_of d + 1 ≡ 13 = omega (arith, last) in
            let whole : days_before_month (year_of d) (month_of d + 1) ≡ year_length (year_of d) = ap (days_before_month (year_of d)) thirteen ∙ days_before_month-end (year_of d) in
            let there : e ≡ first_of_year (year_of d + 1) = omega (arith, after, whole, next, is) in
            let year : year_of e ≡ year_of d + 1 = ap year_of there ∙ year_at_first (year_of d + 1) in
            let from = month_of-first e in
            omega (arith, year, from, most))
      ]

  -- so it lies behind the day
  pub day_behind : d < e
  day_behind = elim (cases_Bool (nat_lt d e)) [
    | inl w ↦ ltb-true _ _ w
    | inr w ↦ (let le = ltb-false _ _ w in
        let a : 86400 * e / 86400 ≡ e = omega arith in
        let b : 86400 * d / 86400 ≡ d = omega arith in
        let rises = period_number-le Monthly 0 (86400 * e) (86400 * d) (omega (arith, le)) in
        let plain = rw (a, b) at rises in
        let later = number_behind in
        absurd (omega (arith, plain, later)))
  ]

  pub month_within : d < 767740 → e ≤ 767740
  month_within early =
      let years = year_at_most d early in
      let within = day_of_date-within (year_of d) (month_of d) (month_length (year_of d) (month_of d)) in_year last_day in
      let before = rw before_it at within in
      let le = first_of_year-le (year_of d + 1) 2102 (omega (arith, years)) in
      omega (arith, before, le)

-- The numbers of periods, by days.

by_month : (rule : Rule) (m d : ℕ) → rule.freq ≡ Monthly → m / 86400 ≡ d → number_of rule m ≡ 12 * year_of d + month_of d
by_month rule m d monthly on = ap (λ freq. period_number freq rule.week_start m) monthly ∙ ap (λ n. 12 * year_of n + month_of n) on

by_year : (rule : Rule) (m d : ℕ) → rule.freq ≡ Yearly → m / 86400 ≡ d → number_of rule m ≡ year_of d
by_year rule m d yearly on = ap (λ freq. period_number freq rule.week_start m) yearly ∙ ap year_of on

-- A period ends there.

pub month_ends : (rule : Rule) (m d e p : ℕ) → m / 86400 ≡ d → rule.freq ≡ Monthly → e ≡ day_of_date (year_of d) (month_of d) 1 + month_length (year_of d) (month_of d) → p ≡ 86400 * e → EndsPeriod rule m p
month_ends rule m d e p on monthly is at =
    let later = day_behind d e is in
    let year = year_before d e is in let month = month_before d e is in
    let behind = number_behind d e is in
    let number = by_month rule m d monthly on in
    let before = by_month rule (p - 1) (e - 1) monthly (omega (arith, later, at)) in
    let end = by_month rule p e monthly (omega (arith, at)) in
    record {
      later = omega (arith, on, later, at);
      last = omega (arith, number, before, year, month);
      next = omega (arith, number, end, behind);
    }

pub year_ends : (rule : Rule) (m d e p : ℕ) → m / 86400 ≡ d → rule.freq ≡ Yearly → e ≡ first_of_year (year_of d + 1) → p ≡ 86400 * e → EndsPeriod rule m p
year_ends rule m d e p on yearly is at =
    let from = year_of-first d in
    let last_day = year_of-last d in
    let later : d < e = omega (arith, last_day, is) in
    let year : year_of (e - 1) ≡ year_of d = year_of-only (e - 1) (year_of d) (omega (arith, from, later)) (omega (arith, later, is)) in
    let behind : year_of e ≡ year_of d + 1 = ap year_of is ∙ year_at_first (year_of d + 1) in
    let number = by_year rule m d yearly on in
    let before = by_year rule (p - 1) (e - 1) yearly (omega (arith, later, at)) in
    let end = by_year rule p e yearly (omega (arith, at)) in
    record {
      later = omega (arith, on, later, at);
      last = before ∙ (year ∙ sym number);
      next = omega (arith, number, end, behind);
    }
