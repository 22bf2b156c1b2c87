-- A day comes back from its date.
use Rattle.std.proofs.Common.{◌≡◌, ℕ, ◌-◌, ◌<◌, ◌≤◌, arith, false, nat_lt, inl, inr}
use Rattle.std.specs.Prelude.{nat_le}
use Rattle.std.proofs.lemmas.Bool.{cases_Bool, ltb-true, ltb-false}
use Rattle.cal_moment.specs.Calendar.{year_of, day_of_year, month_of, day_of_month, days_before_month, the_months, day_of_date}
use Rattle.cal_moment.proofs.CalendarLaws.{days_before_month-le, months_until, year_of-first}
use Rattle.cal_model.proofs.Recurrence.Rising.{count_le, month_of-first, month_of-last}

above_it : (a b : ℕ) → nat_le a b ≡ false → b < a
above_it a b h = grind (arith, h)

-- the month of a day begins before the day's end
pub month_of-begun : (day : ℕ) → days_before_month (year_of day) (month_of day) < day_of_year day
unfolding month_of
month_of-begun day = elim (cases_Bool (nat_lt (days_before_month (year_of day) (month_of day)) (day_of_year day))) [
  | inl w ↦ ltb-true _ _ w
  | inr w ↦
      (let late : day_of_year day ≤ days_before_month (year_of day) (month_of day) = ltb-false _ _ w in
      let first = month_of-first day in
      let last = month_of-last day in
      let fewer = count_le (λ m. nat_lt (days_before_month (year_of day) m) (day_of_year day)) (λ m. nat_le m (month_of day - 1)) the_months
      (λ m h. elim (cases_Bool (nat_le m (month_of day - 1))) [
        | inl v ↦ v
        | inr v ↦ (let over = above_it m (month_of day - 1) v in let above : month_of day ≤ m = omega (arith, over, first) in let le = days_before_month-le (year_of day) (month_of day) m above in let lt = ltb-true _ _ h in absurd (omega (arith, le, lt, late)))
      ]) in
      let so_many = months_until (month_of day - 1) (omega (arith, last)) in
      absurd (omega (arith, fewer, so_many, first)))
]

-- and so a day is that of its year, month and day of the month
pub day_of_date-fields : (day : ℕ) → day_of_date (year_of day) (month_of day) (day_of_month day) ≡ day
unfolding day_of_month
day_of_date-fields day = let begun = month_of-begun day in let from = year_of-first day in omega (arith, begun, from)
