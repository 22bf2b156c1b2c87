-- The number of a moment's period doesn't fall as the moment rises.
use Rattle.std.proofs.Common.{◌≡◌, ℕ, ◌+◌, ◌-◌, ◌<◌, ◌≤◌, List, [], ◌∷◌, arith, Bool, true, nat_lt, inl, inr}
use Rattle.std.specs.Prelude.{count_by, nat_lt}
use Rattle.std.proofs.lemmas.List.Sums.{count_by-le-length}
use Rattle.std.proofs.lemmas.Bool.{cases_Bool, ltb-true, ltb-false}
use Rattle.cal_model.proofs.Recurrence.Periods.{count_one, count_zero}
use Rattle.cal_moment.specs.Calendar.{first_of_year, year_of, day_of_year, month_of, days_before_month, the_months, day_of_moment}
use Rattle.cal_moment.proofs.CalendarLaws.{first_of_year-le, year_of-first, year_of-last}
use Rattle.cal_model.specs.declared.rule.Freq.{Freq}
use Rattle.cal_model.specs.declared.rule.Freq.TheVariants.{Secondly, Minutely, Hourly, Daily, Weekly, Monthly, Yearly}
use Rattle.cal_model.specs.Recurrence.Passing.{period_number}

pub year_of-le : (a b : ℕ) → a ≤ b → year_of a ≤ year_of b
year_of-le a b h =
    elim (cases_Bool (nat_lt (year_of b) (year_of a))) [
      | inl w ↦ (let lt : year_of b < year_of a = ltb-true _ _ w in
          let le = first_of_year-le (year_of b + 1) (year_of a) (omega arith) in
          let x = year_of-first a in let y = year_of-last b in absurd (omega (arith, le, x, y)))
      | inr w ↦ ltb-false _ _ w
    ]

-- a stronger test counts no more
pub count_le : (p q : ℕ → Bool) (xs : List ℕ) → ((x : ℕ) → p x ≡ true → q x ≡ true) → count_by p xs ≤ count_by q xs
count_le p q [] h = omega arith
count_le p q (x ∷ xs) h =
    let rest = count_le p q xs h in
    elim (cases_Bool (p x)) [
      | inl w ↦ (let a = count_one p x xs w in let b = count_one q x xs (h x w) in omega (arith, rest, a, b))
      | inr w ↦ (let a = count_zero p x xs w in elim (cases_Bool (q x)) [
        | inl v ↦ (let b = count_one q x xs v in omega (arith, rest, a, b))
        | inr v ↦ (let b = count_zero q x xs v in omega (arith, rest, a, b))
      ])
    ]

-- a month is one of twelve
pub month_of-last : (day : ℕ) → month_of day ≤ 12
unfolding month_of
month_of-last day = count_by-le-length (λ m. nat_lt (days_before_month (year_of day) m) (day_of_year day)) the_months

pub month_of-first : (day : ℕ) → 1 ≤ month_of day
unfolding month_of
month_of-first day =
    let p : ℕ → Bool = λ m. nat_lt (days_before_month (year_of day) m) (day_of_year day) in
    let some : 0 < day_of_year day = omega arith in
    let test : nat_lt 0 (day_of_year day) ≡ true = grind (arith, some) in
    let a = count_one (λ m. nat_lt (days_before_month (year_of day) m) (day_of_year day)) 1 (2 ∷ 3 ∷ 4 ∷ 5 ∷ 6 ∷ 7 ∷ 8 ∷ 9 ∷ 10 ∷ 11 ∷ 12 ∷ []) test in
    omega (arith, a)

month_of-le : (a b : ℕ) → a ≤ b → year_of a ≡ year_of b → month_of a ≤ month_of b
unfolding month_of
month_of-le a b h e =
    let days : day_of_year a ≤ day_of_year b = rw e (omega arith) in
    rw e (count_le (λ m. nat_lt (days_before_month (year_of b) m) (a - first_of_year (year_of b) + 1)) (λ m. nat_lt (days_before_month (year_of b) m) (day_of_year b)) the_months (λ m w. let lt = ltb-true _ _ w in let d = rw e at days in grind (arith, lt, d)))

pub period_number-le : (freq : Freq) (week_start a b : ℕ) → a ≤ b → period_number freq week_start a ≤ period_number freq week_start b
period_number-le Secondly week_start a b h = h
period_number-le Minutely week_start a b h = omega arith
period_number-le Hourly week_start a b h = omega arith
period_number-le Daily week_start a b h = omega arith
period_number-le Weekly week_start a b h = omega arith
period_number-le Yearly week_start a b h = year_of-le _ _ (omega arith)
period_number-le Monthly week_start a b h =
    let years = year_of-le (day_of_moment a) (day_of_moment b) (omega arith) in
    elim (cases_Bool (nat_lt (year_of (day_of_moment a)) (year_of (day_of_moment b)))) [
      | inl w ↦ (let lt = ltb-true _ _ w in let x = month_of-last (day_of_moment a) in let y = month_of-first (day_of_moment b) in omega (arith, lt, x, y))
      | inr w ↦ (let ge = ltb-false _ _ w in
          let same : year_of (day_of_moment a) ≡ year_of (day_of_moment b) = omega (arith, ge, years) in
          let months = month_of-le (day_of_moment a) (day_of_moment b) (omega arith) same in omega (arith, same, months))
    ]
