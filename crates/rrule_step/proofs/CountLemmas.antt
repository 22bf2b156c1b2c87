-- How many days of a period pass, and that the months and years from 2000 to 2027 stand for all.
use Rattle.std.proofs.Common.{◌≡◌, ℕ, zero, suc, ◌+◌, ◌-◌, ◌*◌, ◌/◌, ◌%◌, ◌<◌, ◌≤◌, sym, ap, ◌∙◌, arith, Bool, true, false, ◌==◌, nat_lt, inl, inr}
use Rattle.std.specs.Int.{IsInRange}
use Rattle.std.proofs.lemmas.Bool.{cases_Bool, eqb-true, ltb-true, ltb-false}
use Rattle.std.proofs.lemmas.Nat.{mul-le}
use Rattle.cal_moment.specs.Calendar.{first_of_year, year_of, year_length, month_of, days_before_month, month_length, day_of_date, day_of_moment}
use Rattle.cal_moment.proofs.CalendarLaws.{first_of_year-le, first_of_year-suc, year_of-first, year_of-last, days_before_month-next, days_before_month-le, days_before_month-end}
use Rattle.cal_model.specs.declared.rule.Rule.{Rule}
use Rattle.cal_model.specs.declared.rule.Freq.TheVariants.{Monthly, Yearly}
use Rattle.cal_model.specs.Words.Lists.{numbers_between}
use Rattle.cal_model.specs.Recurrence.NextPassing.{end_day}
use Rattle.cal_model.specs.Recurrence.Passing.{period_number, day_passes}
use Rattle.cal_model.specs.Walks.Places.{is_day_of, days_of_period}
use Rattle.cal_model.proofs.Recurrence.Rising.{count_le, month_of-first, month_of-last}
use Rattle.cal_model.proofs.Words.CountedRuns.{count_in, count_in-cut, count_in-moved, count_in-next, count_in-none, count_in-within}
use Rattle.cal_model.proofs.Walks.DayCounts.{both}
use Rattle.rrule_step.specs.Periods.{month_begin}
use Rattle.rrule_step.proofs.CalendarLemmas.{month_before, month_begin-next, month_from}
use Rattle.rrule_step.proofs.YearLemmas.{AreAlike, passes_alike, same_before, same_length, same_month, sample_of}

plain : (f b : ℕ) → f + b + (1 - 1) ≡ f + b
plain f b = omega arith

plain_first : (f : ℕ) → f + 0 + (1 - 1) ≡ f
plain_first f = omega arith

-- a year begins with its January
pub january : (y : ℕ) → month_begin (12 * y) ≡ first_of_year y
january y =
    let year : 12 * y / 12 ≡ y = omega arith in
    let month : 12 * y % 12 + 1 ≡ 1 = omega arith in
    ap (λ n. day_of_date n (12 * y % 12 + 1) 1) year ∙ (ap (λ m. day_of_date y m 1) month ∙ plain_first (first_of_year y))

rise : (a b l : ℕ) → b ≡ a + l → a ≤ b
rise a b l is = omega (arith, is)

pub months_rise : (n : ℕ) → month_begin n ≤ month_begin (n + 1)
months_rise n = rise (month_begin n) (month_begin (n + 1)) (month_length (n / 12) (n % 12 + 1)) (month_begin-next n)

pub months_rise_by : (n k : ℕ) → month_begin n ≤ month_begin (n + k)
months_rise_by n zero = let at : n + 0 ≡ n = omega arith in rw at (omega arith)
months_rise_by n (suc k) =
    let at : n + suc k ≡ n + k + 1 = omega arith in
    let rest = months_rise_by n k in let last = months_rise (n + k) in
    rw at (omega (arith, rest, last))

-- days from the year 1 on
pub some_year : (d : ℕ) → 366 ≤ d → 1 ≤ year_of d
some_year d from = elim (cases_Bool (nat_lt (year_of d) 1)) [
  | inl w ↦ (let none = ltb-true _ _ w in let zero : year_of d ≡ 0 = omega (arith, none) in let end = rw zero at (year_of-last d) in absurd (omega (arith, from, end)))
  | inr w ↦ ltb-false _ _ w
]

-- the month of a day of another month is not that month
pub month_within : (n d : ℕ) → 12 * year_of d + month_of d ≡ n + 1 → (month_begin n ≤ d) × (d < month_begin (n + 1))
month_within n d is = (
  elim (cases_Bool (nat_lt d (month_begin n))) [
    | inl w ↦ absurd (let early = month_before n d (ltb-true _ _ w) in omega (arith, early, is))
    | inr w ↦ ltb-false _ _ w
  ],
  elim (cases_Bool (nat_lt d (month_begin (n + 1)))) [
    | inl w ↦ ltb-true _ _ w
    | inr w ↦ absurd (let late = month_from (n + 1) d (ltb-false _ _ w) in omega (arith, late, is))
  ],
)

pub month_number : (n d : ℕ) → month_begin n ≤ d → d < month_begin (n + 1) → 12 * year_of d + month_of d ≡ n + 1
month_number n d low high = let from = month_from n d low in let to = month_before (n + 1) d high in omega (arith, from, to)

-- The days of the period of a moment are those of its month or its year.
module _ (rule : Rule) (start m : ℕ) where
  day_period : (d : ℕ) → is_day_of rule start m d ≡ true → period_number rule.freq rule.week_start m ≡ period_number rule.freq rule.week_start (86400 * d)
  day_period d w = eqb-true _ _ (both (period_number rule.freq rule.week_start m == period_number rule.freq rule.week_start (86400 * d)) (day_passes rule (day_of_moment start) d) w).0

  day_passed : (d : ℕ) → is_day_of rule start m d ≡ true → day_passes rule (day_of_moment start) d ≡ true
  day_passed d w = (both (period_number rule.freq rule.week_start m == period_number rule.freq rule.week_start (86400 * d)) (day_passes rule (day_of_moment start) d) w).1

  pub days_of_month : (n : ℕ) → rule.freq ≡ Monthly → 12 * year_of (m / 86400) + month_of (m / 86400) ≡ n + 1 →
      days_of_period rule start m ≤ count_in (day_passes rule (day_of_moment start)) (month_begin n) (month_begin (n + 1))
  days_of_month n monthly is =
      let within = count_in-within (is_day_of rule start m) (month_begin n) (month_begin (n + 1)) 0 end_day (months_rise n) (omega arith)
      (λ d w.
      let day : 86400 * d / 86400 ≡ d = omega arith in
      let same = rw day at (rw monthly at (day_period d w)) in
      month_within n d (sym same ∙ is)) in
      let less = count_le (is_day_of rule start m) (day_passes rule (day_of_moment start)) (numbers_between (month_begin n) (month_begin (n + 1))) day_passed in
      omega (arith, within, less)

  pub days_of_year : (y : ℕ) → rule.freq ≡ Yearly → year_of (m / 86400) ≡ y →
      days_of_period rule start m ≤ count_in (day_passes rule (day_of_moment start)) (first_of_year y) (first_of_year (y + 1))
  days_of_year y yearly is =
      let within = count_in-within (is_day_of rule start m) (first_of_year y) (first_of_year (y + 1)) 0 end_day (first_of_year-le y (y + 1) (omega arith)) (omega arith)
      (λ d w.
      let day : 86400 * d / 86400 ≡ d = omega arith in
      let same = rw day at (rw yearly at (day_period d w)) in
      let year : year_of d ≡ y = sym same ∙ is in
      (rw year at (year_of-first d), rw year at (year_of-last d))) in
      let less = count_le (is_day_of rule start m) (day_passes rule (day_of_moment start)) (numbers_between (first_of_year y) (first_of_year (y + 1))) day_passed in
      omega (arith, within, less)

-- Months and years that stand for others.

assoc : (f b i : ℕ) → f + b + i ≡ f + (b + i)
assoc f b i = omega arith

-- a month lies in its year
month_in_year : (y m : ℕ) → IsInRange 1 12 m → days_before_month y m + month_length y m ≤ year_length y
month_in_year y m month =
    let next = days_before_month-next y m month.0 in
    let end = days_before_month-le y (m + 1) 13 (omega (arith, month)) in
    let year = days_before_month-end y in
    omega (arith, next, end, year)

module _ (rule : Rule) (start : ℕ) where
  pub month_count : (n : ℕ) → 12 ≤ n → (k : ℕ) × (24000 ≤ k) × (k < 24336) × (count_in (day_passes rule start) (month_begin n) (month_begin (n + 1)) ≤ count_in (day_passes rule start) (month_begin k) (month_begin (k + 1)))
  month_count n from =
      let some : 1 ≤ n / 12 = omega (arith, from) in
      let sample = sample_of (n / 12) some in
      let low = sample.1 in let high = sample.2 in let are = sample.3 in
      (12 * sample.0 + n % 12, omega (arith, low), omega (arith, high), moved n sample.0 some (omega (arith, low)) are)
    where
      moved : (n z : ℕ) → 1 ≤ n / 12 → 1 ≤ z → AreAlike (n / 12) z → count_in (day_passes rule start) (month_begin n) (month_begin (n + 1)) ≤ count_in (day_passes rule start) (month_begin (12 * z + n % 12)) (month_begin (12 * z + n % 12 + 1))
      moved n z some_n some_z are =
          let month : IsInRange 1 12 (n % 12 + 1) = (omega arith, omega arith) in
          let year : (12 * z + n % 12) / 12 ≡ z = omega arith in
          let of : (12 * z + n % 12) % 12 + 1 ≡ n % 12 + 1 = omega arith in
          let begin_n : month_begin n ≡ first_of_year (n / 12) + days_before_month (n / 12) (n % 12 + 1) = plain (first_of_year (n / 12)) (days_before_month (n / 12) (n % 12 + 1)) in
          let begin_k : month_begin (12 * z + n % 12) ≡ first_of_year z + days_before_month (n / 12) (n % 12 + 1) =
          ap (λ y. day_of_date y ((12 * z + n % 12) % 12 + 1) 1) year ∙ (ap (λ m. day_of_date z m 1) of ∙ (plain (first_of_year z) (days_before_month z (n % 12 + 1)) ∙ ap (λ d. first_of_year z + d) (sym (same_before (n / 12) z are.leap (n % 12 + 1))))) in
          let next_n = month_begin-next n in
          let next_k : month_begin (12 * z + n % 12 + 1) ≡ month_begin (12 * z + n % 12) + month_length (n / 12) (n % 12 + 1) =
          month_begin-next (12 * z + n % 12)
          ∙ (ap (λ y. month_begin (12 * z + n % 12) + month_length y ((12 * z + n % 12) % 12 + 1)) year
          ∙ (ap (λ m. month_begin (12 * z + n % 12) + month_length z m) of
          ∙ ap (λ d. month_begin (12 * z + n % 12) + d) (sym (same_month (n / 12) z (n % 12 + 1) are.leap)))) in
          let within = month_in_year (n / 12) (n % 12 + 1) month in
          count_in-moved (day_passes rule start) (day_passes rule start) (month_begin n) (month_begin (12 * z + n % 12)) (month_length (n / 12) (n % 12 + 1)) (month_begin (n + 1)) (month_begin (12 * z + n % 12 + 1)) next_n next_k
          (λ i lt w.
          let place : days_before_month (n / 12) (n % 12 + 1) + i < year_length (n / 12) = omega (arith, within, lt) in
          let at_n : month_begin n + i ≡ first_of_year (n / 12) + (days_before_month (n / 12) (n % 12 + 1) + i) = ap (λ b. b + i) begin_n ∙ assoc (first_of_year (n / 12)) (days_before_month (n / 12) (n % 12 + 1)) i in
          let at_k : month_begin (12 * z + n % 12) + i ≡ first_of_year z + (days_before_month (n / 12) (n % 12 + 1) + i) = ap (λ b. b + i) begin_k ∙ assoc (first_of_year z) (days_before_month (n / 12) (n % 12 + 1)) i in
          ap (day_passes rule start) at_k
          ∙ (sym (passes_alike (n / 12) z some_n some_z are (days_before_month (n / 12) (n % 12 + 1) + i) place rule start)
          ∙ (sym (ap (day_passes rule start) at_n) ∙ w)))

  pub year_count : (y : ℕ) → 1 ≤ y → (z : ℕ) × (2000 ≤ z) × (z < 2028) × (count_in (day_passes rule start) (first_of_year y) (first_of_year (y + 1)) ≤ count_in (day_passes rule start) (first_of_year z) (first_of_year (z + 1)))
  year_count y some =
      let sample = sample_of y some in
      let low = sample.1 in
      (sample.0, sample.1, sample.2, moved y sample.0 some (omega (arith, low)) sample.3)
    where
      next : (y : ℕ) → first_of_year (y + 1) ≡ first_of_year y + year_length y
      next y = let after = first_of_year-suc y in omega (arith, after)

      moved : (y z : ℕ) → 1 ≤ y → 1 ≤ z → AreAlike y z → count_in (day_passes rule start) (first_of_year y) (first_of_year (y + 1)) ≤ count_in (day_passes rule start) (first_of_year z) (first_of_year (z + 1))
      moved y z some_y some_z are =
          count_in-moved (day_passes rule start) (day_passes rule start) (first_of_year y) (first_of_year z) (year_length y) (first_of_year (y + 1)) (first_of_year (z + 1)) (next y) (next z ∙ ap (λ n. first_of_year z + n) (sym (same_length y z are.leap)))
          (λ j lt w. sym (passes_alike y z some_y some_z are j lt rule start) ∙ w)

-- where none of a stretch is counted, none passes
pub none_of_stretch : (p : ℕ → Bool) (a b d : ℕ) → count_in p a b ≡ 0 → a ≤ d → d < b → p d ≡ false
none_of_stretch p a b d none low high = elim (cases_Bool (p d)) [
  | inr w ↦ w
  | inl w ↦
      (let first = count_in-cut p a d b low (omega (arith, high)) in
      let second = count_in-cut p d (d + 1) b (omega arith) (omega (arith, high)) in
      let here = rw w at (count_in-next p d d (omega arith)) in
      absurd (omega (arith, first, second, here, none)))
]

-- fewer days at so many times
pub fewer : (few days times least : ℕ) → few ≤ days → days * times < least → few * times < least
fewer few days times least le lt = let less = mul-le few times days times le (omega arith) in omega (arith, less, lt)

-- no day of a month that is left out passes
pub none_in_month : (p : ℕ → Bool) (n : ℕ) → ((d : ℕ) → month_of d ≡ n % 12 + 1 → p d ≡ false) → count_in p (month_begin n) (month_begin (n + 1)) ≡ 0
none_in_month p n fails = count_in-none p (month_begin n) (month_begin (n + 1)) (λ d low high.
    let is = month_number n d low high in
    let some = month_of-first d in let most = month_of-last d in
    fails d (omega (arith, is, some, most)))
