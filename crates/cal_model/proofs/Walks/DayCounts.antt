-- How many days of a period pass, by the parts that name days.
use Rattle.std.proofs.Common.{◌≡◌, ℕ, zero, suc, ◌+◌, ◌-◌, ◌*◌, ◌/◌, ◌%◌, ◌<◌, ◌≤◌, List, [], ◌∷◌, length, refl, sym, arith, Bool, true, false, inl, inr, ℤ, pos, negsuc}
use Rattle.std.specs.Prelude.{nat_lt, ◌==◌, if◌then◌else◌}
use Rattle.std.specs.Int.{IsInRange}
use Rattle.std.specs.List.{list_any}
use Rattle.std.proofs.Math.Nat.{suc-mul}
use Rattle.std.proofs.lemmas.Bool.{cases_Bool, eqb-true, ltb-true, ltb-false}
use Rattle.cal_moment.specs.Calendar.{first_of_year, year_length, year_of, day_of_year, month_of, day_of_month, month_length, day_of_date, day_of_moment, weekday_of}
use Rattle.cal_moment.proofs.CalendarLaws.{year_of-first, year_of-last, days_before_month-next, days_before_month-end, first_of_year-suc, month_length-bounds, year_of-day_of_date, month_of-day_of_date}
use Rattle.cal_model.specs.declared.rule.Rule.{Rule}
use Rattle.cal_model.specs.declared.rule.DayPart.{DayPart}
use Rattle.cal_model.specs.declared.rule.Freq.{Freq}
use Rattle.cal_model.specs.declared.rule.Freq.TheVariants.{Secondly, Minutely, Hourly, Daily, Weekly, Monthly, Yearly}
use Rattle.cal_model.specs.Words.Lists.{is_empty, numbers_between}
use Rattle.cal_model.specs.Words.Integers.{names_place, some_names_place}
use Rattle.cal_model.specs.Recurrence.Passing.{period_number, counts_in_month, day_passes, month_passes, month_day_passes, by_day_passes, year_day_passes, week_passes, default_passes, day_default, has_day_part, weekday_passes}
use Rattle.cal_model.specs.Recurrence.NextPassing.{is_fine}
use Rattle.cal_model.specs.Walks.Places.{has_weekday, is_day_of, HasDaysAtMost}
use Rattle.cal_model.proofs.Recurrence.DateFields.{day_of_date-fields, month_of-begun}
use Rattle.cal_model.proofs.Recurrence.Rising.{month_of-first, month_of-last, period_number-le, count_le}
use Rattle.cal_model.proofs.Words.CountedRuns.{count_in, count_in-all, count_in-cut, count_in-one, count_in-moved, count_in-shifted, count_in-within, count_in-either}

pub both : (a b : Bool) → (if a then b else false) ≡ true → (a ≡ true) × (b ≡ true)
both true b h = (refl, h)
both false b h = absurd cc

-- Weeks.

-- seven days in a row have each weekday once
in_week : (test : ℕ → Bool) (first : ℕ) → count_in (λ d. test (weekday_of d)) first (first + 7) ≤ count_in test 0 7
in_week test first =
    let early = count_in-moved (λ d. test (weekday_of d)) test first ((first + 5) % 7) (7 - (first + 5) % 7) (first + (7 - (first + 5) % 7)) 7 refl (omega arith)
    (λ i lt w. let at : (first + i + 5) % 7 ≡ (first + 5) % 7 + i = omega (arith, lt) in rw at at w) in
    let late = count_in-shifted (λ d. test (weekday_of d)) test (first + (7 - (first + 5) % 7)) ((first + 5) % 7) (first + 7) (omega arith)
    (λ i lt w. let at : (first + (7 - (first + 5) % 7) + i + 5) % 7 ≡ i = omega (arith, lt) in rw at at w) in
    let cut = count_in-cut (λ d. test (weekday_of d)) first (first + (7 - (first + 5) % 7)) (first + 7) (omega arith) (omega arith) in
    let whole = count_in-cut test 0 ((first + 5) % 7) 7 (omega arith) (omega arith) in
    omega (arith, early, late, cut, whole)

-- so many weeks, and some days behind them
in_weeks : (test : ℕ → Bool) (weeks days first : ℕ) → count_in (λ d. test (weekday_of d)) first (first + (7 * weeks + days)) ≤ weeks * count_in test 0 7 + days
in_weeks test zero days first = let all = count_in-all (λ d. test (weekday_of d)) first (first + (7 * zero + days)) in omega (arith, all)
in_weeks test (suc weeks) days first =
    let one = in_week test first in
    let rest = in_weeks test weeks days (first + 7) in
    let end : first + 7 + (7 * weeks + days) ≡ first + (7 * suc weeks + days) = omega arith in
    let rest = rw end at rest in
    let cut = count_in-cut (λ d. test (weekday_of d)) first (first + 7) (first + (7 * suc weeks + days)) (omega arith) (omega arith) in
    let more = suc-mul weeks (count_in test 0 7) in
    omega (arith, one, rest, cut, more)

named_weekday : (weekday place size : ℕ) (parts : List DayPart) → list_any (weekday_passes weekday place size) parts ≡ true → has_weekday parts weekday ≡ true
named_weekday weekday place size [] h = h
named_weekday weekday place size (part ∷ parts) h =
    elim (cases_Bool (part.weekday == weekday)) [
      | inl w ↦ rw w refl
      | inr w ↦ (let rest = rw w at h in let more = named_weekday weekday place size parts rest in rw w more)
    ]

-- Months.

-- the days of a month lie within 31
month_end : (day : ℕ) → day < day_of_date (year_of day) (month_of day) 1 + 31
month_end day =
    let some = month_of-first day in let most = month_of-last day in
    let size = month_length-bounds (year_of day) (month_of day) in
    let next = days_before_month-next (year_of day) (month_of day) some in
    elim (cases_Bool (nat_lt (month_of day) 12)) [
      | inl w ↦ (let early : month_of day < 12 = ltb-true _ _ w in
          let first_size = month_length-bounds (year_of day) (month_of day + 1) in
          let one : IsInRange 1 (month_length (year_of day) (month_of day + 1)) 1 = (omega arith, omega (arith, first_size)) in
          let month : IsInRange 1 12 (month_of day + 1) = (omega arith, omega (arith, early)) in
          let year = year_of-day_of_date (year_of day) (month_of day + 1) 1 month one in
          let of = month_of-day_of_date (year_of day) (month_of day + 1) 1 month one in
          elim (cases_Bool (nat_lt day (day_of_date (year_of day) (month_of day + 1) 1))) [
            | inl v ↦ (let before = ltb-true _ _ v in omega (arith, before, next, size))
            | inr v ↦ (let after = ltb-false _ _ v in
                let a : 86400 * day_of_date (year_of day) (month_of day + 1) 1 / 86400 ≡ day_of_date (year_of day) (month_of day + 1) 1 = omega arith in
                let b : 86400 * day / 86400 ≡ day = omega arith in
                let rises = period_number-le Monthly 0 (86400 * day_of_date (year_of day) (month_of day + 1) 1) (86400 * day) (omega (arith, after)) in
                let plain = rw (a, b) at rises in
                absurd (omega (arith, plain, year, of)))
          ])
      | inr w ↦ (let late = ltb-false _ _ w in
          let last : month_of day ≡ 12 = omega (arith, late, most) in
          let end = year_of-last day in
          let after = first_of_year-suc (year_of day) in
          let whole = days_before_month-end (year_of day) in
          let before = rw last at next in
          let few = rw last at size in
          rw last (omega (arith, end, after, whole, before, few)))
    ]

month_from : (day : ℕ) → day_of_date (year_of day) (month_of day) 1 ≤ day
month_from day = let is = day_of_date-fields day in omega (arith, is)

day_of_month-first : (day : ℕ) → 1 ≤ day_of_month day
unfolding day_of_month
day_of_month-first day = let begun = month_of-begun day in omega (arith, begun)

module _ (rule : Rule) (start m : ℕ) where
  day_period : (d : ℕ) → is_day_of rule start m d ≡ true → period_number rule.freq rule.week_start m ≡ period_number rule.freq rule.week_start (86400 * d)
  day_period d w = eqb-true _ _ (both (period_number rule.freq rule.week_start m == period_number rule.freq rule.week_start (86400 * d)) (day_passes rule (day_of_moment start) d) w).0

  day_passed : (d : ℕ) → is_day_of rule start m d ≡ true → day_passes rule (day_of_moment start) d ≡ true
  day_passed d w = (both (period_number rule.freq rule.week_start m == period_number rule.freq rule.week_start (86400 * d)) (day_passes rule (day_of_moment start) d) w).1

  -- what a day that passes passes
  parts : (d : ℕ) → is_day_of rule start m d ≡ true → (month_day_passes rule d ≡ true) × (by_day_passes rule d ≡ true) × (default_passes rule (day_of_moment start) d ≡ true)
  unfolding day_passes
  parts d w =
      let a = both (month_passes rule d) _ (day_passed d w) in
      let b = both (month_day_passes rule d) _ a.1 in
      let c = both (by_day_passes rule d) _ b.1 in
      let e = both (year_day_passes rule d) _ c.1 in
      let f = both (week_passes rule d) (default_passes rule (day_of_moment start) d) e.1 in
      (b.0, c.0, f.1)

  -- The days of a period lie in a stretch.

  days_within : (first n a b : ℕ) → a ≤ b → ((d : ℕ) → is_day_of rule start m d ≡ true → (first ≤ d) × (d < first + n)) → count_in (is_day_of rule start m) a b ≤ count_in (is_day_of rule start m) first (first + n)
  days_within first n a b le lies = count_in-within (is_day_of rule start m) first (first + n) a b (omega arith) le lies

  all_within : (first n a b : ℕ) → a ≤ b → ((d : ℕ) → is_day_of rule start m d ≡ true → (first ≤ d) × (d < first + n)) → count_in (is_day_of rule start m) a b ≤ n
  all_within first n a b le lies =
      let some = days_within first n a b le lies in
      let all = count_in-all (is_day_of rule start m) first (first + n) in
      omega (arith, some, all)

  week_lies : rule.freq ≡ Weekly → rule.week_start < 7 → (first : ℕ) → first ≡ 7 * ((m / 86400 + 12 - rule.week_start) / 7) + rule.week_start - 12 → (d : ℕ) → is_day_of rule start m d ≡ true → (first ≤ d) × (d < first + 7)
  week_lies e small first is d w =
      let day : 86400 * d / 86400 ≡ d = omega arith in
      let same = rw day at (rw e at (day_period d w)) in
      (omega (arith, same, small, is), omega (arith, same, small, is))

  month_same : rule.freq ≡ Monthly → (d : ℕ) → is_day_of rule start m d ≡ true → (year_of d ≡ year_of (m / 86400)) × (month_of d ≡ month_of (m / 86400))
  month_same e d w =
      let day : 86400 * d / 86400 ≡ d = omega arith in
      let same = rw day at (rw e at (day_period d w)) in
      let a = month_of-first (m / 86400) in let b = month_of-last (m / 86400) in let c = month_of-first d in let f = month_of-last d in
      let years : year_of d ≡ year_of (m / 86400) = omega (arith, same, a, b, c, f) in
      (years, omega (arith, same, years))

  month_lies : rule.freq ≡ Monthly → (d : ℕ) → is_day_of rule start m d ≡ true → (day_of_date (year_of (m / 86400)) (month_of (m / 86400)) 1 ≤ d) × (d < day_of_date (year_of (m / 86400)) (month_of (m / 86400)) 1 + 31)
  month_lies e d w =
      let same = month_same e d w in
      let from = rw (same.0, same.1) at (month_from d) in
      let end = rw (same.0, same.1) at (month_end d) in
      (from, end)

  year_lies : rule.freq ≡ Yearly → (d : ℕ) → is_day_of rule start m d ≡ true → (first_of_year (year_of (m / 86400)) ≤ d) × (d < first_of_year (year_of (m / 86400)) + 366)
  year_lies e d w =
      let day : 86400 * d / 86400 ≡ d = omega arith in
      let same = rw day at (rw e at (day_period d w)) in
      let years : year_of d ≡ year_of (m / 86400) = omega (arith, same) in
      let from = rw years at (year_of-first d) in
      let last = rw years at (year_of-last d) in
      (from, omega (arith, last))

  -- the day of the month of a day of the period
  month_place : rule.freq ≡ Monthly → (d : ℕ) → is_day_of rule start m d ≡ true → d + 1 ≡ day_of_date (year_of (m / 86400)) (month_of (m / 86400)) 1 + day_of_month d
  month_place e d w =
      let same = month_same e d w in
      let is = rw (same.0, same.1) at (day_of_date-fields d) in
      let some = day_of_month-first d in
      omega (arith, is, some)

  -- Days by their weekdays.

  weekdays_of_week : rule.freq ≡ Weekly → rule.week_start < 7 → (test : ℕ → Bool) → ((d : ℕ) → is_day_of rule start m d ≡ true → test (weekday_of d) ≡ true) → (a b : ℕ) → a ≤ b → count_in (is_day_of rule start m) a b ≤ count_in test 0 7
  weekdays_of_week e small test named a b le =
      let some = days_within (7 * ((m / 86400 + 12 - rule.week_start) / 7) + rule.week_start - 12) 7 a b le (week_lies e small (7 * ((m / 86400 + 12 - rule.week_start) / 7) + rule.week_start - 12) refl) in
      let less = count_le (is_day_of rule start m) (λ d. test (weekday_of d)) (numbers_between (7 * ((m / 86400 + 12 - rule.week_start) / 7) + rule.week_start - 12) ((7 * ((m / 86400 + 12 - rule.week_start) / 7) + rule.week_start - 12) + 7)) named in
      let week = in_week test (7 * ((m / 86400 + 12 - rule.week_start) / 7) + rule.week_start - 12) in
      omega (arith, some, less, week)

  weekdays_within : (weeks days first : ℕ) → ((d : ℕ) → is_day_of rule start m d ≡ true → (first ≤ d) × (d < first + (7 * weeks + days))) → (test : ℕ → Bool) → ((d : ℕ) → is_day_of rule start m d ≡ true → test (weekday_of d) ≡ true) → (a b : ℕ) → a ≤ b → count_in (is_day_of rule start m) a b ≤ weeks * count_in test 0 7 + days
  weekdays_within weeks days first lies test named a b le =
      let some = days_within first (7 * weeks + days) a b le lies in
      let less = count_le (is_day_of rule start m) (λ d. test (weekday_of d)) (numbers_between first (first + (7 * weeks + days))) named in
      let most = in_weeks test weeks days first in
      omega (arith, some, less, most)

  -- BYDAY names the weekday of each day that passes
  by_weekday : is_empty rule.by_day ≡ false → (d : ℕ) → is_day_of rule start m d ≡ true → has_weekday rule.by_day (weekday_of d) ≡ true
  by_weekday some d w =
      either (counts_in_month rule.freq rule.by_month) (rw some at (parts d w).1)
    where
      either : (x : Bool) → (if x then list_any (weekday_passes (weekday_of d) (day_of_month d) (month_length (year_of d) (month_of d))) rule.by_day else list_any (weekday_passes (weekday_of d) (day_of_year d) (year_length (year_of d))) rule.by_day) ≡ true → has_weekday rule.by_day (weekday_of d) ≡ true
      either true h = named_weekday (weekday_of d) (day_of_month d) (month_length (year_of d) (month_of d)) rule.by_day h
      either false h = named_weekday (weekday_of d) (day_of_year d) (year_length (year_of d)) rule.by_day h

  -- Days by their numbers.

  -- a number names one day of a month
  one_numbered : rule.freq ≡ Monthly → (n : ℤ) (a b : ℕ) → a ≤ b → count_in (λ d. if is_day_of rule start m d then names_place (day_of_month d) (month_length (year_of d) (month_of d)) n else false) a b ≤ 1
  one_numbered e (pos n) a b le =
      count_in-one (λ d. if is_day_of rule start m d then n == day_of_month d else false) (day_of_date (year_of (m / 86400)) (month_of (m / 86400)) 1 + n - 1) a b le
      (λ d w. let h = both (is_day_of rule start m d) (n == day_of_month d) w in let is = eqb-true _ _ h.1 in let place = month_place e d h.0 in omega (arith, is, place))
  one_numbered e (negsuc n) a b le =
      count_in-one (λ d. if is_day_of rule start m d then day_of_month d + n == month_length (year_of d) (month_of d) else false)
      (day_of_date (year_of (m / 86400)) (month_of (m / 86400)) 1 + (month_length (year_of (m / 86400)) (month_of (m / 86400)) - n) - 1) a b le
      (λ d w. let h = both (is_day_of rule start m d) (day_of_month d + n == month_length (year_of d) (month_of d)) w in
      let same = month_same e d h.0 in
      let is = rw (same.0, same.1) at (eqb-true _ _ h.1) in let place = month_place e d h.0 in omega (arith, is, place))

  some_numbered : rule.freq ≡ Monthly → (numbers : List ℤ) (a b : ℕ) → a ≤ b → count_in (λ d. if is_day_of rule start m d then some_names_place numbers (day_of_month d) (month_length (year_of d) (month_of d)) else false) a b ≤ length numbers
  some_numbered e [] a b le =
      let none = count_in-within (λ d. if is_day_of rule start m d then false else false) 0 0 a b (omega arith) le (λ d w. let h = both (is_day_of rule start m d) false w in let bad = h.1 in absurd cc) in
      let empty = count_in-all (λ d. if is_day_of rule start m d then false else false) 0 0 in
      omega (arith, none, empty)
  some_numbered e (n ∷ ns) a b le =
      let one = one_numbered e n a b le in
      let rest = some_numbered e ns a b le in
      let all = count_in-either
      (λ d. if is_day_of rule start m d then some_names_place (n ∷ ns) (day_of_month d) (month_length (year_of d) (month_of d)) else false)
      (λ d. if is_day_of rule start m d then names_place (day_of_month d) (month_length (year_of d) (month_of d)) n else false)
      (λ d. if is_day_of rule start m d then some_names_place ns (day_of_month d) (month_length (year_of d) (month_of d)) else false) a b
      (λ d w. let h = both (is_day_of rule start m d) (some_names_place (n ∷ ns) (day_of_month d) (month_length (year_of d) (month_of d))) w in
      elim (cases_Bool (names_place (day_of_month d) (month_length (year_of d) (month_of d)) n)) [
        | inl v ↦ inl (rw h.0 v)
        | inr v ↦ inr (let others = rw v at h.1 in rw h.0 others)
      ]) in
      omega (arith, one, rest, all)

  by_numbers : rule.freq ≡ Monthly → is_empty rule.by_month_day ≡ false → (a b : ℕ) → a ≤ b → count_in (is_day_of rule start m) a b ≤ length rule.by_month_day
  by_numbers e some a b le =
      let less = count_le (is_day_of rule start m) (λ d. if is_day_of rule start m d then some_names_place rule.by_month_day (day_of_month d) (month_length (year_of d) (month_of d)) else false) (numbers_between a b)
      (λ d w. let named = rw some at (parts d w).0 in rw w named) in
      let few = some_numbered e rule.by_month_day a b le in
      omega (arith, less, few)

  -- Days as the start has them.

  default_day : is_empty rule.by_week ≡ true → has_day_part rule ≡ false → (d : ℕ) → is_day_of rule start m d ≡ true → day_default rule.freq rule (day_of_moment start) d ≡ true
  default_day no_weeks no_days d w = rw (no_days, no_weeks) at (parts d w).2

  like_start_in_week : rule.freq ≡ Weekly → rule.week_start < 7 → is_empty rule.by_week ≡ true → has_day_part rule ≡ false → (a b : ℕ) → a ≤ b → count_in (is_day_of rule start m) a b ≤ 1
  like_start_in_week e small no_weeks no_days a b le =
      let some = weekdays_of_week e small (λ w. w == weekday_of (day_of_moment start)) (λ d w. rw e at (default_day no_weeks no_days d w)) a b le in
      let one = count_in-one (λ w. w == weekday_of (day_of_moment start)) (weekday_of (day_of_moment start)) 0 7 (omega arith) (λ d w. eqb-true _ _ w) in
      omega (arith, some, one)

  like_start_in_month : rule.freq ≡ Monthly → is_empty rule.by_week ≡ true → has_day_part rule ≡ false → (a b : ℕ) → a ≤ b → count_in (is_day_of rule start m) a b ≤ 1
  like_start_in_month e no_weeks no_days a b le =
      count_in-one (is_day_of rule start m) (day_of_date (year_of (m / 86400)) (month_of (m / 86400)) 1 + day_of_month (day_of_moment start) - 1) a b le
      (λ d w. let like = rw e at (default_day no_weeks no_days d w) in let is = eqb-true _ _ like in let place = month_place e d w in omega (arith, is, place))

-- How many days of a period pass at most.

module _ (rule : Rule) where
  pub one_of_week : rule.freq ≡ Weekly → rule.week_start < 7 → is_empty rule.by_week ≡ true → has_day_part rule ≡ false → HasDaysAtMost rule 1
  one_of_week e small no_weeks no_days = λ start m a b le. like_start_in_week rule start m e small no_weeks no_days a b le

  pub seven_of_week : rule.freq ≡ Weekly → rule.week_start < 7 → HasDaysAtMost rule 7
  seven_of_week e small = λ start m a b le. all_within rule start m (7 * ((m / 86400 + 12 - rule.week_start) / 7) + rule.week_start - 12) 7 a b le (week_lies rule start m e small (7 * ((m / 86400 + 12 - rule.week_start) / 7) + rule.week_start - 12) refl)

  pub named_of_week : rule.freq ≡ Weekly → rule.week_start < 7 → is_empty rule.by_day ≡ false → HasDaysAtMost rule (count_in (has_weekday rule.by_day) 0 7)
  named_of_week e small some = λ start m a b le. weekdays_of_week rule start m e small (has_weekday rule.by_day) (by_weekday rule start m some) a b le

  pub one_of_month : rule.freq ≡ Monthly → is_empty rule.by_week ≡ true → has_day_part rule ≡ false → HasDaysAtMost rule 1
  one_of_month e no_weeks no_days = λ start m a b le. like_start_in_month rule start m e no_weeks no_days a b le

  pub all_of_month : rule.freq ≡ Monthly → HasDaysAtMost rule 31
  all_of_month e = λ start m a b le. all_within rule start m (day_of_date (year_of (m / 86400)) (month_of (m / 86400)) 1) 31 a b le (month_lies rule start m e)

  -- weekdays of a month: of five weeks, or of four and three days
  pub few_of_month : rule.freq ≡ Monthly → is_empty rule.by_day ≡ false → HasDaysAtMost rule (5 * count_in (has_weekday rule.by_day) 0 7)
  few_of_month e some = λ start m a b le.
      let first = day_of_date (year_of (m / 86400)) (month_of (m / 86400)) 1 in
      let most = weekdays_within rule start m 5 0 first (λ d w. let lies = month_lies rule start m e d w in (lies.0, omega (arith, lies))) (has_weekday rule.by_day) (by_weekday rule start m some) a b le in
      omega (arith, most)

  pub named_of_month : rule.freq ≡ Monthly → is_empty rule.by_day ≡ false → HasDaysAtMost rule (4 * count_in (has_weekday rule.by_day) 0 7 + 3)
  named_of_month e some = λ start m a b le.
      weekdays_within rule start m 4 3 (day_of_date (year_of (m / 86400)) (month_of (m / 86400)) 1) (month_lies rule start m e) (has_weekday rule.by_day) (by_weekday rule start m some) a b le

  pub numbered_of_month : rule.freq ≡ Monthly → is_empty rule.by_month_day ≡ false → HasDaysAtMost rule (length rule.by_month_day)
  numbered_of_month e some = λ start m a b le. by_numbers rule start m e some a b le

  pub all_of_year : rule.freq ≡ Yearly → HasDaysAtMost rule 366
  all_of_year e = λ start m a b le. all_within rule start m (first_of_year (year_of (m / 86400))) 366 a b le (year_lies rule start m e)

  -- weekdays of a year: of 53 weeks, or of 52 and two days
  pub few_of_year : rule.freq ≡ Yearly → is_empty rule.by_day ≡ false → HasDaysAtMost rule (53 * count_in (has_weekday rule.by_day) 0 7)
  few_of_year e some = λ start m a b le.
      let first = first_of_year (year_of (m / 86400)) in
      let most = weekdays_within rule start m 53 0 first (λ d w. let lies = year_lies rule start m e d w in (lies.0, omega (arith, lies))) (has_weekday rule.by_day) (by_weekday rule start m some) a b le in
      omega (arith, most)

  pub named_of_year : rule.freq ≡ Yearly → is_empty rule.by_day ≡ false → HasDaysAtMost rule (52 * count_in (has_weekday rule.by_day) 0 7 + 2)
  named_of_year e some = λ start m a b le.
      weekdays_within rule start m 52 2 (first_of_year (year_of (m / 86400))) (year_lies rule start m e) (has_weekday rule.by_day) (by_weekday rule start m some) a b le

  -- a period of DAILY is one day, and one of HOURLY begins on one day
  pub one_of_shorter : is_fine rule.freq ≡ false → (rule.freq ≡ Weekly → ⊥) → (rule.freq ≡ Monthly → ⊥) → (rule.freq ≡ Yearly → ⊥) → HasDaysAtMost rule 1
  one_of_shorter coarse weekly monthly yearly = λ start m a b le. count_in-one (is_day_of rule start m) (m / 86400) a b le (λ d w. day_at start m d rule.freq refl w)
    where
      day_at : (start m d : ℕ) (freq : Freq) → rule.freq ≡ freq → is_day_of rule start m d ≡ true → d ≡ m / 86400
      day_at start m d Daily e w = let day : 86400 * d / 86400 ≡ d = omega arith in let same = rw day at (rw e at (day_period rule start m d w)) in sym same
      day_at start m d Hourly e w = let same = rw e at (day_period rule start m d w) in omega (arith, same)
      day_at start m d Weekly e w = absurd (weekly e)
      day_at start m d Monthly e w = absurd (monthly e)
      day_at start m d Yearly e w = absurd (yearly e)
      day_at start m d Secondly e w = absurd (let fine = rw e at coarse in cc)
      day_at start m d Minutely e w = absurd (let fine = rw e at coarse in cc)
