-- What the parts of a rule ask of the days of a month.
use Rattle.std.proofs.Common.{◌≡◌, ◌≢◌, ℕ, ◌+◌, ◌-◌, ◌/◌, ◌%◌, ◌<◌, ◌≤◌, refl, sym, ap, ◌∙◌, arith, Bool, true, false, inl, inr, ◌==◌, nat_lt}
use Rattle.std.specs.Prelude.{if◌then◌else◌}
use Rattle.std.proofs.lemmas.Bool.{cases_Bool, eqb-true, ltb-true, ltb-false, lt-ltb, le-ltb}
use Rattle.cal_moment.specs.Calendar.{year_of, day_of_year, year_length, month_of, day_of_month, days_before_month, month_length, weekday_of, day_of_date}
use Rattle.cal_moment.proofs.CalendarLaws.{first_of_year-le, days_before_month-next, days_before_month-le, days_before_month-end, first_of_year-suc, month_length-bounds}
use Rattle.cal_model.specs.declared.rule.Rule.{Rule}
use Rattle.cal_model.specs.declared.rule.Freq.TheVariants.{Yearly}
use Rattle.cal_model.specs.Words.Lists.{is_empty}
use Rattle.cal_model.specs.Words.Integers.{some_names_place}
use Rattle.std.specs.List.{list_any}
use Rattle.cal_model.specs.Recurrence.Passing.{month_passes, month_day_passes, year_day_passes, week_passes, by_day_passes, default_passes, day_default, day_passes, has_day_part, counts_in_month, weekday_passes}
use Rattle.rrule_step.specs.declared.month.Month.{Month}
use Rattle.rrule_step.specs.declared.start.Start.{Start}
use Rattle.rrule_step.specs.Periods.{month_begin}
use Rattle.rrule_step.proofs.CalendarLemmas.{year_in, month_in, of_month_in, month_begin-next}

-- the days of a month lie before rules end
pub month_bounds : (month : Month) → (366 ≤ month.first) × (month.first + month.size ≤ 767740)
month_bounds month =
    let years = month.year_is in
    let months = month.month_is in
    let first = month.first_is in
    let size = month.size_is in
    let next = days_before_month-next month.year month.month months.0 in
    let end = days_before_month-le month.year (month.month + 1) 13 (omega (arith, months)) in
    let year = days_before_month-end month.year in
    let after = first_of_year-suc month.year in
    let low = first_of_year-le 1 month.year years.0 in
    let high = first_of_year-le (month.year + 1) 2102 (omega (arith, years)) in
    (omega (arith, first, low), omega (arith, first, size, next, end, year, after, high))

-- places from 0 and from 1
pub shifted : (i n : ℕ) → 1 ≤ n → (i == n - 1) ≡ (i + 1 == n)
shifted i n some = elim (cases_Bool (i + 1 == n)) [
  | inl w ↦ (let is = eqb-true (i + 1) n w in let same : i ≡ n - 1 = omega (arith, is) in let yes : (i == n - 1) ≡ true = grind (arith, same) in yes ∙ sym w)
  | inr w ↦ (let no : (i == n - 1) ≡ false = elim (cases_Bool (i == n - 1)) [ inl v ↦ (let is = eqb-true i (n - 1) v in let same : i + 1 ≡ n = omega (arith, is, some) in let bad : (i + 1 == n) ≡ true = grind (arith, same) in absurd cc) | inr v ↦ v ] in no ∙ sym w)
]

module _ (month : Month) (i : ℕ) (lt : i < month.size) where
  len : i < month_length month.year month.month
  len = let e = month.size_is in omega (arith, e, lt)

  pub year_at : year_of (month.first + i) ≡ month.year
  year_at = rw month.first_is (year_in month.year month.month i month.month_is len)

  pub month_at : month_of (month.first + i) ≡ month.month
  month_at = rw month.first_is (month_in month.year month.month i month.month_is len)

  pub of_month_at : day_of_month (month.first + i) ≡ i + 1
  of_month_at = rw month.first_is (of_month_in month.year month.month i month.month_is len)

  pub of_year_at : day_of_year (month.first + i) ≡ days_before_month month.year month.month + i + 1
  of_year_at = let e = month.first_is in rw year_at (omega (arith, e))

  pub size_at : month_length (year_of (month.first + i)) (month_of (month.first + i)) ≡ month.size
  size_at = rw (year_at, month_at) (sym month.size_is)

  pub month_day_at : (rule : Rule) → is_empty rule.by_month_day ≡ false → some_names_place rule.by_month_day (i + 1) month.size ≡ month_day_passes rule (month.first + i)
  month_day_at rule some =
      let place : i + 1 ≡ day_of_month (month.first + i) = sym of_month_at in
      ap (λ p. some_names_place rule.by_month_day p month.size) place
      ∙ (ap (λ n. some_names_place rule.by_month_day (day_of_month (month.first + i)) n) (sym size_at)
      ∙ sym (ap (λ b. if b then true else some_names_place rule.by_month_day (day_of_month (month.first + i)) (month_length (year_of (month.first + i)) (month_of (month.first + i)))) some))

  pub year_day_at : (rule : Rule) (before size : ℕ) → is_empty rule.by_year_day ≡ false → before ≡ days_before_month month.year month.month → size ≡ year_length month.year →
      some_names_place rule.by_year_day (before + i + 1) size ≡ year_day_passes rule (month.first + i)
  year_day_at rule before size some is long =
      let place : before + i + 1 ≡ day_of_year (month.first + i) = ap (λ n. n + i + 1) is ∙ sym of_year_at in
      let year : size ≡ year_length (year_of (month.first + i)) = long ∙ ap year_length (sym year_at) in
      ap (λ p. some_names_place rule.by_year_day p size) place
      ∙ (ap (λ n. some_names_place rule.by_year_day (day_of_year (month.first + i)) n) year
      ∙ sym (ap (λ b. if b then true else some_names_place rule.by_year_day (day_of_year (month.first + i)) (year_length (year_of (month.first + i)))) some))

  pub by_day_month_at : (rule : Rule) → is_empty rule.by_day ≡ false → counts_in_month rule.freq rule.by_month ≡ true →
      list_any (weekday_passes (weekday_of (month.first + i)) (0 + i + 1) month.size) rule.by_day ≡ by_day_passes rule (month.first + i)
  by_day_month_at rule some counts =
      let place : 0 + i + 1 ≡ day_of_month (month.first + i) = rw of_month_at (omega arith) in
      let is : by_day_passes rule (month.first + i) ≡ list_any (weekday_passes (weekday_of (month.first + i)) (day_of_month (month.first + i)) (month_length (year_of (month.first + i)) (month_of (month.first + i)))) rule.by_day = rw (some, counts) refl in
      ap (λ p. list_any (weekday_passes (weekday_of (month.first + i)) p month.size) rule.by_day) place
      ∙ (ap (λ n. list_any (weekday_passes (weekday_of (month.first + i)) (day_of_month (month.first + i)) n) rule.by_day) (sym size_at) ∙ sym is)

  pub by_day_year_at : (rule : Rule) (before size : ℕ) → is_empty rule.by_day ≡ false → counts_in_month rule.freq rule.by_month ≡ false → before ≡ days_before_month month.year month.month → size ≡ year_length month.year →
      list_any (weekday_passes (weekday_of (month.first + i)) (before + i + 1) size) rule.by_day ≡ by_day_passes rule (month.first + i)
  by_day_year_at rule before size some counts first long =
      let place : before + i + 1 ≡ day_of_year (month.first + i) = ap (λ n. n + i + 1) first ∙ sym of_year_at in
      let year : size ≡ year_length (year_of (month.first + i)) = long ∙ ap year_length (sym year_at) in
      let is : by_day_passes rule (month.first + i) ≡ list_any (weekday_passes (weekday_of (month.first + i)) (day_of_year (month.first + i)) (year_length (year_of (month.first + i)))) rule.by_day = rw (some, counts) refl in
      ap (λ p. list_any (weekday_passes (weekday_of (month.first + i)) p size) rule.by_day) place
      ∙ (ap (λ n. list_any (weekday_passes (weekday_of (month.first + i)) (day_of_year (month.first + i)) n) rule.by_day) year ∙ sym is)

  pub same_day_at : (start : Start) → (day_of_month (month.first + i) == day_of_month start.day) ≡ (i == start.of_month - 1)
  same_day_at start =
      let some = start.of_month_within in
      ap (λ n. n == day_of_month start.day) of_month_at ∙ (ap (λ n. i + 1 == n) (sym start.of_month_is) ∙ sym (shifted i start.of_month some.0))

  pub yearly_at : (rule : Rule) (start : Start) (b : Bool) → b ≡ (if is_empty rule.by_month then month.month == start.month else true) →
      (if i == start.of_month - 1 then b else false) ≡ day_default Yearly rule start.day (month.first + i)
  yearly_at rule start b is =
      let of = ap (λ n. if is_empty rule.by_month then n == month_of start.day else true) month_at in
      let from = ap (λ n. if is_empty rule.by_month then month.month == n else true) start.month_is in
      ap (λ c. if i == start.of_month - 1 then c else false) (is ∙ (from ∙ sym of))
      ∙ ap (λ c. if c then (if is_empty rule.by_month then month_of (month.first + i) == month_of start.day else true) else false) (sym (same_day_at start))

-- a month has at most 31 days, and at least 28
pub size_bound : (month : Month) → month.size ≤ 31
size_bound month = let e = month.size_is in let bounds = month_length-bounds month.year month.month in omega (arith, e, bounds)

pub size_least : (month : Month) → 28 ≤ month.size
size_least month = let e = month.size_is in let bounds = month_length-bounds month.year month.month in omega (arith, e, bounds)

-- and a year at most 366
pub year_at_most : (year : ℕ) → year_length year ≤ 366
year_at_most year = grind arith

-- a day of a month is one of its year
pub day_in_year : (month : Month) (i : ℕ) → i < month.size → days_before_month month.year month.month + i < year_length month.year
day_in_year month i lt =
    let months = month.month_is in
    let size = month.size_is in
    let next = days_before_month-next month.year month.month months.0 in
    let end = days_before_month-le month.year (month.month + 1) 13 (omega (arith, months)) in
    let year = days_before_month-end month.year in
    omega (arith, size, next, end, year, lt)

-- and begins where its number says
pub month_first : (month : Month) (n : ℕ) → month.year ≡ n / 12 → month.month ≡ n % 12 + 1 → month_begin n ≡ month.first
month_first month n year of = ap (λ y. day_of_date y (n % 12 + 1) 1) (sym year) ∙ (ap (λ m. day_of_date month.year m 1) (sym of) ∙ sym month.first_is)

-- and ends where the next one begins
pub month_next : (month : Month) (n : ℕ) → month.year ≡ n / 12 → month.month ≡ n % 12 + 1 → month_begin (n + 1) ≡ month.first + month.size
month_next month n year of =
    let first = month_first month n year of in
    let size : month_length (n / 12) (n % 12 + 1) ≡ month.size = ap (λ y. month_length y (n % 12 + 1)) (sym year) ∙ (ap (λ m. month_length month.year m) (sym of) ∙ sym month.size_is) in
    let next = month_begin-next n in
    next ∙ (ap (λ a. a + month_length (n / 12) (n % 12 + 1)) first ∙ ap (λ b. month.first + b) size)

-- a day that fails one of the tests fails
nest_false : (a b c d e : Bool) → (if a then (if b then (if c then (if d then (if e then false else false) else false) else false) else false) else false) ≡ false
nest_false false b c d e = refl
nest_false true false c d e = refl
nest_false true true false d e = refl
nest_false true true true false e = refl
nest_false true true true true true = refl
nest_false true true true true false = refl

pub day_passes-month : (rule : Rule) (start day : ℕ) → month_passes rule day ≡ false → day_passes rule start day ≡ false
unfolding day_passes
day_passes-month rule start day fails = rw fails refl

pub day_passes-default : (rule : Rule) (start day : ℕ) → default_passes rule start day ≡ false → day_passes rule start day ≡ false
unfolding day_passes
day_passes-default rule start day fails = rw fails (nest_false (month_passes rule day) (month_day_passes rule day) (by_day_passes rule day) (year_day_passes rule day) (week_passes rule day))

-- under YEARLY the start gives the month too
pub default-other_month : (rule : Rule) (start day : ℕ) → rule.freq ≡ Yearly → has_day_part rule ≡ false → is_empty rule.by_week ≡ true → is_empty rule.by_month ≡ true → (month_of day == month_of start) ≡ false → default_passes rule start day ≡ false
default-other_month rule start day yearly none no_week no_month other = rw (none, no_week, yearly, no_month, other) (both (day_of_month day == day_of_month start))
  where
    both : (b : Bool) → (if b then false else false) ≡ false
    both true = refl
    both false = refl

-- one place more of a set that follows a test
pub one_more : (test : ℕ → Bool) (had passes : Bool) (k n : ℕ) → had ≡ (if nat_lt k n then test k else false) → passes ≡ test n →
    (if k == n then (if passes then true else had) else had) ≡ (if nat_lt k (n + 1) then test k else false)
one_more test had passes k n is told = elim (cases_Bool (k == n)) [
  | inl w ↦
      (let same = eqb-true k n w in
      let below : nat_lt k (n + 1) ≡ true = lt-ltb k (n + 1) (omega (arith, same)) in
      let not_yet : nat_lt k n ≡ false = le-ltb k n (omega (arith, same)) in
      let none : had ≡ false = is ∙ ap (λ b. if b then test k else false) not_yet in
      rw (w, below, none) (itself passes ∙ (told ∙ ap test (sym same))))
  | inr w ↦
      (let same : nat_lt k (n + 1) ≡ nat_lt k n = elim (cases_Bool (nat_lt k n)) [
        | inl v ↦ (let lt = ltb-true _ _ v in lt-ltb k (n + 1) (omega (arith, lt)) ∙ sym v)
        | inr v ↦ (let ge = ltb-false _ _ v in let other : k ≢ n = (λ e. let bad : (k == n) ≡ true = grind (arith, e) in absurd cc) in le-ltb k (n + 1) (omega (arith, ge, other)) ∙ sym v)
      ] in
      rw (w, same) is)
]
  where
    itself : (b : Bool) → (if b then true else false) ≡ b
    itself true = refl
    itself false = refl
