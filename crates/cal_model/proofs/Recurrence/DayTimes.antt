-- The least passing moment of a stretch of a day, hour by hour, minute by minute.
use Rattle.std.proofs.Common.{◌≡◌, ◌≢◌, ℕ, List, ◌+◌, ◌-◌, ◌*◌, ◌/◌, ◌%◌, ◌<◌, ◌≤◌, refl, sym, ap, ◌∙◌, arith, Bool, true, false, inl, inr, nat_lt, Option}
use Rattle.std.specs.Prelude.{if◌then◌else◌, ◌==◌, MatchOption}
use Rattle.std.proofs.lemmas.Bool.{cases_Bool, ltb-true, ltb-false}
use Rattle.cal_moment.specs.Calendar.{day_of_moment, second_of_day, first_of_year, year_of}
use Rattle.cal_moment.proofs.CalendarLaws.{year_of-first, year_of-last, year_of-only}
use Rattle.cal_model.specs.declared.rule.Rule.{Rule}
use Rattle.cal_model.specs.declared.rule.Freq.{Freq}
use Rattle.cal_model.specs.declared.rule.Freq.TheVariants.{Secondly, Minutely, Hourly, Daily, Weekly, Monthly, Yearly}
use Rattle.cal_model.specs.Words.Lists.{is_empty}
use Rattle.cal_model.specs.Recurrence.NextPassing.{NonePasses, is_fine}
use Rattle.cal_model.specs.Recurrence.Passing.{passes, period_number, period_passes, day_passes, time_passes, hour_passes, part_passes}
use Rattle.cal_model.proofs.Recurrence.Days.{passes-on_day, NonePasses-joined, NonePasses-one}

-- What is found in a stretch of moments: the least that passes, or that none does.

-- m is the least passing moment from a up to b, b left out
pub record IsNextWithin (rule : Rule) (start : ℕ) (dated : Bool) (a b m : ℕ) : Type 0 where
  pub from : a ≤ m
  pub below : m < b
  pub passing : passes rule start dated m ≡ true
  pub none_before : NonePasses rule start dated a m

-- what was found, as an offset from a base
abbrev pub Finds : Rule → ℕ → Bool → ℕ → ℕ → ℕ → Option ℕ → Type 0
Finds rule start dated base a b found =
    MatchOption found (NonePasses rule start dated (base + a) (base + b)) (λ s. IsNextWithin rule start dated (base + a) (base + b) (base + s))

-- an hour of a day in which a moment may pass: its period counts, and BYHOUR holds it
unfoldable pub hour_opens : Rule → ℕ → ℕ → ℕ → Bool
hour_opens rule start day hour =
    if hour_passes rule.freq rule.by_hour (second_of_day start / 3600) hour
    then period_passes rule start (86400 * day + 3600 * hour)
    else false

-- Periods.

-- no period of a coarse rule begins within an hour
pub period_number-hour : (freq : Freq) (week_start a b : ℕ) → is_fine freq ≡ false → a / 3600 ≡ b / 3600 → period_number freq week_start a ≡ period_number freq week_start b
period_number-hour Secondly week_start a b coarse h = absurd cc
period_number-hour Minutely week_start a b coarse h = absurd cc
period_number-hour Hourly week_start a b coarse h = h
period_number-hour Daily week_start a b coarse h = omega arith
period_number-hour Weekly week_start a b coarse h = let same : a / 86400 ≡ b / 86400 = omega arith in rw same refl
period_number-hour Monthly week_start a b coarse h = let same : a / 86400 ≡ b / 86400 = omega arith in rw same refl
period_number-hour Yearly week_start a b coarse h = let same : a / 86400 ≡ b / 86400 = omega arith in rw same refl

pub period_passes-hour : (rule : Rule) (start a b : ℕ) → is_fine rule.freq ≡ false → a / 3600 ≡ b / 3600 → period_passes rule start a ≡ period_passes rule start b
period_passes-hour rule start a b coarse h = rw (period_number-hour rule.freq rule.week_start a b coarse h) refl

-- A moment by its hour, minute and second.

if_false : (b : Bool) → (if b then false else false) ≡ false
if_false true = refl
if_false false = refl

-- what passes in an hour, of a day that passes
pub passes-timed : (rule : Rule) (start day hour minute second : ℕ) → is_fine rule.freq ≡ false → hour < 24 → minute < 60 → second < 60 → day_passes rule (day_of_moment start) day ≡ true →
    passes rule start false (86400 * day + 3600 * hour + 60 * minute + second) ≡
    (if hour_opens rule start day hour
    then (if part_passes rule.by_minute (second_of_day start / 60 % 60) minute then part_passes rule.by_second (second_of_day start % 60) second else false)
    else false)
unfolding hour_opens time_passes
passes-timed rule start day hour minute second coarse h m s p =
    let shape : 86400 * day + 3600 * hour + 60 * minute + second ≡ 86400 * day + (3600 * hour + 60 * minute + second) = omega arith in
    let of_hour : (3600 * hour + 60 * minute + second) / 3600 ≡ hour = omega arith in
    let of_minute : (3600 * hour + 60 * minute + second) / 60 % 60 ≡ minute = omega arith in
    let of_second : (3600 * hour + 60 * minute + second) % 60 ≡ second = omega arith in
    let same : (86400 * day + (3600 * hour + 60 * minute + second)) / 3600 ≡ (86400 * day + 3600 * hour) / 3600 = omega arith in
    let period = period_passes-hour rule start (86400 * day + (3600 * hour + 60 * minute + second)) (86400 * day + 3600 * hour) coarse same in
    let whole = passes-on_day rule start false day (3600 * hour + 60 * minute + second) (omega arith) p in
    rw (shape, whole, period, of_hour, of_minute, of_second) (cases (hour_passes rule.freq rule.by_hour (second_of_day start / 3600) hour) (period_passes rule start (86400 * day + 3600 * hour)))
  where
    cases : (a b : Bool) → (if b then (if a then (if part_passes rule.by_minute (second_of_day start / 60 % 60) minute then part_passes rule.by_second (second_of_day start % 60) second else false) else false) else false)
        ≡ (if (if a then b else false) then (if part_passes rule.by_minute (second_of_day start / 60 % 60) minute then part_passes rule.by_second (second_of_day start % 60) second else false) else false)
    cases true true = refl
    cases true false = refl
    cases false true = refl
    cases false false = refl

-- A part that is absent leaves its value to the start.

pub absent-passes : (part : List ℕ) (of_start value : ℕ) → is_empty part ≡ true → value ≡ of_start → part_passes part of_start value ≡ true
absent-passes part of_start value absent same = let yes : (value == of_start) ≡ true = grind (arith, same) in rw (absent, yes) refl

pub absent-fails : (part : List ℕ) (of_start value : ℕ) → is_empty part ≡ true → value ≢ of_start → part_passes part of_start value ≡ false
absent-fails part of_start value absent other =
    let none : (value == of_start) ≡ false = grind (arith, other) in rw (absent, none) refl

-- The start by its day and second.

pub day_of_start : (day second : ℕ) → second < 86400 → day_of_moment (86400 * day + second) ≡ day
day_of_start day second h = omega arith

pub second_of_start : (day second : ℕ) → second < 86400 → second_of_day (86400 * day + second) ≡ second
second_of_start day second h = omega arith

-- Stretches.

pub stretch_joined : (rule : Rule) (start : ℕ) (dated : Bool) (a b c d : ℕ) → ((m : ℕ) → a ≤ m → b ≤ m → c ≤ m) → NonePasses rule start dated a b → NonePasses rule start dated c d → NonePasses rule start dated a d
stretch_joined rule start dated a b c d le h k = record {
  each = λ m from below.
      elim (cases_Bool (nat_lt m b)) [
        | inl before ↦ h.each m from (ltb-true _ _ before)
        | inr after ↦ k.each m (le m from (ltb-false _ _ after)) below
      ];
}

pub next_joined : (rule : Rule) (start : ℕ) (dated : Bool) (a b c d e m : ℕ) → a ≤ c → d ≤ e → ((m : ℕ) → a ≤ m → b ≤ m → c ≤ m) → NonePasses rule start dated a b → IsNextWithin rule start dated c d m → IsNextWithin rule start dated a e m
next_joined rule start dated a b c d e m low high le none next =
    let from = next.from in let below = next.below in
    record {
      from = omega (arith, from);
      below = omega (arith, below);
      passing = next.passing;
      none_before = stretch_joined rule start dated a b c m le none next.none_before;
    }

-- What passes and what fails in a minute, an hour and a day.

module _ (rule : Rule) (day0 second0 day : ℕ) (coarse : is_fine rule.freq ≡ false) (small : second0 < 86400) (p : day_passes rule day0 day ≡ true) where
  abbrev start : ℕ
  start = 86400 * day0 + second0

  passing_day : day_passes rule (day_of_moment (86400 * day0 + second0)) day ≡ true
  passing_day = let same = day_of_start day0 second0 small in rw same p

  at : (hour minute second : ℕ) → hour < 24 → minute < 60 → second < 60 →
      passes rule (86400 * day0 + second0) false (86400 * day + 3600 * hour + 60 * minute + second) ≡
      (if hour_opens rule (86400 * day0 + second0) day hour
      then (if part_passes rule.by_minute (second0 / 60 % 60) minute then part_passes rule.by_second (second0 % 60) second else false)
      else false)
  at hour minute second h m s =
      passes-timed rule (86400 * day0 + second0) day hour minute second coarse h m s passing_day
      ∙ ap (λ k. if hour_opens rule (86400 * day0 + second0) day hour then (if part_passes rule.by_minute (k / 60 % 60) minute then part_passes rule.by_second (k % 60) second else false) else false) (second_of_start day0 second0 small)

  pub second_is : (hour minute second : ℕ) → hour < 24 → minute < 60 → second < 60 → hour_opens rule (86400 * day0 + second0) day hour ≡ true → part_passes rule.by_minute (second0 / 60 % 60) minute ≡ true →
      passes rule (86400 * day0 + second0) false (86400 * day + 3600 * hour + 60 * minute + second) ≡ part_passes rule.by_second (second0 % 60) second
  second_is hour minute second h m s opens by = rw (opens, by) at (at hour minute second h m s)

  -- of minutes that fail none passes
  pub minutes_missed : (hour a b : ℕ) → hour < 24 → b ≤ 3600 → hour_opens rule (86400 * day0 + second0) day hour ≡ true →
      ((k : ℕ) → a ≤ k → k < b → part_passes rule.by_minute (second0 / 60 % 60) (k / 60) ≡ false) →
      NonePasses rule (86400 * day0 + second0) false (86400 * day + 3600 * hour + a) (86400 * day + 3600 * hour + b)
  minutes_missed hour a b h end opens fails = record {
    each = λ m low high.
        let shape : 86400 * day + 3600 * hour + 60 * ((m - (86400 * day + 3600 * hour)) / 60) + (m - (86400 * day + 3600 * hour)) % 60 ≡ m = omega arith in
        let there = at hour ((m - (86400 * day + 3600 * hour)) / 60) ((m - (86400 * day + 3600 * hour)) % 60) h (omega arith) (omega arith) in
        let missed = fails (m - (86400 * day + 3600 * hour)) (omega arith) (omega arith) in
        rw shape at (rw (opens, missed) at there);
  }

  -- nor of seconds
  pub seconds_missed : (hour minute a b : ℕ) → hour < 24 → minute < 60 → b ≤ 60 → hour_opens rule (86400 * day0 + second0) day hour ≡ true → part_passes rule.by_minute (second0 / 60 % 60) minute ≡ true →
      ((k : ℕ) → a ≤ k → k < b → part_passes rule.by_second (second0 % 60) k ≡ false) →
      NonePasses rule (86400 * day0 + second0) false (86400 * day + 3600 * hour + 60 * minute + a) (86400 * day + 3600 * hour + 60 * minute + b)
  seconds_missed hour minute a b h m end opens by fails = record {
    each = λ k low high.
        let shape : 86400 * day + 3600 * hour + 60 * minute + (k - (86400 * day + 3600 * hour + 60 * minute)) ≡ k = omega arith in
        let there = second_is hour minute (k - (86400 * day + 3600 * hour + 60 * minute)) h m (omega arith) opens by in
        let missed = fails (k - (86400 * day + 3600 * hour + 60 * minute)) (omega arith) (omega arith) in
        rw shape at (rw missed at there);
  }

  -- nor of hours
  pub hours_missed : (a b : ℕ) → b ≤ 86400 → ((k : ℕ) → a ≤ k → k < b → hour_opens rule (86400 * day0 + second0) day (k / 3600) ≡ false) →
      NonePasses rule (86400 * day0 + second0) false (86400 * day + a) (86400 * day + b)
  hours_missed a b end fails = record {
    each = λ m low high.
        let shape : 86400 * day + 3600 * ((m - 86400 * day) / 3600) + 60 * ((m - 86400 * day) % 3600 / 60) + (m - 86400 * day) % 60 ≡ m = omega arith in
        let there = at ((m - 86400 * day) / 3600) ((m - 86400 * day) % 3600 / 60) ((m - 86400 * day) % 60) (omega arith) (omega arith) (omega arith) in
        let missed = fails (m - 86400 * day) (omega arith) (omega arith) in
        rw shape at (rw missed at there);
  }

-- A DATE.

-- the first second of a day stands for it
pub midnight_is : (rule : Rule) (start day second : ℕ) → second < 86400 → day_passes rule (day_of_moment start) day ≡ true →
    passes rule start true (86400 * day + second) ≡ (if period_passes rule start (86400 * day + second) then second == 0 else false)
unfolding time_passes
midnight_is rule start day second h p = passes-on_day rule start true day second h p

pub midnight_late : (rule : Rule) (start day from : ℕ) → 0 < from → day_passes rule (day_of_moment start) day ≡ true → NonePasses rule start true (86400 * day + from) (86400 * day + 86400)
midnight_late rule start day from some p = record {
  each = λ m low high.
      let shape : 86400 * day + (m - 86400 * day) ≡ m = omega arith in
      let not_first : ((m - 86400 * day) == 0) ≡ false = grind arith in
      let there = midnight_is rule start day (m - 86400 * day) (omega arith) p in
      let fails : passes rule start true (86400 * day + (m - 86400 * day)) ≡ false = there ∙ (ap (λ b. if period_passes rule start (86400 * day + (m - 86400 * day)) then b else false) not_first ∙ if_false (period_passes rule start (86400 * day + (m - 86400 * day)))) in
      rw shape at fails;
}

pub midnight_uncounted : (rule : Rule) (start day : ℕ) → period_passes rule start (86400 * day + 0) ≡ false → day_passes rule (day_of_moment start) day ≡ true → NonePasses rule start true (86400 * day + 0) (86400 * day + 86400)
midnight_uncounted rule start day fails p =
    NonePasses-joined rule start true (86400 * day + 0) (86400 * day + 1) (86400 * day + 86400)
    (NonePasses-one rule start true (86400 * day + 0) (86400 * day + 1) (midnight_is rule start day 0 (omega arith) p ∙ ap (λ b. if b then 0 == 0 else false) fails) (omega arith))
    (midnight_late rule start day 1 (omega arith) p)

-- Years.

pub year_first : (day : ℕ) → first_of_year (year_of day) ≤ day
year_first day = year_of-first day

pub year_last : (day : ℕ) → day < first_of_year (year_of day + 1)
year_last day = year_of-last day

pub year_end : (year : ℕ) → first_of_year (year + 1) ≤ first_of_year year + 366
year_end year = omega arith

pub year_zero : (day : ℕ) → day < 366 → 0 ≡ year_of day
year_zero day h = sym (year_of-only day 0 (omega arith) (omega arith))
