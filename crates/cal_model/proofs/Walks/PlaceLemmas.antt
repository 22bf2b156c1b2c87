-- A place of BYSETPOS that no period has picks nothing.
use Rattle.std.proofs.Common.{◌≡◌, ◌⊎◌, ℕ, zero, suc, ◌+◌, ◌*◌, ◌/◌, ◌%◌, ◌<◌, ◌≤◌, List, [], ◌∷◌, length, get_or, refl, sym, ◌∙◌, arith, Bool, true, false, inl, inr, ℤ, pos, negsuc}
use Rattle.std.specs.Prelude.{All, filter, count_by, nat_le, ◌==◌, if◌then◌else◌}
use Rattle.std.specs.List.{list_any}
use Rattle.std.proofs.lemmas.Bool.{cases_Bool, eqb-true, leb-false, ltb-false}
use Rattle.std.proofs.lemmas.List.Elements.{All-head, All-tail}
use Rattle.std.proofs.lemmas.List.Sums.{length-filter}
use Rattle.cal_moment.specs.Calendar.{day_of_moment, second_of_day, seconds_since_1970}
use Rattle.cal_model.specs.declared.rule.Rule.{Rule}
use Rattle.cal_model.specs.declared.rule.Freq.{Freq}
use Rattle.cal_model.specs.declared.rule.Freq.TheVariants.{Secondly, Minutely, Hourly, Daily, Weekly, Monthly, Yearly}
use Rattle.cal_model.specs.Words.Lists.{is_empty, numbers_between}
use Rattle.cal_model.specs.Words.Integers.{names_place, some_names_place}
use Rattle.cal_model.specs.Recurrence.NextPassing.{end_day, is_fine}
use Rattle.cal_model.specs.Recurrence.Passing.{passes, period_number, period_passes, day_passes, time_passes, part_passes, hour_passes}
use Rattle.cal_model.specs.Recurrence.RecurrenceSet.{Reading, at_places, first_moment, same_period, place_in_period, size_of_period}
use Rattle.cal_model.specs.Walks.DayTimes.{times_of_day}
use Rattle.cal_model.specs.Walks.KeptMoments.{found_from, found_between, kept_from}
use Rattle.cal_model.specs.Walks.Places.{is_place_within, is_day_of, days_of_period, HasDaysAtMost, IsMostInPeriod, PicksNothing}
use Rattle.cal_model.proofs.Recurrence.Rising.{count_le}
use Rattle.cal_model.proofs.Recurrence.Periods.{count_one, count_zero}
use Rattle.cal_model.proofs.Words.CountedRuns.{count_in, count_in-cut, count_in-one, count_in-shifted, count_in-within, count_in-blocks_at_most}
use Rattle.cal_model.proofs.Walks.KeptLemmas.{is_found}
use Rattle.cal_model.proofs.Walks.DayCounts.{both}

count_filter : (p q : ℕ → Bool) (xs : List ℕ) → count_by q (filter p xs) ≤ count_by (λ x. if q x then p x else false) xs
count_filter p q [] = omega arith
count_filter p q (x ∷ xs) =
    let rest = count_filter p q xs in
    elim (cases_Bool (p x)) [
      | inl w ↦ (let kept : filter p (x ∷ xs) ≡ x ∷ filter p xs = rw w refl in elim (cases_Bool (q x)) [
        | inl v ↦ (let test : (if q x then p x else false) ≡ true = rw v w in
            let a = count_one q x (filter p xs) v in let b = count_one (λ x. if q x then p x else false) x xs test in rw kept (omega (arith, rest, a, b)))
        | inr v ↦ (let test : (if q x then p x else false) ≡ false = rw v refl in
            let a = count_zero q x (filter p xs) v in let b = count_zero (λ x. if q x then p x else false) x xs test in rw kept (omega (arith, rest, a, b)))
      ])
      | inr w ↦ (let left_out : filter p (x ∷ xs) ≡ filter p xs = rw w refl in
          let test : (if q x then p x else false) ≡ false = elim (cases_Bool (q x)) [ inl v ↦ rw v w | inr v ↦ rw v refl ] in
          let b = count_zero (λ x. if q x then p x else false) x xs test in rw left_out (omega (arith, rest, b)))
    ]

at_most_itself : (n : ℕ) → n ≤ n
at_most_itself n = omega arith

module _ (rule : Rule) (start : ℕ) (reading : Reading) (m : ℕ) where
  -- a moment is found in the period of m
  abbrev here : ℕ → Bool
  here k = if same_period rule m k then is_found rule start reading k else false

  here_period : (k : ℕ) → here k ≡ true → period_number rule.freq rule.week_start m ≡ period_number rule.freq rule.week_start k
  here_period k w = eqb-true _ _ (both (same_period rule m k) (is_found rule start reading k) w).0

  here_timed : (k : ℕ) → here k ≡ true → time_passes rule (second_of_day start) reading.dated (second_of_day k) ≡ true
  here_timed k w =
      let found = (both (same_period rule m k) (is_found rule start reading k) w).1 in
      let passing = (both (passes rule start reading.dated k) (reading.exists (seconds_since_1970 k)) found).0 in
      let dayed = (both (period_passes rule start k) (if day_passes rule (day_of_moment start) (day_of_moment k) then time_passes rule (second_of_day start) reading.dated (second_of_day k) else false) passing).1 in
      (both (day_passes rule (day_of_moment start) (day_of_moment k)) (time_passes rule (second_of_day start) reading.dated (second_of_day k)) dayed).1

  here_dayed : (k : ℕ) → here k ≡ true → day_passes rule (day_of_moment start) (day_of_moment k) ≡ true
  here_dayed k w =
      let found = (both (same_period rule m k) (is_found rule start reading k) w).1 in
      let passing = (both (passes rule start reading.dated k) (reading.exists (seconds_since_1970 k)) found).0 in
      let dayed = (both (period_passes rule start k) (if day_passes rule (day_of_moment start) (day_of_moment k) then time_passes rule (second_of_day start) reading.dated (second_of_day k) else false) passing).1 in
      (both (day_passes rule (day_of_moment start) (day_of_moment k)) (time_passes rule (second_of_day start) reading.dated (second_of_day k)) dayed).0

  -- Its day, where a period has whole days.

  abbrev is_whole : Freq → Type 0
  is_whole freq = (freq ≡ Daily) ⊎ ((freq ≡ Weekly) ⊎ ((freq ≡ Monthly) ⊎ (freq ≡ Yearly)))

  same_by_day : (freq : Freq) → is_whole freq → (k : ℕ) → period_number freq rule.week_start (86400 * (k / 86400)) ≡ period_number freq rule.week_start k
  same_by_day freq (inl e) k = let day : 86400 * (k / 86400) / 86400 ≡ k / 86400 = omega arith in rw e (rw day refl)
  same_by_day freq (inr (inl e)) k = let day : 86400 * (k / 86400) / 86400 ≡ k / 86400 = omega arith in rw e (rw day refl)
  same_by_day freq (inr (inr (inl e))) k = let day : 86400 * (k / 86400) / 86400 ≡ k / 86400 = omega arith in rw e (rw day refl)
  same_by_day freq (inr (inr (inr e))) k = let day : 86400 * (k / 86400) / 86400 ≡ k / 86400 = omega arith in rw e (rw day refl)

  here_day : is_whole rule.freq → (k : ℕ) → here k ≡ true → is_day_of rule start m (k / 86400) ≡ true
  here_day whole k w =
      let same = here_period k w ∙ sym (same_by_day rule.freq whole k) in
      let test : (period_number rule.freq rule.week_start m == period_number rule.freq rule.week_start (86400 * (k / 86400))) ≡ true = rw same (grind arith) in
      rw test (here_dayed k w)

  -- Its hour, minute and second.

  hour_test : ℕ → Bool
  hour_test h = if reading.dated then h == 0 else hour_passes rule.freq rule.by_hour (second_of_day start / 3600) h

  minute_test : ℕ → Bool
  minute_test n = if reading.dated then n == 0 else part_passes rule.by_minute (second_of_day start / 60 % 60) n

  second_test : ℕ → Bool
  second_test n = if reading.dated then n == 0 else part_passes rule.by_second (second_of_day start % 60) n

  tests : (s : ℕ) (dated : Bool) → time_passes rule (second_of_day start) dated s ≡ true → ((if dated then s / 3600 == 0 else hour_passes rule.freq rule.by_hour (second_of_day start / 3600) (s / 3600)) ≡ true)
      × ((if dated then s / 60 % 60 == 0 else part_passes rule.by_minute (second_of_day start / 60 % 60) (s / 60 % 60)) ≡ true) × ((if dated then s % 60 == 0 else part_passes rule.by_second (second_of_day start % 60) (s % 60)) ≡ true)
  unfolding time_passes
  tests s true h = let zero : s ≡ 0 = eqb-true _ _ h in rw zero (refl, refl, refl)
  tests s false h =
      let a = both (hour_passes rule.freq rule.by_hour (second_of_day start / 3600) (s / 3600)) (if part_passes rule.by_minute (second_of_day start / 60 % 60) (s / 60 % 60) then part_passes rule.by_second (second_of_day start % 60) (s % 60) else false) h in
      let b = both (part_passes rule.by_minute (second_of_day start / 60 % 60) (s / 60 % 60)) (part_passes rule.by_second (second_of_day start % 60) (s % 60)) a.1 in
      (a.0, b.0, b.1)

  here_hour : (k : ℕ) → here k ≡ true → hour_test (k / 3600 % 24) ≡ true
  unfolding hour_test
  here_hour k w = let at : k % 86400 / 3600 ≡ k / 3600 % 24 = omega arith in rw at at (tests (second_of_day k) reading.dated (here_timed k w)).0

  here_minute : (k : ℕ) → here k ≡ true → minute_test (k / 60 % 60) ≡ true
  unfolding minute_test
  here_minute k w = let at : k % 86400 / 60 % 60 ≡ k / 60 % 60 = omega arith in rw at at (tests (second_of_day k) reading.dated (here_timed k w)).1

  here_second : (k : ℕ) → here k ≡ true → second_test (k % 60) ≡ true
  unfolding second_test
  here_second k w = let at : k % 86400 % 60 ≡ k % 60 = omega arith in rw at at (tests (second_of_day k) reading.dated (here_timed k w)).2

  -- How many are found in a minute, an hour and some days.
  module _ (minutes seconds : ℕ) (few_minutes : (s : ℕ) → count_in (part_passes rule.by_minute s) 0 60 ≤ minutes) (few_seconds : (s : ℕ) → count_in (part_passes rule.by_second s) 0 60 ≤ seconds)
      (some_minutes : 1 ≤ minutes) (some_seconds : 1 ≤ seconds) where
    second_count : (dated : Bool) → count_in (λ n. if dated then n == 0 else part_passes rule.by_second (second_of_day start % 60) n) 0 60 ≤ seconds
    second_count true = let one = count_in-one (λ n. n == 0) 0 0 60 (omega arith) (λ n w. eqb-true _ _ w) in omega (arith, one, some_seconds)
    second_count false = few_seconds (second_of_day start % 60)

    minute_count : (dated : Bool) → count_in (λ n. if dated then n == 0 else part_passes rule.by_minute (second_of_day start / 60 % 60) n) 0 60 ≤ minutes
    minute_count true = let one = count_in-one (λ n. n == 0) 0 0 60 (omega arith) (λ n w. eqb-true _ _ w) in omega (arith, one, some_minutes)
    minute_count false = few_minutes (second_of_day start / 60 % 60)

    in_minute : (j : ℕ) → count_in here (60 * j) (60 * (j + 1)) ≤ seconds
    unfolding second_test
    in_minute j =
        let shift = count_in-shifted here second_test (60 * j) 60 (60 * (j + 1)) (omega arith) (λ i lt w. let at : (60 * j + i) % 60 ≡ i = omega (arith, lt) in rw at at (here_second (60 * j + i) w)) in
        let few = second_count reading.dated in
        omega (arith, shift, few)

    minutes_of_hour : (h : ℕ) → count_in (λ j. minute_test (j % 60)) (60 * h) (60 * h + 60) ≤ minutes
    unfolding minute_test
    minutes_of_hour h =
        let shift = count_in-shifted (λ j. minute_test (j % 60)) minute_test (60 * h) 60 (60 * h + 60) (omega arith) (λ i lt w. let at : (60 * h + i) % 60 ≡ i = omega (arith, lt) in rw at at w) in
        let few = minute_count reading.dated in
        omega (arith, shift, few)

    in_hour : (h : ℕ) → count_in here (3600 * h) (3600 * (h + 1)) ≤ minutes * seconds
    in_hour h =
        let first : 60 * (60 * h) ≡ 3600 * h = omega arith in
        let last : 60 * (60 * h + 60) ≡ 3600 * (h + 1) = omega arith in
        rw (first, last) at (count_in-blocks_at_most here (λ j. minute_test (j % 60)) (λ j. 60 * j) (λ k. k / 60) seconds (λ d. omega arith) (λ d k low high. omega (arith, low, high)) in_minute here_minute 60 (60 * h) minutes (minutes_of_hour h))

    module _ (coarse : (h s : ℕ) → hour_passes rule.freq rule.by_hour s h ≡ part_passes rule.by_hour s h) (hours : ℕ) (few_hours : (s : ℕ) → count_in (part_passes rule.by_hour s) 0 24 ≤ hours) (some_hours : 1 ≤ hours) where
      hour_count : (dated : Bool) → count_in (λ n. if dated then n == 0 else hour_passes rule.freq rule.by_hour (second_of_day start / 3600) n) 0 24 ≤ hours
      hour_count true = let one = count_in-one (λ n. n == 0) 0 0 24 (omega arith) (λ n w. eqb-true _ _ w) in omega (arith, one, some_hours)
      hour_count false =
          let less = count_le (hour_passes rule.freq rule.by_hour (second_of_day start / 3600)) (part_passes rule.by_hour (second_of_day start / 3600)) (numbers_between 0 24) (λ h w. sym (coarse h (second_of_day start / 3600)) ∙ w) in
          let few = few_hours (second_of_day start / 3600) in
          omega (arith, less, few)

      hours_of_day : (d : ℕ) → count_in (λ h. hour_test (h % 24)) (24 * d) (24 * d + 24) ≤ hours
      unfolding hour_test
      hours_of_day d =
          let shift = count_in-shifted (λ h. hour_test (h % 24)) hour_test (24 * d) 24 (24 * d + 24) (omega arith) (λ i lt w. let at : (24 * d + i) % 24 ≡ i = omega (arith, lt) in rw at at w) in
          let few = hour_count reading.dated in
          omega (arith, shift, few)

      in_day : (d : ℕ) → count_in here (86400 * d) (86400 * (d + 1)) ≤ hours * (minutes * seconds)
      in_day d =
          let first : 3600 * (24 * d) ≡ 86400 * d = omega arith in
          let last : 3600 * (24 * d + 24) ≡ 86400 * (d + 1) = omega arith in
          rw (first, last) at (count_in-blocks_at_most here (λ h. hour_test (h % 24)) (λ h. 3600 * h) (λ k. k / 3600) (minutes * seconds) (λ d. omega arith) (λ d k low high. omega (arith, low, high)) in_hour here_hour 24 (24 * d) hours (hours_of_day d))

      in_days : is_whole rule.freq → (n days : ℕ) → count_in (is_day_of rule start m) 0 n ≤ days → count_in here 0 (86400 * n) ≤ days * (hours * (minutes * seconds))
      in_days whole n days few =
          let from : 0 + n ≡ n = omega arith in
          rw from at (
          count_in-blocks_at_most here (is_day_of rule start m) (λ d. 86400 * d) (λ k. k / 86400) (hours * (minutes * seconds)) (λ d. omega arith) (λ d k low high. omega (arith, low, high)) in_day (here_day whole) n 0 days (rw from few))

  -- Of the days of its period each has no more moments than times.

  day_count : (d : ℕ) → count_in here (86400 * d) (86400 * (d + 1)) ≤ length (times_of_day rule start reading.dated)
  day_count d =
      let shift = count_in-shifted here (λ second. time_passes rule (second_of_day start) reading.dated second) (86400 * d) 86400 (86400 * (d + 1)) (omega arith)
      (λ i lt w. let at : (86400 * d + i) % 86400 ≡ i = omega (arith, lt) in rw at at (here_timed (86400 * d + i) w)) in
      let size = length-filter (λ second. time_passes rule (second_of_day start) reading.dated second) (numbers_between 0 86400) in
      omega (arith, shift, size)

  pub found_at_most : is_whole rule.freq → (a b : ℕ) → a ≤ b → b ≤ 86400 * end_day → size_of_period rule (found_between rule start reading a b) m ≤ days_of_period rule start m * length (times_of_day rule start reading.dated)
  found_at_most whole a b le end =
      let some = count_filter (is_found rule start reading) (same_period rule m) (numbers_between a b) in
      let first = count_in-cut here 0 a (86400 * end_day) (omega arith) (omega (arith, le, end)) in
      let second = count_in-cut here a b (86400 * end_day) le end in
      let most : count_in here 0 (86400 * end_day) ≤ days_of_period rule start m * length (times_of_day rule start reading.dated) =
      count_in-blocks_at_most here (is_day_of rule start m) (λ d. 86400 * d) (λ k. k / 86400) (length (times_of_day rule start reading.dated)) (λ d. omega arith) (λ d k low high. omega (arith, low, high)) day_count (here_day whole) end_day 0 (days_of_period rule start m) (at_most_itself (days_of_period rule start m)) in
      omega (arith, some, first, second, most)

  -- The period of m lies in a stretch.

  size_at_most : (low high : ℕ) → low ≤ high → ((k : ℕ) → here k ≡ true → (low ≤ k) × (k < high)) → size_of_period rule (found_from rule start reading first_moment) m ≤ count_in here low high
  size_at_most low high rises lies =
      let some = count_filter (is_found rule start reading) (same_period rule m) (numbers_between first_moment (86400 * end_day)) in
      let few = count_in-within here low high first_moment (86400 * end_day) rises (omega arith) lies in
      omega (arith, some, few)

  size_in_all : size_of_period rule (found_from rule start reading first_moment) m ≤ count_in here 0 (86400 * end_day)
  size_in_all =
      let some = count_filter (is_found rule start reading) (same_period rule m) (numbers_between first_moment (86400 * end_day)) in
      let cut = count_in-cut here 0 first_moment (86400 * end_day) (omega arith) (omega arith) in
      omega (arith, some, cut)

  hour_size : rule.freq ≡ Hourly → size_of_period rule (found_from rule start reading first_moment) m ≤ count_in here (3600 * (m / 3600)) (3600 * (m / 3600 + 1))
  hour_size e = size_at_most (3600 * (m / 3600)) (3600 * (m / 3600 + 1)) (omega arith) (λ k w. let same = rw e at (here_period k w) in (omega (arith, same), omega (arith, same)))

module _ (rule : Rule) (minutes seconds : ℕ) (few_minutes : (s : ℕ) → count_in (part_passes rule.by_minute s) 0 60 ≤ minutes) (few_seconds : (s : ℕ) → count_in (part_passes rule.by_second s) 0 60 ≤ seconds)
    (some_minutes : 1 ≤ minutes) (some_seconds : 1 ≤ seconds) where
  -- an hour has so many moments
  most_of_hour : rule.freq ≡ Hourly → IsMostInPeriod rule (minutes * seconds)
  most_of_hour e = λ start m reading.
      let size = hour_size rule start reading m e in
      let most = in_hour rule start reading m minutes seconds few_minutes few_seconds some_minutes some_seconds (m / 3600) in
      omega (arith, size, most)

  -- and a longer period so many for each of its hours on each of its days
  pub most_of_period : is_fine rule.freq ≡ false → (days : ℕ) → HasDaysAtMost rule days → (rule.freq ≡ Hourly → days ≡ 1) → (hours : ℕ) → (rule.freq ≡ Hourly → hours ≡ 1) → ((rule.freq ≡ Hourly → ⊥) → (s : ℕ) → count_in (part_passes rule.by_hour s) 0 24 ≤ hours) → 1 ≤ hours →
      IsMostInPeriod rule (days * (hours * (minutes * seconds)))
  most_of_period coarse days few_days one_day hours one few_hours some_hours = λ start m reading. cases start m reading rule.freq refl
    where
      hour_parts : (freq : Freq) → (freq ≡ Hourly → ⊥) → (h s : ℕ) → hour_passes freq rule.by_hour s h ≡ part_passes rule.by_hour s h
      hour_parts Hourly longer h s = absurd (longer refl)
      hour_parts Secondly longer h s = refl
      hour_parts Minutely longer h s = refl
      hour_parts Daily longer h s = refl
      hour_parts Weekly longer h s = refl
      hour_parts Monthly longer h s = refl
      hour_parts Yearly longer h s = refl

      in_all : (start m : ℕ) (reading : Reading) → is_whole rule start reading m rule.freq → (rule.freq ≡ Hourly → ⊥) → size_of_period rule (found_from rule start reading first_moment) m ≤ days * (hours * (minutes * seconds))
      in_all start m reading whole longer =
          let size = size_in_all rule start reading m in
          let most = in_days rule start reading m minutes seconds few_minutes few_seconds some_minutes some_seconds (λ h s. hour_parts rule.freq longer h s) hours (few_hours longer) some_hours whole end_day days (few_days start m 0 end_day (omega arith)) in
          omega (arith, size, most)

      cases : (start m : ℕ) (reading : Reading) (freq : Freq) → rule.freq ≡ freq → size_of_period rule (found_from rule start reading first_moment) m ≤ days * (hours * (minutes * seconds))
      cases start m reading Hourly e = let most = most_of_hour e start m reading in let single = one e in let day = one_day e in rw (single, day) (omega (arith, most))
      cases start m reading Daily e = in_all start m reading (inl e) (λ h. let bad : Daily ≡ Hourly = sym e ∙ h in cc)
      cases start m reading Weekly e = in_all start m reading (inr (inl e)) (λ h. let bad : Weekly ≡ Hourly = sym e ∙ h in cc)
      cases start m reading Monthly e = in_all start m reading (inr (inr (inl e))) (λ h. let bad : Monthly ≡ Hourly = sym e ∙ h in cc)
      cases start m reading Yearly e = in_all start m reading (inr (inr (inr e))) (λ h. let bad : Yearly ≡ Hourly = sym e ∙ h in cc)
      cases start m reading Secondly e = absurd (let fine = rw e at coarse in cc)
      cases start m reading Minutely e = absurd (let fine = rw e at coarse in cc)

-- Places.

-- where no number is a place of so many, none names a place
none_named : (most place size : ℕ) (numbers : List ℤ) → list_any (is_place_within most) numbers ≡ false → 1 ≤ place → place ≤ size → size ≤ most → some_names_place numbers place size ≡ false
none_named most place size [] none some within few = refl
none_named most place size (n ∷ ns) none some within few =
    elim (cases_Bool (is_place_within most n)) [
      | inl w ↦ absurd (let one = rw w at none in cc)
      | inr w ↦ (let rest = rw w at none in let others = none_named most place size ns rest some within few in let fails = number_fails n w in rw fails others)
    ]
  where
    number_fails : (n : ℤ) → is_place_within most n ≡ false → names_place place size n ≡ false
    number_fails (pos n) w = elim (cases_Bool (n == place)) [ inl v ↦ absurd (let same = eqb-true _ _ v in let over = leb-false _ _ w in omega (arith, same, over, within, few)) | inr v ↦ v ]
    number_fails (negsuc n) w = elim (cases_Bool (place + n == size)) [ inl v ↦ absurd (let same = eqb-true _ _ v in let over = ltb-false _ _ w in omega (arith, same, over, some, few)) | inr v ↦ v ]

counted_member : (p : ℕ → Bool) (xs : List ℕ) (i d : ℕ) → i < length xs → p (get_or xs i d) ≡ true → 1 ≤ count_by p xs
counted_member p [] i d lt h = absurd (omega arith)
counted_member p (x ∷ xs) zero d lt h = let one = count_one p x xs h in omega (arith, one)
counted_member p (x ∷ xs) (suc i) d lt h =
    let rest = counted_member p xs i d (omega arith) h in
    elim (cases_Bool (p x)) [
      | inl w ↦ (let one = count_one p x xs w in omega (arith, one))
      | inr w ↦ (let none = count_zero p x xs w in omega (arith, none, rest))
    ]

all_fail : (p : ℕ → Bool) (xs : List ℕ) → All (λ x. p x ≡ false) xs → filter p xs ≡ []
all_fail p [] all = refl
all_fail p (x ∷ xs) all = let here = All-head (λ x. p x ≡ false) x xs all in rw here (all_fail p xs (All-tail (λ x. p x ≡ false) x xs all))

-- so of moments whose periods have no more none is picked
pub none_placed : (rule : Rule) (most : ℕ) (found : List ℕ) → All (λ m. size_of_period rule found m ≤ most) found → is_empty rule.by_set_pos ≡ false → list_any (is_place_within most) rule.by_set_pos ≡ false → at_places rule found ≡ []
none_placed rule most found few some none = rw some
    (all_fail (λ m. some_names_place rule.by_set_pos (place_in_period rule found m) (size_of_period rule found m)) found
    (λ i d lt.
    let m = get_or found i d in
    let test : (if nat_le m m then same_period rule m m else false) ≡ true = grind arith in
    none_named most (place_in_period rule found m) (size_of_period rule found m) rule.by_set_pos none
    (counted_member (λ k. if nat_le k m then same_period rule m k else false) found i d lt test)
    (count_le (λ k. if nat_le k m then same_period rule m k else false) (same_period rule m) found (λ k w. (both (nat_le k m) (same_period rule m k) w).1))
    (few i d lt)))

-- and of a rule whose periods have no more BYSETPOS picks nothing
pub none_picked : (rule : Rule) (most : ℕ) → IsMostInPeriod rule most → is_empty rule.by_set_pos ≡ false → list_any (is_place_within most) rule.by_set_pos ≡ false → PicksNothing rule
unfolding kept_from
none_picked rule most is some none = λ start reading.
    none_placed rule most (found_from rule start reading first_moment) (λ i d lt. is start (get_or (found_from rule start reading first_moment) i d) reading) some none
