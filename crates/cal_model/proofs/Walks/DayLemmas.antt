-- The moments of a day that passes: those of its times that exist.
use Rattle.std.proofs.Common.{◌≡◌, ℕ, zero, suc, ◌+◌, ◌-◌, ◌*◌, ◌/◌, ◌<◌, ◌≤◌, List, [], ◌∷◌, ◌++◌, refl, sym, ap, ◌∙◌, arith, Bool, true, false, inl, inr, append_assoc}
use Rattle.std.specs.Prelude.{All, filter, flat_map, nat_le, if◌then◌else◌}
use Rattle.std.proofs.lemmas.Bool.{cases_Bool}
use Rattle.std.proofs.lemmas.List.Elements.{filter-append, All-filter}
use Rattle.cal_moment.specs.declared.stamp.Local.{Local}
use Rattle.cal_moment.specs.Calendar.{day_number, day_of_moment, second_of_day, seconds_since_1970}
use Rattle.cal_model.specs.declared.rule.Rule.{Rule}
use Rattle.cal_model.specs.declared.rule.Freq.{Freq}
use Rattle.cal_model.specs.declared.rule.Freq.TheVariants.{Secondly, Minutely, Hourly, Daily, Weekly, Monthly, Yearly}
use Rattle.cal_model.specs.Words.Lists.{numbers_between, counted_from}
use Rattle.cal_model.specs.Values.LocalTimes.{moment_of_local}
use Rattle.cal_model.specs.Recurrence.NextPassing.{NonePasses, is_fine}
use Rattle.cal_model.specs.Recurrence.RuleBounds.{IsWritten}
use Rattle.cal_model.specs.Recurrence.Passing.{passes, period_number, period_passes, day_passes, time_passes}
use Rattle.cal_model.specs.Recurrence.RecurrenceSet.{Reading}
use Rattle.cal_model.specs.Walks.DayTimes.{times_of_day}
use Rattle.cal_model.specs.Walks.KeptMoments.{found_between, if_there}
use Rattle.cal_model.proofs.Words.CountedLemmas.{numbers_between-cut}
use Rattle.cal_model.proofs.Walks.DayCounts.{both}
use Rattle.cal_model.proofs.Walks.KeptLemmas.{is_found, found_between-cut, found_between-failing, one_period, all_within}

-- a period of whole days has the moments of one day together
pub same_by_day : (freq : Freq) (week_start a b : ℕ) → is_fine freq ≡ false → (freq ≡ Hourly → ⊥) → a / 86400 ≡ b / 86400 → period_number freq week_start a ≡ period_number freq week_start b
same_by_day Secondly week_start a b coarse whole h = absurd cc
same_by_day Minutely week_start a b coarse whole h = absurd cc
same_by_day Hourly week_start a b coarse whole h = absurd (whole refl)
same_by_day Daily week_start a b coarse whole h = rw h refl
same_by_day Weekly week_start a b coarse whole h = rw h refl
same_by_day Monthly week_start a b coarse whole h = rw h refl
same_by_day Yearly week_start a b coarse whole h = rw h refl

-- the moment of a day at one of its times, if that is not before a second, and exists
abbrev pub at_time : Reading → ℕ → ℕ → ℕ → List ℕ
at_time reading base from s = if nat_le from s then if_there reading (base + s) else []

-- those at some of its times
abbrev pub kept_times : Reading → ℕ → ℕ → List ℕ → List ℕ
kept_times reading base from times = flat_map (at_time reading base from) times

kept_times-append : (reading : Reading) (base from : ℕ) (xs ys : List ℕ) → kept_times reading base from (xs ++ ys) ≡ kept_times reading base from xs ++ kept_times reading base from ys
kept_times-append reading base from [] ys = refl
kept_times-append reading base from (x ∷ xs) ys = rw (kept_times-append reading base from xs ys, append_assoc) refl

module _ (rule : Rule) (start : ℕ) (reading : Reading) where
  abbrev is_time : ℕ → Bool
  is_time s = time_passes rule (second_of_day start) reading.dated s

  pub times_small : (dated : Bool) → All (λ s. s < 86400) (times_of_day rule start dated)
  times_small dated = All-filter (λ s. time_passes rule (second_of_day start) dated s) (λ s. s < 86400) (numbers_between 0 86400) (all_within rule start reading (λ s. s < 86400) 0 86400 (λ m low high. omega (arith, high)))

  module _ (base : ℕ) (timed : (s : ℕ) → s < 86400 → passes rule start reading.dated (base + s) ≡ is_time s) where
    from_second : (from a n : ℕ) → a + n ≤ 86400 → from ≤ a → kept_times reading base from (filter is_time (counted_from a n)) ≡ filter (is_found rule start reading) (counted_from (base + a) n)
    unfolding counted_from
    from_second from a zero end low = refl
    from_second from a (suc n) end low =
        let rest = from_second from (a + 1) n (omega (arith, end)) (omega (arith, low)) in
        let shape : base + (a + 1) ≡ base + a + 1 = omega arith in
        let others = rw shape at rest in
        let late : nat_le from a ≡ true = grind (arith, low) in
        let same = timed a (omega (arith, end)) in
        elim (cases_Bool (is_time a)) [
          | inl w ↦ (let passing : passes rule start reading.dated (base + a) ≡ true = same ∙ w in
              elim (cases_Bool (reading.exists (seconds_since_1970 (base + a)))) [
                | inl there ↦ rw (w, late, passing, there, others) refl
                | inr skipped ↦ rw (w, late, passing, skipped, others) refl
              ])
          | inr w ↦ (let failing : passes rule start reading.dated (base + a) ≡ false = same ∙ w in rw (w, failing, others) refl)
        ]

    before_second : (from a n : ℕ) → a + n ≤ from → kept_times reading base from (filter is_time (counted_from a n)) ≡ []
    unfolding counted_from
    before_second from a zero end = refl
    before_second from a (suc n) end =
        let rest = before_second from (a + 1) n (omega (arith, end)) in
        let early : nat_le from a ≡ false = grind (arith, end) in
        elim (cases_Bool (is_time a)) [
          | inl w ↦ rw (w, early, rest) refl
          | inr w ↦ rw (w, rest) refl
        ]

    whole_day : (from : ℕ) → from < 86400 → kept_times reading base from (times_of_day rule start reading.dated) ≡ found_between rule start reading (base + from) (base + 86400)
    whole_day from small =
        let cut = numbers_between-cut 0 from 86400 (omega arith) (omega (arith, small)) in
        let early = before_second from 0 from (omega arith) in
        let late = from_second from from (86400 - from) (omega (arith, small)) (omega arith) in
        let size : base + 86400 - (base + from) ≡ 86400 - from = omega arith in
        let none : from - 0 ≡ from = omega arith in
        rw (cut, filter-append, kept_times-append, none, early, size, late) refl

  -- the rest of the day of a moment that passes
  pub day_kept : (m : ℕ) → is_fine rule.freq ≡ false → (rule.freq ≡ Hourly → ⊥) → passes rule start reading.dated m ≡ true →
      kept_times reading (86400 * day_of_moment m) (second_of_day m) (times_of_day rule start reading.dated) ≡ found_between rule start reading m (86400 * (day_of_moment m + 1))
  day_kept m coarse whole passing =
      let base = 86400 * day_of_moment m in
      let of_period = both (period_passes rule start m) (if day_passes rule (day_of_moment start) (day_of_moment m) then time_passes rule (second_of_day start) reading.dated (second_of_day m) else false) passing in
      let of_day = both (day_passes rule (day_of_moment start) (day_of_moment m)) (time_passes rule (second_of_day start) reading.dated (second_of_day m)) of_period.1 in
      let timed : (s : ℕ) → s < 86400 → passes rule start reading.dated (86400 * day_of_moment m + s) ≡ is_time s = λ s small.
      let day : day_of_moment (86400 * day_of_moment m + s) ≡ day_of_moment m = omega arith in
      let second : second_of_day (86400 * day_of_moment m + s) ≡ s = omega arith in
      let number : period_number rule.freq rule.week_start (86400 * day_of_moment m + s) ≡ period_number rule.freq rule.week_start m = same_by_day rule.freq rule.week_start (86400 * day_of_moment m + s) m coarse whole day in
      let period : period_passes rule start (86400 * day_of_moment m + s) ≡ true = rw number of_period.0 in
      rw (period, day, of_day.0, second) refl in
      let at : 86400 * day_of_moment m + second_of_day m ≡ m = omega arith in
      let end : 86400 * day_of_moment m + 86400 ≡ 86400 * (day_of_moment m + 1) = omega arith in
      rw (at, end) at (whole_day (86400 * day_of_moment m) timed (second_of_day m) (omega arith))

  -- the moments of one day more, and those that fail behind it
  pub day_gathered : (found more : List ℕ) (a m b c : ℕ) → a ≤ m → found ≡ found_between rule start reading a m → more ≡ found ++ found_between rule start reading m b → b ≡ 86400 * (day_of_moment m + 1) → b ≤ c → NonePasses rule start reading.dated b c →
      more ≡ found_between rule start reading a c
  day_gathered found more a m b c le is grown next up none =
      let behind : m ≤ b = omega (arith, next) in
      grown ∙ (ap (λ xs. xs ++ found_between rule start reading m b) is ∙ (sym (found_between-cut rule start reading a m b le behind) ∙ sym (found_between-failing rule start reading a b c (omega (arith, le, behind)) up none)))

  -- and of one period
  pub day_gathered_one : (found more : List ℕ) (a m b n : ℕ) → is_fine rule.freq ≡ false → (rule.freq ≡ Hourly → ⊥) → a ≤ m → found ≡ found_between rule start reading a m → more ≡ found ++ found_between rule start reading m b → b ≡ 86400 * (day_of_moment m + 1) →
      period_number rule.freq rule.week_start a ≡ n → period_number rule.freq rule.week_start m ≡ n → All (λ k. period_number rule.freq rule.week_start k ≡ n) more
  day_gathered_one found more a m b n coarse whole le is grown next first last =
      let behind : m ≤ b = omega (arith, next) in
      let all : more ≡ found_between rule start reading a b = grown ∙ (ap (λ xs. xs ++ found_between rule start reading m b) is ∙ sym (found_between-cut rule start reading a m b le behind)) in
      let end : b - 1 + 1 ≡ b = omega (arith, next) in
      let day : (b - 1) / 86400 ≡ m / 86400 = omega (arith, next) in
      let same = same_by_day rule.freq rule.week_start (b - 1) m coarse whole day in
      let within = one_period rule start reading a (b - 1) n (omega (arith, le, next)) first (same ∙ last) in
      rw all (rw end at within)

-- one time more
pub kept_one : (reading : Reading) (base from s : ℕ) (rest behind found more whole : List ℕ) → rest ≡ s ∷ behind → found ++ kept_times reading base from rest ≡ whole → more ≡ found ++ at_time reading base from s → more ++ kept_times reading base from behind ≡ whole
kept_one reading base from s rest behind found more whole is so_far grown = let before = rw is at so_far in rw (grown, append_assoc) before

-- a written moment by its day and second
pub day_and_second : (l : Local) → IsWritten l → (day_of_moment (moment_of_local l) ≡ day_number l.day) × (second_of_day (moment_of_local l) ≡ l.second)
day_and_second l w = let small = w.second_below in (omega (arith, small), omega (arith, small))
