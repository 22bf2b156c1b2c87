-- The seconds of a day that pass, block by block: those of an hour, of a minute, and a second alone.
use Rattle.std.proofs.Common.{◌≡◌, ◌≢◌, ℕ, zero, suc, ◌+◌, ◌-◌, ◌*◌, ◌/◌, ◌%◌, ◌<◌, ◌≤◌, List, [], ◌∷◌, ◌++◌, refl, arith, Bool, true, false}
use Rattle.std.specs.Prelude.{filter, ◌==◌}
use Rattle.std.proofs.lemmas.List.{append_assoc, append-nil}
use Rattle.std.proofs.lemmas.List.Elements.{filter-append}
use Rattle.cal_model.specs.declared.rule.Rule.{Rule}
use Rattle.cal_model.specs.declared.rule.Freq.{Freq}
use Rattle.cal_model.specs.declared.rule.Freq.TheVariants.{Secondly, Minutely, Hourly, Daily, Weekly, Monthly, Yearly}
use Rattle.cal_model.specs.Words.Lists.{counted_from, numbers_between}
use Rattle.cal_model.specs.Recurrence.Passing.{time_passes, part_passes, hour_passes}
use Rattle.cal_model.specs.Walks.DayTimes.{second_passes, minute_passes}
use Rattle.cal_model.proofs.Words.CountedLemmas.{numbers_between-cut, filter-none, filter-next}

-- Numbers in a row.

counted_agree : (p q : ℕ → Bool) (first n : ℕ) → ((m : ℕ) → first ≤ m → m < first + n → p m ≡ q m) → filter p (counted_from first n) ≡ filter q (counted_from first n)
unfolding counted_from
counted_agree p q first zero h = refl
counted_agree p q first (suc n) h =
    let here : p first ≡ q first = h first (omega arith) (omega arith) in
    let rest = counted_agree p q (first + 1) n (λ m low high. h m (omega arith) (omega arith)) in
    rw (here, rest) refl

-- two tests that agree on them keep the same
filter-agreed : (p q : ℕ → Bool) (a b : ℕ) → ((m : ℕ) → a ≤ m → m < b → p m ≡ q m) → filter p (numbers_between a b) ≡ filter q (numbers_between a b)
filter-agreed p q a b h = counted_agree p q a (b - a) (λ m low high. h m low (omega arith))

-- one number alone that passes
pub filter-one : (p : ℕ → Bool) (n m : ℕ) → m ≡ n + 1 → p n ≡ true → filter p (numbers_between n m) ≡ n ∷ []
unfolding counted_from
filter-one p n m e h =
    let size : m - n ≡ suc 0 = omega (arith, e) in
    rw size (rw h refl)

-- before the first stretch nothing is put
pub nothing_put : (p : ℕ → Bool) (a b : ℕ) (before : List ℕ) → b ≤ a → before ≡ before ++ filter p (numbers_between a b)
nothing_put p a b before h =
    let none = filter-none p a b (λ m low high. absurd (omega (arith, low, high, h))) in
    rw (none, append-nil) refl

-- what passes of the next stretch, put behind
pub stretch_put : (p : ℕ → Bool) (a b c : ℕ) (before out after added : List ℕ) → a ≤ b → b ≤ c → out ≡ before ++ filter p (numbers_between a b) → filter p (numbers_between b c) ≡ added → after ≡ out ++ added → after ≡ before ++ filter p (numbers_between a c)
stretch_put p a b c before out after added low high so_far next put =
    rw (put, so_far, numbers_between-cut a b c low high, filter-append, next) (append_assoc before (filter p (numbers_between a b)) added)

-- where nothing of it passes, nothing is put
pub stretch_left_out : (p : ℕ → Bool) (a b c : ℕ) (before out : List ℕ) → a ≤ b → b ≤ c → out ≡ before ++ filter p (numbers_between a b) → ((m : ℕ) → b ≤ m → m < c → p m ≡ false) → out ≡ before ++ filter p (numbers_between a c)
stretch_left_out p a b c before out low high so_far none =
    rw (numbers_between-cut a b c low high, filter-append, filter-none p b c none) (rw append-nil so_far)

-- Minutes and hours.

module _ (rule : Rule) (of_start : ℕ) where
  in_minute : (minute m : ℕ) → 60 * minute ≤ m → m < 60 * minute + 60 → m / 60 % 60 ≡ minute % 60
  in_minute minute m low high = omega (arith, low, high)

  -- a minute that passes: BYSECOND decides
  pub minute_kept : (minute b c : ℕ) → b ≡ 60 * minute → c ≡ 60 * minute + 60 → part_passes rule.by_minute (of_start / 60 % 60) (minute % 60) ≡ true →
      filter (minute_passes rule of_start) (numbers_between b c) ≡ filter (second_passes rule of_start) (numbers_between (60 * minute) (60 * minute + 60))
  minute_kept minute b c low high h = rw (low, high) (filter-agreed (minute_passes rule of_start) (second_passes rule of_start) (60 * minute) (60 * minute + 60)
      (λ m low high. rw (in_minute minute m low high, h) refl))

  pub minute_fails : (minute : ℕ) → part_passes rule.by_minute (of_start / 60 % 60) (minute % 60) ≡ false → (m : ℕ) → 60 * minute ≤ m → m < 60 * minute + 60 → minute_passes rule of_start m ≡ false
  minute_fails minute h m low high = rw (in_minute minute m low high, h) refl

  longer_hour : (freq : Freq) → (freq ≡ Hourly → ⊥) → (hour : ℕ) → hour_passes freq rule.by_hour (of_start / 3600) hour ≡ part_passes rule.by_hour (of_start / 3600) hour
  longer_hour Hourly longer hour = absurd (longer refl)
  longer_hour Secondly longer hour = refl
  longer_hour Minutely longer hour = refl
  longer_hour Daily longer hour = refl
  longer_hour Weekly longer hour = refl
  longer_hour Monthly longer hour = refl
  longer_hour Yearly longer hour = refl

  in_hour : (hour m : ℕ) → 3600 * hour ≤ m → m < 3600 * hour + 3600 → m / 3600 ≡ hour
  in_hour hour m low high = omega (arith, low, high)

  timed_in_hour : (rule.freq ≡ Hourly → ⊥) → (hour : ℕ) → part_passes rule.by_hour (of_start / 3600) hour ≡ true → (m : ℕ) → 3600 * hour ≤ m → m < 3600 * hour + 3600 → time_passes rule of_start false m ≡ minute_passes rule of_start m
  unfolding time_passes
  timed_in_hour longer hour h m low high = rw (in_hour hour m low high, longer_hour rule.freq longer hour, h) refl

  -- an hour that passes: BYMINUTE and BYSECOND decide
  pub hour_kept : (rule.freq ≡ Hourly → ⊥) → (hour c : ℕ) → c ≡ 3600 * hour + 3600 → part_passes rule.by_hour (of_start / 3600) hour ≡ true →
      filter (time_passes rule of_start false) (numbers_between (3600 * hour) c) ≡ filter (minute_passes rule of_start) (numbers_between (3600 * hour) (3600 * hour + 3600))
  hour_kept longer hour c e h = rw e (filter-agreed (time_passes rule of_start false) (minute_passes rule of_start) (3600 * hour) (3600 * hour + 3600) (timed_in_hour longer hour h))

  pub hour_fails : (rule.freq ≡ Hourly → ⊥) → (hour : ℕ) → part_passes rule.by_hour (of_start / 3600) hour ≡ false → (m : ℕ) → 3600 * hour ≤ m → m < 3600 * hour + 3600 → time_passes rule of_start false m ≡ false
  unfolding time_passes
  hour_fails longer hour h m low high = rw (in_hour hour m low high, longer_hour rule.freq longer hour, h) refl

  -- of a day that stands for itself the first second
  pub day_alone : filter (time_passes rule of_start true) (numbers_between 0 86_400) ≡ 0 ∷ []
  unfolding time_passes
  day_alone =
      let first = filter-next (λ m. m == 0) 0 0 86_400 (omega arith) (omega arith) refl (λ k low high. absurd (omega (arith, low, high))) in
      let others = filter-none (λ m. m == 0) 1 86_400 (λ m low high. let is : m ≢ 0 = omega (arith, low) in grind (arith, is)) in
      rw others at first
