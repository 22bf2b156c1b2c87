-- DAILY and WEEKLY rules without BY parts have moments that stand equally far apart.
use Rattle.std.proofs.Common.{◌≡◌, ℕ, ℤ, zero, suc, nat_lt, List, [], ◌∷◌, ◌++◌, ◌+◌, ◌-◌, ◌*◌, ◌/◌, ◌%◌, ◌<◌, ◌≤◌, refl, sym, ap, ◌∙◌, arith, Bool, true, false, ◌==◌, inl, inr, ◌⊎◌}
use Rattle.std.specs.Prelude.{if◌then◌else◌, nat_le, ◌&&◌, filter, Option, Some, None}
use Rattle.std.proofs.lemmas.List.Elements.{All-nil, All-weaker}
use Rattle.std.proofs.lemmas.List.{append-nil}
use Rattle.std.proofs.lemmas.Bool.{cases_Bool, eqb-true, eq-eqb, ltb-true, ltb-false, lt-ltb}
use Rattle.std.proofs.Math.Nat.{suc-mul, add-mod_right, mod-eq_of_lt, mod-add-mod, zero-mod}
use Rattle.cal_moment.specs.Calendar.{day_of_moment, second_of_day, seconds_since_1970, weekday_of}
use Rattle.cal_model.specs.declared.rule.Rule.{Rule}
use Rattle.cal_model.specs.declared.rule.Freq.TheVariants.{Daily, Weekly}
use Rattle.cal_model.specs.Words.Lists.{numbers_between}
use Rattle.cal_model.specs.Recurrence.Passing.{passes, period_passes, day_passes, time_passes, week_number_of}
use Rattle.cal_model.specs.Recurrence.NextPassing.{NonePasses, end_day}
use Rattle.cal_model.specs.Recurrence.RuleBounds.{IsUsable}
use Rattle.cal_model.specs.Recurrence.RecurrenceSet.{Reading, every_moment, first_moment, found_moments, last_written, later_moments, until_passes}
use Rattle.cal_model.specs.Walks.KeptMoments.{found_from, one_less, starts_by, wanted}
use Rattle.cal_model.proofs.Walks.BeginLemmas.{wanted_of_kept}
use Rattle.cal_model.proofs.Walks.KeptLemmas.{found_from-cut, found_from-end, found_from_failing, found_from_low, kept_from-plain, step_skipped, step_there}
use Rattle.cal_model.proofs.Walks.WantedLemmas.{begin_after_start, found_before, starts_by-append, wanted-high, wanted-skip_low, wanted-tested}
use Rattle.rrule_sets.specs.EvenRules.{IsBare, IsEven, fewer}

-- what one test over three says of each
parts : (a b c : Bool) → (if a then (if b then c else false) else false) ≡ true → (a ≡ true) × (b ≡ true) × (c ≡ true)
parts true true true h = (refl, refl, refl)
parts true true false h = absurd cc
parts true false c h = absurd cc
parts false b c h = absurd cc

whole : (a b c : Bool) → a ≡ true → b ≡ true → c ≡ true → (if a then (if b then c else false) else false) ≡ true
whole a b c p q r = rw (p, q, r) refl

-- INTERVAL: a period that counts, so many behind one that counts
counted_next : (first this n : ℕ) → (if nat_le first this then (this - first) % n == 0 else false) ≡ true → (if nat_le first (this + n) then (this + n - first) % n == 0 else false) ≡ true
counted_next first this n h = elim (cases_Bool (nat_le first this)) [
  | inl w ↦
      (let le : first ≤ this = grind (arith, w) in
      let test = rw w at h in
      let later : nat_le first (this + n) ≡ true = grind (arith, le) in
      let shape : this + n - first ≡ (this - first) + n = omega (arith, le) in
      rw (later, shape, add-mod_right (this - first) n) test)
  | inr w ↦ absurd (let bad = rw w at h in cc)
]

-- and none between them
uncounted_between : (first this n j : ℕ) → (if nat_le first this then (this - first) % n == 0 else false) ≡ true → 0 < j → j < n → (if nat_le first (this + j) then (this + j - first) % n == 0 else false) ≡ true → ⊥
uncounted_between first this n j h low high k = elim (cases_Bool (nat_le first this)) [
  | inl w ↦
      (let le : first ≤ this = grind (arith, w) in
      let zero = eqb-true _ _ (rw w at h) in
      let later : nat_le first (this + j) ≡ true = grind (arith, le) in
      let also = eqb-true _ _ (rw later at k) in
      let shape : this + j - first ≡ (this - first) + j = omega (arith, le) in
      let alone : (this - first) % n + j ≡ j = omega (arith, zero) in
      let one : ((this - first) % n + j) % n ≡ ((this - first) + j) % n = mod-add-mod (this - first) n j in
      let two : ((this - first) % n + j) % n ≡ j % n = ap (λ r. r % n) alone in
      let three : j % n ≡ j = mod-eq_of_lt high in
      let four : (this + j - first) % n ≡ ((this - first) + j) % n = ap (λ d. d % n) shape in
      let none : j ≡ 0 = sym three ∙ (sym two ∙ (one ∙ (sym four ∙ also))) in
      omega (arith, none, low))
  | inr w ↦ absurd (let bad = rw w at h in cc)
]

-- the start's period counts
counted_own : (first n : ℕ) → (if nat_le first first then (first - first) % n == 0 else false) ≡ true
counted_own first n =
    let le : nat_le first first ≡ true = grind arith in
    let none : first - first ≡ 0 = omega arith in
    rw (le, none, zero-mod n) refl

self : (n : ℕ) → (n == n) ≡ true
self n = eq-eqb n n refl

-- a second of the day that has the start's hour, minute and second
abbrev is_of : ℕ → Bool → ℕ → Bool
is_of of_start dated second =
    if dated then second == 0
    else (if second / 3600 == of_start / 3600 then (if second / 60 % 60 == of_start / 60 % 60 then second % 60 == of_start % 60 else false) else false)

own_time : (of_start : ℕ) (dated : Bool) → (dated ≡ true → of_start ≡ 0) → is_of of_start dated of_start ≡ true
own_time of_start true midnight = let zero = midnight refl in rw zero refl
own_time of_start false midnight = rw (self (of_start / 3600), self (of_start / 60 % 60), self (of_start % 60)) refl

one_time : (of_start a b : ℕ) (dated : Bool) → is_of of_start dated a ≡ true → is_of of_start dated b ≡ true → a ≡ b
one_time of_start a b true p q = eqb-true a 0 p ∙ sym (eqb-true b 0 q)
one_time of_start a b false p q =
    let x = parts (a / 3600 == of_start / 3600) (a / 60 % 60 == of_start / 60 % 60) (a % 60 == of_start % 60) p in
    let y = parts (b / 3600 == of_start / 3600) (b / 60 % 60 == of_start / 60 % 60) (b % 60 == of_start % 60) q in
    let xh = eqb-true _ _ x.0 in
    let xm = eqb-true _ _ x.1 in
    let xs = eqb-true _ _ x.2 in
    let yh = eqb-true _ _ y.0 in
    let ym = eqb-true _ _ y.1 in
    let ys = eqb-true _ _ y.2 in
    omega (arith, xh, xm, xs, yh, ym, ys)

module _ (rule : Rule) (bare : IsBare rule) where
  time_is : (of_start : ℕ) (dated : Bool) (second : ℕ) → (rule.freq ≡ Daily) ⊎ (rule.freq ≡ Weekly) → time_passes rule of_start dated second ≡ is_of of_start dated second
  unfolding time_passes
  time_is of_start dated second (inl e) = rw (e, bare.hours, bare.minutes, bare.seconds) refl
  time_is of_start dated second (inr e) = rw (e, bare.hours, bare.minutes, bare.seconds) refl

  day_daily : rule.freq ≡ Daily → (start day : ℕ) → day_passes rule start day ≡ true
  unfolding day_passes
  day_daily e start day = rw (e, bare.months, bare.month_days, bare.days, bare.year_days, bare.weeks) refl

  day_weekly : rule.freq ≡ Weekly → (start day : ℕ) → day_passes rule start day ≡ (weekday_of day == weekday_of start)
  unfolding day_passes
  day_weekly e start day = rw (e, bare.months, bare.month_days, bare.days, bare.year_days, bare.weeks) refl

  pub even_daily : IsUsable rule → rule.freq ≡ Daily → IsEven rule rule.interval
  even_daily usable e = record {
    some = usable.interval_positive;
    unpicked = bare.places;
    own = λ start dated midnight.
        whole (period_passes rule start start) (day_passes rule (day_of_moment start) (day_of_moment start)) (time_passes rule (second_of_day start) dated (second_of_day start))
        (rw e (counted_own (start / 86400) rule.interval))
        (day_daily e (day_of_moment start) (day_of_moment start))
        (time_is (second_of_day start) dated (second_of_day start) (inl e) ∙ own_time (second_of_day start) dated midnight);
    next = λ start m dated is.
        let held = parts (period_passes rule start m) (day_passes rule (day_of_moment start) (day_of_moment m)) (time_passes rule (second_of_day start) dated (second_of_day m)) is in
        let number : (m + 86400 * rule.interval) / 86400 ≡ m / 86400 + rule.interval = omega arith in
        let second : (m + 86400 * rule.interval) % 86400 ≡ m % 86400 = omega arith in
        whole (period_passes rule start (m + 86400 * rule.interval)) (day_passes rule (day_of_moment start) (day_of_moment (m + 86400 * rule.interval))) (time_passes rule (second_of_day start) dated (second_of_day (m + 86400 * rule.interval)))
        (rw (e, number) (counted_next (start / 86400) (m / 86400) rule.interval (rw e at held.0)))
        (day_daily e (day_of_moment start) (day_of_moment (m + 86400 * rule.interval)))
        (rw second held.2);
    none_between = λ start m dated is. record {
      each = λ x low high. elim (cases_Bool (passes rule start dated x)) [
        | inr w ↦ w
        | inl w ↦ absurd (
            let held = parts (period_passes rule start m) (day_passes rule (day_of_moment start) (day_of_moment m)) (time_passes rule (second_of_day start) dated (second_of_day m)) is in
            let also = parts (period_passes rule start x) (day_passes rule (day_of_moment start) (day_of_moment x)) (time_passes rule (second_of_day start) dated (second_of_day x)) w in
            let second : m % 86400 ≡ x % 86400 = one_time (second_of_day start) (second_of_day m) (second_of_day x) dated (sym (time_is (second_of_day start) dated (second_of_day m) (inl e)) ∙ held.2) (sym (time_is (second_of_day start) dated (second_of_day x) (inl e)) ∙ also.2) in
            let number : x / 86400 ≡ m / 86400 + (x / 86400 - m / 86400) = omega (arith, low) in
            uncounted_between (start / 86400) (m / 86400) rule.interval (x / 86400 - m / 86400) (rw e at held.0) (omega (arith, low, second)) (omega (arith, high, second)) (rw number at (rw e at also.0)))
      ];
    };
  }

  pub even_weekly : IsUsable rule → rule.freq ≡ Weekly → IsEven rule (7 * rule.interval)
  even_weekly usable e = record {
    some = (let positive = usable.interval_positive in omega (arith, positive));
    unpicked = bare.places;
    own = λ start dated midnight.
        whole (period_passes rule start start) (day_passes rule (day_of_moment start) (day_of_moment start)) (time_passes rule (second_of_day start) dated (second_of_day start))
        (rw e (counted_own (week_number_of rule.week_start (start / 86400)) rule.interval))
        (day_weekly e (day_of_moment start) (day_of_moment start) ∙ self (weekday_of (start / 86400)))
        (time_is (second_of_day start) dated (second_of_day start) (inr e) ∙ own_time (second_of_day start) dated midnight);
    next = λ start m dated is.
        let held = parts (period_passes rule start m) (day_passes rule (day_of_moment start) (day_of_moment m)) (time_passes rule (second_of_day start) dated (second_of_day m)) is in
        let small = usable.week_start_below in
        let day : (m + 86400 * (7 * rule.interval)) / 86400 ≡ m / 86400 + 7 * rule.interval = omega arith in
        let number : week_number_of rule.week_start (m / 86400 + 7 * rule.interval) ≡ week_number_of rule.week_start (m / 86400) + rule.interval = omega (arith, small) in
        let weekday : weekday_of (m / 86400 + 7 * rule.interval) ≡ weekday_of (m / 86400) = omega arith in
        let second : (m + 86400 * (7 * rule.interval)) % 86400 ≡ m % 86400 = omega arith in
        whole (period_passes rule start (m + 86400 * (7 * rule.interval))) (day_passes rule (day_of_moment start) (day_of_moment (m + 86400 * (7 * rule.interval)))) (time_passes rule (second_of_day start) dated (second_of_day (m + 86400 * (7 * rule.interval))))
        (rw (e, day, number) (counted_next (week_number_of rule.week_start (start / 86400)) (week_number_of rule.week_start (m / 86400)) rule.interval (rw e at held.0)))
        (day_weekly e (day_of_moment start) (day_of_moment (m + 86400 * (7 * rule.interval))) ∙ rw (day, weekday) (sym (day_weekly e (day_of_moment start) (day_of_moment m)) ∙ held.1))
        (rw second held.2);
    none_between = λ start m dated is. record {
      each = λ x low high. elim (cases_Bool (passes rule start dated x)) [
        | inr w ↦ w
        | inl w ↦ absurd (
            let held = parts (period_passes rule start m) (day_passes rule (day_of_moment start) (day_of_moment m)) (time_passes rule (second_of_day start) dated (second_of_day m)) is in
            let also = parts (period_passes rule start x) (day_passes rule (day_of_moment start) (day_of_moment x)) (time_passes rule (second_of_day start) dated (second_of_day x)) w in
            let second : m % 86400 ≡ x % 86400 = one_time (second_of_day start) (second_of_day m) (second_of_day x) dated (sym (time_is (second_of_day start) dated (second_of_day m) (inr e)) ∙ held.2) (sym (time_is (second_of_day start) dated (second_of_day x) (inr e)) ∙ also.2) in
            let small = usable.week_start_below in
            let here = eqb-true (weekday_of (m / 86400)) (weekday_of (start / 86400)) (sym (day_weekly e (day_of_moment start) (day_of_moment m)) ∙ held.1) in
            let there = eqb-true (weekday_of (x / 86400)) (weekday_of (start / 86400)) (sym (day_weekly e (day_of_moment start) (day_of_moment x)) ∙ also.1) in
            let number : week_number_of rule.week_start (x / 86400) ≡ week_number_of rule.week_start (m / 86400) + (x / 86400 - m / 86400) / 7 = omega (arith, low, here, there, small) in
            uncounted_between (week_number_of rule.week_start (start / 86400)) (week_number_of rule.week_start (m / 86400)) rule.interval ((x / 86400 - m / 86400) / 7) (rw e at held.0) (omega (arith, low, second, here, there)) (omega (arith, high, low, second, here, there)) (rw number at (rw e at also.0)))
      ];
    };
  }

-- Taking the moments one after the other.

not_le : (a b : ℕ) → b < a → nat_le a b ≡ false
not_le a b lt = grind (arith, lt)

-- where COUNT is not there, it leaves as many
pub uncounted : {E : Type 0} (o : Option ℕ) → (o ≡ None) ⊎ E → (one_less o ≡ None) ⊎ E
uncounted o (inl none) = inl (rw none refl)
uncounted o (inr other) = inr other

module _ (rule : Rule) (start : ℕ) (reading : Reading) (low high : ℕ) where
  -- one moment more, put or not
  pub given_or_not : (asked : Bool) (out more : List ℤ) (m : ℕ) (rest whole : List ℕ) → more ≡ out ++ (if asked then reading.instant (seconds_since_1970 m) ∷ [] else []) → whole ≡ (if asked then m ∷ rest else rest) → more ++ starts_by reading rest ≡ out ++ starts_by reading whole
  given_or_not true out more m rest whole put is = rw (put, is) (starts_by-append reading m rest out)
  given_or_not false out more m rest whole put is = rw (put, is) (ap (λ (xs : List ℤ). xs ++ starts_by reading rest) (append-nil out))

  three : (a b c : Bool) → c ≡ true → (a && (b && c)) ≡ (a && b)
  three true true c e = e
  three true false c e = refl
  three false b c e = refl

  -- what is wanted from a moment that passes and exists
  pub wanted_there : (left : Option ℕ) (m : ℕ) → start < m → m < high → high ≤ 86400 * end_day → rule.until ≡ None → (left ≡ Some 0 → ⊥) → passes rule start reading.dated m ≡ true → reading.exists (seconds_since_1970 m) ≡ true →
      wanted rule start reading low high left (found_from rule start reading m) ≡ (if nat_le m last_written && nat_le low m then m ∷ wanted rule start reading low high (one_less left) (found_from rule start reading (m + 1)) else wanted rule start reading low high (one_less left) (found_from rule start reading (m + 1)))
  wanted_there left m after before end until some is there =
      let found = step_there rule start reading m (omega (arith, before, end)) is there in
      let by : until_passes reading rule.until m ≡ true = rw until refl in
      let tested = wanted-tested rule start reading low high left m (found_from rule start reading (m + 1)) after by some in
      let within : nat_lt m high ≡ true = lt-ltb m high before in
      ap (wanted rule start reading low high left) found ∙ (tested ∙ ap (λ b. if b then m ∷ wanted rule start reading low high (one_less left) (found_from rule start reading (m + 1)) else wanted rule start reading low high (one_less left) (found_from rule start reading (m + 1))) (three (nat_le m last_written) (nat_le low m) (nat_lt m high) within))

  -- and from one that does not exist
  pub wanted_skipped : (left : Option ℕ) (m : ℕ) → m < 86400 * end_day → passes rule start reading.dated m ≡ true → reading.exists (seconds_since_1970 m) ≡ false →
      wanted rule start reading low high left (found_from rule start reading (m + 1)) ≡ wanted rule start reading low high left (found_from rule start reading m)
  wanted_skipped left m end is skipped = ap (wanted rule start reading low high left) (sym (step_skipped rule start reading m end is skipped))

module _ (rule : Rule) (days : ℕ) (even : IsEven rule days) (start : ℕ) (reading : Reading) (low high : ℕ) where
  -- the next one behind a moment
  pub found_next : (m : ℕ) → m + 86400 * days ≤ 86400 * end_day → passes rule start reading.dated m ≡ true → found_from rule start reading (m + 1) ≡ found_from rule start reading (m + 86400 * days)
  found_next m end is = let some = even.some in found_from_failing rule start reading (m + 1) (m + 86400 * days) (omega (arith, some)) end (even.none_between start m reading.dated is)

  -- so many behind the start
  pub passes_behind : (k : ℕ) → passes rule start reading.dated start ≡ true → passes rule start reading.dated (start + 86400 * (k * days)) ≡ true
  passes_behind zero own = let none : start + 86400 * (0 * days) ≡ start = omega arith in rw none own
  passes_behind (suc k) own =
      let shape : start + 86400 * (suc k * days) ≡ start + 86400 * (k * days) + 86400 * days = let more = suc-mul k days in omega (arith, more) in
      rw shape (even.next start (start + 86400 * (k * days)) reading.dated (passes_behind k own))

  -- moments before the range may be left out where COUNT says nothing
  pub skip_uncounted : (a b : ℕ) → a ≤ b → b ≤ low → low ≤ 86400 * end_day → wanted rule start reading low high None (found_from rule start reading a) ≡ wanted rule start reading low high None (found_from rule start reading b)
  skip_uncounted a b le to end =
      ap (wanted rule start reading low high None) (found_from-cut rule start reading a b le (omega (arith, to, end)))
      ∙ wanted-skip_low rule start reading low high (found_moments rule start reading (numbers_between a b)) (found_from rule start reading b)
      (All-weaker (λ m. m < b) (λ m. m < low) (λ m lt. omega (arith, lt, to)) (found_moments rule start reading (numbers_between a b)) (found_before rule start reading low high a b))

  outside : (b c : Bool) → (b && (false && c)) ≡ false
  outside true c = refl
  outside false c = refl

  -- one that COUNT counts
  take_one : (left m n : ℕ) → n ≡ m + 86400 * days → start ≤ m → n < low → low ≤ 86400 * end_day → rule.until ≡ None → ((l : ℤ) → reading.exists l ≡ true) → passes rule start reading.dated m ≡ true →
      wanted rule start reading low high (Some left) (found_from rule start reading (m + 1)) ≡ wanted rule start reading low high (Some (left - 1)) (found_from rule start reading (n + 1))
  take_one zero m n at from before end until there is = refl
  take_one (suc left) m n at from before end until there is =
      let some = even.some in
      let here : passes rule start reading.dated n ≡ true = rw at (even.next start m reading.dated is) in
      let found : found_from rule start reading (m + 1) ≡ n ∷ found_from rule start reading (n + 1) =
      found_next m (omega (arith, at, before, end)) is ∙ (ap (found_from rule start reading) (sym at) ∙ step_there rule start reading n (omega (arith, before, end)) here (there (seconds_since_1970 n))) in
      let by : until_passes reading rule.until n ≡ true = rw until refl in
      let early : nat_le low n ≡ false = not_le low n before in
      let tested = wanted-tested rule start reading low high (Some (suc left)) n (found_from rule start reading (n + 1)) (omega (arith, at, from, some)) by (λ e. absurd cc) in
      let out : (nat_le n last_written && (nat_le low n && nat_lt n high)) ≡ false = rw early (outside (nat_le n last_written) (nat_lt n high)) in
      ap (wanted rule start reading low high (Some (suc left))) found ∙ (tested ∙ ap (λ b. if b then n ∷ wanted rule start reading low high (Some (suc left - 1)) (found_from rule start reading (n + 1)) else wanted rule start reading low high (Some (suc left - 1)) (found_from rule start reading (n + 1))) out)

  -- so many
  pub take_some : (k left : ℕ) → (start + 86400 * (k * days) < low) ⊎ (k ≡ 0) → low ≤ 86400 * end_day → rule.until ≡ None → ((l : ℤ) → reading.exists l ≡ true) → passes rule start reading.dated start ≡ true →
      wanted rule start reading low high (Some left) (found_from rule start reading (start + 1)) ≡ wanted rule start reading low high (Some (left - k)) (found_from rule start reading (start + 86400 * (k * days) + 1))
  take_some zero left before end until there own = let none : start + 86400 * (0 * days) ≡ start = omega arith in let all : left - 0 ≡ left = omega arith in rw (none, all) refl
  take_some (suc k) left (inr none) end until there own = absurd (omega (arith, none))
  take_some (suc k) left (inl before) end until there own =
      let shape : start + 86400 * (suc k * days) ≡ start + 86400 * (k * days) + 86400 * days = let more = suc-mul k days in omega (arith, more) in
      let first = take_some k left (inl (omega (arith, before, shape))) end until there own in
      let next = take_one (left - k) (start + 86400 * (k * days)) (start + 86400 * (suc k * days)) shape (omega arith) before end until there (passes_behind k own) in
      let fewer : left - k - 1 ≡ left - suc k = omega arith in
      first ∙ (next ∙ ap (λ l. wanted rule start reading low high (Some l) (found_from rule start reading (start + 86400 * (suc k * days) + 1))) fewer)

  -- the later moments of the range, of a rule whose set has no places
  pub from_start : start < 86400 * end_day → first_moment ≤ start + 1 → filter (λ m. nat_le low m && nat_lt m high) (later_moments rule start reading every_moment) ≡ wanted rule start reading low high (one_less rule.count) (found_from rule start reading (start + 1))
  from_start end from =
      wanted_of_kept rule start reading low high
      ∙ (ap (wanted rule start reading low high (one_less rule.count)) (kept_from-plain rule start reading first_moment even.unpicked)
      ∙ begin_after_start rule start reading low high (one_less rule.count) (start + 1) (omega arith) from (omega (arith, end)))

  -- none where the range ends before the start
  pub none_before_start : high ≤ start → first_moment ≤ high → high ≤ 86400 * end_day → filter (λ m. nat_le low m && nat_lt m high) (later_moments rule start reading every_moment) ≡ []
  none_before_start le from end =
      wanted_of_kept rule start reading low high
      ∙ (ap (wanted rule start reading low high (one_less rule.count)) (kept_from-plain rule start reading first_moment even.unpicked)
      ∙ (begin_after_start rule start reading low high (one_less rule.count) high (omega (arith, le)) from end
      ∙ wanted-high rule start reading low high (one_less rule.count) (found_from rule start reading high) (found_from_low rule start reading high)))

  -- nothing where the next one lies behind the range
  pub wanted_past : (left : Option ℕ) (m : ℕ) → high ≤ m + 86400 * days → high ≤ 86400 * end_day → passes rule start reading.dated m ≡ true → wanted rule start reading low high left (found_from rule start reading (m + 1)) ≡ []
  wanted_past left m past end is = elim (cases_Bool (nat_lt (m + 86400 * days) (86400 * end_day))) [
    | inl w ↦
        (let early = ltb-true _ _ w in
        let same = found_next m (omega (arith, early)) is in
        wanted-high rule start reading low high left (found_from rule start reading (m + 1))
        (rw same (All-weaker (λ k. m + 86400 * days ≤ k) (λ k. high ≤ k) (λ k le. omega (arith, le, past)) (found_from rule start reading (m + 86400 * days)) (found_from_low rule start reading (m + 86400 * days)))))
    | inr w ↦
        (let late = ltb-false _ _ w in
        let some = even.some in
        elim (cases_Bool (nat_lt (m + 1) (86400 * end_day))) [
          | inl v ↦
              (let before = ltb-true _ _ v in
              let none : NonePasses rule start reading.dated (m + 1) (86400 * end_day) = record { each = λ k from to. (even.none_between start m reading.dated is).each k from (omega (arith, to, late)) } in
              let same = found_from_failing rule start reading (m + 1) (86400 * end_day) (omega (arith, before)) (omega arith) none in
              ap (wanted rule start reading low high left) (same ∙ found_from-end rule start reading) ∙ wanted-high rule start reading low high left [] (All-nil (λ k. high ≤ k)))
          | inr v ↦
              (let behind = ltb-false _ _ v in
              wanted-high rule start reading low high left (found_from rule start reading (m + 1))
              (All-weaker (λ k. m + 1 ≤ k) (λ k. high ≤ k) (λ k le. omega (arith, le, behind, end)) (found_from rule start reading (m + 1)) (found_from_low rule start reading (m + 1))))
        ])
  ]

  -- COUNT or not
  pub skip : (left : Option ℕ) (k : ℕ) (at : ℕ) → at ≡ start + 86400 * (k * days) → (k ≡ 0) ⊎ (start + 86400 * (k * days) < low) → low ≤ 86400 * end_day → start < 86400 * end_day → rule.until ≡ None → (left ≡ None) ⊎ ((l : ℤ) → reading.exists l ≡ true) → passes rule start reading.dated start ≡ true →
      wanted rule start reading low high left (found_from rule start reading (start + 1)) ≡ wanted rule start reading low high (fewer k left) (found_from rule start reading (at + 1))
  skip None k at is (inl none) end early until whole own = let same : at + 1 ≡ start + 1 = (let all : start + 86400 * (k * days) ≡ start = rw none (omega arith) in omega (arith, is, all)) in rw same refl
  skip None k at is (inr before) end early until whole own = skip_uncounted (start + 1) (at + 1) (omega (arith, is)) (omega (arith, is, before)) end
  skip (Some left) k at is place end early until (inl bad) own = absurd (none_is_some bad)
    where
      none_is_some : Some left ≡ None → ⊥
      none_is_some e = cc
  skip (Some left) k at is (inl none) end early until (inr there) own = let zero_taken = take_some k left (inr none) end until there own in rw is zero_taken
  skip (Some left) k at is (inr before) end early until (inr there) own = let so_many = take_some k left (inl before) end until there own in rw is so_many
