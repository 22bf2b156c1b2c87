-- Taking the moments of a rule one after the other, period by period.
use Rattle.std.proofs.Common.{◌≡◌, ℕ, zero, suc, ◌+◌, ◌-◌, ◌*◌, ◌<◌, ◌≤◌, List, [], ◌∷◌, ◌++◌, refl, sym, ap, ◌∙◌, arith, Bool, true, false, inl, inr}
use Rattle.std.specs.Prelude.{All, AllPairs, if◌then◌else◌}
use Rattle.std.proofs.lemmas.Bool.{cases_Bool}
use Rattle.std.proofs.lemmas.List.{append-nil}
use Rattle.std.proofs.lemmas.List.Kept.{AllPairs-filter}
use Rattle.std.proofs.lemmas.List.Elements.{All-nil, All-cons, All-filter, All-weaker, filter-append}
use Rattle.std.proofs.lemmas.Int.{ints}
use Rattle.cal_moment.specs.declared.stamp.Local.{Local}
use Rattle.cal_moment.specs.Calendar.{seconds_since_1970}
use Rattle.cal_model.specs.declared.rule.Rule.{Rule}
use Rattle.cal_model.specs.Words.Lists.{is_empty, numbers_between, counted_from}
use Rattle.cal_model.specs.Words.Integers.{some_names_place}
use Rattle.cal_model.specs.Values.LocalTimes.{moment_of_local, local_seconds}
use Rattle.cal_model.specs.Recurrence.NextPassing.{NonePasses, end_day}
use Rattle.cal_model.specs.Recurrence.RuleBounds.{IsWritten}
use Rattle.cal_model.specs.Recurrence.Passing.{passes, period_number}
use Rattle.cal_model.specs.Recurrence.RecurrenceSet.{Reading, found_moments, at_places, place_in_period, size_of_period}
use Rattle.cal_model.proofs.Words.CountedLemmas.{numbers_between-cut, filter-none}
use Rattle.cal_model.proofs.Recurrence.Periods.{at_places-append}
use Rattle.cal_model.proofs.Recurrence.Rising.{period_number-le}
use Rattle.cal_model.proofs.Recurrence.RecurrenceSetLemmas.{Rises, Rises-counted_from}
use Rattle.cal_model.specs.Walks.KeptMoments.{found_from, found_between, if_there, kept_from}

module _ (rule : Rule) (start : ℕ) (reading : Reading) where
  -- the test of a found moment
  abbrev pub is_found : ℕ → Bool
  is_found m = if passes rule start reading.dated m then reading.exists (seconds_since_1970 m) else false

  -- where none passes, none is found
  pub none_found : (a b : ℕ) → NonePasses rule start reading.dated a b → found_moments rule start reading (numbers_between a b) ≡ []
  none_found a b none = filter-none is_found a b (λ m low high. let fails = none.each m low high in rw fails refl)

  pub found_from-cut : (a b : ℕ) → a ≤ b → b ≤ 86400 * end_day → found_from rule start reading a ≡ found_moments rule start reading (numbers_between a b) ++ found_from rule start reading b
  found_from-cut a b le end = rw (numbers_between-cut a b (86400 * end_day) le end) (filter-append is_found (numbers_between a b) (numbers_between b (86400 * end_day)))

  -- a walk over moments that fail finds the same
  pub found_from_failing : (a b : ℕ) → a ≤ b → b ≤ 86400 * end_day → NonePasses rule start reading.dated a b → found_from rule start reading a ≡ found_from rule start reading b
  found_from_failing a b le end none = rw (found_from-cut a b le end, none_found a b none) refl

  pub kept_from-failing : (a b : ℕ) → a ≤ b → b ≤ 86400 * end_day → NonePasses rule start reading.dated a b → kept_from rule start reading a ≡ kept_from rule start reading b
  unfolding kept_from
  kept_from-failing a b le end none = ap (at_places rule) (found_from_failing a b le end none)

  -- at the end nothing is left
  pub found_from-end : found_from rule start reading (86400 * end_day) ≡ []
  found_from-end = filter-none is_found (86400 * end_day) (86400 * end_day) (λ m low high. absurd (omega arith))

  abbrev pub number : ℕ → ℕ
  number m = period_number rule.freq rule.week_start m

  -- one moment that passes is found where it exists
  pub found_from_passing : (m : ℕ) → m < 86400 * end_day → passes rule start reading.dated m ≡ true →
      found_from rule start reading m ≡ (if reading.exists (seconds_since_1970 m) then m ∷ found_from rule start reading (m + 1) else found_from rule start reading (m + 1))
  unfolding counted_from
  found_from_passing m below passing =
      let some : 86400 * end_day - m ≡ suc (86400 * end_day - (m + 1)) = omega arith in
      elim (cases_Bool (reading.exists (seconds_since_1970 m))) [
        | inl there ↦ rw (some, passing, there) refl
        | inr skipped ↦ rw (some, passing, skipped) refl
      ]

  pub step_there : (m : ℕ) → m < 86400 * end_day → passes rule start reading.dated m ≡ true → reading.exists (seconds_since_1970 m) ≡ true → found_from rule start reading m ≡ m ∷ found_from rule start reading (m + 1)
  step_there m below passing there = found_from_passing m below passing ∙ ap (λ b. if b then m ∷ found_from rule start reading (m + 1) else found_from rule start reading (m + 1)) there

  pub step_skipped : (m : ℕ) → m < 86400 * end_day → passes rule start reading.dated m ≡ true → reading.exists (seconds_since_1970 m) ≡ false → found_from rule start reading m ≡ found_from rule start reading (m + 1)
  step_skipped m below passing there = found_from_passing m below passing ∙ ap (λ b. if b then m ∷ found_from rule start reading (m + 1) else found_from rule start reading (m + 1)) there

  -- one moment more that passes
  single : (m : ℕ) → passes rule start reading.dated m ≡ true → found_moments rule start reading (numbers_between m (m + 1)) ≡ if_there reading m
  unfolding counted_from
  single m passing =
      let one : m + 1 - m ≡ 1 = omega arith in
      elim (cases_Bool (reading.exists (seconds_since_1970 m))) [
        | inl there ↦ rw (one, passing, there) refl
        | inr skipped ↦ rw (one, passing, skipped) refl
      ]

  pub found_between-cut : (a b c : ℕ) → a ≤ b → b ≤ c → found_moments rule start reading (numbers_between a c) ≡ found_moments rule start reading (numbers_between a b) ++ found_moments rule start reading (numbers_between b c)
  found_between-cut a b c le end = rw (numbers_between-cut a b c le end) (filter-append is_found (numbers_between a b) (numbers_between b c))

  pub found_between-more : (a m : ℕ) → a ≤ m → passes rule start reading.dated m ≡ true → found_moments rule start reading (numbers_between a (m + 1)) ≡ found_moments rule start reading (numbers_between a m) ++ if_there reading m
  found_between-more a m le passing = found_between-cut a m (m + 1) le (omega arith) ∙ ap (λ xs. found_moments rule start reading (numbers_between a m) ++ xs) (single m passing)

  -- moments that fail add none
  pub found_between-failing : (a b c : ℕ) → a ≤ b → b ≤ c → NonePasses rule start reading.dated b c → found_moments rule start reading (numbers_between a c) ≡ found_moments rule start reading (numbers_between a b)
  found_between-failing a b c le end none = found_between-cut a b c le end ∙ (ap (λ xs. found_moments rule start reading (numbers_between a b) ++ xs) (none_found b c none) ∙ append-nil (found_moments rule start reading (numbers_between a b)))

  -- Without BYSETPOS.

  pub kept_from-plain : (a : ℕ) → is_empty rule.by_set_pos ≡ true → kept_from rule start reading a ≡ found_from rule start reading a
  unfolding kept_from
  kept_from-plain a none = rw none refl

  -- With it, period by period.

  all_between : (P : ℕ → Type 0) (first n : ℕ) → ((m : ℕ) → first ≤ m → P m) → All P (counted_from first n)
  unfolding counted_from
  all_between P first zero h = All-nil P
  all_between P first (suc n) h = All-cons P first (counted_from (first + 1) n) (h first (omega arith)) (all_between P (first + 1) n (λ m le. h m (omega arith)))

  -- a moment that is found from one on lies in no earlier period
  pub later_periods : (a b n : ℕ) → n < number a → All (λ m. n < period_number rule.freq rule.week_start m) (found_between rule start reading a b)
  later_periods a b n lt =
      All-filter is_found (λ m. n < number m) (numbers_between a b)
      (all_between (λ m. n < number m) a (b - a) (λ m le. let up = period_number-le rule.freq rule.week_start a m le in omega (arith, up, lt)))

  -- the moments of the periods up to one, then those after it
  pub kept_from-period : (a b n : ℕ) → a ≤ b → b ≤ 86400 * end_day → All (λ m. period_number rule.freq rule.week_start m ≤ n) (found_between rule start reading a b) → All (λ m. n < period_number rule.freq rule.week_start m) (found_from rule start reading b) →
      kept_from rule start reading a ≡ at_places rule (found_between rule start reading a b) ++ kept_from rule start reading b
  unfolding kept_from
  kept_from-period a b n le end low high =
      ap (at_places rule) (found_from-cut a b le end) ∙ at_places-append rule (found_between rule start reading a b) (found_from rule start reading b) n low high

  -- what is found rises
  pub Rises-found : (a b : ℕ) → Rises (found_between rule start reading a b)
  Rises-found a b = AllPairs-filter (λ x y. x < y) is_found (numbers_between a b) (Rises-counted_from a (b - a))

  -- and lies at or after that one
  pub found_from_low : (a : ℕ) → All (λ m. a ≤ m) (found_from rule start reading a)
  found_from_low a = All-filter is_found (λ m. a ≤ m) (numbers_between a (86400 * end_day)) (all_between (λ m. a ≤ m) a (86400 * end_day - a) (λ m le. le))

  pub nothing_left : (P : ℕ → Type 0) (old a b : ℕ) → found_from rule start reading a ≡ found_from rule start reading old → found_from rule start reading b ≡ found_from rule start reading a → b ≡ 86400 * end_day → All P (found_from rule start reading old)
  nothing_left P old a b first second end =
      let empty : found_from rule start reading old ≡ [] = sym (second ∙ first) ∙ (ap (found_from rule start reading) end ∙ found_from-end) in
      rw empty (All-nil P)

  pub rest_past : (old a b end : ℕ) → found_from rule start reading a ≡ found_from rule start reading old → found_from rule start reading b ≡ found_from rule start reading a → end ≤ b → All (λ m. end ≤ m) (found_from rule start reading old)
  rest_past old a b end first second le =
      let same : found_from rule start reading old ≡ found_from rule start reading b = sym (second ∙ first) in
      rw same (All-weaker (λ m. b ≤ m) (λ m. end ≤ m) (λ m h. omega (arith, h, le)) (found_from rule start reading b) (found_from_low b))

  -- from a later period on all lies in later ones
  pub later_found : (a n : ℕ) → n ≤ period_number rule.freq rule.week_start a → (period_number rule.freq rule.week_start a ≡ n → ⊥) → All (λ m. n < period_number rule.freq rule.week_start m) (found_from rule start reading a)
  later_found a n le other = later_periods a (86400 * end_day) n (omega (arith, le, other))

  pub none_later : (P : ℕ → Type 0) (a : ℕ) → a ≡ 86400 * end_day → All P (found_from rule start reading a)
  none_later P a e = let empty = ap (found_from rule start reading) e ∙ found_from-end in rw empty (All-nil P)

  pub all_within : (P : ℕ → Type 0) (first n : ℕ) → ((m : ℕ) → first ≤ m → m < first + n → P m) → All P (counted_from first n)
  unfolding counted_from
  all_within P first zero h = All-nil P
  all_within P first (suc n) h = All-cons P first (counted_from (first + 1) n) (h first (omega arith) (omega arith)) (all_within P (first + 1) n (λ m low high. h m (omega arith) (omega arith)))

  -- between two moments of one period all lies in it
  pub one_period : (a m n : ℕ) → a ≤ m → period_number rule.freq rule.week_start a ≡ n → period_number rule.freq rule.week_start m ≡ n → All (λ k. period_number rule.freq rule.week_start k ≡ n) (found_between rule start reading a (m + 1))
  one_period a m n le first last =
      All-filter is_found (λ k. period_number rule.freq rule.week_start k ≡ n) (numbers_between a (m + 1))
      (all_within (λ k. period_number rule.freq rule.week_start k ≡ n) a (m + 1 - a)
      (λ k low high. let up = period_number-le rule.freq rule.week_start a k low in let down = period_number-le rule.freq rule.week_start k m (omega (arith, high)) in omega (arith, up, down, first, last)))

  pub found_between-none : (a : ℕ) → found_between rule start reading a a ≡ []
  found_between-none a = filter-none is_found a a (λ m low high. absurd (omega arith))

  -- the moment at hand, and those that fail behind it
  pub gathered_more : (found more : List ℕ) (a m b c : ℕ) → a ≤ m → passes rule start reading.dated m ≡ true → found ≡ found_between rule start reading a m → more ≡ found ++ if_there reading m → b ≡ m + 1 → b ≤ c → NonePasses rule start reading.dated b c →
      more ≡ found_between rule start reading a c
  gathered_more found more a m b c le passing is grown next up none =
      let failing : NonePasses rule start reading.dated (m + 1) c = rw (sym next) none in
      grown ∙ (ap (λ xs. xs ++ if_there reading m) is ∙ (sym (found_between-more a m le passing) ∙ sym (found_between-failing a (m + 1) c (omega arith) (omega (arith, next, up)) failing)))

  pub gathered_one : (found more : List ℕ) (a m n : ℕ) → a ≤ m → passes rule start reading.dated m ≡ true → found ≡ found_between rule start reading a m → more ≡ found ++ if_there reading m → period_number rule.freq rule.week_start a ≡ n → period_number rule.freq rule.week_start m ≡ n →
      All (λ k. period_number rule.freq rule.week_start k ≡ n) more
  gathered_one found more a m n le passing is grown first last =
      let all : more ≡ found_between rule start reading a (m + 1) = grown ∙ (ap (λ xs. xs ++ if_there reading m) is ∙ sym (found_between-more a m le passing)) in
      rw all (one_period a m n le first last)

  -- one whole period in front of the rest
  pub kept_from-gathered : (found : List ℕ) (a b n : ℕ) → a < b → b ≤ 86400 * end_day → found ≡ found_between rule start reading a b → All (λ m. period_number rule.freq rule.week_start m ≡ n) found → All (λ m. n < period_number rule.freq rule.week_start m) (found_from rule start reading b) →
      kept_from rule start reading a ≡ at_places rule found ++ kept_from rule start reading b
  kept_from-gathered found a b n lt end is one later =
      let low : All (λ m. period_number rule.freq rule.week_start m ≤ n) (found_between rule start reading a b) = rw is at (All-weaker (λ m. period_number rule.freq rule.week_start m ≡ n) (λ m. period_number rule.freq rule.week_start m ≤ n) (λ m e. omega (arith, e)) found one) in
      kept_from-period a b n (omega (arith, lt)) end low later ∙ ap (λ xs. at_places rule xs ++ kept_from rule start reading b) (sym is)

  pub Rises-gathered : (found : List ℕ) (a b : ℕ) → found ≡ found_between rule start reading a b → AllPairs (λ x y. x < y) found
  Rises-gathered found a b is = rw is (Rises-found a b)

  kept_from-low : (a : ℕ) → All (λ m. a ≤ m) (kept_from rule start reading a)
  unfolding kept_from
  kept_from-low a = elim (cases_Bool (is_empty rule.by_set_pos)) [
    | inl none ↦ rw none (found_from_low a)
    | inr some ↦ rw some (All-filter (λ m. some_names_place rule.by_set_pos (place_in_period rule (found_from rule start reading a) m) (size_of_period rule (found_from rule start reading a) m)) (λ m. a ≤ m) (found_from rule start reading a) (found_from_low a))
  ]

  pub kept_from-end : kept_from rule start reading (86400 * end_day) ≡ []
  unfolding kept_from
  kept_from-end = elim (cases_Bool (is_empty rule.by_set_pos)) [
    | inl none ↦ rw (found_from-end, none) refl
    | inr some ↦ rw (found_from-end, some) refl
  ]

  -- where what was picked is given, and none passes up to the end of a range
  pub past_end : (whole xs : List ℕ) (a b end : ℕ) → xs ++ kept_from rule start reading a ≡ whole → xs ≡ [] → a ≤ b → b ≤ 86400 * end_day → NonePasses rule start reading.dated a b → end ≤ b → All (λ m. end ≤ m) whole
  past_end whole xs a b end is given up within none le =
      let same : whole ≡ kept_from rule start reading b = sym is ∙ (ap (λ zs. zs ++ kept_from rule start reading a) given ∙ kept_from-failing a b up within none) in
      rw same (All-weaker (λ m. b ≤ m) (λ m. end ≤ m) (λ m h. omega (arith, h, le)) (kept_from rule start reading b) (kept_from-low b))

  pub no_more : (P : ℕ → Type 0) (whole xs : List ℕ) (a b : ℕ) → xs ++ kept_from rule start reading a ≡ whole → xs ≡ [] → a ≤ b → b ≤ 86400 * end_day → NonePasses rule start reading.dated a b → b ≡ 86400 * end_day → All P whole
  no_more P whole xs a b is given up within none last =
      let same : whole ≡ [] = sym is ∙ (ap (λ zs. zs ++ kept_from rule start reading a) given ∙ (kept_from-failing a b up within none ∙ (ap (kept_from rule start reading) last ∙ kept_from-end))) in
      rw same (All-nil P)

  -- a period more was picked
  pub refilled : (whole xs ys : List ℕ) (a b c : ℕ) → xs ++ kept_from rule start reading a ≡ whole → xs ≡ [] → a ≤ b → b ≤ 86400 * end_day → NonePasses rule start reading.dated a b → kept_from rule start reading b ≡ ys ++ kept_from rule start reading c → ys ++ kept_from rule start reading c ≡ whole
  refilled whole xs ys a b c is given up within none kept =
      sym kept ∙ (sym (kept_from-failing a b up within none) ∙ (sym (ap (λ zs. zs ++ kept_from rule start reading a) given) ∙ is))

-- the digits of a moment, from 1970
pub seconds_of_written : (l : Local) → IsWritten l → seconds_since_1970 (moment_of_local l) ≡ local_seconds l
seconds_of_written l w = let from = w.from_first in let to = w.to_last in omega (arith, ints, from, to)
