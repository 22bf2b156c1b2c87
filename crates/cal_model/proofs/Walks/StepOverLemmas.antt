-- A period that is known to have none of the places of BYSETPOS is stepped over.
use Rattle.std.proofs.Common.{◌≡◌, ◌⊎◌, ℕ, ◌+◌, ◌-◌, ◌*◌, ◌<◌, ◌≤◌, List, [], ◌++◌, length, get_or, refl, ap, ◌∙◌, arith, false, inr}
use Rattle.std.proofs.lemmas.Nat.{mul-le}
use Rattle.std.proofs.lemmas.List.Elements.{All-filter, All-weaker}
use Rattle.cal_model.specs.declared.rule.Rule.{Rule}
use Rattle.cal_model.specs.declared.rule.Freq.TheVariants.{Daily, Weekly, Monthly, Yearly}
use Rattle.cal_model.specs.Words.Lists.{is_empty, numbers_between}
use Rattle.cal_model.specs.Recurrence.NextPassing.{end_day}
use Rattle.cal_model.specs.Recurrence.Passing.{period_number}
use Rattle.cal_model.specs.Recurrence.RecurrenceSet.{Reading, first_moment}
use Rattle.cal_model.specs.Walks.DayTimes.{times_of_day}
use Rattle.cal_model.specs.Walks.KeptMoments.{found_between, found_from, kept_from}
use Rattle.cal_model.specs.Walks.Places.{is_day_of, days_of_period}
use Rattle.cal_model.specs.Walks.SetPlaces.{NeedsPlaces}
use Rattle.cal_model.proofs.Recurrence.Rising.{count_le}
use Rattle.cal_model.proofs.Walks.KeptLemmas.{all_within, is_found, kept_from-period, later_periods, one_period}
use Rattle.cal_model.proofs.Walks.PlaceLemmas.{found_at_most, none_placed}

module _ (rule : Rule) (start : ℕ) (reading : Reading) (long : (rule.freq ≡ Monthly) ⊎ (rule.freq ≡ Yearly)) where
  -- its periods have whole days
  whole : (rule.freq ≡ Daily) ⊎ ((rule.freq ≡ Weekly) ⊎ ((rule.freq ≡ Monthly) ⊎ (rule.freq ≡ Yearly)))
  whole = inr (inr long)

  -- two moments of one period have the same days
  same_days : (m a : ℕ) → period_number rule.freq rule.week_start m ≡ period_number rule.freq rule.week_start a → days_of_period rule start m ≤ days_of_period rule start a
  same_days m a same = count_le (is_day_of rule start m) (is_day_of rule start a) (numbers_between 0 end_day) (λ d w. rw same at w)

  module _ (times : List ℕ) (count least : ℕ) (timed : times ≡ times_of_day rule start reading.dated) (counted : count ≡ length times) (needs : NeedsPlaces rule.by_set_pos least) (some : is_empty rule.by_set_pos ≡ false) where
    all_times : count ≡ length (times_of_day rule start reading.dated)
    all_times = counted ∙ ap length timed

    -- one period of too few moments
    pub kept_from-stepped : (a b : ℕ) → days_of_period rule start a * count < least → a < b → b ≤ 86400 * end_day → period_number rule.freq rule.week_start (b - 1) ≡ period_number rule.freq rule.week_start a → period_number rule.freq rule.week_start a < period_number rule.freq rule.week_start b →
        kept_from rule start reading a ≡ kept_from rule start reading b
    kept_from-stepped a b few lt end last next =
        let shape : b - 1 + 1 ≡ b = omega (arith, lt) in
        let one = rw shape at (one_period rule start reading a (b - 1) (period_number rule.freq rule.week_start a) (omega (arith, lt)) refl last) in
        let room = rw all_times at few in
        let none = none_placed rule (days_of_period rule start a * length (times_of_day rule start reading.dated)) (found_between rule start reading a b)
        (λ i d below.
        let size = found_at_most rule start reading (get_or (found_between rule start reading a b) i d) whole a b (omega (arith, lt)) end in
        let days = same_days (get_or (found_between rule start reading a b) i d) a (one i d below) in
        let most = mul-le (days_of_period rule start (get_or (found_between rule start reading a b) i d)) (length (times_of_day rule start reading.dated)) (days_of_period rule start a) (length (times_of_day rule start reading.dated)) days (omega arith) in
        omega (arith, size, most)) some (needs (days_of_period rule start a * length (times_of_day rule start reading.dated)) room) in
        kept_from-period rule start reading a b (period_number rule.freq rule.week_start a) (omega (arith, lt)) end
        (All-weaker (λ k. period_number rule.freq rule.week_start k ≡ period_number rule.freq rule.week_start a) (λ k. period_number rule.freq rule.week_start k ≤ period_number rule.freq rule.week_start a) (λ k e. omega (arith, e)) (found_between rule start reading a b) one)
        (later_periods rule start reading b (86400 * end_day) (period_number rule.freq rule.week_start a) next)
        ∙ ap (λ xs. xs ++ kept_from rule start reading b) none

    -- all periods of too few
    pub kept_from-never : ((m : ℕ) → first_moment ≤ m → m < 86400 * end_day → days_of_period rule start m * count < least) → (a : ℕ) → first_moment ≤ a → a ≤ 86400 * end_day → kept_from rule start reading a ≡ []
    unfolding kept_from
    kept_from-never few a from end =
        let within = All-filter (is_found rule start reading) (λ m. (first_moment ≤ m) × (m < 86400 * end_day)) (numbers_between a (86400 * end_day))
        (all_within rule start reading (λ m. (first_moment ≤ m) × (m < 86400 * end_day)) a (86400 * end_day - a) (λ m low high. (omega (arith, low, from), omega (arith, high, end)))) in
        let first = few first_moment (omega arith) (omega arith) in
        none_placed rule (least - 1) (found_from rule start reading a)
        (λ i d below.
        let size = found_at_most rule start reading (get_or (found_from rule start reading a) i d) whole a (86400 * end_day) end (omega arith) in
        let there = within i d below in
        let room = rw all_times at (few (get_or (found_from rule start reading a) i d) there.0 there.1) in
        omega (arith, size, room)) some (needs (least - 1) (omega (arith, first)))
