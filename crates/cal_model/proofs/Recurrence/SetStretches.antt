-- Recurrence sets without COUNT are cut at the borders of periods: a stretch of time needs no moment before or after it. Each member but the start exists.
use Rattle.std.proofs.Common.{◌≡◌, ℕ, zero, suc, ◌+◌, ◌-◌, ◌*◌, ◌<◌, ◌≤◌, List, ◌++◌, refl, ap, sym, ◌∙◌, arith, Bool, true, false, inl, inr, nat_lt}
use Rattle.std.specs.Prelude.{All, filter, if◌then◌else◌, Option, None, Some, nat_le}
use Rattle.std.proofs.lemmas.Bool.{cases_Bool}
use Rattle.std.proofs.lemmas.List.Elements.{All-nil, All-cons, All-filter, All-take, filter-append, filter_passes, All-weaker}
use Rattle.cal_moment.specs.Calendar.{seconds_since_1970}
use Rattle.cal_model.specs.declared.rule.Rule.{Rule}
use Rattle.cal_model.specs.Words.Lists.{is_empty, counted_from, numbers_between}
use Rattle.cal_model.specs.Words.Integers.{some_names_place}
use Rattle.cal_model.specs.Recurrence.Passing.{passes, period_number}
use Rattle.cal_model.specs.Recurrence.NextPassing.{end_day}
use Rattle.cal_model.specs.Recurrence.RecurrenceSet.{Reading, found_moments, at_places, place_in_period, size_of_period, until_passes, first_counted, later_moments, last_written, first_moment, every_moment}
use Rattle.cal_model.proofs.Recurrence.Periods.{at_places-append}
use Rattle.cal_model.proofs.Recurrence.RecurrenceSetLemmas.{uncounted}
use Rattle.cal_model.proofs.Words.CountedLemmas.{numbers_between-cut}

first_counted-none : (count : Option ℕ) (xs : List ℕ) → count ≡ None → first_counted count xs ≡ xs
first_counted-none None xs h = refl
first_counted-none (Some n) xs h = absurd cc

uncounted-append : (rule : Rule) (start : ℕ) (reading : Reading) (xs ys : List ℕ) (n : ℕ) →
    All (λ m. period_number rule.freq rule.week_start m ≤ n) xs → All (λ m. n < period_number rule.freq rule.week_start m) ys →
    uncounted rule start reading (xs ++ ys) ≡ uncounted rule start reading xs ++ uncounted rule start reading ys
uncounted-append rule start reading xs ys n low high =
    let p : ℕ → Bool = λ m. if passes rule start reading.dated m then reading.exists (seconds_since_1970 m) else false in
    let cut : found_moments rule start reading (xs ++ ys) ≡ found_moments rule start reading xs ++ found_moments rule start reading ys = filter-append p xs ys in
    let kept = at_places-append rule (found_moments rule start reading xs) (found_moments rule start reading ys) n
    (All-filter p (λ m. period_number rule.freq rule.week_start m ≤ n) xs low)
    (All-filter p (λ m. n < period_number rule.freq rule.week_start m) ys high) in
    ap (λ found. filter (until_passes reading rule.until) (filter (λ m. nat_lt start m) (at_places rule found))) cut
    ∙ ap (λ places. filter (until_passes reading rule.until) (filter (λ m. nat_lt start m) places)) kept
    ∙ simp filter-append refl

-- without COUNT a list that is cut between two periods gives what its pieces give, with BYSETPOS too
pub later_moments-append_periods : (rule : Rule) (start : ℕ) (reading : Reading) (xs ys : List ℕ) (n : ℕ) → rule.count ≡ None →
    All (λ m. period_number rule.freq rule.week_start m ≤ n) xs → All (λ m. n < period_number rule.freq rule.week_start m) ys →
    later_moments rule start reading (xs ++ ys) ≡ later_moments rule start reading xs ++ later_moments rule start reading ys
later_moments-append_periods rule start reading xs ys n no_count low high =
    ap (filter (λ m. nat_le m last_written)) (first_counted-none rule.count (uncounted rule start reading (xs ++ ys)) no_count ∙ uncounted-append rule start reading xs ys n low high)
    ∙ filter-append (λ m. nat_le m last_written) (uncounted rule start reading xs) (uncounted rule start reading ys)
    ∙ sym (ap (λ us. filter (λ m. nat_le m last_written) us ++ filter (λ m. nat_le m last_written) (first_counted rule.count (uncounted rule start reading ys))) (first_counted-none rule.count (uncounted rule start reading xs) no_count)
    ∙ ap (λ us. filter (λ m. nat_le m last_written) (uncounted rule start reading xs) ++ filter (λ m. nat_le m last_written) us) (first_counted-none rule.count (uncounted rule start reading ys) no_count))

-- each member but the start exists
pub later_moments-exist : (moments : List ℕ) (rule : Rule) (start : ℕ) (reading : Reading) → All (λ m. reading.exists (seconds_since_1970 m) ≡ true) (later_moments rule start reading moments)
later_moments-exist moments rule start reading = kept
  where
    p : ℕ → Bool
    p m = if passes rule start reading.dated m then reading.exists (seconds_since_1970 m) else false

    each : (m : ℕ) → p m ≡ true → reading.exists (seconds_since_1970 m) ≡ true
    each m h = elim (cases_Bool (passes rule start reading.dated m)) [
      | inl w ↦ (let e = rw w at h in e)
      | inr w ↦ (let e = rw w at h in absurd cc)
    ]

    E : ℕ → Type 0
    E m = reading.exists (seconds_since_1970 m) ≡ true

    found : All E (found_moments rule start reading moments)
    found = All-weaker (λ m. p m ≡ true) E each (filter p moments) (filter_passes p moments)

    placed : All E (at_places rule (found_moments rule start reading moments))
    placed = elim (cases_Bool (is_empty rule.by_set_pos)) [
      | inl none ↦ rw none found
      | inr some ↦ rw some (All-filter (λ m. some_names_place rule.by_set_pos (place_in_period rule (found_moments rule start reading moments) m) (size_of_period rule (found_moments rule start reading moments) m)) E (found_moments rule start reading moments) found)
    ]

    until : All E (filter (until_passes reading rule.until) (filter (λ m. nat_lt start m) (at_places rule (found_moments rule start reading moments))))
    until = All-filter (until_passes reading rule.until) E _ (All-filter (λ m. nat_lt start m) E _ placed)

    counted : (count : Option ℕ) (xs : List ℕ) → All E xs → All E (first_counted count xs)
    counted None xs h = h
    counted (Some c) xs h = All-take E (c - 1) xs h

    kept : All E (later_moments rule start reading moments)
    kept = All-filter (λ m. nat_le m last_written) E _ (counted rule.count _ until)

-- what holds of each moment of a list holds of each member over it
pub later_moments-All : (P : ℕ → Type 0) (rule : Rule) (start : ℕ) (reading : Reading) (moments : List ℕ) → All P moments → All P (later_moments rule start reading moments)
later_moments-All P rule start reading moments h = All-filter (λ m. nat_le m last_written) P _ (counted rule.count _ until)
  where
    found : All P (found_moments rule start reading moments)
    found = All-filter (λ m. if passes rule start reading.dated m then reading.exists (seconds_since_1970 m) else false) P moments h

    placed : All P (at_places rule (found_moments rule start reading moments))
    placed = elim (cases_Bool (is_empty rule.by_set_pos)) [
      | inl none ↦ rw none found
      | inr some ↦ rw some (All-filter (λ m. some_names_place rule.by_set_pos (place_in_period rule (found_moments rule start reading moments) m) (size_of_period rule (found_moments rule start reading moments) m)) P (found_moments rule start reading moments) found)
    ]

    until : All P (filter (until_passes reading rule.until) (filter (λ m. nat_lt start m) (at_places rule (found_moments rule start reading moments))))
    until = All-filter (until_passes reading rule.until) P _ (All-filter (λ m. nat_lt start m) P _ placed)

    counted : (count : Option ℕ) (xs : List ℕ) → All P xs → All P (first_counted count xs)
    counted None xs k = k
    counted (Some c) xs k = All-take P (c - 1) xs k

All-counted : (P : ℕ → Type 0) (first n : ℕ) → ((m : ℕ) → first ≤ m → m < first + n → P m) → All P (counted_from first n)
unfolding counted_from
All-counted P first zero h = All-nil P
All-counted P first (suc n) h = All-cons P first (counted_from (first + 1) n) (h first (omega arith) (omega arith)) (All-counted P (first + 1) n (λ m low high. h m (omega arith) (omega arith)))

pub All-between : (P : ℕ → Type 0) (a b : ℕ) → ((m : ℕ) → a ≤ m → m < b → P m) → All P (numbers_between a b)
All-between P a b h = All-counted P a (b - a) (λ m low high. h m low (omega arith))

-- without COUNT the set is cut at the borders of periods: nothing before or after a stretch takes part in it
pub later_moments-stretch : (rule : Rule) (start : ℕ) (reading : Reading) (a b n k : ℕ) → rule.count ≡ None → first_moment ≤ a → a ≤ b → b ≤ 86_400 * end_day →
    ((m : ℕ) → m < a → period_number rule.freq rule.week_start m ≤ n) → ((m : ℕ) → a ≤ m → n < period_number rule.freq rule.week_start m) →
    ((m : ℕ) → m < b → period_number rule.freq rule.week_start m ≤ k) → ((m : ℕ) → b ≤ m → k < period_number rule.freq rule.week_start m) →
    later_moments rule start reading every_moment ≡
    later_moments rule start reading (numbers_between first_moment a) ++ (later_moments rule start reading (numbers_between a b) ++ later_moments rule start reading (numbers_between b (86_400 * end_day)))
unfolding every_moment
later_moments-stretch rule start reading a b n k no_count from up to before_a from_a before_b from_b =
    ap (later_moments rule start reading) (numbers_between-cut first_moment a (86_400 * end_day) from (omega (arith, up, to)))
    ∙ later_moments-append_periods rule start reading (numbers_between first_moment a) (numbers_between a (86_400 * end_day)) n no_count
    (All-between (λ m. period_number rule.freq rule.week_start m ≤ n) first_moment a (λ m low high. before_a m high))
    (All-between (λ m. n < period_number rule.freq rule.week_start m) a (86_400 * end_day) (λ m low high. from_a m low))
    ∙ ap (λ xs. later_moments rule start reading (numbers_between first_moment a) ++ xs)
    (ap (later_moments rule start reading) (numbers_between-cut a b (86_400 * end_day) up to)
    ∙ later_moments-append_periods rule start reading (numbers_between a b) (numbers_between b (86_400 * end_day)) k no_count
    (All-between (λ m. period_number rule.freq rule.week_start m ≤ k) a b (λ m low high. before_b m high))
    (All-between (λ m. k < period_number rule.freq rule.week_start m) b (86_400 * end_day) (λ m low high. from_b m low)))
