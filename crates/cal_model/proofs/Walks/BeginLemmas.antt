-- Where a walk may begin.
use Rattle.std.proofs.Common.{◌≡◌, ℕ, zero, suc, ◌+◌, ◌-◌, ◌*◌, ◌/◌, ◌%◌, ◌<◌, ◌≤◌, List, [], ◌++◌, length, refl, ap, ◌∙◌, arith, true, nat_lt, inl, inr, ◌⊎◌}
use Rattle.std.specs.Prelude.{All, filter, nat_le, ◌&&◌, Option, None}
use Rattle.std.proofs.lemmas.Bool.{cases_Bool, ltb-true, ltb-false}
use Rattle.std.proofs.lemmas.List.Elements.{All-filter, All-weaker, All-nil, All-cons}
use Rattle.cal_moment.specs.Calendar.{first_of_year, year_of}
use Rattle.cal_moment.proofs.CalendarLaws.{first_of_year-le, year_of-first, year_of-last, year_of-only}
use Rattle.cal_model.specs.declared.rule.Rule.{Rule}
use Rattle.cal_model.specs.declared.rule.Freq.TheVariants.{Hourly, Daily, Weekly, Monthly, Yearly}
use Rattle.cal_model.specs.Words.Lists.{is_empty, numbers_between, counted_from}
use Rattle.cal_model.specs.Words.Integers.{some_names_place}
use Rattle.cal_model.specs.Values.LocalTimes.{moment_of_local}
use Rattle.cal_model.specs.Recurrence.NextPassing.{end_day}
use Rattle.cal_model.specs.Recurrence.RecurrenceSet.{Reading, every_moment, first_moment, at_places, later_moments, place_in_period, size_of_period}
use Rattle.cal_model.proofs.Recurrence.Rising.{month_of-first, month_of-last}
use Rattle.cal_model.specs.Walks.KeptMoments.{found_from, found_between, kept_from, wanted, one_less, IsPeriodFirst, number_of}
use Rattle.cal_model.specs.Walks.PickedRest.{rest_of}
use Rattle.cal_model.specs.declared.walk.picks.Picks.{Picks}
use Rattle.cal_model.proofs.Walks.KeptLemmas.{kept_from-period, kept_from-plain, is_found, later_periods}
use Rattle.cal_model.proofs.Walks.WantedLemmas.{wanted-skip_early, wanted-skip_low, later_moments-wanted, begin_after_start, begin_at_low}

-- without BYSETPOS nothing is picked ahead
pub plain_rest : (rule : Rule) (start : ℕ) (reading : Reading) (picks : Picks) → is_empty rule.by_set_pos ≡ true → picks.moments ≡ [] → picks.given ≤ length picks.moments →
    rest_of rule start reading picks ≡ found_from rule start reading (moment_of_local picks.cursor.at)
plain_rest rule start reading picks none empty given =
    let zero_given : picks.given ≡ 0 = let few : picks.given ≤ 0 = rw empty at given in omega (arith, few) in
    rw (empty, zero_given) (kept_from-plain rule start reading (moment_of_local picks.cursor.at) none)

-- Firsts of periods.

-- a midnight, for hours and days
pub midnight_first : (rule : Rule) (day p : ℕ) → p ≡ 86400 * day → (rule.freq ≡ Hourly) ⊎ (rule.freq ≡ Daily) → IsPeriodFirst rule p
midnight_first rule day p is (inl e) = λ m lt. rw (is, e) (let low : m < 86400 * day = omega (arith, lt, is) in omega (arith, low))
midnight_first rule day p is (inr e) = λ m lt. rw (is, e) (let low : m < 86400 * day = omega (arith, lt, is) in omega (arith, low))

-- the first day of a week
pub week_first : (rule : Rule) (day p : ℕ) → p ≡ 86400 * day → rule.freq ≡ Weekly → rule.week_start < 7 → (day + 12 - rule.week_start) % 7 ≡ 0 → IsPeriodFirst rule p
week_first rule day p is e small whole = λ m lt. rw (is, e) (let low : m < 86400 * day = omega (arith, lt, is) in omega (arith, low, small, whole))

-- years before one are smaller
year_before : (day y : ℕ) → day < first_of_year y → year_of day < y
year_before day y lt = elim (cases_Bool (nat_lt (year_of day) y)) [
  | inl w ↦ ltb-true _ _ w
  | inr w ↦ absurd (let ge = ltb-false _ _ w in let le = first_of_year-le y (year_of day) ge in let from = year_of-first day in omega (arith, le, from, lt))
]

pub year_at_first : (y : ℕ) → year_of (first_of_year y) ≡ y
year_at_first y = year_of-only (first_of_year y) y (omega arith) (let le = first_of_year-le y y (omega arith) in omega arith)

-- the year of a day from the year 1 on begins at or before it
pub year_begins : (day year : ℕ) → 366 ≤ day → year ≡ year_of day → (366 ≤ first_of_year year) × (first_of_year year ≤ day)
year_begins day year from is =
    let low = year_of-first day in
    let high = year_of-last day in
    let some : 1 ≤ year_of day = elim (cases_Bool (nat_lt (year_of day) 1)) [
      | inl w ↦ (let none = ltb-true _ _ w in let zero : year_of day ≡ 0 = omega (arith, none) in absurd (let end = rw zero at high in omega (arith, from, end)))
      | inr w ↦ ltb-false _ _ w
    ] in
    let le = first_of_year-le 1 (year_of day) some in
    rw is (omega (arith, le), low)

-- 1 January, for months and years
pub year_first : (rule : Rule) (y p : ℕ) → p ≡ 86400 * first_of_year y → (rule.freq ≡ Monthly) ⊎ (rule.freq ≡ Yearly) → IsPeriodFirst rule p
year_first rule y p is (inr e) = λ m lt.
    let day : 86400 * first_of_year y / 86400 ≡ first_of_year y = omega arith in
    let at : year_of (86400 * first_of_year y / 86400) ≡ y = rw day (year_at_first y) in
    let before = year_before (m / 86400) y (omega (arith, lt, is)) in
    rw (is, e, at) before
year_first rule y p is (inl e) = λ m lt.
    let day : 86400 * first_of_year y / 86400 ≡ first_of_year y = omega arith in
    let at : year_of (86400 * first_of_year y / 86400) ≡ y = rw day (year_at_first y) in
    let before = year_before (m / 86400) y (omega (arith, lt, is)) in
    let some = month_of-first (86400 * first_of_year y / 86400) in
    let most = month_of-last (m / 86400) in
    rw (is, e, at) (omega (arith, before, some, most))

module _ (rule : Rule) (start : ℕ) (reading : Reading) (low high : ℕ) where
  counted_before : (first n b : ℕ) → ((m : ℕ) → m < first + n → first ≤ m → m < b) → All (λ m. m < b) (counted_from first n)
  unfolding counted_from
  counted_before first zero b h = All-nil (λ m. m < b)
  counted_before first (suc n) b h = All-cons (λ m. m < b) first (counted_from (first + 1) n) (h first (omega arith) (omega arith)) (counted_before (first + 1) n b (λ m lt le. h m (omega (arith, lt)) (omega (arith, le))))

  all_before : (a b : ℕ) → All (λ m. m < b) (found_between rule start reading a b)
  all_before a b = All-filter (is_found rule start reading) (λ m. m < b) (numbers_between a b) (counted_before a (b - a) b (λ m lt le. omega (arith, lt, le)))

  places_before : (xs : List ℕ) (b : ℕ) → All (λ m. m < b) xs → All (λ m. m < b) (at_places rule xs)
  places_before xs b all = elim (cases_Bool (is_empty rule.by_set_pos)) [
    | inl none ↦ rw none all
    | inr some ↦ rw some (All-filter (λ m. some_names_place rule.by_set_pos (place_in_period rule xs m) (size_of_period rule xs m)) (λ m. m < b) xs all)
  ]

  -- the whole set is that of the periods before one, and of the rest
  whole_from : (p : ℕ) → first_moment ≤ p → p ≤ 86400 * end_day → IsPeriodFirst rule p → kept_from rule start reading first_moment ≡ at_places rule (found_between rule start reading first_moment p) ++ kept_from rule start reading p
  whole_from p from to first =
      let some = first 0 (omega (arith, from)) in
      kept_from-period rule start reading first_moment p (number_of rule p - 1) from to
      (All-weaker (λ m. m < p) (λ m. number_of rule m ≤ number_of rule p - 1) (λ m lt. let less = first m lt in omega (arith, less)) (found_between rule start reading first_moment p) (all_before first_moment p))
      (later_periods rule start reading p (86400 * end_day) (number_of rule p - 1) (omega (arith, some)))

  -- right after the start, or in its period
  pub kept_after_start : (left : Option ℕ) (p : ℕ) → p ≤ start + 1 → first_moment ≤ p → p ≤ 86400 * end_day → IsPeriodFirst rule p →
      wanted rule start reading low high left (kept_from rule start reading first_moment) ≡ wanted rule start reading low high left (kept_from rule start reading p)
  kept_after_start left p le from to first =
      ap (wanted rule start reading low high left) (whole_from p from to first)
      ∙ wanted-skip_early rule start reading low high left (at_places rule (found_between rule start reading first_moment p)) (kept_from rule start reading p)
      (All-weaker (λ m. m < p) (λ m. m ≤ start) (λ m lt. omega (arith, lt, le)) (at_places rule (found_between rule start reading first_moment p)) (places_before (found_between rule start reading first_moment p) p (all_before first_moment p)))

  -- without COUNT, at the range, or in its first period
  pub kept_at_low : (p : ℕ) → p ≤ low → first_moment ≤ p → p ≤ 86400 * end_day → IsPeriodFirst rule p →
      wanted rule start reading low high None (kept_from rule start reading first_moment) ≡ wanted rule start reading low high None (kept_from rule start reading p)
  kept_at_low p le from to first =
      ap (wanted rule start reading low high None) (whole_from p from to first)
      ∙ wanted-skip_low rule start reading low high (at_places rule (found_between rule start reading first_moment p)) (kept_from rule start reading p)
      (All-weaker (λ m. m < p) (λ m. m < low) (λ m lt. omega (arith, lt, le)) (at_places rule (found_between rule start reading first_moment p)) (places_before (found_between rule start reading first_moment p) p (all_before first_moment p)))

  -- the starts of a rule's set are wanted of all that is kept
  pub wanted_of_kept : filter (λ m. nat_le low m && nat_lt m high) (later_moments rule start reading every_moment) ≡ wanted rule start reading low high (one_less rule.count) (kept_from rule start reading first_moment)
  unfolding every_moment kept_from
  wanted_of_kept = later_moments-wanted rule start reading low high every_moment

-- Both, without BYSETPOS at the moment itself and with it at the first of a period.
module _ (rule : Rule) (start : ℕ) (reading : Reading) (low high : ℕ) (left : Option ℕ) (a : ℕ) where
  pub begin_picked : (p : ℕ) → IsPeriodFirst rule p → p ≤ a → first_moment ≤ p → a ≤ 86400 * end_day → ((a ≤ start + 1) ⊎ ((a ≡ low) × (left ≡ None))) →
      wanted rule start reading low high left (kept_from rule start reading first_moment) ≡ wanted rule start reading low high left (kept_from rule start reading p)
  begin_picked p first le from to (inl e) = kept_after_start rule start reading low high left p (omega (arith, le, e)) from (omega (arith, le, to)) first
  begin_picked p first le from to (inr e) = let none = e.1 in let same = e.0 in rw none (kept_at_low rule start reading low high p (omega (arith, le, same)) from (omega (arith, le, to)) first)

  pub begin_plain : is_empty rule.by_set_pos ≡ true → first_moment ≤ a → a ≤ 86400 * end_day → ((a ≤ start + 1) ⊎ ((a ≡ low) × (left ≡ None))) →
      wanted rule start reading low high left (kept_from rule start reading first_moment) ≡ wanted rule start reading low high left (kept_from rule start reading a)
  begin_plain plain from to which = rw (kept_from-plain rule start reading first_moment plain, kept_from-plain rule start reading a plain) (cases which)
    where
      cases : ((a ≤ start + 1) ⊎ ((a ≡ low) × (left ≡ None))) → wanted rule start reading low high left (found_from rule start reading first_moment) ≡ wanted rule start reading low high left (found_from rule start reading a)
      cases (inl e) = begin_after_start rule start reading low high left a e from to
      cases (inr e) = let none = e.1 in rw none (begin_at_low rule start reading low high a e.0 from to)

  -- where the first moment of all stands for the first of a period
  pub begin_period : (p : ℕ) → ((p ≡ first_moment) ⊎ IsPeriodFirst rule p) → p ≤ a → first_moment ≤ p → a ≤ 86400 * end_day → ((a ≤ start + 1) ⊎ ((a ≡ low) × (left ≡ None))) →
      wanted rule start reading low high left (kept_from rule start reading first_moment) ≡ wanted rule start reading low high left (kept_from rule start reading p)
  begin_period p (inl e) le from to which = rw e refl
  begin_period p (inr first) le from to which = begin_picked p first le from to which
