-- Of a rule's set, the start itself aside, the starts whose local digits lie in a range are those of the moments with these digits, since a moment that exists has its own digits as local time.
use Rattle.std.proofs.Common.{◌≡◌, ℕ, ◌*◌, ◌<◌, ◌≤◌, List, [], ◌∷◌, ◌++◌, refl, sym, ap, ap₂, ◌∙◌, arith, true, false, ℤ, pos, neg_ℤ, ◌<ℤ◌, ◌≤ℤ◌, inl, inr}
use Rattle.std.specs.Prelude.{All, filter, flat_map, nat_le, nat_lt, int_le, int_lt, ◌&&◌}
use Rattle.std.proofs.lemmas.Int.{ints}
use Rattle.std.proofs.lemmas.Bool.{cases_Bool, leb-true, leb-false, ltb-true, ltb-false}
use Rattle.std.proofs.lemmas.List.Elements.{All-head, All-tail}
use Rattle.cal_moment.specs.Calendar.{moment_of_seconds, seconds_since_1970}
use Rattle.cal_moment.proofs.CalendarLaws.{moment_of_seconds-seconds_since_1970}
use Rattle.cal_moment.specs.declared.stamp.Stamp.{Stamp}
use Rattle.cal_model.specs.declared.rule.Rule.{Rule}
use Rattle.cal_model.specs.declared.zone.ZoneTable.{ZoneTable}
use Rattle.cal_moment.specs.declared.stamp.Local.{Local}
use Rattle.cal_model.specs.Values.LocalTimes.{local_seconds, moment_of_local}
use Rattle.cal_model.proofs.Walks.KeptLemmas.{seconds_of_written}
use Rattle.cal_model.specs.Recurrence.NextPassing.{end_day}
use Rattle.cal_model.specs.Recurrence.RuleBounds.{IsWritten}
use Rattle.cal_model.specs.Recurrence.RecurrenceSet.{Reading, later_moments, every_moment, first_moment}
use Rattle.cal_model.specs.Walks.KeptMoments.{starts_by, starts_between}
use Rattle.cal_moment.specs.declared.stamp.Stamp.TheVariants.{Date, Floating, Zoned, Utc}
use Rattle.cal_model.specs.Instances.Alignment.{reading_of, written_moment}
use Rattle.cal_model.specs.Instances.Starts.{is_date}
use Rattle.rrule_sets.specs.AskedStarts.{later_starts}
use Rattle.cal_model.proofs.Recurrence.SetStretches.{later_moments-exist, later_moments-All, All-between}
use Rattle.cal_model.proofs.Ranges.WindowStretches.{local-instant}
use Rattle.rrule_sets.specs.declared.range.Digits.{Digits}
use Rattle.rrule_sets.specs.DigitRanges.{in_digits, starts_in}

-- two moments cut the moments of rules as a range cuts their digits
pub record IsCutBy (range : Digits) (low high : ℕ) : Type 0 where
  pub from : (m : ℕ) → first_moment ≤ m → m < 86_400 * end_day → nat_le low m ≡ int_le range.low (seconds_since_1970 m)
  pub before : (m : ℕ) → first_moment ≤ m → m < 86_400 * end_day → nat_lt m high ≡ int_lt (seconds_since_1970 m) range.high

-- the moments that rules give
pub record IsOfRules (m : ℕ) : Type 0 where
  pub from : first_moment ≤ m
  pub before : m < 86_400 * end_day

pub every_moment-of_rules : All IsOfRules every_moment
unfolding every_moment
every_moment-of_rules = All-between IsOfRules first_moment (86_400 * end_day) (λ m from before. record { from = from; before = before })

module _ (zones : List ZoneTable) (s : Stamp) (range : Digits) (low high : ℕ) (cut : IsCutBy range low high) where
  starts_in_moments : (ms : List ℕ) → All IsOfRules ms → All (λ m. (reading_of zones s).exists (seconds_since_1970 m) ≡ true) ms →
      filter (starts_in zones s range) (starts_by (reading_of zones s) ms) ≡ starts_by (reading_of zones s) (filter (λ m. nat_le low m && nat_lt m high) ms)
  starts_in_moments [] years there = refl
  starts_in_moments (m ∷ ms) years there =
      let year = All-head IsOfRules m ms years in
      let digits = local-instant zones s (seconds_since_1970 m) (All-head (λ m. (reading_of zones s).exists (seconds_since_1970 m) ≡ true) m ms there) in
      let from = cut.from m year.from year.before in
      let before = cut.before m year.from year.before in
      let same : starts_in zones s range ((reading_of zones s).instant (seconds_since_1970 m)) ≡ (nat_le low m && nat_lt m high) = ap (in_digits range) digits ∙ rw (from, before) refl in
      let rest = starts_in_moments ms (All-tail IsOfRules m ms years) (All-tail (λ m. (reading_of zones s).exists (seconds_since_1970 m) ≡ true) m ms there) in
      elim (cases_Bool (nat_le low m && nat_lt m high)) [
        | inl w ↦ rw (same, w) (ap (λ rs. (reading_of zones s).instant (seconds_since_1970 m) ∷ rs) rest)
        | inr w ↦ rw (same, w) rest
      ]

  pub later_starts_in : (rule : Rule) (start : ℕ) → filter (starts_in zones s range) (starts_by (reading_of zones s) (later_moments rule start (reading_of zones s) every_moment)) ≡ starts_between rule start (reading_of zones s) low high
  later_starts_in rule start =
      starts_in_moments (later_moments rule start (reading_of zones s) every_moment) (later_moments-All IsOfRules rule start (reading_of zones s) every_moment every_moment-of_rules) (later_moments-exist every_moment rule start (reading_of zones s))

-- Digits of moments.

pub written_digits : (l : Local) (digits : ℤ) → local_seconds l ≡ digits → l.second < 86_400 → neg_ℤ (pos 62_135_596_800) <ℤ digits → digits <ℤ pos 4_165_516_800 → IsWritten l
written_digits l digits e second late early =
    record { from_first = omega (arith, ints, e, second, late); to_last = omega (arith, ints, e, second, early); second_below = second }

pub cut_from : (l : Local) (digits : ℤ) (m : ℕ) → IsWritten l → local_seconds l ≡ digits → nat_le (moment_of_local l) m ≡ int_le digits (seconds_since_1970 m)
cut_from l digits m written e =
    let number : seconds_since_1970 (moment_of_local l) ≡ digits = seconds_of_written l written ∙ e in
    elim (cases_Bool (nat_le (moment_of_local l) m)) [
      | inl w ↦ (let le = leb-true _ _ w in let v : int_le digits (seconds_since_1970 m) ≡ true = rw (← number) (let at_or_before : seconds_since_1970 (moment_of_local l) ≤ℤ seconds_since_1970 m = omega (arith, ints, le) in grind (arith, ints, at_or_before)) in w ∙ sym v)
      | inr w ↦ (let lt = leb-false _ _ w in let v : int_le digits (seconds_since_1970 m) ≡ false = rw (← number) (let behind : seconds_since_1970 m <ℤ seconds_since_1970 (moment_of_local l) = omega (arith, ints, lt) in grind (arith, ints, behind)) in w ∙ sym v)
    ]

pub cut_before : (l : Local) (digits : ℤ) (m : ℕ) → IsWritten l → local_seconds l ≡ digits → nat_lt m (moment_of_local l) ≡ int_lt (seconds_since_1970 m) digits
cut_before l digits m written e =
    let number : seconds_since_1970 (moment_of_local l) ≡ digits = seconds_of_written l written ∙ e in
    elim (cases_Bool (nat_lt m (moment_of_local l))) [
      | inl w ↦ (let lt = ltb-true _ _ w in let v : int_lt (seconds_since_1970 m) digits ≡ true = rw (← number) (let before : seconds_since_1970 m <ℤ seconds_since_1970 (moment_of_local l) = omega (arith, ints, lt) in grind (arith, ints, before)) in w ∙ sym v)
      | inr w ↦ (let le = ltb-false _ _ w in let v : int_lt (seconds_since_1970 m) digits ≡ false = rw (← number) (let behind : seconds_since_1970 (moment_of_local l) ≤ℤ seconds_since_1970 m = omega (arith, ints, le) in grind (arith, ints, behind)) in w ∙ sym v)
    ]

-- a written moment counts the seconds that its digits write
pub moment_of_written : (l : Local) (digits : ℤ) → IsWritten l → local_seconds l ≡ digits → moment_of_local l ≡ moment_of_seconds digits
moment_of_written l digits written e = sym (moment_of_seconds-seconds_since_1970 (moment_of_local l)) ∙ ap moment_of_seconds (seconds_of_written l written ∙ e)

-- and lies by a moment whose digits come no earlier
pub written_by : (l : Local) (digits : ℤ) (n : ℕ) → IsWritten l → local_seconds l ≡ digits → digits ≤ℤ seconds_since_1970 n → moment_of_local l ≤ n
written_by l digits n written e le = let number = seconds_of_written l written in omega (arith, ints, number, e, le)

-- the starts of rules between two moments are those in the range that these cut
pub rules_between : (zones : List ZoneTable) (s : Stamp) (range : Digits) (low high start : ℕ) (reading : Reading) → IsCutBy range low high → start ≡ written_moment s → reading ≡ reading_of zones s → (rules : List Rule) →
    flat_map (λ (rule : Rule). starts_between rule start reading low high) rules ≡ flat_map (later_starts zones s range) rules
rules_between zones s range low high start reading cut e r rules =
    ap₂ (λ (m : ℕ) (clock : Reading). flat_map (λ (rule : Rule). starts_between rule m clock low high) rules) e r ∙ each rules
  where
    each : (rules : List Rule) → flat_map (λ (rule : Rule). starts_between rule (written_moment s) (reading_of zones s) low high) rules ≡ flat_map (later_starts zones s range) rules
    each [] = refl
    each (rule ∷ rules) = ap₂ (λ (xs ys : List ℤ). xs ++ ys) (sym (later_starts_in zones s range low high cut rule (written_moment s))) (each rules)

-- a reading is that of days beside a DATE alone
pub dated-is : (zones : List ZoneTable) (s : Stamp) → (reading_of zones s).dated ≡ is_date s
dated-is zones (Date d) = refl
dated-is zones (Floating l) = refl
dated-is zones (Zoned l n) = refl
dated-is zones (Utc u) = refl
