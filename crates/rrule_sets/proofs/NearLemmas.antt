-- The starts of a component lie near 1970, and those of rules between the years 1 and 2101.
use Rattle.std.proofs.Common.{◌≡◌, ℕ, List, [], ◌∷◌, ◌++◌, map, refl, sym, ap, subst, ◌∙◌, arith, Bool, true, false, ℤ, pos, neg_ℤ, ◌≤ℤ◌, inl, inr}
use Rattle.std.specs.Prelude.{All, filter, flat_map, Option, Some, None, option_to_list, int_lt, ◌&&◌, if◌then◌else◌}
use Rattle.std.specs.List.Sorted.{IsPermutation}
use Rattle.std.proofs.lemmas.Int.{ints}
use Rattle.std.proofs.lemmas.Bool.{cases_Bool}
use Rattle.std.proofs.lemmas.List.Elements.{All-head, All-tail, All-nil, All-cons, All-append, All-map, All-filter, All-weaker}
use Rattle.std.proofs.lemmas.List.Sorted.{All-permutation}
use Rattle.cal_moment.specs.Calendar.{IsBetween, IsCalendarMoment, seconds_since_1970}
use Rattle.cal_moment.proofs.CalendarLaws.{seconds_since_1970-moment_of_seconds}
use Rattle.cal_moment.specs.declared.stamp.Period.{Period}
use Rattle.cal_moment.specs.declared.stamp.Stamp.{Stamp}
use Rattle.cal_model.specs.declared.object.Component.{Component}
use Rattle.cal_model.specs.declared.object.Extent.{Extent}
use Rattle.cal_model.specs.declared.object.Kind.{Kind}
use Rattle.cal_model.specs.declared.object.Kind.TheVariants.{Event, Todo, Journal, FreeBusy}
use Rattle.cal_model.specs.declared.rule.Rule.{Rule}
use Rattle.cal_model.specs.declared.zone.ZoneTable.{ZoneTable}
use Rattle.cal_model.specs.Instances.Alignment.{reading_of, value_of, written_moment, written_value}
use Rattle.cal_model.specs.Instances.Starts.{ascending, date_start, is_date, own_start_of, period_starts, recurs, recurs_of, own_start, rule_starts}
use Rattle.cal_model.specs.Objects.ObjectFacts.{IsServed}
use Rattle.cal_model.specs.Ranges.Nearness.{HasShortOffsets}
use Rattle.cal_model.specs.Recurrence.RecurrenceSet.{every_moment, later_moments}
use Rattle.cal_model.specs.Walks.KeptMoments.{starts_by}
use Rattle.cal_model.proofs.Instances.RisingLists.{All-ascending}
use Rattle.cal_model.proofs.Ranges.WindowStretches.{local-instant}
use Rattle.cal_model.proofs.Recurrence.SetStretches.{later_moments-exist, later_moments-All}
use Rattle.cal_model.proofs.Words.AllLemmas.{All-everywhere, All-flat_map}
use Rattle.override_merge.specs.Conversions.{IsConvertible, IsRowTime}
use Rattle.override_merge.specs.ExpandableComponents.{IsConvertiblePeriod, IsExpandable}
use Rattle.rrule_sets.specs.declared.range.Digits.{Digits}
use Rattle.rrule_sets.specs.AskedStarts.{later_starts, plain_of, spans_of}
use Rattle.rrule_sets.specs.DigitRanges.{in_digits, starts_in}
use Rattle.rrule_sets.specs.PeriodSpans.{period_span, span_starts_in}
use Rattle.rrule_sets.proofs.DateStarts.{IsNearRow, near_instant, value_near, date_start_near}
use Rattle.rrule_sets.proofs.DigitLemmas.{IsOfRules, every_moment-of_rules}

-- The start of a component that recurs.

recurring_start_of : (kind : Kind) (start : Option Stamp) (said : Extent) (s : Stamp) → recurs_of kind start ≡ true → own_start_of kind start said ≡ Some s → start ≡ Some s
recurring_start_of FreeBusy start said s it_does own = absurd cc
recurring_start_of Event None said s it_does own = absurd cc
recurring_start_of Event (Some x) said s it_does own = own
recurring_start_of Todo None said s it_does own = absurd cc
recurring_start_of Todo (Some x) said s it_does own = own
recurring_start_of Journal None said s it_does own = absurd cc
recurring_start_of Journal (Some x) said s it_does own = own

pub recurring_start : (c : Component) (s : Stamp) → recurs c ≡ true → own_start c ≡ Some s → c.start ≡ Some s
recurring_start c s it_does own = recurring_start_of c.kind c.start c.extent s it_does own

pub served_start : (start : Option Stamp) (s : Stamp) → start ≡ Some s → All IsServed (option_to_list start) → IsServed s
served_start start s e all = All-head IsServed s [] (rw e at all)

-- its value is the instant of its moment
pub value_of_served : (zones : List ZoneTable) (s : Stamp) → IsServed s → value_of zones s ≡ (reading_of zones s).instant (seconds_since_1970 (written_moment s))
value_of_served zones s served =
    let from = served.from_first in
    let to = served.to_last in
    let calendar : IsCalendarMoment (written_value s) = (omega (arith, ints, from), omega (arith, ints, to)) in
    ap (reading_of zones s).instant (sym (seconds_since_1970-moment_of_seconds (written_value s) calendar))

-- Rules.

moment_near : (m : ℕ) → IsOfRules m → IsBetween (neg_ℤ (pos 1_150_000_000_000)) (pos 1_150_000_000_000) (seconds_since_1970 m)
moment_near m is = let from = is.from in let before = is.before in (omega (arith, ints, from, before), omega (arith, ints, from, before))

later_near : (zones : List ZoneTable) (s : Stamp) (rule : Rule) → All HasShortOffsets zones → All IsNearRow (starts_by (reading_of zones s) (later_moments rule (written_moment s) (reading_of zones s) every_moment))
later_near zones s rule short =
    All-map IsNearRow (λ m. (reading_of zones s).instant (seconds_since_1970 m)) (later_moments rule (written_moment s) (reading_of zones s) every_moment)
    (All-weaker IsOfRules (λ m. IsNearRow ((reading_of zones s).instant (seconds_since_1970 m))) (λ m is. near_instant zones s (seconds_since_1970 m) short (moment_near m is))
    (later_moments rule (written_moment s) (reading_of zones s) every_moment) (later_moments-All IsOfRules rule (written_moment s) (reading_of zones s) every_moment every_moment-of_rules))

rule_near : (zones : List ZoneTable) (s : Stamp) (rule : Rule) → All HasShortOffsets zones → IsServed s → IsNearRow (value_of zones s) → All IsNearRow (rule_starts every_moment zones s rule)
rule_near zones s rule short served near =
    All-cons IsNearRow ((reading_of zones s).instant (seconds_since_1970 (written_moment s))) (starts_by (reading_of zones s) (later_moments rule (written_moment s) (reading_of zones s) every_moment))
    (subst IsNearRow (value_of_served zones s served) near) (later_near zones s rule short)

-- a range that ends before the first moment of all has none of a rule
none_early_of : (zones : List ZoneTable) (s : Stamp) (range : Digits) (ms : List ℕ) → range.high ≤ℤ neg_ℤ (pos 62_135_596_800) → All IsOfRules ms → All (λ m. (reading_of zones s).exists (seconds_since_1970 m) ≡ true) ms →
    filter (starts_in zones s range) (starts_by (reading_of zones s) ms) ≡ []
none_early_of zones s range [] early years there = refl
none_early_of zones s range (m ∷ ms) early years there =
    let year = All-head IsOfRules m ms years in
    let from = year.from in
    let digits = local-instant zones s (seconds_since_1970 m) (All-head (λ m. (reading_of zones s).exists (seconds_since_1970 m) ≡ true) m ms there) in
    let late : range.high ≤ℤ seconds_since_1970 m = omega (arith, ints, early, from) in
    let outside : int_lt (seconds_since_1970 m) range.high ≡ false = grind (arith, ints, late) in
    let none : starts_in zones s range ((reading_of zones s).instant (seconds_since_1970 m)) ≡ false = ap (in_digits range) digits ∙ out range (seconds_since_1970 m) outside in
    rw none (none_early_of zones s range ms early (All-tail IsOfRules m ms years) (All-tail (λ m. (reading_of zones s).exists (seconds_since_1970 m) ≡ true) m ms there))
  where
    and_false : (a b : Bool) → b ≡ false → (a && b) ≡ false
    and_false true b e = e
    and_false false b e = refl

    out : (range : Digits) (l : ℤ) → int_lt l range.high ≡ false → in_digits range l ≡ false
    out range l e = and_false _ (int_lt l range.high) e

pub none_early : (zones : List ZoneTable) (s : Stamp) (range : Digits) → range.high ≤ℤ neg_ℤ (pos 62_135_596_800) → (rules : List Rule) → flat_map (later_starts zones s range) rules ≡ []
none_early zones s range early [] = refl
none_early zones s range early (rule ∷ rules) =
    let here = none_early_of zones s range (later_moments rule (written_moment s) (reading_of zones s) every_moment) early
    (later_moments-All IsOfRules rule (written_moment s) (reading_of zones s) every_moment every_moment-of_rules) (later_moments-exist every_moment rule (written_moment s) (reading_of zones s)) in
    rw here (none_early zones s range early rules)

-- All starts.

module _ (zones : List ZoneTable) (s : Stamp) (c : Component) (count : ℕ) (short : All HasShortOffsets zones) (is : IsExpandable count c) (own : own_start c ≡ Some s) (written : IsRowTime (written_value s)) where
  dates_near : All IsNearRow (map (date_start zones s) c.dates)
  dates_near = All-map IsNearRow (date_start zones s) c.dates (All-weaker (IsConvertible count) (λ x. IsNearRow (date_start zones s x)) (λ x there. date_start_near zones s x short there.near) c.dates is.dates)

  periods_near : All IsNearRow (period_starts zones s c)
  periods_near = All-map IsNearRow (λ (p : Period). date_start zones s p.start) c.periods (All-weaker (IsConvertiblePeriod count) (λ (p : Period). IsNearRow (date_start zones s p.start)) (λ p there. date_start_near zones s p.start short there.start.near) c.periods is.periods)

  if_dated : (b : Bool) → All IsNearRow (if b then period_starts zones s c else [])
  if_dated true = periods_near
  if_dated false = All-nil IsNearRow

  pub plain_near : All IsNearRow (plain_of zones s c)
  plain_near = elim (cases_Bool (recurs c)) [
    | inl it_does ↦ (let served = served_start c.start s (recurring_start c s it_does own) is.served in
        let value = value_near zones s short written in
        rw it_does
        (All-append IsNearRow (value_of zones s ∷ flat_map (rule_starts every_moment zones s) c.rules) (map (date_start zones s) c.dates ++ (if is_date s then period_starts zones s c else []))
        (All-cons IsNearRow (value_of zones s) (flat_map (rule_starts every_moment zones s) c.rules) value
        (All-flat_map IsNearRow (rule_starts every_moment zones s) c.rules (All-everywhere (λ rule. All IsNearRow (rule_starts every_moment zones s rule)) (λ rule. rule_near zones s rule short served value) c.rules)))
        (All-append IsNearRow (map (date_start zones s) c.dates) (if is_date s then period_starts zones s c else []) dates_near (if_dated (is_date s)))))
    | inr it_does_not ↦ rw it_does_not (All-cons IsNearRow (value_of zones s) [] (value_near zones s short written) (All-nil IsNearRow))
  ]

  spans_near : All (λ (span : ℤ × ℤ). IsNearRow span.0) (spans_of zones s c)
  spans_near = elim (cases_Bool (recurs c)) [
    | inl it_does ↦ rw it_does (All-map (λ (span : ℤ × ℤ). IsNearRow span.0) (period_span zones s) c.periods (All-weaker (IsConvertiblePeriod count) (λ (p : Period). IsNearRow (date_start zones s p.start)) (λ p there. date_start_near zones s p.start short there.start.near) c.periods is.periods))
    | inr it_does_not ↦ rw it_does_not (All-nil (λ (span : ℤ × ℤ). IsNearRow span.0))
  ]

  -- and so do those that are asked for in a range
  pub asked_near : (range : Digits) (plain : List ℤ) (spans : List (ℤ × ℤ)) → plain ≡ ascending (filter (starts_in zones s range) (plain_of zones s c)) →
      IsPermutation (filter (span_starts_in zones s range) (spans_of zones s c)) spans → All IsNearRow (ascending (plain ++ map (λ (span : ℤ × ℤ). span.0) spans))
  asked_near range plain spans e moved =
      All-ascending IsNearRow (plain ++ map (λ (span : ℤ × ℤ). span.0) spans)
      (All-append IsNearRow plain (map (λ (span : ℤ × ℤ). span.0) spans)
      (rw e (All-ascending IsNearRow (filter (starts_in zones s range) (plain_of zones s c)) (All-filter (starts_in zones s range) IsNearRow (plain_of zones s c) plain_near)))
      (All-map IsNearRow (λ (span : ℤ × ℤ). span.0) spans
      (All-permutation (λ (span : ℤ × ℤ). IsNearRow span.0) (filter (span_starts_in zones s range) (spans_of zones s c)) spans moved
      (All-filter (span_starts_in zones s range) (λ (span : ℤ × ℤ). IsNearRow span.0) (spans_of zones s c) spans_near))))
