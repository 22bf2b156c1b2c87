-- The starts of a component in a range: of its rules only the moments in the range are asked for.
use Rattle.std.proofs.Common.{◌≡◌, ℕ, List, [], ◌∷◌, ◌++◌, map, refl, sym, ap, subst, ◌∙◌, arith, Bool, true, ℤ, inl, inr}
use Rattle.std.specs.Prelude.{Contains, filter, flat_map, not, if◌then◌else◌}
use Rattle.std.proofs.lemmas.Bool.{cases_Bool}
use Rattle.std.proofs.lemmas.List.{append_assoc}
use Rattle.std.proofs.lemmas.List.Elements.{filter-append, Contains-append_left, Contains-append_right, Contains-append_cases}
use Rattle.cal_moment.specs.Calendar.{seconds_since_1970}
use Rattle.cal_moment.specs.declared.stamp.Stamp.{Stamp}
use Rattle.cal_model.specs.declared.rule.Rule.{Rule}
use Rattle.cal_model.specs.declared.zone.ZoneTable.{ZoneTable}
use Rattle.cal_model.specs.declared.object.Component.{Component}
use Rattle.cal_model.specs.Recurrence.RecurrenceSet.{every_moment}
use Rattle.cal_model.specs.Instances.Alignment.{reading_of, value_of, written_moment}
use Rattle.cal_model.specs.Instances.Starts.{ascending, is_excepted, is_date, date_start, period_starts, plain_starts, recurring_starts, rule_starts}
use Rattle.cal_model.proofs.Instances.RisingLists.{IsBelow, Contains-split, Contains-there, ascending-is, ascending-rising, ascending-has, ascending-only}
use Rattle.std.proofs.lemmas.List.Kept.{AllPairs-filter}
use Rattle.cal_model.proofs.Ranges.WindowLaws.{Contains-filter, Contains-unfilter}
use Rattle.rrule_sets.specs.declared.range.Digits.{Digits}
use Rattle.rrule_sets.specs.DigitRanges.{starts_in}
use Rattle.rrule_sets.specs.AskedStarts.{later_starts}
use Rattle.rrule_sets.proofs.NearRowLemmas.{filter_swap}

-- two lists have the same members
pub record SameMembers (xs ys : List ℤ) : Type 0 where
  pub to : (z : ℤ) → Contains xs z → Contains ys z
  pub from : (z : ℤ) → Contains ys z → Contains xs z

pub ascending-members : (xs ys : List ℤ) → SameMembers xs ys → ascending xs ≡ ascending ys
ascending-members xs ys same =
    ascending-is (ascending xs) ys (ascending-rising xs) (λ z c. same.to z (ascending-only z xs c)) (λ z c. ascending-has z xs (same.from z c))

pub same_appended : (xs ys xs' ys' : List ℤ) → SameMembers xs xs' → SameMembers ys ys' → SameMembers (xs ++ ys) (xs' ++ ys')
same_appended xs ys xs' ys' first second = record {
  to = λ z c. elim (Contains-append_cases xs ys z c) [ inl a ↦ Contains-append_left xs' ys' z (first.to z a) | inr b ↦ Contains-append_right xs' ys' z (second.to z b) ];
  from = λ z c. elim (Contains-append_cases xs' ys' z c) [ inl a ↦ Contains-append_left xs ys z (first.from z a) | inr b ↦ Contains-append_right xs ys z (second.from z b) ];
}

pub same_members : (xs : List ℤ) → SameMembers xs xs
same_members xs = record { to = λ z c. c; from = λ z c. c }

pub same_joined : (xs ys zs : List ℤ) → SameMembers xs ys → SameMembers ys zs → SameMembers xs zs
same_joined xs ys zs a b = record { to = λ z c. b.to z (a.to z c); from = λ z c. a.from z (b.from z c) }

-- a list in order has its own members
pub same_ascending : (xs : List ℤ) → SameMembers (ascending xs) xs
same_ascending xs = record { to = λ z c. ascending-only z xs c; from = λ z c. ascending-has z xs c }

-- what is kept of a rising list is that of what is kept
pub filter-ascending : (keep : ℤ → Bool) (xs : List ℤ) → filter keep (ascending xs) ≡ ascending (filter keep xs)
filter-ascending keep xs =
    ascending-is (filter keep (ascending xs)) (filter keep xs) (AllPairs-filter IsBelow keep (ascending xs) (ascending-rising xs))
    (λ z c. let both = Contains-unfilter keep z (ascending xs) c in Contains-filter keep z xs both.0 (ascending-only z xs both.1))
    (λ z c. let both = Contains-unfilter keep z xs c in Contains-filter keep z (ascending xs) both.0 (ascending-has z xs both.1))

-- the starts of a component that are kept: the exceptions are looked at in these alone
pub recurring_starts-kept : (keep : ℤ → Bool) (moments : List ℕ) (zones : List ZoneTable) (s : Stamp) (c : Component) →
    filter keep (recurring_starts moments zones s c) ≡ filter (λ r. not (is_excepted zones s c r)) (ascending (filter keep (plain_starts moments zones s c ++ period_starts zones s c)))
recurring_starts-kept keep moments zones s c =
    filter_swap keep (λ r. not (is_excepted zones s c r)) (ascending (plain_starts moments zones s c ++ period_starts zones s c))
    ∙ ap (filter (λ r. not (is_excepted zones s c r))) (filter-ascending keep (plain_starts moments zones s c ++ period_starts zones s c))

-- Ranges of digits.

module _ (zones : List ZoneTable) (s : Stamp) (range : Digits) where
  abbrev in_range : ℤ → Bool
  in_range r = starts_in zones s range r

  abbrev own_in_range : List ℤ
  own_in_range = filter in_range (value_of zones s ∷ [])

  abbrev between : Rule → List ℤ
  between rule = later_starts zones s range rule

  -- the starts of a rule in the range: its own start, and those of its moments there
  of_rule : (rule : Rule) (value : ℤ) → value ≡ (reading_of zones s).instant (seconds_since_1970 (written_moment s)) → filter in_range (rule_starts every_moment zones s rule) ≡ filter in_range (value ∷ []) ++ between rule
  of_rule rule value e = elim (cases_Bool (in_range ((reading_of zones s).instant (seconds_since_1970 (written_moment s))))) [
    | inl w ↦ rw (e, w) refl
    | inr w ↦ rw (e, w) refl
  ]

  module _ (value : value_of zones s ≡ (reading_of zones s).instant (seconds_since_1970 (written_moment s))) where
    rules_to : (rules : List Rule) (z : ℤ) → in_range z ≡ true → Contains (flat_map (rule_starts every_moment zones s) rules) z → Contains (own_in_range ++ flat_map between rules) z
    rules_to [] z lies c = let below = c.1 in absurd (omega (arith, below))
    rules_to (rule ∷ rules) z lies c = elim (Contains-append_cases (rule_starts every_moment zones s rule) (flat_map (rule_starts every_moment zones s) rules) z c) [
      | inl there ↦ (let kept = Contains-filter in_range z (rule_starts every_moment zones s rule) lies there in
          let here : Contains (own_in_range ++ between rule) z = rw (of_rule rule (value_of zones s) value) at kept in
          elim (Contains-append_cases own_in_range (between rule) z here) [
            | inl own ↦ Contains-append_left own_in_range (between rule ++ flat_map between rules) z own
            | inr later ↦ Contains-append_right own_in_range (between rule ++ flat_map between rules) z (Contains-append_left (between rule) (flat_map between rules) z later)
          ])
      | inr others ↦ elim (Contains-append_cases own_in_range (flat_map between rules) z (rules_to rules z lies others)) [
        | inl own ↦ Contains-append_left own_in_range (between rule ++ flat_map between rules) z own
        | inr later ↦ Contains-append_right own_in_range (between rule ++ flat_map between rules) z (Contains-append_right (between rule) (flat_map between rules) z later)
      ]
    ]

    rules_from : (rules : List Rule) (z : ℤ) → Contains (flat_map between rules) z → (in_range z ≡ true) × Contains (flat_map (rule_starts every_moment zones s) rules) z
    rules_from [] z c = let below = c.1 in absurd (omega (arith, below))
    rules_from (rule ∷ rules) z c = elim (Contains-append_cases (between rule) (flat_map between rules) z c) [
      | inl there ↦ (let kept : Contains (filter in_range (rule_starts every_moment zones s rule)) z = rw (of_rule rule (value_of zones s) value) (Contains-append_right own_in_range (between rule) z there) in
          let both = Contains-unfilter in_range z (rule_starts every_moment zones s rule) kept in
          (both.0, Contains-append_left (rule_starts every_moment zones s rule) (flat_map (rule_starts every_moment zones s) rules) z both.1))
      | inr others ↦ (let both = rules_from rules z others in (both.0, Contains-append_right (rule_starts every_moment zones s rule) (flat_map (rule_starts every_moment zones s) rules) z both.1))
    ]

    -- the start itself and those of the rules
    of_rules : (rules : List Rule) → SameMembers (own_in_range ++ flat_map between rules) (filter in_range (value_of zones s ∷ flat_map (rule_starts every_moment zones s) rules))
    of_rules rules = record {
      to = λ z c. elim (Contains-append_cases own_in_range (flat_map between rules) z c) [
        | inl own ↦ (let both = Contains-unfilter in_range z (value_of zones s ∷ []) own in
            Contains-filter in_range z (value_of zones s ∷ flat_map (rule_starts every_moment zones s) rules) both.0 (Contains-append_left (value_of zones s ∷ []) (flat_map (rule_starts every_moment zones s) rules) z both.1))
        | inr later ↦ (let both = rules_from rules z later in
            Contains-filter in_range z (value_of zones s ∷ flat_map (rule_starts every_moment zones s) rules) both.0 (Contains-there (value_of zones s) z (flat_map (rule_starts every_moment zones s) rules) both.1))
      ];
      from = λ z c.
          let both = Contains-unfilter in_range z (value_of zones s ∷ flat_map (rule_starts every_moment zones s) rules) c in
          elim (Contains-split (value_of zones s) z (flat_map (rule_starts every_moment zones s) rules) both.1) [
            | inl e ↦ Contains-append_left own_in_range (flat_map between rules) z (Contains-filter in_range z (value_of zones s ∷ []) both.0 (0, omega arith, e))
            | inr later ↦ rules_to rules z both.0 later
          ];
    }

    -- what is asked of rules, dates and days are the plain starts in the range
    pub plain-in_range : (c : Component) (days : List ℤ) → days ≡ filter in_range (if is_date s then period_starts zones s c else []) →
        SameMembers (own_in_range ++ flat_map between c.rules ++ filter in_range (map (date_start zones s) c.dates) ++ days) (filter in_range (plain_starts every_moment zones s c))
    plain-in_range c days e =
        let dated = filter in_range (map (date_start zones s) c.dates) in
        let by_day = if is_date s then period_starts zones s c else [] in
        let later = map (date_start zones s) c.dates ++ by_day in
        let front = own_in_range ++ flat_map between c.rules in
        let first = value_of zones s ∷ flat_map (rule_starts every_moment zones s) c.rules in
        let left : front ++ dated ++ days ≡ front ++ filter in_range later =
        ap (λ (ds : List ℤ). front ++ dated ++ ds) e ∙ (append_assoc front dated (filter in_range by_day) ∙ ap (λ (rest : List ℤ). front ++ rest) (sym (filter-append in_range (map (date_start zones s) c.dates) by_day))) in
        let right : filter in_range (first ++ later) ≡ filter in_range first ++ filter in_range later = filter-append in_range first later in
        subst (λ (xs : List ℤ). SameMembers xs (filter in_range (first ++ later))) (sym left)
        (subst (λ (ys : List ℤ). SameMembers (front ++ filter in_range later) ys) (sym right)
        (same_appended front (filter in_range later) (filter in_range first) (filter in_range later) (of_rules c.rules) (same_members (filter in_range later))))
