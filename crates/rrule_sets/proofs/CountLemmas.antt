-- Starts that are counted: sorted, each once, they are as many as the master's rows, and more of them are never fewer.
use Rattle.std.proofs.Common.{◌≡◌, ℕ, ◌*◌, ◌<◌, ◌≤◌, List, [], ◌∷◌, ◌++◌, length, map, refl, sym, ap, ap₂, subst, ◌∙◌, arith, Bool, true, false, ℤ, ◌<ℤ◌, inl, inr, ◌⊎◌}
use Rattle.std.specs.Prelude.{All, AllPairs, Contains, filter, flat_map, int_lt, not, nat_le, nat_lt, option_to_list, ◌||◌, ◌&&◌, Option, Some, if◌then◌else◌}
use Rattle.std.specs.List.{list_any}
use Rattle.std.proofs.lemmas.Int.{ints}
use Rattle.std.proofs.lemmas.Bool.{cases_Bool}
use Rattle.std.proofs.lemmas.List.{append-nil, append_assoc}
use Rattle.std.proofs.lemmas.List.Elements.{All-contains, All-head, All-nil, All-tail, All-weaker, Contains-append_cases, Contains-append_left, Contains-append_right, filter-append, filter_agree}
use Rattle.std.proofs.lemmas.List.Kept.{AllPairs-filter}
use Rattle.cal_moment.specs.Calendar.{seconds_since_1970}
use Rattle.cal_moment.specs.declared.stamp.Period.{Period}
use Rattle.cal_moment.specs.declared.stamp.Stamp.{Stamp}
use Rattle.cal_model.specs.declared.object.Component.{Component}
use Rattle.cal_model.specs.declared.object.Object.{Object}
use Rattle.cal_model.specs.declared.rule.Rule.{Rule}
use Rattle.cal_model.specs.declared.zone.ZoneTable.{ZoneTable}
use Rattle.cal_model.specs.Instances.Alignment.{align, names_start, reading_of, value_of, written_moment}
use Rattle.cal_model.specs.Instances.Rows.{Numbered, governors, masters, starts}
use Rattle.cal_model.specs.Instances.Rows as rows
use Rattle.cal_model.specs.Instances.Starts.{ascending, date_start, is_date, is_excepted, own_start, period_starts, plain_starts, recurring_starts, recurs, rule_starts, starts_from}
use Rattle.cal_model.specs.Recurrence.NextPassing.{end_day}
use Rattle.cal_model.specs.Recurrence.RecurrenceSet.{Reading, every_moment, first_moment, later_moments}
use Rattle.cal_model.specs.Walks.KeptMoments.{starts_by}
use Rattle.cal_model.proofs.Instances.RisingLists.{AllPairs-head, AllPairs-tail, Contains-here, Contains-split, Contains-there, IsBelow, ascending-has, ascending-is, ascending-only, ascending-rising}
use Rattle.cal_model.proofs.Ranges.WindowLaws.{Contains-filter, Contains-unfilter}
use Rattle.cal_model.proofs.Recurrence.SetStretches.{later_moments-All}
use Rattle.override_merge.specs.Conversions.{HasZone}
use Rattle.override_merge.specs.ExpandableComponents.{IsExpandable}
use Rattle.override_merge.specs.NamedStarts.{IsNamesOf, days_in, has_name, named_beside, values_in}
use Rattle.override_merge.proofs.NameLemmas.{has_name-is}
use Rattle.override_merge.proofs.StampLemmas.{convertible_some, own_start_convertible}
use Rattle.rrule_sets.specs.declared.count.Taken.{Taken}
use Rattle.rrule_sets.specs.AskedStarts.{exceptions_of}
use Rattle.rrule_sets.specs.CountedRows.{IsMasterOf, IsSearchable, IsTakenFrom, all_later, dates_in, is_moved_out, is_named_by, is_out, is_out_by, left_starts, master_starts, moves_out, other_starts, periods_in, rules_in, starts_of_master, unnamed_starts}
use Rattle.rrule_sets.specs.HeldGovernors.{IsMovable, greatest_of, held}
use Rattle.rrule_sets.specs.MasterRows.{masters_from}
use Rattle.rrule_sets.proofs.DigitLemmas.{IsOfRules, every_moment-of_rules}
use Rattle.rrule_sets.proofs.InstanceLemmas.{exceptions_are}
use Rattle.rrule_sets.proofs.GovernorLemmas.{governing-is}
use Rattle.rrule_sets.proofs.WindowLemmas.{expandable_master}
use Rattle.rrule_sets.proofs.StartsInRange.{SameMembers, ascending-members, filter-ascending, same_appended, same_ascending, same_members}

-- Rising lists.

fewer : (xs ys : List ℤ) → AllPairs IsBelow xs → AllPairs IsBelow ys → ((z : ℤ) → Contains xs z → Contains ys z) → length xs ≤ length ys
fewer [] ys up on among = omega arith
fewer (x ∷ xs) [] up on among = (let c = among x (Contains-here x xs) in let below = c.1 in absurd (omega (arith, below)))
fewer (x ∷ xs) (y ∷ ys) up on among = elim (Contains-split y x ys (among x (Contains-here x xs))) [
  | inl e ↦ (let rest = fewer xs ys (AllPairs-tail IsBelow x xs up) (AllPairs-tail IsBelow y ys on) (λ z c. elim (Contains-split y z ys (among z (Contains-there x z xs c))) [
    | inl f ↦ absurd (let above : x <ℤ z = All-contains (IsBelow x) xs z (AllPairs-head IsBelow x xs up) c in omega (arith, ints, above, e, f))
    | inr later ↦ later
  ]) in omega (arith, rest))
  | inr later ↦ (
      let first : y <ℤ x = All-contains (IsBelow y) ys x (AllPairs-head IsBelow y ys on) later in
      let rest = fewer (x ∷ xs) ys up (AllPairs-tail IsBelow y ys on) (λ z c. elim (Contains-split y z ys (among z c)) [
        | inl f ↦ absurd (elim (Contains-split x z xs c) [
          | inl g ↦ omega (arith, ints, first, f, g)
          | inr deep ↦ (let above : x <ℤ z = All-contains (IsBelow x) xs z (AllPairs-head IsBelow x xs up) deep in omega (arith, ints, first, above, f))
        ])
        | inr more ↦ more
      ]) in omega (arith, rest))
]

pub no_fewer : (xs zs : List ℤ) → length (ascending xs) ≤ length (ascending (xs ++ zs))
no_fewer xs zs = fewer (ascending xs) (ascending (xs ++ zs)) (ascending-rising xs) (ascending-rising (xs ++ zs)) (λ z c. ascending-has z (xs ++ zs) (Contains-append_left xs zs z (ascending-only z xs c)))

same_of : (xs ys : List ℤ) → ascending xs ≡ ascending ys → SameMembers xs ys
same_of xs ys e = record {
  to = λ z c. ascending-only z ys (subst (λ (a : List ℤ). Contains a z) e (ascending-has z xs c));
  from = λ z c. ascending-only z xs (subst (λ (a : List ℤ). Contains a z) (sym e) (ascending-has z ys c));
}

pub ascending_front : (xs ys zs : List ℤ) → ascending xs ≡ ascending ys → ascending (xs ++ zs) ≡ ascending (ys ++ zs)
ascending_front xs ys zs e = ascending-members (xs ++ zs) (ys ++ zs) (same_appended xs zs ys zs (same_of xs ys e) (same_members zs))

pub ascending_again : (xs : List ℤ) → ascending (ascending xs) ≡ ascending xs
ascending_again xs = ascending-members (ascending xs) xs (same_ascending xs)

-- One more start of a rule.

filter_front : (p : ℤ → Bool) (x : ℤ) (rest : List ℤ) → filter p (x ∷ []) ++ filter p rest ≡ filter p (x ∷ rest)
filter_front p x rest = sym (filter-append p (x ∷ []) rest)

-- the starts that are kept and those that are still given have the members of all
pub one_counted : (p : ℤ → Bool) (starts put kept : List ℤ) (x : ℤ) (rest : List ℤ) (whole : List ℤ) → put ≡ starts ++ filter p (x ∷ []) → ascending kept ≡ ascending put →
    ascending (starts ++ filter p (x ∷ rest)) ≡ whole → ascending (kept ++ filter p rest) ≡ whole
one_counted p starts put kept x rest whole e same all =
    ascending_front kept put (filter p rest) same
    ∙ (ap (λ (xs : List ℤ). ascending (xs ++ filter p rest)) e
    ∙ (ap ascending (append_assoc starts (filter p (x ∷ [])) (filter p rest) ∙ ap (λ (xs : List ℤ). starts ++ xs) (filter_front p x rest)) ∙ all))

-- and where those that were put are too many, all are
pub too_many : (room : ℕ) (p : ℤ → Bool) (starts put : List ℤ) (x : ℤ) (rest : List ℤ) (whole : List ℤ) → put ≡ starts ++ filter p (x ∷ []) → room < length (ascending put) →
    ascending (starts ++ filter p (x ∷ rest)) ≡ whole → room < length whole
too_many room p starts put x rest whole e over all =
    let same = one_counted p starts put put x rest whole e refl all in
    let most = no_fewer put (filter p rest) in
    let size = ap length same in
    omega (arith, over, most, size)

-- The same of one more rule.

pub rule_counted : (p : ℤ → Bool) (starts kept here behind whole : List ℤ) → ascending kept ≡ ascending (starts ++ filter p here) → ascending (starts ++ filter p (here ++ behind)) ≡ whole → ascending (kept ++ filter p behind) ≡ whole
rule_counted p starts kept here behind whole same all =
    ascending_front kept (starts ++ filter p here) (filter p behind) same
    ∙ (ap ascending (append_assoc starts (filter p here) (filter p behind) ∙ ap (λ (xs : List ℤ). starts ++ xs) (sym (filter-append p here behind))) ∙ all)

pub rules_too_many : (room : ℕ) (p : ℤ → Bool) (starts here behind whole : List ℤ) → room < length (ascending (starts ++ filter p here)) → ascending (starts ++ filter p (here ++ behind)) ≡ whole → room < length whole
rules_too_many room p starts here behind whole over all =
    let same = rule_counted p starts (starts ++ filter p here) here behind whole refl all in
    let most = no_fewer (starts ++ filter p here) (filter p behind) in
    let size = ap length same in
    omega (arith, over, most, size)

-- All moments of rules lie between the first one and the end.

keeps_all : {X : Type 0} (p : X → Bool) (xs : List X) → All (λ x. p x ≡ true) xs → filter p xs ≡ xs
keeps_all p [] all = refl
keeps_all p (x ∷ xs) all = let here = All-head (λ x. p x ≡ true) x xs all in rw here (ap (λ rest. x ∷ rest) (keeps_all p xs (All-tail (λ x. p x ≡ true) x xs all)))

pub later_whole : (zones : List ZoneTable) (s : Stamp) (rule : Rule) →
    filter (λ m. nat_le first_moment m && nat_lt m (86_400 * end_day)) (later_moments rule (written_moment s) (reading_of zones s) every_moment) ≡ later_moments rule (written_moment s) (reading_of zones s) every_moment
later_whole zones s rule =
    keeps_all (λ m. nat_le first_moment m && nat_lt m (86_400 * end_day)) (later_moments rule (written_moment s) (reading_of zones s) every_moment)
    (All-weaker IsOfRules (λ m. (nat_le first_moment m && nat_lt m (86_400 * end_day)) ≡ true) inside (later_moments rule (written_moment s) (reading_of zones s) every_moment)
    (later_moments-All IsOfRules rule (written_moment s) (reading_of zones s) every_moment every_moment-of_rules))
  where
    inside : (m : ℕ) → IsOfRules m → (nat_le first_moment m && nat_lt m (86_400 * end_day)) ≡ true
    inside m is =
        let from = is.from in
        let before = is.before in
        let a : nat_le first_moment m ≡ true = grind (arith, from) in
        let b : nat_lt m (86_400 * end_day) ≡ true = grind (arith, before) in
        rw (a, b) refl

-- The starts that are left are those of the component that no override names.

not_or : (a b : Bool) → not (a || b) ≡ true → (not a ≡ true) × (not b ≡ true)
not_or true b h = absurd cc
not_or false b h = (refl, h)

or_not : (a b : Bool) → not a ≡ true → not b ≡ true → not (a || b) ≡ true
or_not true b h k = absurd cc
or_not false b h k = k

filter_neither : (p q : ℤ → Bool) (xs : List ℤ) → filter (λ r. not (p r || q r)) xs ≡ filter (λ r. not (q r)) (filter (λ r. not (p r)) xs)
filter_neither p q [] = refl
filter_neither p q (x ∷ xs) = elim (cases_Bool (p x)) [
  | inl w ↦ rw w (filter_neither p q xs)
  | inr w ↦ elim (cases_Bool (q x)) [
    | inl v ↦ rw (w, v) (filter_neither p q xs)
    | inr v ↦ rw (w, v) (ap (λ rest. x ∷ rest) (filter_neither p q xs))
  ]
]

module _ (zones : List ZoneTable) (s : Stamp) (c : Component) (value : recurs c ≡ true → value_of zones s ≡ (reading_of zones s).instant (seconds_since_1970 (written_moment s))) where
  abbrev all_plain : List Rule → List ℤ
  all_plain rules = flat_map (rule_starts every_moment zones s) rules

  abbrev all_rest : List Rule → List ℤ
  all_rest rules = flat_map (all_later zones s) rules

  rules_given : recurs c ≡ true → (rules : List Rule) (z : ℤ) → Contains (all_plain rules) z → (z ≡ value_of zones s) ⊎ Contains (all_rest rules) z
  rules_given does [] z there = (let below = there.1 in absurd (omega (arith, below)))
  rules_given does (rule ∷ rules) z there = elim (Contains-append_cases (rule_starts every_moment zones s rule) (all_plain rules) z there) [
    | inl here ↦ elim (Contains-split ((reading_of zones s).instant (seconds_since_1970 (written_moment s))) z (all_later zones s rule) here) [
      | inl e ↦ inl (sym e ∙ sym (value does))
      | inr later ↦ inr (Contains-append_left (all_later zones s rule) (all_rest rules) z later)
    ]
    | inr others ↦ elim (rules_given does rules z others) [
      | inl e ↦ inl e
      | inr later ↦ inr (Contains-append_right (all_later zones s rule) (all_rest rules) z later)
    ]
  ]

  rules_back : (rules : List Rule) (z : ℤ) → Contains (all_rest rules) z → Contains (all_plain rules) z
  rules_back [] z there = there
  rules_back (rule ∷ rules) z there = elim (Contains-append_cases (all_later zones s rule) (all_rest rules) z there) [
    | inl here ↦ Contains-append_left (rule_starts every_moment zones s rule) (all_plain rules) z (Contains-there ((reading_of zones s).instant (seconds_since_1970 (written_moment s))) z (all_later zones s rule) here)
    | inr others ↦ Contains-append_right (rule_starts every_moment zones s rule) (all_plain rules) z (rules_back rules z others)
  ]

  abbrev dates : List ℤ
  dates = map (date_start zones s) c.dates

  abbrev periods : List ℤ
  periods = period_starts zones s c

  abbrev days : List ℤ
  days = if is_date s then period_starts zones s c else []

  abbrev others : List ℤ
  others = value_of zones s ∷ dates ++ periods

  days_are : (b : Bool) (z : ℤ) → Contains (if b then period_starts zones s c else []) z → Contains (period_starts zones s c) z
  days_are true z there = there
  days_are false z there = (let below = there.1 in absurd (omega (arith, below)))

  -- what a component that recurs starts with
  given : recurs c ≡ true → SameMembers (plain_starts every_moment zones s c ++ periods) (others ++ all_rest c.rules)
  given does = record {
    to = λ z there. elim (Contains-append_cases (plain_starts every_moment zones s c) periods z there) [
      | inl plain ↦ elim (Contains-append_cases (value_of zones s ∷ all_plain c.rules) (dates ++ days) z plain) [
        | inl first ↦ elim (Contains-split (value_of zones s) z (all_plain c.rules) first) [
          | inl e ↦ Contains-append_left others (all_rest c.rules) z (0, omega arith, e)
          | inr rules ↦ elim (rules_given does c.rules z rules) [
            | inl e ↦ Contains-append_left others (all_rest c.rules) z (0, omega arith, sym e)
            | inr later ↦ Contains-append_right others (all_rest c.rules) z later
          ]
        ]
        | inr rest ↦ elim (Contains-append_cases dates days z rest) [
          | inl date ↦ Contains-append_left others (all_rest c.rules) z (Contains-append_left (value_of zones s ∷ dates) periods z (Contains-there (value_of zones s) z dates date))
          | inr day ↦ Contains-append_left others (all_rest c.rules) z (Contains-append_right (value_of zones s ∷ dates) periods z (days_are (is_date s) z day))
        ]
      ]
      | inr period ↦ Contains-append_left others (all_rest c.rules) z (Contains-append_right (value_of zones s ∷ dates) periods z period)
    ];
    from = λ z there. elim (Contains-append_cases others (all_rest c.rules) z there) [
      | inl other ↦ elim (Contains-append_cases (value_of zones s ∷ dates) periods z other) [
        | inl first ↦ Contains-append_left (plain_starts every_moment zones s c) periods z (elim (Contains-split (value_of zones s) z dates first) [
          | inl e ↦ Contains-append_left (value_of zones s ∷ all_plain c.rules) (dates ++ days) z (0, omega arith, e)
          | inr date ↦ Contains-append_right (value_of zones s ∷ all_plain c.rules) (dates ++ days) z (Contains-append_left dates days z date)
        ])
        | inr period ↦ Contains-append_right (plain_starts every_moment zones s c) periods z period
      ]
      | inr later ↦ Contains-append_left (plain_starts every_moment zones s c) periods z
          (Contains-append_left (value_of zones s ∷ all_plain c.rules) (dates ++ days) z (Contains-there (value_of zones s) z (all_plain c.rules) (rules_back c.rules z later)))
    ];
  }

  module _ (components : List Component) (taken : Taken) (excepted_are : IsNamesOf (map (λ (x : Stamp). align zones x s) (exceptions_of c)) taken.excepted) (named_are : IsNamesOf (named_beside zones s components) taken.named) where
    abbrev left : ℤ → Bool
    left r = not (is_named_by zones s taken r)

    -- those that no EXDATE and no override names, in order
    abbrev unnamed_left : List ℤ
    unnamed_left = ascending (filter left (other_starts zones s c) ++ filter left (flat_map (all_later zones s) (rules_in c)))

    abbrev is_kept : ℤ → Bool
    is_kept r = not (list_any (names_start (reading_of zones s) r) (named_beside zones s components))

    kept_is : (r : ℤ) → not (has_name (reading_of zones s) r taken.named) ≡ is_kept r
    kept_is r = ap not (has_name-is (reading_of zones s) r (named_beside zones s components) taken.named named_are)

    except_is : (b : Bool) → recurs c ≡ b → (r : ℤ) → not (has_name (reading_of zones s) r taken.excepted) ≡ not (list_any (λ (x : Stamp). names_start (reading_of zones s) r (align zones x s)) (if b then c.except else []))
    except_is b e r = ap not (exceptions_are zones s c taken.excepted excepted_are r ∙ ap (λ (v : Bool). list_any (λ (x : Stamp). names_start (reading_of zones s) r (align zones x s)) (if v then c.except else [])) e)

    left_recurring : recurs c ≡ true → filter is_kept (recurring_starts every_moment zones s c) ≡ ascending (filter left others ++ filter left (all_rest c.rules))
    left_recurring does =
        let all = plain_starts every_moment zones s c ++ periods in
        let unexcepted : ℤ → Bool = λ r. not (is_excepted zones s c r) in
        subst (λ (ys : List ℤ). filter is_kept (recurring_starts every_moment zones s c) ≡ ascending ys) (filter-append left others (all_rest c.rules))
        (ascending-is (filter is_kept (filter unexcepted (ascending all))) (filter left (others ++ all_rest c.rules))
        (AllPairs-filter IsBelow is_kept (filter unexcepted (ascending all)) (AllPairs-filter IsBelow unexcepted (ascending all) (ascending-rising all)))
        (λ z there.
        let first = Contains-unfilter is_kept z (filter unexcepted (ascending all)) there in
        let second = Contains-unfilter unexcepted z (ascending all) first.1 in
        Contains-filter left z (others ++ all_rest c.rules)
        (or_not (has_name (reading_of zones s) z taken.excepted) (has_name (reading_of zones s) z taken.named) (except_is true does z ∙ second.0) (kept_is z ∙ first.0))
        ((given does).to z (ascending-only z all second.1)))
        (λ z there.
        let first = Contains-unfilter left z (others ++ all_rest c.rules) there in
        let both = not_or (has_name (reading_of zones s) z taken.excepted) (has_name (reading_of zones s) z taken.named) first.0 in
        Contains-filter is_kept z (filter unexcepted (ascending all)) (sym (kept_is z) ∙ both.1)
        (Contains-filter unexcepted z (ascending all) (sym (except_is true does z) ∙ both.0) (ascending-has z all ((given does).from z first.1)))))

    one_left : (r : ℤ) (b : Bool) → recurs c ≡ false → left r ≡ b → filter is_kept (r ∷ []) ≡ ascending (filter left (r ∷ []) ++ [])
    one_left r b does_not e =
        let same : left r ≡ is_kept r =
        ap (λ (v : Bool). not (v || has_name (reading_of zones s) r taken.named)) (exceptions_are zones s c taken.excepted excepted_are r ∙ ap (λ (v : Bool). list_any (λ (x : Stamp). names_start (reading_of zones s) r (align zones x s)) (if v then c.except else [])) does_not) ∙ kept_is r in
        ap (λ (v : Bool). if v then r ∷ [] else []) (sym same ∙ e) ∙ (of_test b ∙ ap (λ (v : Bool). ascending ((if v then r ∷ [] else []) ++ [])) (sym e))
      where
        of_test : (v : Bool) → (if v then r ∷ [] else []) ≡ ascending ((if v then r ∷ [] else []) ++ [])
        of_test true = refl
        of_test false = refl

    unnamed_are : own_start c ≡ Some s → unnamed_left ≡ unnamed_starts zones s c components
    unnamed_are own = elim (cases_Bool (recurs c)) [
      | inl does ↦ (
          let first : unnamed_left ≡ ascending (filter left others ++ filter left (all_rest c.rules)) =
          ap (λ (b : Bool). ascending (filter left (value_of zones s ∷ map (date_start zones s) (if b then c.dates else []) ++ map (λ (p : Period). date_start zones s p.start) (if b then c.periods else [])) ++ filter left (all_rest (if b then c.rules else [])))) does in
          let last : unnamed_starts zones s c components ≡ filter is_kept (recurring_starts every_moment zones s c) =
          ap (λ (start : Option Stamp). filter is_kept (starts_from every_moment zones c start)) own ∙ ap (λ (b : Bool). filter is_kept (if b then recurring_starts every_moment zones s c else value_of zones s ∷ [])) does in
          first ∙ (sym (left_recurring does) ∙ sym last))
      | inr does_not ↦ (
          let first : unnamed_left ≡ ascending (filter left (value_of zones s ∷ []) ++ []) =
          ap (λ (b : Bool). ascending (filter left (value_of zones s ∷ map (date_start zones s) (if b then c.dates else []) ++ map (λ (p : Period). date_start zones s p.start) (if b then c.periods else [])) ++ filter left (all_rest (if b then c.rules else [])))) does_not in
          let last : unnamed_starts zones s c components ≡ filter is_kept (value_of zones s ∷ []) =
          ap (λ (start : Option Stamp). filter is_kept (starts_from every_moment zones c start)) own ∙ ap (λ (b : Bool). filter is_kept (if b then recurring_starts every_moment zones s c else value_of zones s ∷ [])) does_not in
          first ∙ (sym (one_left (value_of zones s) (left (value_of zones s)) does_not refl) ∙ sym last))
    ]

    -- what is left, in order, is what no override names and none moves out
    pub left_are : own_start c ≡ Some s → left_starts zones s c taken ≡ filter (λ r. not (is_out zones taken.governors r)) (unnamed_starts zones s c components)
    left_are own =
        let stays : ℤ → Bool = λ r. not (is_out zones taken.governors r) in
        let xs = other_starts zones s c in
        let ys = flat_map (all_later zones s) (rules_in c) in
        let both = λ (zs : List ℤ). filter_neither (is_named_by zones s taken) (is_out zones taken.governors) zs in
        ap₂ (λ (us vs : List ℤ). ascending (us ++ vs)) (both xs) (both ys)
        ∙ (ap ascending (sym (filter-append stays (filter left xs) (filter left ys)))
        ∙ (sym (filter-ascending stays (filter left xs ++ filter left ys))
        ∙ ap (filter stays) (unnamed_are own)))

-- Starts that are moved out, as a program finds them.

moves_out_by : (object : Object) (r : ℤ) (gs : List rows.Governor) → is_out_by object.zones r (map (held object.zones) (greatest_of gs)) ≡ moves_out object r gs
moves_out_by object r [] = refl
moves_out_by object r (g ∷ gs) = refl

-- the first component that is no override is the only one
pub only_master : (object : Object) (c : Component) (number : ℕ) (rest : List Numbered) → length (masters object) ≤ 1 → masters_from 0 object.components ≡ record { number = number; component = c } ∷ rest → IsMasterOf object c
only_master object c number [] one first = (number, first)
only_master object c number (m ∷ ms) one first = absurd (let size = ap length first in omega (arith, one, size))

-- the master of an object has what each component has
pub master_expandable : (object : Object) (c : Component) → All (IsExpandable (length object.zones)) object.components → IsMasterOf object c → IsExpandable (length object.zones) c
master_expandable object c all master = expandable_master (length object.zones) object.components (record { number = master.0; component = c }) [] all master.1

-- and a stamp in one of the object's zones
pub master_zone : (object : Object) (c : Component) (s : Stamp) → All (IsExpandable (length object.zones)) object.components → IsMasterOf object c → own_start c ≡ Some s → HasZone (length object.zones) s
master_zone object c s all master own =
    (convertible_some (length object.zones) (own_start c) s own (own_start_convertible (length object.zones) c (master_expandable object c all master).row)).zone

-- what is left is counted
pub left_counted : (object : Object) (s : Stamp) (c : Component) (taken : Taken) → IsMasterOf object c → own_start c ≡ Some s →
    (recurs c ≡ true → value_of object.zones s ≡ (reading_of object.zones s).instant (seconds_since_1970 (written_moment s))) →
    IsTakenFrom object s c taken → left_starts object.zones s c taken ≡ master_starts object
left_counted object s c taken master own value is =
    let zones = object.zones in
    let unnamed = unnamed_starts zones s c object.components in
    let counted = filter (λ r. not (is_moved_out object s r)) unnamed in
    let out : (r : ℤ) → is_out zones taken.governors r ≡ is_moved_out object s r =
    λ r. ap (is_out_by zones r) (governing-is zones (governors object s (starts every_moment object)) taken.governors is.held r)
    ∙ moves_out_by object r (filter (λ (g : rows.Governor). int_lt g.id r) (governors object s (starts every_moment object))) in
    let whole : master_starts object ≡ counted =
    ap (flat_map (starts_of_master object)) master.1
    ∙ (append-nil (starts_of_master object (record { number = master.0; component = c }))
    ∙ (ap (λ (start : Option Stamp). flat_map (λ t. filter (λ r. not (is_moved_out object t r)) (unnamed_starts zones t c object.components)) (option_to_list start)) own
    ∙ append-nil counted)) in
    left_are zones s c value object.components taken is.excepted is.named own
    ∙ (filter_agree (λ r. not (is_out zones taken.governors r)) (λ r. not (is_moved_out object s r)) (λ r. ap not (out r)) unnamed
    ∙ sym whole)

-- what a walk through all moments gives
pub later_given : (zones : List ZoneTable) (s : Stamp) (rule : Rule) (start : ℕ) (reading : Reading) (ms : List ℕ) → start ≡ written_moment s → reading ≡ reading_of zones s →
    ms ≡ filter (λ m. nat_le first_moment m && nat_lt m (86_400 * end_day)) (later_moments rule start reading every_moment) → starts_by reading ms ≡ all_later zones s rule
later_given zones s rule start reading ms e r all =
    ap (starts_by reading) all
    ∙ (ap₂ (λ (m : ℕ) (clock : Reading). starts_by clock (filter (λ k. nat_le first_moment k && nat_lt k (86_400 * end_day)) (later_moments rule m clock every_moment))) e r
    ∙ ap (starts_by (reading_of zones s)) (later_whole zones s rule))

-- Rules that count.

pub rules_kept : (P : Rule → Type 0) (c : Component) → All P c.rules → All P (rules_in c)
rules_kept P c all = of_test (recurs c)
  where
    of_test : (b : Bool) → All P (if b then c.rules else [])
    of_test true = all
    of_test false = All-nil P

pub rules_served : (P : Type 0) (c : Component) → (recurs c ≡ true → P) → All (λ (rule : Rule). P) (rules_in c)
rules_served P c served = of_test (recurs c) refl
  where
    each : P → (rules : List Rule) → All (λ (rule : Rule). P) rules
    each holds rules = λ k d lt. holds

    of_test : (b : Bool) → recurs c ≡ b → All (λ (rule : Rule). P) (if b then c.rules else [])
    of_test true does = each (served does) c.rules
    of_test false does = All-nil (λ (rule : Rule). P)

pub dates_kept : (P : Stamp → Type 0) (c : Component) → All P c.dates → All P (dates_in c)
dates_kept P c all = of_test (recurs c)
  where
    of_test : (b : Bool) → All P (if b then c.dates else [])
    of_test true = all
    of_test false = All-nil P

pub periods_kept : (P : Period → Type 0) (c : Component) → All P c.periods → All P (periods_in c)
periods_kept P c all = of_test (recurs c)
  where
    of_test : (b : Bool) → All P (if b then c.periods else [])
    of_test true = all
    of_test false = All-nil P

-- What searches ask of what takes starts away.
pub searchable : (object : Object) (s : Stamp) (c : Component) (zones : ℕ) (taken : Taken) → IsTakenFrom object s c taken → All (IsMovable zones) taken.governors → IsSearchable zones taken
searchable object s c zones taken is movable =
    let excepted = map (λ (x : Stamp). align object.zones x s) (exceptions_of c) in
    let named = named_beside object.zones s object.components in
    record {
      excepted_values = subst (AllPairs IsBelow) (sym is.excepted.values) (ascending-rising (values_in excepted));
      excepted_days = subst (AllPairs IsBelow) (sym is.excepted.days) (ascending-rising (days_in excepted));
      named_values = subst (AllPairs IsBelow) (sym is.named.values) (ascending-rising (values_in named));
      named_days = subst (AllPairs IsBelow) (sym is.named.days) (ascending-rising (days_in named));
      rising = is.held.rising;
      movable = movable;
    }

-- the start itself, the dates and the periods, one after the other
pub others_made : (p : ℤ → Bool) (z : ℤ) (ds ps none first second third : List ℤ) → none ≡ [] → first ≡ none ++ filter p (z ∷ []) → second ≡ first ++ filter p ds → third ≡ second ++ filter p ps → third ≡ filter p (z ∷ ds ++ ps)
others_made p z ds ps none first second third e a b d =
    let one : first ≡ filter p (z ∷ []) = a ∙ ap (λ (xs : List ℤ). xs ++ filter p (z ∷ [])) e in
    let two : second ≡ filter p (z ∷ ds) = b ∙ (ap (λ (xs : List ℤ). xs ++ filter p ds) one ∙ sym (filter-append p (z ∷ []) ds)) in
    d ∙ (ap (λ (xs : List ℤ). xs ++ filter p ps) two ∙ sym (filter-append p (z ∷ ds) ps))
