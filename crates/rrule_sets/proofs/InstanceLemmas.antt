-- The rows of the instances in a range, from what is asked of it.
use Rattle.std.proofs.Common.{◌≡◌, ℕ, List, [], ◌∷◌, ◌++◌, map, refl, sym, ap, ap₂, subst, ◌∙◌, arith, Bool, true, false, ℤ, inl, inr}
use Rattle.std.specs.Prelude.{All, Contains, filter, flat_map, not, ◌||◌, Some, if◌then◌else◌}
use Rattle.std.specs.List.{list_any}
use Rattle.std.specs.List.Sorted.{IsPermutation}
use Rattle.std.proofs.lemmas.Bool.{cases_Bool}
use Rattle.std.proofs.lemmas.List.Elements.{All-head, All-tail, All-weaker, filter-append, filter_agree, filter_passes}
use Rattle.std.proofs.lemmas.List.Sorted.{Contains-permutation, IsPermutation-map, IsPermutation-sym}
use Rattle.cal_moment.specs.Calendar.{seconds_since_1970}
use Rattle.cal_moment.specs.declared.stamp.Period.{Period}
use Rattle.cal_moment.specs.declared.stamp.Stamp.{Stamp}
use Rattle.cal_model.specs.declared.object.Component.{Component}
use Rattle.cal_model.specs.declared.row.Row.{Row}
use Rattle.cal_model.specs.declared.zone.ZoneTable.{ZoneTable}
use Rattle.cal_model.specs.Instances.Alignment.{align, kind_of, names_start, reading_of, value_of, written_moment}
use Rattle.cal_model.specs.Instances.Rows.{row_of}
use Rattle.cal_model.specs.Instances.Starts.{ascending, date_start, end_of_extent, end_of_instance, end_of_period, is_date, is_excepted, latest_of, own_start, period_starts, plain_starts, recurring_starts, recurs, rule_starts, starts_from}
use Rattle.cal_model.specs.Recurrence.RecurrenceSet.{every_moment}
use Rattle.cal_model.specs.Words.Integers.{same_int}
use Rattle.cal_model.proofs.Instances.RisingLists.{Contains-here}
use Rattle.cal_model.proofs.Words.IntegerLemmas.{same_int-self}
use Rattle.override_merge.specs.NamedStarts.{IsNamesOf, has_name}
use Rattle.override_merge.specs.declared.names.Names.{Names}
use Rattle.override_merge.proofs.NameLemmas.{has_name-is}
use Rattle.rrule_sets.specs.declared.range.Digits.{Digits}
use Rattle.rrule_sets.specs.AskedStarts.{end_by, exceptions_of, instance_row, instances_in, later_starts, plain_of, row_by, spans_of}
use Rattle.rrule_sets.specs.DigitRanges.{starts_in}
use Rattle.rrule_sets.specs.PeriodSpans.{ends_at, period_span, span_starts_in}
use Rattle.rrule_sets.proofs.EndLemmas.{any_kept, ends_of_periods, latest_kept}
use Rattle.rrule_sets.proofs.StartsInRange.{SameMembers, ascending-members, plain-in_range, recurring_starts-kept, same_appended, same_ascending}

-- Lists.

any_map : {X Y : Type 0} (p : Y → Bool) (f : X → Y) (xs : List X) → list_any p (map f xs) ≡ list_any (λ x. p (f x)) xs
any_map p f [] = refl
any_map p f (x ∷ xs) = ap (λ rest. p (f x) || rest) (any_map p f xs)

map_each : {X Y : Type 0} (f g : X → Y) (xs : List X) → All (λ x. f x ≡ g x) xs → map f xs ≡ map g xs
map_each f g [] same = refl
map_each f g (x ∷ xs) same = ap₂ (λ y ys. y ∷ ys) (All-head (λ x. f x ≡ g x) x xs same) (map_each f g xs (All-tail (λ x. f x ≡ g x) x xs same))

filter_firsts : (keep : ℤ → Bool) (spans : List (ℤ × ℤ)) → map (λ (span : ℤ × ℤ). span.0) (filter (λ (span : ℤ × ℤ). keep span.0) spans) ≡ filter keep (map (λ (span : ℤ × ℤ). span.0) spans)
filter_firsts keep [] = refl
filter_firsts keep (s ∷ ss) = elim (cases_Bool (keep s.0)) [
  | inl w ↦ rw w (ap (λ rest. s.0 ∷ rest) (filter_firsts keep ss))
  | inr w ↦ rw w (filter_firsts keep ss)
]

pub firsts_of_periods : (zones : List ZoneTable) (s : Stamp) (periods : List Period) → map (λ (span : ℤ × ℤ). span.0) (map (period_span zones s) periods) ≡ map (λ (p : Period). date_start zones s p.start) periods
firsts_of_periods zones s [] = refl
firsts_of_periods zones s (p ∷ ps) = ap (λ rest. date_start zones s p.start ∷ rest) (firsts_of_periods zones s ps)

-- the starts of the spans that are kept, in any order
firsts_kept : (keep : ℤ → Bool) (spans sorted : List (ℤ × ℤ)) → IsPermutation (filter (λ (span : ℤ × ℤ). keep span.0) spans) sorted →
    SameMembers (map (λ (span : ℤ × ℤ). span.0) sorted) (filter keep (map (λ (span : ℤ × ℤ). span.0) spans))
firsts_kept keep spans sorted moved =
    let first : ℤ × ℤ → ℤ = λ span. span.0 in
    let kept = filter (λ (span : ℤ × ℤ). keep span.0) spans in
    let firsts = IsPermutation-map first kept sorted moved in
    subst (λ (ys : List ℤ). SameMembers (map first sorted) ys) (filter_firsts keep spans) (record {
      to = λ z c. Contains-permutation (map first sorted) (map first kept) z (IsPermutation-sym (map first kept) (map first sorted) firsts) c;
      from = λ z c. Contains-permutation (map first kept) (map first sorted) z firsts c;
    })

none_of : (spans : List (ℤ × ℤ)) → ((span : ℤ × ℤ) → Contains spans span → ⊥) → spans ≡ []
none_of [] none = refl
none_of (s ∷ ss) none = absurd (none s (Contains-here s ss))

first_is : (r z : ℤ) (xs : List ℤ) → r ≡ z → list_any (same_int r) (z ∷ xs) ≡ true
first_is r z xs e = ap (λ (b : Bool). b || list_any (same_int r) xs) (subst (λ (y : ℤ). same_int r y ≡ true) e (same_int-self r))

-- Exceptions.

pub exceptions_are : (zones : List ZoneTable) (s : Stamp) (c : Component) (excepted : Names) → IsNamesOf (map (λ (x : Stamp). align zones x s) (exceptions_of c)) excepted →
    (r : ℤ) → has_name (reading_of zones s) r excepted ≡ list_any (λ (x : Stamp). names_start (reading_of zones s) r (align zones x s)) (exceptions_of c)
exceptions_are zones s c excepted named r =
    has_name-is (reading_of zones s) r (map (λ (x : Stamp). align zones x s) (exceptions_of c)) excepted named
    ∙ any_map (names_start (reading_of zones s) r) (λ (x : Stamp). align zones x s) (exceptions_of c)

module _ (zones : List ZoneTable) (s : Stamp) (c : Component) (number : ℕ) (range : Digits) (plain : List ℤ) (spans : List (ℤ × ℤ)) (excepted : Names)
    (plain_are : plain ≡ ascending (filter (starts_in zones s range) (plain_of zones s c)))
    (spans_are : IsPermutation (filter (span_starts_in zones s range) (spans_of zones s c)) spans)
    (named : IsNamesOf (map (λ (x : Stamp). align zones x s) (exceptions_of c)) excepted) where
  abbrev in_range : ℤ → Bool
  in_range r = starts_in zones s range r

  abbrev firsts : List ℤ
  firsts = map (λ (span : ℤ × ℤ). span.0) spans

  abbrev made : List Row
  made = map (row_by zones s c.extent plain spans number) (filter (λ r. not (has_name (reading_of zones s) r excepted)) (ascending (plain ++ firsts)))

  row_same : (r : ℤ) → end_by zones s c.extent plain spans r ≡ end_of_instance every_moment zones s c r → row_by zones s c.extent plain spans number r ≡ instance_row zones s c number r
  row_same r e = ap (λ end. row_of r r end number (kind_of s) (kind_of s)) e

  abbrev plain_by : Bool → List ℤ
  plain_by b = if b then plain_starts every_moment zones s c else value_of zones s ∷ []

  abbrev spans_by : Bool → List (ℤ × ℤ)
  spans_by b = if b then map (period_span zones s) c.periods else []

  abbrev except_by : Bool → List Stamp
  except_by b = if b then c.except else []

  plain_then : (b : Bool) → recurs c ≡ b → plain ≡ ascending (filter in_range (plain_by b))
  plain_then b e = plain_are ∙ ap (λ (v : Bool). ascending (filter in_range (plain_by v))) e

  spans_then : (b : Bool) → recurs c ≡ b → IsPermutation (filter (span_starts_in zones s range) (spans_by b)) spans
  spans_then b e = subst (λ (v : Bool). IsPermutation (filter (span_starts_in zones s range) (spans_by v)) spans) e spans_are

  named_then : (b : Bool) → recurs c ≡ b → (r : ℤ) → has_name (reading_of zones s) r excepted ≡ list_any (λ (x : Stamp). names_start (reading_of zones s) r (align zones x s)) (except_by b)
  named_then b e r = exceptions_are zones s c excepted named r ∙ ap (λ (v : Bool). list_any (λ (x : Stamp). names_start (reading_of zones s) r (align zones x s)) (except_by v)) e

  starts_then : (b : Bool) → recurs c ≡ b → own_start c ≡ Some s → starts_from every_moment zones c (own_start c) ≡ (if b then recurring_starts every_moment zones s c else value_of zones s ∷ [])
  starts_then b e own = ap (starts_from every_moment zones c) own ∙ ap (λ (v : Bool). if v then recurring_starts every_moment zones s c else value_of zones s ∷ []) e

  module _ (it_does : recurs c ≡ true) where
    end_same : (r : ℤ) → in_range r ≡ true → end_by zones s c.extent plain spans r ≡ end_of_instance every_moment zones s c r
    end_same r lies =
        let plain_there : list_any (same_int r) plain ≡ list_any (same_int r) (plain_starts every_moment zones s c) = ap (list_any (same_int r)) (plain_then true it_does) ∙ any_kept in_range r (plain_starts every_moment zones s c) lies in
        let last = latest_kept in_range r (map (period_span zones s) c.periods) spans lies (spans_then true it_does) in
        ap₂ (λ (b : Bool) (end : ℤ). if b then end_of_extent zones s c.extent r else end) plain_there (last ∙ ap (latest_of r) (ends_of_periods zones s r c.periods))

    members : SameMembers (plain ++ firsts) (filter in_range (plain_starts every_moment zones s c ++ period_starts zones s c))
    members =
        let of_spans = firsts_kept in_range (map (period_span zones s) c.periods) spans (spans_then true it_does) in
        let of_periods : SameMembers firsts (filter in_range (period_starts zones s c)) = subst (λ (xs : List ℤ). SameMembers firsts (filter in_range xs)) (firsts_of_periods zones s c.periods) of_spans in
        let of_plain : SameMembers plain (filter in_range (plain_starts every_moment zones s c)) = subst (λ (xs : List ℤ). SameMembers xs (filter in_range (plain_starts every_moment zones s c))) (sym (plain_then true it_does)) (same_ascending (filter in_range (plain_starts every_moment zones s c))) in
        subst (λ (ys : List ℤ). SameMembers (plain ++ firsts) ys) (sym (filter-append in_range (plain_starts every_moment zones s c) (period_starts zones s c)))
        (same_appended plain firsts (filter in_range (plain_starts every_moment zones s c)) (filter in_range (period_starts zones s c)) of_plain of_periods)

    recurring : filter (λ r. not (has_name (reading_of zones s) r excepted)) (ascending (plain ++ firsts)) ≡ filter in_range (recurring_starts every_moment zones s c)
    recurring =
        filter_agree (λ r. not (has_name (reading_of zones s) r excepted)) (λ r. not (is_excepted zones s c r)) (λ r. ap not (named_then true it_does r)) (ascending (plain ++ firsts))
        ∙ (ap (filter (λ r. not (is_excepted zones s c r))) (ascending-members (plain ++ firsts) (filter in_range (plain_starts every_moment zones s c ++ period_starts zones s c)) members)
        ∙ sym (recurring_starts-kept in_range every_moment zones s c))

    of_recurring : own_start c ≡ Some s → made ≡ instances_in zones s c number range
    of_recurring own =
        ap (map (row_by zones s c.extent plain spans number)) recurring
        ∙ (map_each (row_by zones s c.extent plain spans number) (instance_row zones s c number) (filter in_range (recurring_starts every_moment zones s c))
        (All-weaker (λ r. in_range r ≡ true) (λ r. row_by zones s c.extent plain spans number r ≡ instance_row zones s c number r) (λ r lies. row_same r (end_same r lies))
        (filter in_range (recurring_starts every_moment zones s c)) (filter_passes in_range (recurring_starts every_moment zones s c)))
        ∙ ap (λ (starts : List ℤ). map (instance_row zones s c number) (filter in_range starts)) (sym (starts_then true it_does own)))

  module _ (it_does_not : recurs c ≡ false) where
    no_spans : spans ≡ []
    no_spans = none_of spans (λ span there. (let back = Contains-permutation spans [] span (IsPermutation-sym [] spans (spans_then false it_does_not)) there in let below = back.1 in omega (arith, below)))

    end_of_one : (r : ℤ) → r ≡ value_of zones s → plain ≡ r ∷ [] → end_by zones s c.extent plain spans r ≡ end_of_instance every_moment zones s c r
    end_of_one r e only =
        let among : list_any (same_int r) plain ≡ true = ap (list_any (same_int r)) only ∙ first_is r r [] refl in
        let plain_there : list_any (same_int r) (plain_starts every_moment zones s c) ≡ true = first_is r (value_of zones s) (flat_map (rule_starts every_moment zones s) c.rules ++ (map (date_start zones s) c.dates ++ (if is_date s then period_starts zones s c else []))) e in
        ap (λ (b : Bool). if b then end_of_extent zones s c.extent r else latest_of r (ends_at r spans)) among
        ∙ sym (ap (λ (b : Bool). if b then end_of_extent zones s c.extent r else latest_of r (map (λ (p : Period). end_of_period zones s r p.end) (filter (λ (p : Period). same_int r (date_start zones s p.start)) c.periods))) plain_there)

    -- one start, if it lies in the range
    one_made : (xs : List ℤ) → plain ++ firsts ≡ xs → (b : Bool) → in_range (value_of zones s) ≡ b → xs ≡ (if b then value_of zones s ∷ [] else []) →
        made ≡ map (instance_row zones s c number) (if b then value_of zones s ∷ [] else [])
    one_made xs all false out e = ap (λ (starts : List ℤ). map (row_by zones s c.extent plain spans number) (filter (λ r. not (has_name (reading_of zones s) r excepted)) (ascending starts))) (all ∙ e)
    one_made xs all true lies e =
        ap (λ (starts : List ℤ). map (row_by zones s c.extent plain spans number) (filter (λ r. not (has_name (reading_of zones s) r excepted)) (ascending starts))) (all ∙ e)
        ∙ (ap (λ (b : Bool). map (row_by zones s c.extent plain spans number) (if not b then value_of zones s ∷ [] else [])) (named_then false it_does_not (value_of zones s))
        ∙ ap (λ (row : Row). row ∷ []) (row_same (value_of zones s) (end_of_one (value_of zones s) refl (only_one lies))))
      where
        only_one : in_range (value_of zones s) ≡ true → plain ≡ value_of zones s ∷ []
        only_one lies = plain_then false it_does_not ∙ ap (λ (b : Bool). ascending (if b then value_of zones s ∷ [] else [])) lies

    plain_alone : (b : Bool) → in_range (value_of zones s) ≡ b → plain ++ firsts ≡ (if b then value_of zones s ∷ [] else [])
    plain_alone b lies =
        ap₂ (λ (xs : List ℤ) (ys : List (ℤ × ℤ)). xs ++ map (λ (span : ℤ × ℤ). span.0) ys) (plain_then false it_does_not ∙ ap (λ (v : Bool). ascending (if v then value_of zones s ∷ [] else [])) lies) no_spans
        ∙ alone b
      where
        alone : (v : Bool) → ascending (if v then value_of zones s ∷ [] else []) ++ [] ≡ (if v then value_of zones s ∷ [] else [])
        alone true = refl
        alone false = refl

    of_one : own_start c ≡ Some s → made ≡ instances_in zones s c number range
    of_one own =
        one_made (if in_range (value_of zones s) then value_of zones s ∷ [] else []) (plain_alone (in_range (value_of zones s)) refl) (in_range (value_of zones s)) refl refl
        ∙ ap (λ (starts : List ℤ). map (instance_row zones s c number) (filter in_range starts)) (sym (starts_then false it_does_not own))

  -- the rows that are made of what is asked for are those of the instances in the range
  pub instances_found : own_start c ≡ Some s → made ≡ instances_in zones s c number range
  instances_found own = elim (cases_Bool (recurs c)) [
    | inl it_does ↦ of_recurring it_does own
    | inr it_does_not ↦ of_one it_does_not own
  ]

-- What a component that recurs is asked for.

days_of : (zones : List ZoneTable) (s : Stamp) (range : Digits) (c : Component) (b : Bool) →
    (if b then map (λ (span : ℤ × ℤ). span.0) (filter (span_starts_in zones s range) (map (period_span zones s) c.periods)) else []) ≡ filter (starts_in zones s range) (if b then period_starts zones s c else [])
days_of zones s range c true = filter_firsts (starts_in zones s range) (map (period_span zones s) c.periods) ∙ ap (filter (starts_in zones s range)) (firsts_of_periods zones s c.periods)
days_of zones s range c false = refl

pub plain_asked : (zones : List ZoneTable) (s : Stamp) (range : Digits) (c : Component) (own plain : List ℤ) (spans : List (ℤ × ℤ)) → value_of zones s ≡ (reading_of zones s).instant (seconds_since_1970 (written_moment s)) → recurs c ≡ true →
    own ≡ filter (starts_in zones s range) (value_of zones s ∷ []) → spans ≡ filter (span_starts_in zones s range) (map (period_span zones s) c.periods) →
    plain ≡ own ++ flat_map (later_starts zones s range) c.rules ++ filter (starts_in zones s range) (map (date_start zones s) c.dates) ++ (if is_date s then map (λ (span : ℤ × ℤ). span.0) spans else []) →
    ascending plain ≡ ascending (filter (starts_in zones s range) (plain_of zones s c))
plain_asked zones s range c own plain spans value it_does own_is spans_are plain_is =
    let days = if is_date s then map (λ (span : ℤ × ℤ). span.0) spans else [] in
    let later = flat_map (later_starts zones s range) c.rules in
    let dates = filter (starts_in zones s range) (map (date_start zones s) c.dates) in
    let first = filter (starts_in zones s range) (value_of zones s ∷ []) in
    let days_are : days ≡ filter (starts_in zones s range) (if is_date s then period_starts zones s c else []) =
    ap (λ (xs : List (ℤ × ℤ)). if is_date s then map (λ (span : ℤ × ℤ). span.0) xs else []) spans_are ∙ days_of zones s range c (is_date s) in
    let all : plain ≡ first ++ later ++ dates ++ days = plain_is ∙ ap (λ (xs : List ℤ). xs ++ later ++ dates ++ days) own_is in
    ap ascending all
    ∙ (ascending-members (first ++ later ++ dates ++ days) (filter (starts_in zones s range) (plain_starts every_moment zones s c)) (plain-in_range zones s range value c days days_are)
    ∙ ap (λ (b : Bool). ascending (filter (starts_in zones s range) (if b then plain_starts every_moment zones s c else value_of zones s ∷ []))) (sym it_does))

pub spans_asked : (zones : List ZoneTable) (s : Stamp) (range : Digits) (c : Component) (old new : List (ℤ × ℤ)) → recurs c ≡ true → old ≡ [] → new ≡ old ++ filter (span_starts_in zones s range) (map (period_span zones s) c.periods) →
    new ≡ filter (span_starts_in zones s range) (spans_of zones s c)
spans_asked zones s range c old new it_does empty e =
    e ∙ (ap (λ (xs : List (ℤ × ℤ)). xs ++ filter (span_starts_in zones s range) (map (period_span zones s) c.periods)) empty
    ∙ ap (λ (b : Bool). filter (span_starts_in zones s range) (if b then map (period_span zones s) c.periods else [])) (sym it_does))

pub plain_alone_asked : (zones : List ZoneTable) (s : Stamp) (range : Digits) (c : Component) (own : List ℤ) → recurs c ≡ false → own ≡ filter (starts_in zones s range) (value_of zones s ∷ []) →
    ascending own ≡ ascending (filter (starts_in zones s range) (plain_of zones s c))
plain_alone_asked zones s range c own it_does_not e =
    ap ascending e ∙ ap (λ (b : Bool). ascending (filter (starts_in zones s range) (if b then plain_starts every_moment zones s c else value_of zones s ∷ []))) (sym it_does_not)

pub no_spans_asked : (zones : List ZoneTable) (s : Stamp) (range : Digits) (c : Component) (old : List (ℤ × ℤ)) → recurs c ≡ false → old ≡ [] → old ≡ filter (span_starts_in zones s range) (spans_of zones s c)
no_spans_asked zones s range c old it_does_not e = e ∙ ap (λ (b : Bool). filter (span_starts_in zones s range) (if b then map (period_span zones s) c.periods else [])) (sym it_does_not)
