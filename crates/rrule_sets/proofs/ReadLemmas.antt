-- Each object that was read has what its rows are found by: the days and the seconds of the lengths of RDATE periods bear one sign (RFC 5545, 3.3.6 and 3.3.9), as those of DURATION do, so each is short by itself.
use Rattle.std.proofs.Common.{◌≡◌, ℕ, ◌<◌, ◌^◌, List, [], ◌∷◌, ◌++◌, length, refl, sym, ap, subst, Bool, true, false, inl, inr}
use Rattle.std.specs.Prelude.{All, filter_map, flat_map, option_to_list, Option, Some, None, option_map, unwrap_or, codes, if◌then◌else◌}
use Rattle.std.specs.List.{AllByRecursion as Each, list_any}
use Rattle.std.proofs.lemmas.Bool.{cases_Bool}
use Rattle.std.proofs.lemmas.List.Elements.{All-from_recursion, All-head, All-map, All-tail, All-nil, All-cons, All-weaker}
use Rattle.std.proofs.lemmas.Option.{none-some}
use Rattle.cal_base.specs.Lines.ContentLines.{placed_lines}
use Rattle.cal_base.specs.Lines.ComponentTrees.{or_else}
use Rattle.cal_base.specs.declared.line.Line.{Line}
use Rattle.cal_moment.specs.declared.stamp.Period.{Period}
use Rattle.cal_moment.specs.declared.stamp.PeriodEnd.{PeriodEnd}
use Rattle.cal_moment.specs.declared.stamp.PeriodEnd.TheVariants.{At, After}
use Rattle.cal_moment.specs.declared.stamp.Stamp.{Stamp}
use Rattle.cal_model.specs.declared.object.Class.{Class}
use Rattle.cal_model.specs.declared.object.Component.{Component}
use Rattle.cal_model.specs.declared.object.Object.{Object}
use Rattle.cal_model.specs.declared.rule.Rule.{Rule}
use Rattle.cal_model.specs.Instances.Starts.{has_fine_rule}
use Rattle.cal_model.specs.Instances.Rows.{ids_start}
use Rattle.cal_model.specs.Objects.ComponentLines.{all_of, lines_of}
use Rattle.cal_model.specs.Objects.ObjectReading.{object_in, settled_component}
use Rattle.cal_model.specs.Objects.LineValues.{is_of_periods, periods_in, periods_at}
use Rattle.cal_model.specs.Objects.ObjectFacts.{IsRead, IsReadComponent, IsServed, HasShortEnd, stamps_of_extent}
use Rattle.cal_model.specs.Objects.DatedLines.{stamps_of_end, stamps_of_period}
use Rattle.cal_model.specs.Objects.CalendarChildren.{Child, children_in, kinds_among, component_of_child}
use Rattle.cal_model.specs.Objects.ZoneReading.{zone_names, zones_of}
use Rattle.cal_model.specs.Recurrence.NextPassing.{is_fine}
use Rattle.cal_model.specs.Recurrence.RecurrenceSet.{every_moment}
use Rattle.cal_model.specs.Values.StampTexts.{time_stamp, utc_stamp, line_zone, utc_names, is_one_of, items_of, length_ahead, written_period_end, period_of_ends, period_with, period_of, periods_in_grammar}
use Rattle.cal_model.specs.Values.ValueTexts.{length_of, is_negative, cut}
use Rattle.cal_model.proofs.Objects.ComponentStamps.{is_made}
use Rattle.cal_model.proofs.Objects.ObjectFactLaws.{IsReadObject-read}
use Rattle.cal_model.proofs.Objects.ReadingSteps.{read_from}
use Rattle.cal_model.proofs.Objects.RuleBounds.{map_value, each_read}
use Rattle.cal_model.proofs.Objects.ShortLengths.{if_true}
use Rattle.cal_model.proofs.Objects.TestedLines.{period_by}
use Rattle.cal_model.proofs.Words.AllLemmas.{All-left, All-right}
use Rattle.cal_model.proofs.Words.EachLemmas.{each-filter_map, each-flat_map}
use Rattle.override_merge.specs.Conversions.{HasConvertibleRow, IsConvertible}
use Rattle.override_merge.specs.ExpandableComponents.{IsConvertibleEnd, IsConvertiblePeriod, IsExpandable}
use Rattle.override_merge.proofs.ReadObjects.{HasConvertibleRows-read, IsOneSigned, all_convertible, one_signed, short_parts}
use Rattle.rrule_sets.specs.ExpandableObjects.{HasRowsToFind}

-- Ends of periods.

abbrev IsOneSignedEnd : PeriodEnd → Type 0
IsOneSignedEnd (At end) = Unit {0}
IsOneSignedEnd (After length) = IsOneSigned length

abbrev HasOneSignedEnd : Period → Type 0
HasOneSignedEnd period = IsOneSignedEnd period.end

length_signed : (text : List ℕ) (negative : Bool) (end : PeriodEnd) → (if negative then None else option_map After (length_of text)) ≡ Some end → IsOneSignedEnd end
length_signed text true end is = absurd (none-some end is)
length_signed text false end is = let found = map_value After (length_of text) end is in rw found.2 (one_signed text found.0 found.1)

end_signed : (stamp : Option Stamp) (ahead : Option PeriodEnd) (end : PeriodEnd) → ((e : PeriodEnd) → ahead ≡ Some e → IsOneSignedEnd e) → or_else (option_map At stamp) ahead ≡ Some end → IsOneSignedEnd end
end_signed None ahead end later is = later end is
end_signed (Some stamp) ahead end later is = subst IsOneSignedEnd (ap (λ o. unwrap_or o end) is) tt

ends_signed : (start : Option Stamp) (end : Option PeriodEnd) (period : Period) → ((e : PeriodEnd) → end ≡ Some e → IsOneSignedEnd e) → period_of_ends start end ≡ Some period → HasOneSignedEnd period
ends_signed None end period last is = absurd (none-some period is)
ends_signed (Some start) None period last is = absurd (none-some period is)
ends_signed (Some start) (Some end) period last is = subst HasOneSignedEnd (ap (λ o. unwrap_or o period) is) (last end refl)

parts_signed : (moment : List ℕ → Option Stamp) (parts : Option (List ℕ × List ℕ)) (period : Period) → period_by moment parts ≡ Some period → HasOneSignedEnd period
parts_signed moment None period is = absurd (none-some period is)
parts_signed moment (Some p) period is =
    ends_signed (moment p.0) (written_period_end moment p.1) period
    (λ end found. end_signed (moment p.1) (length_ahead p.1) end (λ e ahead. length_signed p.1 (is_negative p.1) e ahead) found) is

period_signed : (zones : List (List ℕ)) (line : Line) (text : List ℕ) (period : Period) (utc : Bool) →
    (if utc then period_with utc_stamp text else period_with (time_stamp (line_zone zones line)) text) ≡ Some period → HasOneSignedEnd period
period_signed zones line text period true is = parts_signed utc_stamp (cut 47 text) period is
period_signed zones line text period false is = parts_signed (time_stamp (line_zone zones line)) (cut 47 text) period is

grammar_signed : (zones : List (List ℕ)) (line : Line) (periods : List Period) → periods_in_grammar zones line ≡ Some periods → Each HasOneSignedEnd periods
unfolding periods_in_grammar
grammar_signed zones line periods is = each_read HasOneSignedEnd (period_of zones line) (λ text period found. period_signed zones line text period (is_one_of utc_names line) found) (items_of line) periods is

each_of_some : (periods : Option (List Period)) → ((ps : List Period) → periods ≡ Some ps → Each HasOneSignedEnd ps) → Each HasOneSignedEnd (unwrap_or periods [])
each_of_some None signed = tt
each_of_some (Some periods) signed = signed periods refl

each_line : (zones : List (List ℕ)) (lines : List Line) → Each (λ line. Each HasOneSignedEnd (periods_in zones line)) lines
each_line zones [] = tt
each_line zones (line ∷ lines) = (
  if_true HasOneSignedEnd (unwrap_or (periods_in_grammar zones line) []) (is_of_periods line) (λ is. each_of_some (periods_in_grammar zones line) (grammar_signed zones line)),
  each_line zones lines,
)

periods_signed : (zones : List (List ℕ)) (name : List ℕ) (lines : List Line) → Each HasOneSignedEnd (periods_at zones name lines)
periods_signed zones name lines = each-flat_map HasOneSignedEnd (periods_in zones) (all_of name lines) (each_line zones (all_of name lines))

-- Components of an object that was read.

abbrev HasSignedPeriods : Component → Type 0
HasSignedPeriods c = Each HasOneSignedEnd c.periods

made_signed : (names : List (List ℕ)) (child : Child) (component : Component) → component_of_child names child ≡ Some component → HasSignedPeriods component
made_signed names child component made =
    let source = is_made names child component made in
    rw source.is (periods_signed names (codes "RDATE") (lines_of child.tree))

all_untested : {X : Type 0} (xs : List X) → Each (λ (x : X). Unit {0}) xs
all_untested [] = tt
all_untested (x ∷ xs) = (tt, all_untested xs)

signed_periods : (object : Object) → IsRead object → All HasSignedPeriods object.components
signed_periods object read =
    let found = read_from every_moment read.octets object read.reading in
    let said = object_in every_moment (placed_lines read.octets) found.0 in
    let P : Object → Type 0 = λ o. All HasSignedPeriods o.components in
    subst P (sym found.1.is)
    (All-map HasSignedPeriods (settled_component (ids_start said)) said.components
    (All-weaker HasSignedPeriods (λ c. HasSignedPeriods (settled_component (ids_start said) c)) (λ c has. has) said.components
    (of_children (zone_names (zones_of every_moment found.0)) (kinds_among (children_in (placed_lines read.octets) found.0)))))
  where
    of_children : (names : List (List ℕ)) (children : List Child) → All HasSignedPeriods (filter_map (component_of_child names) children)
    of_children names children =
        All-from_recursion HasSignedPeriods (filter_map (component_of_child names) children)
        (each-filter_map (λ (child : Child). Unit {0}) HasSignedPeriods (component_of_child names) (λ child component any made. made_signed names child component made) children (all_untested children))

end_convertible : (zones : ℕ) (end : PeriodEnd) (start : Stamp) → All (IsConvertible zones) (stamps_of_end end) → HasShortEnd (record { start = start; end = end }) → IsOneSignedEnd end → IsConvertibleEnd zones end
end_convertible zones (At end) start stamps short sign = All-head (IsConvertible zones) end [] stamps
end_convertible zones (After length) start stamps short sign = short_parts length short sign

period_convertible : (zones : ℕ) (period : Period) → All (IsConvertible zones) (stamps_of_period period) → HasShortEnd period → HasOneSignedEnd period → IsConvertiblePeriod zones period
period_convertible zones period stamps short sign = record {
  start = All-head (IsConvertible zones) period.start (stamps_of_end period.end) stamps;
  end = end_convertible zones period.end period.start (All-tail (IsConvertible zones) period.start (stamps_of_end period.end) stamps) short sign;
}

periods_convertible : (zones : ℕ) (periods : List Period) → All (IsConvertible zones) (flat_map stamps_of_period periods) → All HasShortEnd periods → Each HasOneSignedEnd periods → All (IsConvertiblePeriod zones) periods
periods_convertible zones [] stamps short signs = All-nil (IsConvertiblePeriod zones)
periods_convertible zones (p ∷ ps) stamps short signs =
    All-cons (IsConvertiblePeriod zones) p ps
    (period_convertible zones p (All-left (IsConvertible zones) (stamps_of_period p) (flat_map stamps_of_period ps) stamps) (All-head HasShortEnd p ps short) signs.0)
    (periods_convertible zones ps (All-right (IsConvertible zones) (stamps_of_period p) (flat_map stamps_of_period ps) stamps) (All-tail HasShortEnd p ps short) signs.1)

none_fine : (rules : List Rule) → list_any (λ (rule : Rule). is_fine rule.freq) rules ≡ false → All (λ (rule : Rule). is_fine rule.freq ≡ false) rules
none_fine [] none = All-nil (λ (rule : Rule). is_fine rule.freq ≡ false)
none_fine (rule ∷ rules) none = elim (cases_Bool (is_fine rule.freq)) [
  | inl w ↦ absurd (let e = rw w at none in cc)
  | inr w ↦ All-cons (λ (rule : Rule). is_fine rule.freq ≡ false) rule rules w (none_fine rules (rw w at none))
]

all_coarse : (cs : List Component) → list_any (λ (c : Component). list_any (λ (rule : Rule). is_fine rule.freq) c.rules) cs ≡ false → All (λ (c : Component). All (λ (rule : Rule). is_fine rule.freq ≡ false) c.rules) cs
all_coarse [] none = All-nil (λ (c : Component). All (λ (rule : Rule). is_fine rule.freq ≡ false) c.rules)
all_coarse (c ∷ cs) none = elim (cases_Bool (list_any (λ (rule : Rule). is_fine rule.freq) c.rules)) [
  | inl w ↦ absurd (let e = rw w at none in cc)
  | inr w ↦ All-cons (λ (c : Component). All (λ (rule : Rule). is_fine rule.freq ≡ false) c.rules) c cs (none_fine c.rules w) (all_coarse cs (rw w at none))
]

expandable : (object : Object) (c : Component) → IsReadComponent object c → HasConvertibleRow (length object.zones) c → HasSignedPeriods c → All (λ (rule : Rule). is_fine rule.freq ≡ false) c.rules → IsExpandable (length object.zones) c
expandable object c is row signs coarse =
    let P = IsConvertible (length object.zones) in
    let start = option_to_list c.start in
    let said = stamps_of_extent c.extent in
    let id = option_to_list c.recurrence_id in
    let periods = flat_map stamps_of_period c.periods in
    let stored = flat_map (λ (entry : Option Class × Period). stamps_of_period entry.1) c.stored_busy in
    let whole = all_convertible object c is in
    let up_to_except = All-left P (start ++ said ++ id ++ c.dates ++ periods ++ c.except) stored whole in
    let up_to_periods = All-left P (start ++ said ++ id ++ c.dates ++ periods) c.except up_to_except in
    let up_to_dates = All-left P (start ++ said ++ id ++ c.dates) periods up_to_periods in
    record {
      row = row;
      served = All-left IsServed start said (All-left IsServed (start ++ said) id (All-left IsServed (start ++ said ++ id) c.dates (All-left IsServed (start ++ said ++ id ++ c.dates) periods
          (All-left IsServed (start ++ said ++ id ++ c.dates ++ periods) c.except (All-left IsServed (start ++ said ++ id ++ c.dates ++ periods ++ c.except) stored is.served)))));
      dates = All-right P (start ++ said ++ id) c.dates up_to_dates;
      periods = periods_convertible (length object.zones) c.periods (All-right P (start ++ said ++ id ++ c.dates) periods up_to_periods) is.short_periods signs;
      except = All-right P (start ++ said ++ id ++ c.dates ++ periods) c.except up_to_except;
      usable = is.usable_rules;
      coarse = coarse;
    }

-- what was read can be expanded, but for rules by seconds and minutes
pub HasRowsToFind-read : (object : Object) → IsRead object → length object.components < 2 ^ 32 → has_fine_rule object ≡ false → HasRowsToFind object
HasRowsToFind-read object read few coarse =
    let facts = IsReadObject-read object read in
    let rows = HasConvertibleRows-read object read few in
    let signs = signed_periods object read in
    let rules = all_coarse object.components coarse in
    record {
      read = facts;
      rows = rows;
      components = λ k d lt. expandable object _ (facts.components k d lt) (rows.components k d lt) (signs k d lt) (rules k d lt);
    }
