-- The alarms of an object that was read: their triggers and gaps are short, and a moment that one names is served.
use Rattle.std.proofs.Common.{◌≡◌, ℕ, suc, List, refl, ap, sym, ◌∙◌, arith, Bool, true, false, [], subst}
use Rattle.std.specs.Prelude.{◌==◌, ◌&&◌, bytes_eq, unwrap_or, Option, Some, None, is_some, option_and_then, codes, filter, filter_map, if◌then◌else◌}
use Rattle.std.specs.List.{AllByRecursion as Each, enumerate_from}
use Rattle.std.proofs.lemmas.Bool.{false≢true, and_from}
use Rattle.cal_base.specs.declared.line.Line.{Line}
use Rattle.cal_base.specs.declared.line.Node.{Node}
use Rattle.cal_base.specs.Lines.ContentLines.{Placed}
use Rattle.cal_base.specs.Lines.ComponentTrees.{innermost, depth, name_at}
use Rattle.cal_moment.specs.declared.stamp.Length.{Length}
use Rattle.cal_moment.specs.declared.stamp.Stamp.{Stamp}
use Rattle.cal_model.specs.declared.object.Alarm.{Alarm}
use Rattle.cal_model.specs.declared.object.Kind.{Kind}
use Rattle.cal_model.specs.declared.object.Trigger.{Trigger}
use Rattle.cal_model.specs.declared.object.Trigger.TheVariants.{At, From}
use Rattle.cal_model.specs.Values.StampTexts.{trigger_of}
use Rattle.cal_model.specs.Values.ValueTexts.{length_of}
use Rattle.cal_model.specs.Objects.ComponentLines.{has_name, one_of, lines_of, name_of, children_of, kind_named, component_kind}
use Rattle.cal_model.specs.Objects.ComponentReading.{no_length, alarm_with, alarm_of, is_alarm}
use Rattle.cal_model.specs.Objects.LineValues.{is_short_trigger, value_at, lines_in, own_fault}
use Rattle.cal_model.specs.Objects.DateFaults.{trigger_moment, trigger_stamps, is_in_kind, is_in_alarm, stamps_of_line, stamp_outside}
use Rattle.cal_model.specs.Objects.DatedLines.{dated_stamps}
use Rattle.cal_model.specs.Objects.CalendarChildren.{Child}
use Rattle.cal_model.specs.Objects.ObjectFacts.{IsShort, IsServed, IsBoundedTrigger, IsReadAlarm}
use Rattle.cal_model.proofs.Objects.TestedLines.{IsTested, test_holds}
use Rattle.cal_model.proofs.Objects.PlacedComponents.{LineIn, NodeAt, OuterAt}
use Rattle.cal_model.proofs.Objects.ReadingSteps.{IsChildOf}
use Rattle.cal_model.proofs.Objects.RuleBounds.{map_value, and_then_value, each_found}
use Rattle.cal_model.proofs.Objects.ServedDates.{all_served, each_numbered, each_at, then_part, in_kind}
use Rattle.cal_model.proofs.Objects.ShortLengths.{line_tested, found_passes, duration_short}
use Rattle.cal_model.proofs.Words.EachLemmas.{each-weaker, each-both, each-filter, each_passes, each-filter_map, each_of_flat_map}

-- Where the lines of an alarm stand

then_other : (P : Stamp → Type 0) (xs ys : List Stamp) (b : Bool) → b ≡ false → Each P (if b then xs else ys) → Each P ys
then_other P xs ys true is facts = absurd (false≢true (sym is))
then_other P xs ys false is facts = facts

-- a line within a component of the second level stands in none of the four kinds itself
not_in_kind : (lines : List Line) (begin number : ℕ) → innermost lines number ≡ Some begin → depth lines begin ≡ 2 → is_in_kind lines number ≡ false
not_in_kind lines begin number inside deep =
    ap (λ found. elim found [ None ↦ false | Some b ↦ (depth lines b == 1) && is_some (kind_named (name_at lines (Some b))) ]) inside
    ∙ ap (λ n. (n == 1) && is_some (kind_named (name_at lines (Some begin)))) deep

-- but in an alarm of one, where that component is a VALARM
in_alarm : (lines : List Line) (begin number : ℕ) → innermost lines number ≡ Some begin → bytes_eq (name_at lines (Some begin)) (codes "VALARM") ≡ true →
    is_in_kind lines begin ≡ true → is_in_alarm lines number ≡ true
in_alarm lines begin number inside named within =
    ap (λ found. elim found [ None ↦ false | Some b ↦ bytes_eq (name_at lines (Some b)) (codes "VALARM") && is_in_kind lines b ]) inside
    ∙ and_from (bytes_eq (name_at lines (Some begin)) (codes "VALARM")) (is_in_kind lines begin) named within

-- a line of a VALARM that stands directly in a component of the four kinds names no moment outside
trigger_served : (zones : List (List ℕ)) (lines : List Line) (around begin : ℕ) (name : List ℕ) (kind : Kind) (line : Line) → stamp_outside zones lines ≡ None → depth lines around ≡ 1 →
    name_at lines (Some around) ≡ name → kind_named name ≡ Some kind → depth lines begin ≡ 2 → innermost lines begin ≡ Some around →
    bytes_eq (name_at lines (Some begin)) (codes "VALARM") ≡ true → LineIn lines begin line → Each IsServed (trigger_stamps line)
trigger_served zones lines around begin name kind line none deep named of_kind deeper inside alarm at =
    let stamps = each_numbered (λ found. Each IsServed (stamps_of_line zones lines found)) 0 lines at.0 line at.0 (omega arith)
    (each_of_flat_map IsServed (stamps_of_line zones lines) (enumerate_from 0 lines) (all_served zones lines none)) at.1 in
    let within = in_kind lines around begin name kind inside deep named of_kind in
    then_part IsServed (trigger_stamps line) [] (is_in_alarm lines at.0) (in_alarm lines begin at.0 at.2 alarm within)
    (then_other IsServed (dated_stamps zones line) (if is_in_alarm lines at.0 then trigger_stamps line else []) (is_in_kind lines at.0) (not_in_kind lines begin at.0 at.2 deeper) stamps)

-- what is known of a line of such an alarm
pub record IsAlarmLine (all : List Line) (line : Line) : Type 0 where
  pub tested : IsTested all line
  pub served : Each IsServed (trigger_stamps line)

-- of each alarm of a component
abbrev pub AlarmsAreKnown : List Line → Node → Type 0
AlarmsAreKnown all node = Each (λ inner. is_alarm inner ≡ true → Each (IsAlarmLine all) (lines_of inner)) (children_of node)

-- the lines of the alarms of a child
pub child_alarms : (placed : List Placed) (zones : List (List ℕ)) (tree : Node) (child : Child) (kind : Kind) → own_fault placed ≡ None → stamp_outside zones (lines_in placed) ≡ None →
    OuterAt (lines_in placed) tree → IsChildOf (children_of tree) child → component_kind child.tree ≡ Some kind → AlarmsAreKnown (lines_in placed) child.tree
child_alarms placed zones tree child kind own none outer is_child of_kind =
    let lines = lines_in placed in
    let at = each_at (λ node. (b : ℕ) × (depth lines b ≡ suc (depth lines outer.0)) × (innermost lines b ≡ Some outer.0) × NodeAt 2 lines b node) (children_of tree) child.number child.tree (outer.2 3).2 is_child in
    let deep : depth lines at.0 ≡ 1 = at.1 ∙ ap suc outer.1 in
    each-weaker (λ inner place alarm.
    each-weaker (λ line in_it. record {
      tested = line_tested placed in_it.0 line own in_it.1;
      served = trigger_served zones lines at.0 place.0 (name_of child.tree) kind line none deep at.3.0 of_kind (place.1 ∙ ap suc deep) place.2
          (ap (λ name. bytes_eq name (codes "VALARM")) place.3.0 ∙ alarm) in_it;
    }) (lines_of inner) place.3.1) (children_of child.tree) at.3.2

-- What an alarm says

-- a trigger of a line that passes its test and whose moment is served
bounded : (line : Line) (trigger : Trigger) → trigger_of line ≡ Some trigger → has_name (codes "TRIGGER") line ≡ true → is_short_trigger (trigger_of line) ≡ true →
    Each IsServed (trigger_stamps line) → IsBoundedTrigger trigger
bounded line (At moment) is named short served =
    let stamps = then_part IsServed (trigger_moment (trigger_of line)) [] (has_name (codes "TRIGGER") line) named served in
    (subst (λ found. Each IsServed (trigger_moment found)) is stamps).0
bounded line (From related length) is named short served = sym (ap is_short_trigger is) ∙ short

gap_short : (found : Option Length) → ((length : Length) → found ≡ Some length → IsShort length) → IsShort (unwrap_or found no_length)
gap_short None short = refl
gap_short (Some length) short = short length refl

alarm_bounded : (all : List Line) (node : Node) (alarm : Alarm) → Each (IsAlarmLine all) (lines_of node) → alarm_of node ≡ Some alarm → IsReadAlarm alarm
alarm_bounded all node alarm lines made =
    let own = lines_of node in
    let found = map_value (alarm_with own) (option_and_then trigger_of (one_of (codes "TRIGGER") own)) alarm made in
    let read = and_then_value trigger_of (one_of (codes "TRIGGER") own) found.0 found.1 in
    let line = each_found (IsAlarmLine all) (has_name (codes "TRIGGER")) own lines read.0 read.1 in
    let named = found_passes (has_name (codes "TRIGGER")) read.0 own read.1 in
    let tested = each-weaker (λ l (fact : IsAlarmLine all l). fact.tested) own lines in
    rw found.2 (record {
      trigger = bounded read.0 found.0 read.2 named (test_holds all (codes "TRIGGER") (λ l. is_short_trigger (trigger_of l)) read.0 refl named line.tested) line.served;
      gap = gap_short (value_at length_of (codes "DURATION") own) (λ length is. duration_short all own length tested is);
    })

pub alarms_bounded : (all : List Line) (node : Node) → AlarmsAreKnown all node → Each IsReadAlarm (filter_map alarm_of (filter is_alarm (children_of node)))
alarms_bounded all node known =
    let alarms = filter is_alarm (children_of node) in
    let lines_known : Node → Type 0 = λ inner. is_alarm inner ≡ true → Each (IsAlarmLine all) (lines_of inner) in
    each-filter_map (λ inner. Each (IsAlarmLine all) (lines_of inner)) IsReadAlarm alarm_of (λ inner alarm lines made. alarm_bounded all inner alarm lines made) alarms
    (each-weaker (λ inner facts. facts.0 facts.1) alarms
    (each-both lines_known (λ inner. is_alarm inner ≡ true) alarms (each-filter lines_known is_alarm (children_of node) known) (each_passes is_alarm (children_of node))))
