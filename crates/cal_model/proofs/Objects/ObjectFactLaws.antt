-- What holds of each calendar object that was read, and of each zone.
use Rattle.std.proofs.Common.{◌≡◌, ℕ, ◌<◌, ◌≤◌, List, [], ◌∷◌, ◌++◌, map, length, arith, refl, ap, sym, ◌∙◌, Bool, true, false, subst, ◌+◌}
use Rattle.std.specs.Prelude.{nat_lt, ◌||◌, not, bytes_eq, unwrap_or, All, Option, Some, None, is_some, Result, Ok, Err, is_ok, find, filter, filter_map, option_map, codes, take, if◌then◌else◌, int_lt, pos}
use Rattle.std.specs.List.{AllByRecursion as Each, cons_option, list_any, enumerate_from}
use Rattle.std.proofs.lemmas.Bool.{false≢true, ltb-false}
use Rattle.std.proofs.lemmas.List.Elements.{All-from_recursion}
use Rattle.std.proofs.lemmas.Slice.Eq.{bytes_eq-Decides}
use Rattle.std.proofs.lemmas.Option.{none-some, same_Some}
use Rattle.std.specs.Result.{result_unwrap_or}
use Rattle.cal_base.specs.declared.line.Node.{Node}
use Rattle.cal_base.specs.Lines.ContentLines.{placed_lines, line_fault, lines_of as lines_of_text, Placed}
use Rattle.cal_base.specs.Lines.ComponentTrees.{nesting_fault, tree_of, first}
use Rattle.cal_base.specs.declared.line.Line.{Line}
use Rattle.cal_moment.specs.declared.stamp.Length.{Length}
use Rattle.cal_moment.specs.declared.stamp.Period.{Period}
use Rattle.cal_moment.specs.declared.stamp.Stamp.{Stamp}
use Rattle.cal_model.specs.declared.object.Class.{Class}
use Rattle.cal_model.specs.declared.object.Component.{Component}
use Rattle.cal_model.specs.declared.object.Kind.{Kind}
use Rattle.cal_model.specs.declared.object.Kind.TheVariants.{Event}
use Rattle.cal_model.specs.declared.object.NotResource.{NotResource}
use Rattle.cal_model.specs.declared.object.NotResource.TheVariants.{ZoneMissing}
use Rattle.cal_model.specs.declared.object.Object.{Object}
use Rattle.cal_model.specs.declared.rule.Rule.{Rule}
use Rattle.cal_model.specs.declared.zone.ZoneTable.{ZoneTable}
use Rattle.cal_model.specs.TimeZones.TableBounds.{IsPart}
use Rattle.cal_model.proofs.Objects.ZoneParts.{IsPart-part_of_lines}
use Rattle.cal_model.specs.declared.zone.ZonePart.{ZonePart}
use Rattle.cal_model.specs.Objects.LineValues.{periods_at, stamp_at, value_at, rules_of, lines_in, own_fault}
use Rattle.cal_model.specs.Objects.ZoneReading.{zones_of, zone_names, are_many, zone_table, is_zone, parts_of_zone, has_zone_fault, is_fine_part, is_part, part_of_lines, are_too_many}
use Rattle.cal_model.specs.Values.ValueTexts.{length_of}
use Rattle.cal_model.specs.Ranges.Overlap.{seconds_of}
use Rattle.cal_model.specs.Words.Lists.{is_empty}
use Rattle.cal_model.specs.Instances.Rows.{masters}
use Rattle.cal_model.specs.Recurrence.RecurrenceSet.{every_moment}
use Rattle.cal_model.specs.Recurrence.RuleBounds.{IsUsable}
use Rattle.cal_model.specs.Ranges.Nearness.{IsTimed}
use Rattle.cal_model.specs.Values.RuleTexts.{rule_of}
use Rattle.cal_model.proofs.Objects.RuleBounds.{IsUsable-rule_of}
use Rattle.cal_model.specs.Objects.ComponentLines.{all_of, name_of, children_of, kind_named, component_kind, lines_of, has, is_named}
use Rattle.cal_model.specs.Objects.ComponentReading.{stored_busy_of, extent_of, alarm_of, is_alarm, component_of}
use Rattle.cal_model.specs.Objects.ObjectFacts.{component_stamps, IsKnown, IsReadComponent, IsZone, IsReadObject, IsRead, IsServed, IsShort, IsForward, HasShortEnd, IsReadAlarm, HasText, lengths_of_extent}
use Rattle.cal_model.proofs.Objects.TestedLines.{IsTested}
use Rattle.cal_model.proofs.Objects.PlacedComponents.{tree_at}
use Rattle.cal_model.proofs.Words.EachLemmas.{neither, none_of_map, each_of_find, each_of_any, each-weaker, each-filter, each_passes, each_of_map, each-filter_map, each-both}
use Rattle.cal_model.specs.Objects.ResourceFaults.{resource_fault, lacks_zone, are_different, resource_faults}
use Rattle.cal_model.specs.Objects.DatedLines.{dated_stamps}
use Rattle.cal_model.specs.Objects.ComponentFaults.{component_fault, has_component_fault, is_bad_end, is_bad_period, is_bad_length, is_part_of_day, has_two_ends}
use Rattle.cal_model.specs.Objects.ZoneFaults.{zone_fault, is_bad_zone}
use Rattle.cal_model.specs.Objects.CalendarChildren.{Child, children_in, kinds_among, component_of_child, object_of, child_at, child_places, zones_among}
use Rattle.cal_model.specs.Objects.ObjectReading.{Unread, not_resource, first_there, calendar_faults, object_in, read_lines_by, read_tree, read_zone_tree, read_zone, not_calendar, place_at}
use Rattle.cal_model.proofs.Objects.ReadingSteps.{after_lines, lines_none, after_nesting, of_tree, after_tree, read_from, is_sound, IsChildOf, children_are, head_none, tail_none}
use Rattle.cal_model.proofs.Objects.SettledObjects.{IsReadObject-settled}
use Rattle.cal_model.proofs.Objects.ComponentStamps.{is_made, IsNamed, known_by_test, lines_known, each_stamp}
use Rattle.cal_model.proofs.Objects.ServedDates.{not_before, child_served}
use Rattle.cal_model.proofs.Objects.ShortLengths.{child_tested, extent_lengths, extent_short, periods_short, busy_short}
use Rattle.cal_model.proofs.Objects.AlarmBounds.{AlarmsAreKnown, child_alarms, alarms_bounded}
use Rattle.cal_model.proofs.Objects.TimedPeriods.{periods_timed}

-- Rows of the table that do not hold

each_row : (rows : List (Bool × NotResource)) → option_map (λ (row : Bool × NotResource). row.1) (find (λ (row : Bool × NotResource). row.0) rows) ≡ None →
    Each (λ (row : Bool × NotResource). row.0 ≡ false) rows
each_row rows none =
    each_of_find (λ (row : Bool × NotResource). row.0) rows
    (none_of_map (λ (row : Bool × NotResource). row.1) (find (λ (row : Bool × NotResource). row.0) rows) none)

-- what the table says of the children of the four kinds
record IsStorable (object : Object) (children : List Child) : Type 0 where
  some : is_empty children ≡ false
  one_kind : are_different (map (λ (child : Child). name_of child.tree) children) ≡ false
  one_master : nat_lt 1 (length (masters object)) ≡ false
  zones : Each (λ (child : Child). lacks_zone (zone_names object.zones) (lines_of child.tree) ≡ false) children

is_storable : (object : Object) (children : List Child) → resource_fault object children ≡ None → IsStorable object children
is_storable object children none =
    let rows = each_row (resource_faults object children) none in
    record {
      some = rows.1.0;
      one_kind = rows.1.1.0;
      one_master = rows.1.1.1.1.1.0;
      zones = each_of_any (λ (child : Child). lacks_zone (zone_names object.zones) (lines_of child.tree)) children rows.1.1.1.1.1.1.1.0;
    }

-- One kind

same_names : (name : List ℕ) (names : List (List ℕ)) → list_any (λ other. not (bytes_eq name other)) names ≡ false → Each (λ other. name ≡ other) names
same_names name names none =
    each-weaker (λ other is. (bytes_eq-Decides name other).0 (known_by_test (bytes_eq name other) is)) names
    (each_of_any (λ other. not (bytes_eq name other)) names none)

-- each name is the first one, if it is not different
each_first : (name : List ℕ) (names : List (List ℕ)) → are_different (name ∷ names) ≡ false → Each (λ other. name ≡ other) (name ∷ names)
each_first name names none = (refl, same_names name names none)

-- Components that can stand

each_any : {X : Type 0} (xs : List X) → Each (λ x. Unit {0}) xs
each_any [] = tt
each_any (x ∷ xs) = (tt, each_any xs)

few_of_test : (rules : List Rule) → are_many rules ≡ false → length rules ≤ 8
few_of_test rules few = ltb-false 8 (length rules) few

few_rules : (zones : List ZoneTable) (lines : List Line) → has_component_fault zones lines ≡ false → length (rules_of lines) ≤ 8
few_rules zones lines sound =
    let names = zone_names zones in
    let start = stamp_at names (codes "DTSTART") lines in
    let due = is_bad_end zones start (stamp_at names (codes "DUE") lines) in
    let end = is_bad_end zones start (stamp_at names (codes "DTEND") lines) in
    let periods = list_any (is_bad_period zones) (periods_at names (codes "RDATE") lines ++ periods_at names (codes "FREEBUSY") lines) in
    let many = are_many (rules_of lines) in
    let twice = has_two_ends lines in
    let a = (neither (many || twice || end || due || periods) (is_bad_length start (value_at length_of (codes "DURATION") lines)) sound).0 in
    let b = (neither (many || twice || end || due) periods a).0 in
    let c = (neither (many || twice || end) due b).0 in
    let d = (neither (many || twice) end c).0 in
    few_of_test (rules_of lines) (neither many twice d).0

-- the DURATION of a component does not go backwards
forward_length : (start : Option Stamp) (found : Option Length) → is_bad_length start found ≡ false → (length : Length) → found ≡ Some length → IsForward length
forward_length start None sound length is = absurd (none-some length is)
forward_length start (Some one) sound length is =
    let test = (neither (int_lt (seconds_of one) (pos 0)) (is_part_of_day start one) sound).0 in
    subst IsForward (same_Some one length is) (not_before (seconds_of one) (pos 0) test)

extent_forward : (zones : List ZoneTable) (lines : List Line) (kind : Kind) → has_component_fault zones lines ≡ false → Each IsForward (lengths_of_extent (extent_of (zone_names zones) kind lines))
extent_forward zones lines kind sound =
    let names = zone_names zones in
    let start = stamp_at names (codes "DTSTART") lines in
    let due = is_bad_end zones start (stamp_at names (codes "DUE") lines) in
    let end = is_bad_end zones start (stamp_at names (codes "DTEND") lines) in
    let periods = list_any (is_bad_period zones) (periods_at names (codes "RDATE") lines ++ periods_at names (codes "FREEBUSY") lines) in
    let length = is_bad_length start (value_at length_of (codes "DURATION") lines) in
    let good = (neither (are_many (rules_of lines) || has_two_ends lines || end || due || periods) length sound).1 in
    extent_lengths IsForward names kind lines (forward_length start (value_at length_of (codes "DURATION") lines) good)

usable_rules : (lines : List Line) → All IsUsable (rules_of lines)
usable_rules lines =
    All-from_recursion IsUsable (rules_of lines)
    (each-filter_map (λ line. Unit {0}) IsUsable (λ line. rule_of line.value) (λ line rule fact is. IsUsable-rule_of line.value rule is) (all_of (codes "RRULE") lines) (each_any (all_of (codes "RRULE") lines)))

-- The whole object

some_value : {X : Type 0} (o : Option X) → is_some o ≡ true → (x : X) × (o ≡ Some x)
some_value None some = absurd (false≢true some)
some_value (Some x) some = (x, refl)

-- the first component gives the object its kind, and there is one
first_kind : (o : Option Component) (made : List Component) (component : Component) → o ≡ Some component →
    unwrap_or (option_map (λ (c : Component). c.kind) (first (cons_option o made))) Event ≡ component.kind
first_kind o made component is = rw is refl

some_made : (o : Option Component) (made : List Component) (component : Component) → o ≡ Some component → 0 < length (cons_option o made)
some_made o made component is = rw is (omega arith)

-- what is known of each child of the four kinds, beside the name of the first
record IsSoundChild (all : List Line) (tree : Node) (zones : List ZoneTable) (name : List ℕ) (child : Child) : Type 0 where
  tested : Each (IsTested all) (lines_of child.tree)
  child_of_tree : IsChildOf (children_of tree) child
  sound : has_component_fault zones (lines_of child.tree) ≡ false
  known : lacks_zone (zone_names zones) (lines_of child.tree) ≡ false
  named : name ≡ name_of child.tree
  served : (kind : Kind) → component_kind child.tree ≡ Some kind → Each (λ line. Each IsServed (dated_stamps (zone_names zones) line)) (lines_of child.tree)
  alarms : (kind : Kind) → component_kind child.tree ≡ Some kind → AlarmsAreKnown all child.tree

component_facts : (all : List Line) (tree : Node) (zones : List ZoneTable) (name : List ℕ) (kind : Kind) (object : Object) → object.kind ≡ kind → object.tree ≡ tree → object.zones ≡ zones → kind_named name ≡ Some kind →
    (child : Child) (component : Component) → IsSoundChild all tree zones name child → component_of_child (zone_names zones) child ≡ Some component → IsReadComponent object component
component_facts all tree zones name kind object object_kind object_tree object_zones name_kind child component facts made =
    let source = is_made (zone_names zones) child component made in
    let kinds : source.kind ≡ kind = ap (λ o. unwrap_or o kind) (sym source.of_kind ∙ sym (ap kind_named facts.named) ∙ name_kind) in
    let its_kind : component.kind ≡ source.kind = ap (λ (c : Component). c.kind) source.is in
    record {
      one_kind = its_kind ∙ kinds ∙ sym object_kind;
      child = record {
        node = child.tree;
        found = rw (object_tree, source.is) facts.child_of_tree;
        of_kind = source.of_kind ∙ ap Some (sym its_kind);
      };
      few_rules = rw source.is (few_rules zones (lines_of child.tree) facts.sound);
      usable_rules = rw source.is (usable_rules (lines_of child.tree));
      known_zones = rw (object_zones, source.is) (All-from_recursion (IsKnown zones) (component_stamps (component_of (zone_names zones) child.number source.kind child.tree)) (each_stamp (IsNamed (zone_names zones)) (zone_names zones) child.number source.kind child.tree (lines_known (zone_names zones) (lines_of child.tree) facts.known)));
      served = rw source.is (All-from_recursion IsServed (component_stamps (component_of (zone_names zones) child.number source.kind child.tree)) (each_stamp IsServed (zone_names zones) child.number source.kind child.tree (facts.served source.kind source.of_kind)));
      short_extent = rw source.is (All-from_recursion IsShort (lengths_of_extent (extent_of (zone_names zones) source.kind (lines_of child.tree))) (extent_short (zone_names zones) all (lines_of child.tree) source.kind facts.tested));
      forward_extent = rw source.is (All-from_recursion IsForward (lengths_of_extent (extent_of (zone_names zones) source.kind (lines_of child.tree))) (extent_forward zones (lines_of child.tree) source.kind facts.sound));
      short_periods = rw source.is (All-from_recursion HasShortEnd (periods_at (zone_names zones) (codes "RDATE") (lines_of child.tree)) (periods_short (zone_names zones) all (lines_of child.tree) facts.tested));
      timed_periods = rw source.is (All-from_recursion IsTimed (periods_at (zone_names zones) (codes "RDATE") (lines_of child.tree)) (periods_timed (zone_names zones) (codes "RDATE") (lines_of child.tree)));
      short_busy = rw source.is (All-from_recursion (λ (entry : Option Class × Period). HasShortEnd entry.1) (stored_busy_of (zone_names zones) (lines_of child.tree)) (busy_short (zone_names zones) all (lines_of child.tree) facts.tested));
      alarms = rw source.is (All-from_recursion IsReadAlarm (filter_map alarm_of (filter is_alarm (children_of child.tree))) (alarms_bounded all child.tree (facts.alarms source.kind source.of_kind)));
    }

-- the facts of all children together
sound_children : (all : List Line) (tree : Node) (zones : List ZoneTable) (name : List ℕ) (children : List Child) → Each (IsChildOf (children_of tree)) children →
    Each (λ (child : Child). has_component_fault zones (lines_of child.tree) ≡ false) children →
    Each (λ (child : Child). lacks_zone (zone_names zones) (lines_of child.tree) ≡ false) children →
    Each (λ (child : Child). name ≡ name_of child.tree) children →
    ((child : Child) (kind : Kind) → IsChildOf (children_of tree) child → component_kind child.tree ≡ Some kind → Each (λ line. Each IsServed (dated_stamps (zone_names zones) line)) (lines_of child.tree)) →
    ((child : Child) → IsChildOf (children_of tree) child → Each (IsTested all) (lines_of child.tree)) →
    ((child : Child) (kind : Kind) → IsChildOf (children_of tree) child → component_kind child.tree ≡ Some kind → AlarmsAreKnown all child.tree) →
    Each (IsSoundChild all tree zones name) children
sound_children all tree zones name [] numbers sound known named served tested alarms = tt
sound_children all tree zones name (child ∷ children) numbers sound known named served tested alarms = (
  record {
    tested = tested child numbers.0;
    child_of_tree = numbers.0;
    sound = sound.0;
    known = known.0;
    named = named.0;
    served = λ kind of_kind. served child kind numbers.0 of_kind;
    alarms = λ kind of_kind. alarms child kind numbers.0 of_kind;
  },
  sound_children all tree zones name children numbers.1 sound.1 known.1 named.1 served tested alarms,
)

-- the parts of a zone without fault
sound_parts : (zone : Node) → has_zone_fault zone ≡ false → Each IsPart (parts_of_zone zone)
sound_parts zone sound =
    let parts = parts_of_zone zone in
    let bare = not (has (codes "TZID") (lines_of zone)) || is_empty parts in
    let fine = (neither bare (list_any is_fine_part parts) (neither (bare || list_any is_fine_part parts) (list_any (λ (part : ZonePart). are_many part.rules) parts) sound).0).1 in
    let nodes = filter is_part (children_of zone) in
    let made = each-filter_map (λ node. Unit {0}) (λ part. (lines : List Line) × (part_of_lines lines ≡ Some part)) (λ node. part_of_lines (lines_of node)) (λ node part fact is. (lines_of node, is)) nodes (each_any nodes) in
    each-weaker (λ part facts. IsPart-part_of_lines facts.0.0 part facts.0.1 facts.1) parts
    (each-both (λ part. (lines : List Line) × (part_of_lines lines ≡ Some part)) (λ part. is_fine_part part ≡ false) parts made (each_of_any is_fine_part parts fine))

-- each table is that of the parts of its VTIMEZONE
zones_are : (nodes : List Node) → Each (λ node. has_zone_fault node ≡ false) nodes → Each IsZone (map (zone_table every_moment) nodes)
zones_are [] sound = tt
zones_are (node ∷ nodes) sound =
    (record { parts = parts_of_zone node; read = All-from_recursion IsPart (parts_of_zone node) (sound_parts node sound.0); table = refl }, zones_are nodes sound.1)

each_unnumbered : {X : Type 0} (P : X → Type 0) (from : ℕ) (xs : List X) → Each (λ (e : ℕ × X). P e.1) (enumerate_from from xs) → Each P xs
each_unnumbered P from [] facts = tt
each_unnumbered P from (x ∷ xs) facts = (facts.0, each_unnumbered P (from + 1) xs facts.1)

zone_step : (child : Child) (children : List Child) (nodes : List Node) (b : Bool) → Each (λ (c : Child). has_zone_fault c.tree ≡ false) (if b then child ∷ children else children) →
    (Each (λ (c : Child). has_zone_fault c.tree ≡ false) children → Each (λ node. has_zone_fault node ≡ false) nodes) → Each (λ node. has_zone_fault node ≡ false) (if b then child.tree ∷ nodes else nodes)
zone_step child children nodes true facts later = (facts.0, later facts.1)
zone_step child children nodes false facts later = later facts

zone_nodes : (places : List ℕ) (from : ℕ) (nodes : List Node) → Each (λ (c : Child). has_zone_fault c.tree ≡ false) (zones_among (map (child_at places) (enumerate_from from nodes))) →
    Each (λ node. has_zone_fault node ≡ false) (filter is_zone nodes)
zone_nodes places from [] facts = tt
zone_nodes places from (node ∷ nodes) facts =
    zone_step (child_at places (from, node)) (zones_among (map (child_at places) (enumerate_from (from + 1) nodes))) (filter is_zone nodes) (is_zone node) facts (zone_nodes places (from + 1) nodes)

-- no VTIMEZONE of a tree without such a fault has one
zones_sound : (placed : List Placed) (tree : Node) → zone_fault every_moment (zones_among (children_in placed tree)) ≡ None → Each (λ node. has_zone_fault node ≡ false) (filter is_zone (children_of tree))
zones_sound placed tree none =
    let zones = zones_among (children_in placed tree) in
    zone_nodes (child_places placed) 0 (children_of tree)
    (each_unnumbered (λ (c : Child). has_zone_fault c.tree ≡ false) 0 zones
    (each-weaker (λ (found : ℕ × Child) bad. (neither (has_zone_fault found.1.tree) (are_too_many every_moment (map (λ (c : Child). c.tree) (take (found.0 + 1) zones))) bad).0) (enumerate_from 0 zones)
    (each_of_find (is_bad_zone every_moment zones) (enumerate_from 0 zones)
    (none_of_map (λ (found : ℕ × Child). found.1.place) (find (is_bad_zone every_moment zones) (enumerate_from 0 zones)) none))))

-- an object of children that are sound
whole_object : (all : List Line) (tree : Node) (zones : List ZoneTable) (children : List Child) → All IsZone zones → Each (IsChildOf (children_of tree)) children →
    Each (λ (child : Child). is_some (component_kind child.tree) ≡ true) children →
    component_fault zones children ≡ None → resource_fault (object_of zones tree children) children ≡ None →
    ((child : Child) (kind : Kind) → IsChildOf (children_of tree) child → component_kind child.tree ≡ Some kind → Each (λ line. Each IsServed (dated_stamps (zone_names zones) line)) (lines_of child.tree)) →
    ((child : Child) → IsChildOf (children_of tree) child → Each (IsTested all) (lines_of child.tree)) →
    ((child : Child) (kind : Kind) → IsChildOf (children_of tree) child → component_kind child.tree ≡ Some kind → AlarmsAreKnown all child.tree) →
    HasText tree →
    IsReadObject (object_of zones tree children)
whole_object all tree zones [] tables numbers kinds sound stored served tested alarms own_text = absurd (false≢true (sym (is_storable (object_of zones tree []) [] stored).some))
whole_object all tree zones (child ∷ children) tables numbers kinds sound stored served tested alarms own_text =
    let names = zone_names zones in
    let object = object_of zones tree (child ∷ children) in
    let rows = is_storable object (child ∷ children) stored in
    let its_kind = some_value (component_kind child.tree) kinds.0 in
    let made : component_of_child names child ≡ Some (component_of names child.number its_kind.0 child.tree) =
    ap (λ (k : Option Kind). option_map (λ kind. component_of names child.number kind child.tree) k) its_kind.1 in
    let name = name_of child.tree in
    let named = each_of_map (λ other. name ≡ other) (λ (c : Child). name_of c.tree) (child ∷ children) (each_first name (map (λ (c : Child). name_of c.tree) children) rows.one_kind) in
    let standing = each_of_find (λ (c : Child). has_component_fault zones (lines_of c.tree)) (child ∷ children)
    (none_of_map (λ (c : Child). c.place) (find (λ (c : Child). has_component_fault zones (lines_of c.tree)) (child ∷ children)) sound) in
    let facts = sound_children all tree zones name (child ∷ children) numbers standing rows.zones named served tested alarms in
    let kind = first_kind (component_of_child names child) (filter_map (component_of_child names) children) (component_of names child.number its_kind.0 child.tree) made in
    record {
      some = some_made (component_of_child names child) (filter_map (component_of_child names) children) (component_of names child.number its_kind.0 child.tree) made;
      components = All-from_recursion (IsReadComponent object) object.components
          (each-filter_map (IsSoundChild all tree zones name) (IsReadComponent object) (component_of_child names)
          (component_facts all tree zones name its_kind.0 object kind refl refl its_kind.1) (child ∷ children) facts);
      zones = tables;
      one_master = ltb-false 1 (length (masters object)) rows.one_master;
      own_text = own_text;
    }

-- each object that was read has what is promised of it
pub IsReadObject-read : (object : Object) → IsRead object → IsReadObject object
IsReadObject-read object read =
    let found = read_from every_moment read.octets object read.reading in
    let placed = placed_lines read.octets in
    let tree = found.0 in
    let sound = is_sound every_moment placed tree object found.1 in
    subst IsReadObject (sym found.1.is)
    (IsReadObject-settled (object_in every_moment placed tree)
    (whole_object (lines_in placed) tree (zones_of every_moment tree) (kinds_among (children_in placed tree))
    (All-from_recursion IsZone (zones_of every_moment tree) (zones_are (filter is_zone (children_of tree)) (zones_sound placed tree sound.zone)))
    (each-filter (IsChildOf (children_of tree)) (λ (child : Child). is_some (component_kind child.tree)) (children_in placed tree) (children_are placed tree))
    (each_passes (λ (child : Child). is_some (component_kind child.tree)) (children_in placed tree))
    sound.component sound.resource
    (λ child kind is_child of_kind. child_served (zone_names (zones_of every_moment tree)) (lines_in placed) tree child kind sound.outside (tree_at (lines_in placed) tree found.1.nested found.1.built) is_child of_kind)
    (λ child is_child. child_tested placed tree child sound.own (tree_at (lines_in placed) tree found.1.nested found.1.built) is_child)
    (λ child kind is_child of_kind. child_alarms placed (zone_names (zones_of every_moment tree)) tree child kind sound.own sound.outside (tree_at (lines_in placed) tree found.1.nested found.1.built) is_child of_kind)
    (record {
      octets = read.octets;
      reading = (
        lines_of_text read.octets,
        ap (λ fault. elim fault [ None ↦ Ok (lines_of_text read.octets) | Some place ↦ Err place ]) (lines_none (line_fault read.octets) (read_lines_by (read_tree every_moment) placed) object read.reading),
        found.1.nested,
        found.1.built,
      );
    })))

-- The zone of a text

first_of_each : {X : Type 0} (P : X → Type 0) (xs : List X) (x : X) → Each P xs → first xs ≡ Some x → P x
first_of_each P [] x facts is = absurd (none-some x is)
first_of_each P (y ∷ xs) x facts is = subst P (ap (λ found. unwrap_or found x) is) facts.0

abbrev of_zone : Option ZoneTable → Result ZoneTable Unread
of_zone zone = elim zone [ None ↦ Err (not_resource ZoneMissing) | Some z ↦ Ok z ]

abbrev unless_bad : Option Unread → Result ZoneTable Unread → Result ZoneTable Unread
unless_bad fault read = elim fault [ Some f ↦ Err f | None ↦ read ]

zone_found : (fault : Option Unread) (found : Option ZoneTable) (zone : ZoneTable) → unless_bad fault (of_zone found) ≡ Ok zone → (fault ≡ None) × (found ≡ Some zone)
zone_found (Some fault) found zone good = absurd (false≢true (ap is_ok good))
zone_found None None zone good = absurd (false≢true (ap is_ok good))
zone_found None (Some one) zone good = (refl, ap (λ r. Some (result_unwrap_or r one)) good)

-- the zone that a text is has the table of some parts
pub IsZone-read_zone : (octets : List ℕ) (zone : ZoneTable) → read_zone octets ≡ Ok zone → IsZone zone
IsZone-read_zone octets zone good =
    let placed = placed_lines octets in
    let lines = after_lines (line_fault octets) (read_lines_by (read_zone_tree every_moment) placed) zone good in
    let nested = after_nesting placed (nesting_fault (lines_in placed)) (of_tree (read_zone_tree every_moment placed) (tree_of (lines_in placed))) zone lines in
    let found = after_tree (read_zone_tree every_moment placed) (tree_of (lines_in placed)) zone nested in
    let both = zone_found (first_there (calendar_faults every_moment placed found.0)) (first (zones_of every_moment found.0)) zone found.2 in
    let zones = zones_among (children_in placed found.0) in
    let name = if is_named (codes "VCALENDAR") found.0 then None else Some (not_calendar (place_at placed 0)) in
    let own = option_map not_calendar (own_fault placed) in
    let bad = option_map not_calendar (zone_fault every_moment zones) in
    let none = head_none bad [] (tail_none own (bad ∷ []) (tail_none name (own ∷ bad ∷ []) both.0)) in
    first_of_each IsZone (zones_of every_moment found.0) zone
    (zones_are (filter is_zone (children_of found.0)) (zones_sound placed found.0 (none_of_map not_calendar (zone_fault every_moment zones) none))) both.1
