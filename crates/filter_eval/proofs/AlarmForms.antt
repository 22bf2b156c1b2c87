-- How an alarm and a component pass a range, in the forms in which they are looked at.
use Rattle.std.proofs.Common.{◌≡◌, ℕ, ◌+◌, Bool, true, false, ◌||◌, cond, List, [], ◌∷◌, refl, sym, ap, ◌∙◌, arith, drop, Option, None, Some}
use Rattle.std.specs.Prelude.{◌==◌, filter, map, option_map, option_to_list, ℤ, ◌+ℤ◌}
use Rattle.std.specs.List.{list_any, slice_get}
use Rattle.cal_model.specs.declared.object.Alarm.{Alarm}
use Rattle.cal_model.specs.declared.object.Component.{Component}
use Rattle.cal_model.specs.declared.object.Object.{Object}
use Rattle.cal_model.specs.declared.object.Related.{Related}
use Rattle.cal_model.specs.declared.object.Trigger.{Trigger}
use Rattle.cal_model.specs.declared.object.Trigger.TheVariants.{At, From}
use Rattle.cal_model.specs.declared.row.Fixed.{Fixed}
use Rattle.cal_model.specs.declared.row.Range.{Range}
use Rattle.cal_model.specs.declared.row.Row.{Row}
use Rattle.cal_model.specs.Filters.ComponentRanges.{Matched, Site, alarm_passes, valarm_passes, range_passes, component_passes, component_at, component_at_path, holder_of, alarms_before, rows_of_number}
use Rattle.cal_model.specs.Instances.Rows.{Numbered, numbered}
use Rattle.cal_model.specs.Objects.ComponentReading.{is_alarm}
use Rattle.cal_model.specs.Ranges.Overlap.{alarm_overlaps, dated_fixed, first_trigger, moment_related, seconds_of, some_trigger}
use Rattle.cal_model.proofs.Words.ListTests.{any_agree_all, any_constant, any_filter_map, any_map}
use Rattle.cal_moment.specs.declared.stamp.Length.{Length}
use Rattle.cal_moment.specs.declared.stamp.Utc.{Utc}
use Rattle.std.proofs.lemmas.List.Sorted.{list_any-IsPermutation}
use Rattle.overlap_rules.specs.NextMoments.{goes_off}
use Rattle.filter_eval.specs.AlarmMoments.{AreInOrder, moment_of, moments_of}
use Rattle.filter_eval.specs.declared.place.Place.TheVariants.{Within}
use Rattle.filter_eval.specs.Places.{place_of}
use Rattle.filter_eval.proofs.SkippedItems.{begins, numbered_at}

-- by no row, or by some row of the component
alarm_passes_by_rows : (matched : Matched) (range : Range) (number : ℕ) (component : Component) (alarm : Alarm) →
    alarm_passes matched range (record { number = number; component = component }) alarm
    ≡ (alarm_overlaps alarm component None range || list_any (λ (row : Row). alarm_overlaps alarm component (dated_fixed row matched.zone) range) (rows_of_number matched number))
alarm_passes_by_rows matched range number component alarm =
    ap (λ t. alarm_overlaps alarm component None range || t)
    (any_map (λ (at : Option Fixed). alarm_overlaps alarm component at range) (λ (row : Row). dated_fixed row matched.zone) (rows_of_number matched number))

-- an alarm with an absolute trigger, whose rows say no more
pub absolute_passes : (matched : Matched) (range : Range) (n : Numbered) (alarm : Alarm) (moment : Utc) → alarm.trigger ≡ At moment → alarm_overlaps alarm n.component None range ≡ alarm_passes matched range n alarm
absolute_passes matched range n alarm moment is =
    sym (any_constant (λ (at : Option Fixed). alarm_overlaps alarm n.component at range) (alarm_overlaps alarm n.component None range) same (map (λ (row : Row). dated_fixed row matched.zone) (rows_of_number matched n.number)))
  where
    same : (at : Option Fixed) → alarm_overlaps alarm n.component at range ≡ alarm_overlaps alarm n.component None range
    same at =
        ap (λ (trigger : Trigger). list_any (some_trigger alarm range) (option_to_list (first_trigger trigger n.component at))) is
        ∙ sym (ap (λ (trigger : Trigger). list_any (some_trigger alarm range) (option_to_list (first_trigger trigger n.component None))) is)

-- one that counts from a row's start or end

by_moment : (alarm : Alarm) (after : Length) (range : Range) (o : Option ℤ) →
    list_any (some_trigger alarm range) (option_to_list (option_map (λ t. t +ℤ seconds_of after) o)) ≡ list_any (goes_off alarm after range) (option_to_list o)
by_moment alarm after range None = refl
by_moment alarm after range (Some t) = refl

by_row : (alarm : Alarm) (component : Component) (related : Related) (after : Length) (range : Range) (at : Option Fixed) → alarm.trigger ≡ From related after →
    alarm_overlaps alarm component at range ≡ list_any (goes_off alarm after range) (option_to_list (moment_related related component at))
by_row alarm component related after range at is =
    ap (λ (trigger : Trigger). list_any (some_trigger alarm range) (option_to_list (first_trigger trigger component at))) is ∙ by_moment alarm after range (moment_related related component at)

no_row_needed : (a b c : Bool) → a ≡ false → c ≡ (a || b) → b ≡ c
no_row_needed a b c none is = ap (λ (t : Bool). t || b) (sym none) ∙ sym is

pub related_passes : (matched : Matched) (range : Range) (number : ℕ) (component : Component) (alarm : Alarm) (related : Related) (after : Length) → alarm.trigger ≡ From related after →
    list_any (λ (row : Row). alarm_overlaps alarm component (dated_fixed row matched.zone) range) (rows_of_number matched number)
    ≡ alarm_passes matched range (record { number = number; component = component }) alarm
related_passes matched range number component alarm related after is =
    no_row_needed (alarm_overlaps alarm component None range) _ _ (by_row alarm component related after range None is) (alarm_passes_by_rows matched range number component alarm)

-- the same by the moments of the rows in order
pub searched_passes : (matched : Matched) (range : Range) (number : ℕ) (component : Component) (alarm : Alarm) (related : Related) (after : Length) (ordered : List ℤ) → alarm.trigger ≡ From related after →
    AreInOrder (moments_of matched (record { number = number; component = component }) related) ordered →
    list_any (goes_off alarm after range) ordered ≡ alarm_passes matched range (record { number = number; component = component }) alarm
searched_passes matched range number component alarm related after ordered is order =
    let rows : List Row = rows_of_number matched number in
    let moments : List ℤ = moments_of matched (record { number = number; component = component }) related in
    sym (list_any-IsPermutation (goes_off alarm after range) moments ordered order.same)
    ∙ (any_filter_map (goes_off alarm after range) (moment_of matched related component) rows
    ∙ (sym (any_agree_all (λ (row : Row). alarm_overlaps alarm component (dated_fixed row matched.zone) range) (λ (row : Row). list_any (goes_off alarm after range) (option_to_list (moment_of matched related component row)))
    (λ row. by_row alarm component related after range (dated_fixed row matched.zone) is) rows)
    ∙ related_passes matched range number component alarm related after is))

-- the component that is found first is the first of those at the place
pub found_first : (object : Object) (child number : ℕ) (component : Component) → (component.child == child) ≡ true → slice_get object.components number ≡ Some component →
    filter (λ (n : Numbered). n.component.child == child) (drop number (numbered object)) ≡ component_at object child →
    record { number = number; component = component } ∷ filter (λ (n : Numbered). n.component.child == child) (drop (number + 1) (numbered object)) ≡ component_at object child
found_first object child number component at here is =
    let q : Numbered → Bool = λ n. n.component.child == child in
    let n : Numbered = record { number = number; component = component } in
    ap (λ (b : Bool). cond b (n ∷ filter q (drop (number + 1) (numbered object))) (filter q (drop (number + 1) (numbered object)))) (sym at)
    ∙ (ap (filter q) (sym (begins (numbered object) number n (numbered_at 0 number object.components number component here (omega arith)))) ∙ is)

-- the place of an alarm that stands directly in a component of the outermost one, and the alarms before it
path_within : (object : Object) (path : List ℕ) (child alarms : ℕ) → place_of object path ≡ Within child alarms → (place : ℕ) × (path ≡ place ∷ child ∷ []) × (alarms ≡ alarms_before object place child)
path_within object [] child alarms is = absurd cc
path_within object (a ∷ []) child alarms is = absurd cc
path_within object (a ∷ b ∷ []) child alarms is =
    let outer : b ≡ child = cc in
    let before : alarms_before object a b ≡ alarms = cc in
    (a, (λ i. a ∷ outer i ∷ []), sym before ∙ ap (alarms_before object a) outer)
path_within object (a ∷ b ∷ d ∷ path) child alarms is = absurd cc

pub range_within : (matched : Matched) (range : Range) (site : Site) (child alarms : ℕ) (b : Bool) → is_alarm site.node ≡ true → place_of matched.object site.path ≡ Within child alarms →
    ((place : ℕ) → alarms ≡ alarms_before matched.object place child → b ≡ valarm_passes matched range (record site { path = place ∷ child ∷ [] }) (component_at matched.object child)) → b ≡ range_passes matched range site
range_within matched range site child alarms b alarm at is =
    let there = path_within matched.object site.path child alarms at in
    is there.0 there.2
    ∙ (ap (λ (p : List ℕ). valarm_passes matched range (record site { path = p }) (holder_of matched.object p)) (sym there.1)
    ∙ ap (λ (t : Bool). cond t (valarm_passes matched range site (holder_of matched.object site.path)) (list_any (component_passes matched range) (component_at_path matched.object site.path))) (sym alarm))
