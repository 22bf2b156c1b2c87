use Rattle.std.proofs.Common.{◌==◌, ◌+◌, ◌∷◌, [], ℕ, List, length, refl, drop, ap, sym, ◌∙◌, arith, eq-eqb}
use Rattle.std.specs.Prelude.{filter, option_to_list}
use Rattle.std.specs.List.{list_any, slice_get}
use Rattle.std.proofs.lemmas.Bool.{ne_eqb}
use Rattle.cal_base.specs.declared.line.Node.{Node}
use Rattle.std.proofs.lemmas.Option.{slice_get_read, slice_get_past}
use Rattle.cal_model.specs.declared.object.Component.{Component}
use Rattle.cal_model.specs.Filters.ComponentRanges.{valarm_passes, lone_alarm_passes, component_at, alarms_before}
use Rattle.cal_model.specs.Instances.Rows.{Numbered, numbered}
use Rattle.cal_model.specs.Objects.ComponentReading.{alarm_of}
use Rattle.filter_eval.specs.Places.{matched_of}
use Rattle.filter_eval.proofs.AlarmForms.{found_first}
use Rattle.filter_eval.proofs.SkippedItems.{kept_behind, nothing_left, numbered_at, numbered_none}
use Rattle.filter_eval.proofs.ranges.inner_alarm_passes.Goals as goal

pub returns-then-component-child : goal.returns-then-component-child
returns-then-component-child c = λ site place is before.
    let object = c.args.subject.now.object.now in
    let here = c.in-Some.component.now in
    let found = ap (λ (cs : List Component). slice_get cs c.components.number) (sym c.as_slice-components.ensures)
    ∙ slice_get_read c.as_slice-components.result.now (length c.as_slice-components.result.now) c.components.number c.in-Some.component.now refl c.in-Some.ensures.lookup.3.0 c.in-Some.ensures.lookup.1 in
    let all = found_first object c.args.child c.components.number here (eq-eqb here.child c.args.child c.if-component-child.true) found c.components.invariant in
    c.held_alarm_passes.ensures site place (filter (λ (n : Numbered). n.component.child == c.args.child) (drop (c.components.number + 1) (numbered object))) is
    (before ∙ ap (alarms_before object place) (sym c.if-component-child.true))
    ∙ (ap (λ (ns : List Numbered). valarm_passes (matched_of c.args.subject.now) c.args.range (record site { path = place ∷ here.child ∷ [] }) ns) all
    ∙ ap (λ (child : ℕ). valarm_passes (matched_of c.args.subject.now) c.args.range (record site { path = place ∷ child ∷ [] }) (component_at object c.args.child)) c.if-component-child.true)

pub next_component-number-requires-clause-component : goal.next_component-number-requires-clause-component
next_component-number-requires-clause-component c =
    ap (λ (cs : List Component). slice_get cs c.components.number) (sym c.as_slice-components.ensures)
    ∙ slice_get_read c.as_slice-components.result.now (length c.as_slice-components.result.now) c.components.number c.in-Some.component.now refl c.in-Some.ensures.lookup.3.0 c.in-Some.ensures.lookup.1

pub components-preserved : goal.components-preserved
components-preserved c =
    let object = c.args.subject.now.object.now in
    let found = ap (λ (cs : List Component). slice_get cs c.components.number) (sym c.as_slice-components.ensures)
    ∙ slice_get_read c.as_slice-components.result.now (length c.as_slice-components.result.now) c.components.number c.in-Some.component.now refl c.in-Some.ensures.lookup.3.0 c.in-Some.ensures.lookup.1 in
    c.next_component-number.ensures.components
    ∙ (kept_behind (λ (n : Numbered). n.component.child == c.args.child) (numbered object) c.components.number (record { number = c.components.number; component = c.in-Some.component.now })
    (numbered_at 0 c.components.number object.components c.components.number c.in-Some.component.now found (omega arith)) (ne_eqb c.in-Some.component.now.child c.args.child c.if-component-child.false)
    ∙ c.components.invariant)

pub returns : goal.returns
returns c = λ site place is before.
    let object = c.args.subject.now.object.now in
    let none = numbered_none 0 object.components c.components.number (ap (λ (cs : List Component). slice_get cs c.components.number) (sym c.as_slice-components.ensures) ∙ slice_get_past c.as_slice-components.result.now c.components.number c.in_default.ensures.lookup.3) in
    let empty = ap (filter (λ (n : Numbered). n.component.child == c.args.child)) (sym (nothing_left (numbered object) c.components.number none)) ∙ c.components.invariant in
    c.lone_alarm_passes.ensures
    ∙ (ap (λ (node : Node). list_any (lone_alarm_passes c.args.range) (option_to_list (alarm_of node))) (sym is)
    ∙ ap (λ (ns : List Numbered). valarm_passes (matched_of c.args.subject.now) c.args.range (record site { path = place ∷ c.args.child ∷ [] }) ns) empty)
