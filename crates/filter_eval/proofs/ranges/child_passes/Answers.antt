use Rattle.std.proofs.Common.{◌==◌, Bool, List, length, refl, ap, sym, ◌∙◌, arith}
use Rattle.std.specs.List.{list_any, slice_get}
use Rattle.std.proofs.lemmas.Option.{slice_get_read, slice_get_past}
use Rattle.cal_model.specs.declared.object.Component.{Component}
use Rattle.cal_model.specs.Filters.ComponentRanges.{component_passes}
use Rattle.cal_model.specs.Instances.Rows.{Numbered, numbered}
use Rattle.filter_eval.specs.Places.{matched_of}
use Rattle.filter_eval.proofs.SkippedItems.{kept_met, kept_missed, kept_none, numbered_at, numbered_none}
use Rattle.filter_eval.proofs.ranges.child_passes.Goals as goal

pub returns-then-placed_passes : goal.returns-then-placed_passes
returns-then-placed_passes c =
    let object = c.args.subject.now.object.now in
    let here = ap (λ (cs : List Component). slice_get cs c.components.number) (sym c.as_slice-components.ensures)
    ∙ slice_get_read c.as_slice-components.result.now (length c.as_slice-components.result.now) c.components.number c.in-Some.component.now refl c.in-Some.ensures.lookup.3.0 c.in-Some.ensures.lookup.1 in
    kept_met (component_passes (matched_of c.args.subject.now) c.args.range) (λ (n : Numbered). n.component.child == c.args.child) (numbered object) c.components.number
    (record { number = c.components.number; component = c.in-Some.component.now }) _
    (numbered_at 0 c.components.number object.components c.components.number c.in-Some.component.now here (omega arith)) c.components.invariant
    (sym c.placed_passes.ensures ∙ c.if-placed_passes.true)

pub next_component-number-requires-clause-component : goal.next_component-number-requires-clause-component
next_component-number-requires-clause-component c =
    ap (λ (cs : List Component). slice_get cs c.components.number) (sym c.as_slice-components.ensures)
    ∙ slice_get_read c.as_slice-components.result.now (length c.as_slice-components.result.now) c.components.number c.in-Some.component.now refl c.in-Some.ensures.lookup.3.0 c.in-Some.ensures.lookup.1

pub components-preserved : goal.components-preserved
components-preserved c =
    let object = c.args.subject.now.object.now in
    let p : Numbered → Bool = component_passes (matched_of c.args.subject.now) c.args.range in
    let here = ap (λ (cs : List Component). slice_get cs c.components.number) (sym c.as_slice-components.ensures)
    ∙ slice_get_read c.as_slice-components.result.now (length c.as_slice-components.result.now) c.components.number c.in-Some.component.now refl c.in-Some.ensures.lookup.3.0 c.in-Some.ensures.lookup.1 in
    ap (list_any p) c.next_component-number.ensures.components
    ∙ kept_missed p (λ (n : Numbered). n.component.child == c.args.child) (numbered object) c.components.number
    (record { number = c.components.number; component = c.in-Some.component.now }) _
    (numbered_at 0 c.components.number object.components c.components.number c.in-Some.component.now here (omega arith)) c.components.invariant
    (sym c.placed_passes.ensures ∙ c.if-placed_passes.false)

pub returns : goal.returns
returns c =
    let object = c.args.subject.now.object.now in
    kept_none (component_passes (matched_of c.args.subject.now) c.args.range) (λ (n : Numbered). n.component.child == c.args.child) (numbered object) c.components.number _
    (numbered_none 0 object.components c.components.number (ap (λ (cs : List Component). slice_get cs c.components.number) (sym c.as_slice-components.ensures) ∙ slice_get_past c.as_slice-components.result.now c.components.number c.in_default.ensures.lookup.3))
    c.components.invariant
