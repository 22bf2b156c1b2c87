use Rattle.std.proofs.Common.{ℕ, ◌+◌, List, subst, sym, arith}
use Rattle.cal_model.specs.declared.object.Component.{Component}
use Rattle.cal_model.specs.Instances.Rows.{Numbered, numbered}
use Rattle.filter_eval.specs.Links.{IsNext}
use Rattle.filter_eval.specs.Places.{component_keys}
use Rattle.filter_eval.proofs.SkippedItems.{kept_from, next_of_item, numbered_keys}
use Rattle.filter_eval.proofs.walks.next_component.Goals as goal

pub returns-in-Some-clause-components : goal.returns-in-Some-clause-components
returns-in-Some-clause-components c =
    let object = c.args.subject.now.object.now in
    let next = next_of_item (λ (component : Component). component.child) object.components c.args.child c.args.number c.next.result c.args.component.now c.requires.component c.if-component-child.true
    (c.next.ensures (component_keys object.components) (rw c.in-Some.is at c.requires.ready.component_links)) in
    kept_from (λ (n : Numbered). n.component.child) (numbered object) c.args.child (c.args.number + 1) c.next.result
    (subst (λ (keys : List ℕ). IsNext keys c.args.child (c.args.number + 1) c.next.result) (sym (numbered_keys 0 object.components)) next)

pub returns-in-Some-clause-ahead : goal.returns-in-Some-clause-ahead
returns-in-Some-clause-ahead c =
    let object = c.args.subject.now.object.now in
    let next = next_of_item (λ (component : Component). component.child) object.components c.args.child c.args.number c.next.result c.args.component.now c.requires.component c.if-component-child.true
    (c.next.ensures (component_keys object.components) (rw c.in-Some.is at c.requires.ready.component_links)) in
    omega (arith, next.ahead)
