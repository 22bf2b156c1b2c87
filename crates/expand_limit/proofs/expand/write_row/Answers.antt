use Rattle.std.proofs.Common.{◌≡◌, true, ◌++◌, Some, sym, ap, ◌∙◌, append-nil}
use Rattle.std.specs.Prelude.{flat_map, slice_get}
use Rattle.cal_model.specs.Objects.ComponentLines.{children_of}
use Rattle.cal_model.specs.Ranges.Overlap.{row_overlaps}
use Rattle.cal_model.specs.Selections.Expansion.{instance_from}
use Rattle.ical_objects.proofs.Printed.{OnOk-then}
use Rattle.expand_limit.specs.ShownTexts.{node_text}
use Rattle.expand_limit.proofs.InstanceParts.{row-one}
use Rattle.expand_limit.proofs.PrintedParts.{fits-at}
use Rattle.expand_limit.proofs.expand.write_row.Goals as goal

pub write_instance-requires-clause-node : goal.write_instance-requires-clause-node
write_instance-requires-clause-node c =
    let tree = c.requires.tree in
    let nodes = children_of c.args.expansion.now.object.now.tree in
    let there : slice_get nodes c.in-Some.component.now.child ≡ Some c.in-Some-get.node.now = sym c.in-Some-get.ensures in
    (tree.0, fits-at tree.0 nodes c.in-Some.component.now.child c.in-Some-get.node.now tree.1 there)

pub returns-in-Some-get : goal.returns-in-Some-get
returns-in-Some-get c = OnOk-then c.write_instance.result (λ f levels picks fit kept.
    let expansion = c.args.expansion.now in
    let row = c.args.row.now in
    let component = c.in-Some.component.now in
    let node = c.in-Some-get.node.now in
    let text = node_text picks expansion.busy in
    let found : slice_get expansion.object.now.components row.component ≡ Some component = sym c.in-Some.ensures in
    let there : slice_get (children_of expansion.object.now.tree) component.child ≡ Some node = sym c.in-Some-get.ensures in
    let meets : row_overlaps component row expansion.range expansion.zone.now ≡ true = sym c.row_overlaps.ensures ∙ c.if-not-row_overlaps.false in
    f levels picks (fits-at levels (children_of expansion.object.now.tree) component.child node fit there) kept
    ∙ ap (λ those. c.args.out.now ++ those) (sym (ap (flat_map text) (row-one expansion row component node found meets there) ∙ append-nil (text (instance_from expansion.object.now row component node))))) c.write_instance.ensures
