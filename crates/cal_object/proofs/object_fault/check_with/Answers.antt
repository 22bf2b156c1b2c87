use Rattle.std.proofs.Common.{◌≡◌, ◌∙◌, sym, ap, Some, None}
use Rattle.cal_base.specs.Lines.ContentLines.{placed_lines}
use Rattle.cal_model.specs.Objects.ComponentLines.{children_of}
use Rattle.cal_model.specs.Objects.LineValues.{lines_in}
use Rattle.cal_model.specs.Objects.DateFaults.{stamp_outside}
use Rattle.cal_model.specs.Objects.ResourceFaults.{resource_fault}
use Rattle.cal_model.specs.Objects.CalendarChildren.{children_in, kinds_among}
use Rattle.cal_object.specs.Alignments.{tables_of}
use Rattle.cal_object.specs.KindNodes.{first_bad_component}
use Rattle.cal_object.proofs.FaultLaws.{component_told, resource_told, outside_told, object_good}
use Rattle.cal_object.proofs.object_fault.check_with.Goals as goal

pub returns-in-Some-clause-fault : goal.returns-in-Some-clause-fault
returns-in-Some-clause-fault c =
    let placed = placed_lines c.args.octets.now in
    let object = c.args.object.now in
    let zones = tables_of c.args.zones.now in
    let bad : Some c.in-Some.number ≡ first_bad_component zones 0 (children_of object.tree) =
    sym c.in-Some.is ∙ c.bad_component.ensures ∙ ap (first_bad_component zones 0) c.as_slice-nodes.ensures in
    rw c.at_child.ensures (component_told placed object zones c.in-Some.number c.requires.zones bad)

pub returns-in-Some-2-clause-fault : goal.returns-in-Some-2-clause-fault
returns-in-Some-2-clause-fault c =
    let placed = placed_lines c.args.octets.now in
    let object = c.args.object.now in
    let zones = tables_of c.args.zones.now in
    let good : None ≡ first_bad_component zones 0 (children_of object.tree) =
    sym c.in_default.is ∙ c.bad_component.ensures ∙ ap (first_bad_component zones 0) c.as_slice-nodes.ensures in
    let why : Some c.in-Some-2.why ≡ resource_fault object (kinds_among (children_in placed object.tree)) = sym c.in-Some-2.is ∙ c.in_ok-why.ensures placed in
    resource_told placed object zones c.in-Some-2.why c.requires.zones good why

pub returns-in-Some-stamp_outside-clause-fault : goal.returns-in-Some-stamp_outside-clause-fault
returns-in-Some-stamp_outside-clause-fault c =
    let placed = placed_lines c.args.octets.now in
    let object = c.args.object.now in
    let zones = tables_of c.args.zones.now in
    let names = c.args.names.now in
    let good : None ≡ first_bad_component zones 0 (children_of object.tree) =
    sym c.in_default.is ∙ c.bad_component.ensures ∙ ap (first_bad_component zones 0) c.as_slice-nodes.ensures in
    let stored : None ≡ resource_fault object (kinds_among (children_in placed object.tree)) = sym c.in_default-2.is ∙ c.in_ok-why.ensures placed in
    let there : Some c.in-Some-stamp_outside.stamp ≡ stamp_outside names (lines_in placed) = sym c.in-Some-stamp_outside.is ∙ c.stamp_outside.ensures ∙ c.requires.scan.outside names in
    outside_told placed object zones names c.in-Some-stamp_outside.stamp c.requires.zones good stored c.requires.names there

pub returns-in-None-clause-good : goal.returns-in-None-clause-good
returns-in-None-clause-good c =
    let placed = placed_lines c.args.octets.now in
    let object = c.args.object.now in
    let zones = tables_of c.args.zones.now in
    let names = c.args.names.now in
    let good : None ≡ first_bad_component zones 0 (children_of object.tree) =
    sym c.in_default.is ∙ c.bad_component.ensures ∙ ap (first_bad_component zones 0) c.as_slice-nodes.ensures in
    let stored : None ≡ resource_fault object (kinds_among (children_in placed object.tree)) = sym c.in_default-2.is ∙ c.in_ok-why.ensures placed in
    let there : None ≡ stamp_outside names (lines_in placed) = sym c.in-None.is ∙ c.stamp_outside.ensures ∙ c.requires.scan.outside names in
    object_good placed object zones names c.requires.zones good stored c.requires.names there
