use Rattle.std.proofs.Common.{◌∙◌, sym, ap}
use Rattle.cal_base.specs.Lines.ComponentTrees.{or_else}
use Rattle.cal_model.specs.Objects.ComponentLines.{children_of}
use Rattle.cal_object.specs.KindNodes.{row_that_holds, other_rows}
use Rattle.cal_object.proofs.Answered.{ok_moved}
use Rattle.cal_object.proofs.KindLaws.{resource_fault-children}
use Rattle.cal_object.proofs.resource_fault.resource_fault.Goals as goal

pub returns-in-Some : goal.returns-in-Some
returns-in-Some c placed =
    let object = c.args.object.now in
    let nodes = children_of object.tree in
    sym (resource_fault-children object placed ∙ ap (λ found. or_else found (row_that_holds (other_rows object nodes))) (sym c.plain_fault.ensures ∙ c.in-Some.is))

pub returns-in-None : goal.returns-in-None
returns-in-None c =
    let object = c.args.object.now in
    let nodes = children_of object.tree in
    ok_moved c.other_fault.result _ _
    (λ fault is placed. is ∙ sym (resource_fault-children object placed ∙ ap (λ found. or_else found (row_that_holds (other_rows object nodes))) (sym c.plain_fault.ensures ∙ c.in-None.is)))
    c.other_fault.ensures
