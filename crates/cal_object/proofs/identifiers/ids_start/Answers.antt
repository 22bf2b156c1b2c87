use Rattle.std.proofs.Common.{◌∙◌}
use Rattle.cal_object.proofs.StartLaws.{ids_of_master, ids_of_override}
use Rattle.cal_object.proofs.identifiers.ids_start.Goals as goal

pub returns-in-Some : goal.returns-in-Some
returns-in-Some c = ids_of_master c.args.object.now c.in-Some.stamp (rw c.as_slice-components.ensures at c.in-Some.ensures)

pub returns-in-None : goal.returns-in-None
returns-in-None c =
    let first = rw c.as_slice-components.ensures at c.first_id.ensures in
    first ∙ ids_of_override c.args.object.now (rw c.as_slice-components.ensures at c.in-None.ensures)
