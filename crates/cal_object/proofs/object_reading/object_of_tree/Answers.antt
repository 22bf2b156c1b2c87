use Rattle.std.proofs.Common.{◌∙◌, ap, sym}
use Rattle.std.specs.Prelude.{Ok}
use Rattle.cal_base.specs.Lines.ContentLines.{placed_lines}
use Rattle.cal_model.specs.Recurrence.RecurrenceSet.{every_moment}
use Rattle.cal_model.specs.Objects.ObjectReading.{calendar_faults, object_faults, object_in, first_there, read_tree}
use Rattle.cal_object.proofs.FaultLaws.{found_told, tree_good, tree_told_before, tree_told_behind}
use Rattle.cal_object.proofs.object_reading.object_of_tree.Goals as goal

pub returns-in-Ok-object_beside-clause-ok : goal.returns-in-Ok-object_beside-clause-ok
returns-in-Ok-object_beside-clause-ok c =
    let placed = placed_lines c.args.octets.now in
    let beside = c.in-Ok-object_beside in
    tree_good placed c.args.calendar beside.object c.in-Ok.ensures.good beside.ensures.object beside.ensures.good ∙ ap Ok (sym c.settled.ensures)

pub returns-in-Err-object_beside-clause-fault : goal.returns-in-Err-object_beside-clause-fault
returns-in-Err-object_beside-clause-fault c =
    let placed = placed_lines c.args.octets.now in
    let calendar = c.args.calendar in
    let beside = c.in-Err-object_beside in
    found_told (first_there (object_faults placed calendar (object_in every_moment placed calendar))) (read_tree every_moment placed calendar) beside.fault
    (λ unread there. tree_told_behind placed calendar unread c.in-Ok.ensures.good there) beside.ensures.fault

pub returns-in-Err-clause-fault : goal.returns-in-Err-clause-fault
returns-in-Err-clause-fault c =
    let placed = placed_lines c.args.octets.now in
    let calendar = c.args.calendar in
    found_told (first_there (calendar_faults every_moment placed calendar)) (read_tree every_moment placed calendar) c.in-Err.fault (tree_told_before placed calendar) c.in-Err.ensures.fault
