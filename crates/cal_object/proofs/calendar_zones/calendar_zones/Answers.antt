use Rattle.std.proofs.Common.{◌∙◌}
use Rattle.cal_base.specs.Lines.ContentLines.{placed_lines}
use Rattle.cal_model.specs.Recurrence.RecurrenceSet.{every_moment}
use Rattle.cal_model.specs.Objects.ObjectReading.{calendar_faults, first_there}
use Rattle.cal_object.specs.Outlines.{line_faults, zones_fault}
use Rattle.cal_object.proofs.Answered.{err_moved}
use Rattle.cal_object.proofs.FaultLaws.{found_moved, lines_before_zones, zones_behind_lines}
use Rattle.cal_object.proofs.calendar_zones.calendar_zones.Goals as goal

pub returns-in-Ok-clause-fault : goal.returns-in-Ok-clause-fault
returns-in-Ok-clause-fault c =
    let placed = placed_lines c.args.octets.now in
    let calendar = c.args.calendar.now in
    let same = zones_behind_lines placed calendar c.in-Ok.ensures.good in
    err_moved c.good_zones.result _ _
    (λ fault told. found_moved (zones_fault placed calendar) (first_there (calendar_faults every_moment placed calendar)) fault (λ unread there. same ∙ there) told)
    c.good_zones.ensures.fault

pub returns-in-Err-clause-fault : goal.returns-in-Err-clause-fault
returns-in-Err-clause-fault c =
    let placed = placed_lines c.args.octets.now in
    let calendar = c.args.calendar.now in
    found_moved (first_there (line_faults placed calendar)) (first_there (calendar_faults every_moment placed calendar)) c.in-Err.fault (lines_before_zones placed calendar) c.in-Err.ensures.fault
