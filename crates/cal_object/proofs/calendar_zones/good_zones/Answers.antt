use Rattle.std.proofs.Common.{◌∙◌, ap, Err}
use Rattle.std.specs.Prelude.{option_map}
use Rattle.cal_base.specs.Lines.ContentLines.{placed_lines}
use Rattle.cal_model.specs.Objects.ObjectReading.{not_calendar}
use Rattle.cal_object.proofs.calendar_zones.good_zones.Goals as goal

pub returns-in-Ok-clause-good : goal.returns-in-Ok-clause-good
returns-in-Ok-clause-good c = ap (option_map not_calendar) (c.in-Ok.ensures.good (placed_lines c.args.octets.now))

pub returns-in-Err-Bad-clause-fault : goal.returns-in-Err-Bad-clause-fault
returns-in-Err-Bad-clause-fault c = rw c.at_child.ensures (ap (option_map not_calendar) (c.read_zones.ensures.bad c.in-Err-Bad.child (c.in-Err-Bad.is ∙ ap Err c.in-Err-Bad.field-0-is) (placed_lines c.args.octets.now)))
