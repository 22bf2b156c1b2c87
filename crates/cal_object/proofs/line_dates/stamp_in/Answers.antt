use Rattle.std.proofs.Common.{sym, ◌∙◌}
use Rattle.cal_object.proofs.ReadStamps.{first_stamp}
use Rattle.cal_object.proofs.line_dates.stamp_in.Goals as goal

pub returns-in-Ok : goal.returns-in-Ok
returns-in-Ok c = sym (first_stamp c.args.zones.now c.args.line.now c.requires ∙ c.in-Ok.ensures.ok)

pub returns-in-Err : goal.returns-in-Err
returns-in-Err c = sym (first_stamp c.args.zones.now c.args.line.now c.requires ∙ c.in-Err.ensures.outside)
