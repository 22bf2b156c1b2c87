use Rattle.std.proofs.Common.{sym}
use Rattle.cal_model.proofs.Values.UtcLaws.{nothing_spelled}
use Rattle.cal_model.proofs.utc_moments.utc_of.Goals as goal

pub returns-in-Err : goal.returns-in-Err
returns-in-Err c = sym (nothing_spelled c.args.text.now c.in-Err.field-0.place c.in-Err.ensures.err)
