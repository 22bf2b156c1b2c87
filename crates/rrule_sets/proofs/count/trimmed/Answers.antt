use Rattle.std.proofs.Common.{◌∙◌, ap}
use Rattle.cal_model.specs.Instances.Starts.{ascending}
use Rattle.rrule_sets.proofs.CountLemmas.{ascending_again}
use Rattle.rrule_sets.proofs.count.trimmed.Goals as goal

pub returns-then-len-room-2 : goal.returns-then-len-room-2
returns-then-len-room-2 c = ap ascending c.in_ok-starts.ensures ∙ ascending_again c.args.starts
