use Rattle.cal_script.proofs.SlotLemmas.{published_ends}
use Rattle.cal_script.proofs.slots.publish.Goals as goal

pub returns-clause-ends : goal.returns-clause-ends
returns-clause-ends g c = published_ends c.args.expanded _ _ _ c.publish.ensures.work
