use Rattle.cal_script.proofs.SlotLemmas.{abandoned_ends}
use Rattle.cal_script.proofs.slots.abandon.Goals as goal

pub returns-clause-ends : goal.returns-clause-ends
returns-clause-ends g c = abandoned_ends c.args.claim (g.B.Desk.book c.args.desk.now) _ c.abandon.ensures.abandoned
