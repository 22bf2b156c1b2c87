use Rattle.std.proofs.Common.{arith}
use Rattle.cal_model.proofs.Walks.PickLemmas.{drop_moment}
use Rattle.cal_model.proofs.walk.picks.give.Goals as goal

pub returns-clause-next : goal.returns-clause-next
returns-clause-next c =
    drop_moment c.args.picks.now.moments c.args.picks.now.given c.index-m.result.now (omega arith) c.index-m.ensures
