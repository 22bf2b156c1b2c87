use Rattle.expansion_workers.proofs.WorkLemmas.{mine_kept}
use Rattle.expansion_workers.proofs.worker.work_on.Goals as goal

pub returns-clause-mine : goal.returns-clause-mine
returns-clause-mine g c = mine_kept g.B.Keeps.author c.args.pass.now.number c.args.pass.now.gone c.args.pass.now.seen c.work_under.new.pass.seen c.work_under.ensures.others
