use Rattle.filter_eval.proofs.ReadyNodes.{inner_at}
use Rattle.filter_eval.proofs.asked.inner_texts.Goals as goal

pub returns-in-Some : goal.returns-in-Some
returns-in-Some c = λ inner has stands.
    inner_at c.in-Some.texts.now c.args.spot.now.node.now inner c.args.place c.get.result (rw c.in-Some.is at has) stands c.get.ensures
