use Rattle.filter_eval.specs.Places.{matched_of}
use Rattle.filter_eval.proofs.MomentLists.{ready_at}
use Rattle.filter_eval.proofs.moments.ready_moments.Goals as goal

pub returns-in-Some : goal.returns-in-Some
returns-in-Some c = λ component there.
    ready_at (matched_of c.args.subject.now) c.in-Some.all.now c.args.number c.args.related c.moments_at.result (rw c.in-Some.is at c.requires.moments) c.moments_at.ensures component there
