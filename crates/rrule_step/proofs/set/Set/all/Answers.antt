use Rattle.rrule_step.proofs.BitLemmas.{has-all}
use Rattle.rrule_step.proofs.set.Set.all.Goals as goal

pub returns : goal.returns
returns c = λ i lt. has-all i lt
