use Rattle.rrule_step.proofs.BitLemmas.{has-none}
use Rattle.rrule_step.proofs.set.Set.none.Goals as goal

pub returns : goal.returns
returns c = λ i. has-none i
