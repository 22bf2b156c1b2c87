use Rattle.rrule_step.proofs.BitLemmas.{has-both}
use Rattle.rrule_step.proofs.set.Set.both.Goals as goal

pub returns : goal.returns
returns c = λ i. has-both c.args.self c.args.other i
