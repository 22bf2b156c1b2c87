use Rattle.rrule_step.proofs.BitLemmas.{has-with}
use Rattle.rrule_step.proofs.set.Set.with.Goals as goal

pub returns : goal.returns
returns c = λ i lt. has-with c.args.self c.args.number i c.requires
