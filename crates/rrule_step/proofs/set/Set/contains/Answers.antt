use Rattle.rrule_step.proofs.BitLemmas.{has-bit}
use Rattle.rrule_step.proofs.set.Set.contains.Goals as goal

pub returns : goal.returns
returns c = has-bit c.args.self c.args.number
