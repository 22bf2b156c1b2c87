use Rattle.rrule_step.specs.Ordinals.{marks}
use Rattle.rrule_step.proofs.ordinals.Ordinals.counted.Goals as goal

pub returns : goal.returns
unfolding marks
returns c = λ i. c.of.ensures i
