use Rattle.std.proofs.Common.{refl}
use Rattle.rrule_step.specs.Sets.{has}
use Rattle.rrule_step.proofs.set.Set.of.Goals as goal

pub returns : goal.returns
unfolding has
returns c = λ i. refl
