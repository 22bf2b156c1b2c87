use Rattle.rrule_step.proofs.OrdinalLemmas.{marks-none}
use Rattle.rrule_step.proofs.ordinals.ordinals_of.Goals as goal

pub loop-part-init : goal.loop-part-init
loop-part-init c = record {
  front = λ k i small below. marks-none k i;
  back = λ k i small below. marks-none k i;
}
