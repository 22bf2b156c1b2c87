use Rattle.rrule_step.proofs.StepLemmas.{FindsFirst-same, passes_in_day}
use Rattle.rrule_step.proofs.step.next_on_day.Goals as goal

pub returns : goal.returns
returns c = FindsFirst-same _ _ _ _ _ (λ k small. passes_in_day c.args.rule.now c.args.plan.now c.requires.plan c.hours_on-hours.result c.args.day k c.requires.coarse small c.requires.day c.hours_on-hours.ensures) c.next_in_day.ensures
