use Rattle.rrule_step.proofs.step.PeriodPlanReadyRule.period_has.Goals as goal

pub returns : goal.returns
returns c = rw c.requires.ready.begins at c.period_has.ensures
