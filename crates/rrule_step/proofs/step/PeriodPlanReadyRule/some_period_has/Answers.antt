use Rattle.rrule_step.proofs.step.PeriodPlanReadyRule.some_period_has.Goals as goal

pub returns : goal.returns
returns c = λ none m from end. rw c.requires.ready.begins at (c.some_period_has.ensures none m from)
