use Rattle.rrule_step.proofs.step.PeriodStepRules.ready.Goals as goal

pub returns : goal.returns
returns c =
    let made = c.plan_of-plan.ensures in
    record {
      plan = made.plan;
      begins = made.start;
      is_date = made.dated;
      never = λ e m from. let none = c.gives_nothing-never.ensures e m from in rw (made.start, made.dated) at none;
    }
