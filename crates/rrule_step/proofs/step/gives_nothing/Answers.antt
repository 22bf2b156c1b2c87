use Rattle.std.proofs.Common.{◌+◌, ◌/◌, arith}
use Rattle.rrule_step.proofs.StepLemmas.{days_missed}
use Rattle.rrule_step.proofs.step.gives_nothing.Goals as goal

pub returns-then-never_meets : goal.returns-then-never_meets
returns-then-never_meets c = λ u m from. c.never_meets.ensures c.if-never_meets.true m

pub returns : goal.returns
returns c = λ none m from.
    (days_missed c.args.rule.now c.args.plan.now c.requires.plan (m / 86400) (m / 86400 + 1) (λ day low high. c.lacks_days.ensures none day (omega (arith, low, from)))).each m (omega arith) (omega arith)
