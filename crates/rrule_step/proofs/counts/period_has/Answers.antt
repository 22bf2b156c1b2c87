use Rattle.cal_model.specs.Values.LocalTimes.{moment_of_local}
use Rattle.cal_model.specs.Walks.Places.{days_of_period}
use Rattle.rrule_step.specs.StartMoment.{moment_of}
use Rattle.rrule_step.proofs.CountLemmas.{fewer}
use Rattle.rrule_step.proofs.counts.period_has.Goals as goal

pub returns-in-Some : goal.returns-in-Some
returns-in-Some c = λ no.
    fewer (days_of_period c.args.rule.now (moment_of c.args.plan.now.start) (moment_of_local c.args.m)) c.in-Some.days c.args.times c.args.least c.in-Some.ensures (c.are_enough.ensures no)
