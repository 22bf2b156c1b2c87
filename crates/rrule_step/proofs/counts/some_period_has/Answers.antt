use Rattle.std.proofs.Common.{◌≡◌, ◌+◌, ◌-◌, ◌*◌, ◌/◌, ap, refl, arith}
use Rattle.cal_moment.specs.Calendar.{first_of_year, month_of, year_of}
use Rattle.cal_model.specs.Recurrence.Passing.{day_passes}
use Rattle.cal_model.specs.Walks.Places.{days_of_period}
use Rattle.cal_model.proofs.Recurrence.Rising.{month_of-first}
use Rattle.cal_model.proofs.Words.CountedRuns.{count_in}
use Rattle.rrule_step.specs.Periods.{month_begin}
use Rattle.rrule_step.specs.StartMoment.{moment_of}
use Rattle.rrule_step.proofs.CountLemmas.{days_of_month, days_of_year, fewer, some_year}
use Rattle.rrule_step.proofs.StepLemmas.{day_is}
use Rattle.rrule_step.proofs.counts.some_period_has.Goals as goal

pub returns-in-Monthly : goal.returns-in-Monthly
returns-in-Monthly c = λ none m from.
    let year = some_year (m / 86400) (omega (arith, from)) in
    let month = month_of-first (m / 86400) in
    let here : 12 * year_of (m / 86400) + month_of (m / 86400) ≡ 12 * year_of (m / 86400) + month_of (m / 86400) - 1 + 1 = omega (arith, month) in
    let most = days_of_month c.args.rule.now (moment_of c.args.plan.now.start) m (12 * year_of (m / 86400) + month_of (m / 86400) - 1) c.in-Monthly.is here in
    let same = ap (λ s. count_in (day_passes c.args.rule.now s) (month_begin (12 * year_of (m / 86400) + month_of (m / 86400) - 1)) (month_begin (12 * year_of (m / 86400) + month_of (m / 86400) - 1 + 1))) (day_is c.args.rule.now c.args.plan.now c.requires.plan) in
    fewer (days_of_period c.args.rule.now (moment_of c.args.plan.now.start) m) (count_in (day_passes c.args.rule.now c.args.plan.now.start.day) (month_begin (12 * year_of (m / 86400) + month_of (m / 86400) - 1)) (month_begin (12 * year_of (m / 86400) + month_of (m / 86400) - 1 + 1))) c.args.times c.args.least
    (omega (arith, most, same)) (c.some_month_has.ensures none (12 * year_of (m / 86400) + month_of (m / 86400) - 1) (omega (arith, year, month)))

pub returns-in-Yearly : goal.returns-in-Yearly
returns-in-Yearly c = λ none m from.
    let year = some_year (m / 86400) (omega (arith, from)) in
    let most = days_of_year c.args.rule.now (moment_of c.args.plan.now.start) m (year_of (m / 86400)) c.in-Yearly.is refl in
    let same = ap (λ s. count_in (day_passes c.args.rule.now s) (first_of_year (year_of (m / 86400))) (first_of_year (year_of (m / 86400) + 1))) (day_is c.args.rule.now c.args.plan.now c.requires.plan) in
    fewer (days_of_period c.args.rule.now (moment_of c.args.plan.now.start) m) (count_in (day_passes c.args.rule.now c.args.plan.now.start.day) (first_of_year (year_of (m / 86400))) (first_of_year (year_of (m / 86400) + 1))) c.args.times c.args.least
    (omega (arith, most, same)) (c.some_year_has.ensures none (year_of (m / 86400)) year)
