use Rattle.std.proofs.Common.{◌≡◌, ◌+◌, ◌-◌, ◌*◌, ◌/◌, ◌∙◌, sym, ap, arith, rules, to_z, of_z, w32}
use Rattle.cal_moment.specs.Calendar.{first_of_year, month_of, year_of}
use Rattle.cal_model.specs.Recurrence.Passing.{day_passes}
use Rattle.cal_model.specs.Values.LocalTimes.{moment_of_local}
use Rattle.cal_model.proofs.Walks.DayLemmas.{day_and_second}
use Rattle.cal_model.proofs.Words.CountedRuns.{count_in}
use Rattle.rrule_step.specs.Periods.{month_begin}
use Rattle.rrule_step.specs.StartMoment.{moment_of}
use Rattle.rrule_step.proofs.CalendarLemmas.{year_small}
use Rattle.rrule_step.proofs.CountLemmas.{days_of_month, days_of_year}
use Rattle.rrule_step.proofs.StepLemmas.{day_is}
use Rattle.rrule_step.proofs.counts.days_in_period.Goals as goal

pub days_in_month-requires-clause-number : goal.days_in_month-requires-clause-number
days_in_month-requires-clause-number c =
    let on = (day_and_second c.args.m c.requires.m).0 in
    let same : to_z w32 (of_z w32 c.args.m.day) ≡ c.args.m.day = search rules in
    let number = rw same at c.day_number.ensures.value in
    let small = year_small c.day_number.result (omega (arith, on, number, c.requires.before_end)) in
    let date = c.date_of-year.ensures in
    let bounds = date.bounds in
    let year = date.year in
    (omega (arith, bounds), omega (arith, bounds, small, year))

pub days_in_year-requires-clause-year : goal.days_in_year-requires-clause-year
days_in_year-requires-clause-year c =
    let on = (day_and_second c.args.m c.requires.m).0 in
    let same : to_z w32 (of_z w32 c.args.m.day) ≡ c.args.m.day = search rules in
    let number = rw same at c.day_number.ensures.value in
    let small = year_small c.day_number.result (omega (arith, on, number, c.requires.before_end)) in
    let date = c.date_of-year.ensures in
    let bounds = date.bounds in
    let year = date.year in
    (omega (arith, bounds), omega (arith, small, year))

pub returns-in-Monthly : goal.returns-in-Monthly
returns-in-Monthly c =
    let same : to_z w32 (of_z w32 c.args.m.day) ≡ c.args.m.day = search rules in
    let on : moment_of_local c.args.m / 86400 ≡ c.day_number.result = (day_and_second c.args.m c.requires.m).0 ∙ sym (rw same at c.day_number.ensures.value) in
    let date = c.date_of-year.ensures in
    let bounds = date.bounds in
    let year = date.year in
    let month = date.month in
    let here : 12 * year_of c.day_number.result + month_of c.day_number.result ≡ 12 * c.date_of-year.result.0 + c.date_of-year.result.1 - 1 + 1 = omega (arith, year, month, bounds) in
    let most = days_of_month c.args.rule.now (moment_of c.args.plan.now.start) (moment_of_local c.args.m) (12 * c.date_of-year.result.0 + c.date_of-year.result.1 - 1) c.in-Monthly.is (ap (λ d. 12 * year_of d + month_of d) on ∙ here) in
    let same = ap (λ s. count_in (day_passes c.args.rule.now s) (month_begin (12 * c.date_of-year.result.0 + c.date_of-year.result.1 - 1)) (month_begin (12 * c.date_of-year.result.0 + c.date_of-year.result.1 - 1 + 1))) (day_is c.args.rule.now c.args.plan.now c.requires.plan) in
    let few = c.days_in_month.ensures.most in
    omega (arith, most, same, few)

pub returns-in-Yearly : goal.returns-in-Yearly
returns-in-Yearly c =
    let same : to_z w32 (of_z w32 c.args.m.day) ≡ c.args.m.day = search rules in
    let on : moment_of_local c.args.m / 86400 ≡ c.day_number.result = (day_and_second c.args.m c.requires.m).0 ∙ sym (rw same at c.day_number.ensures.value) in
    let date = c.date_of-year.ensures in
    let most = days_of_year c.args.rule.now (moment_of c.args.plan.now.start) (moment_of_local c.args.m) c.date_of-year.result.0 c.in-Yearly.is (ap year_of on ∙ sym date.year) in
    let same = ap (λ s. count_in (day_passes c.args.rule.now s) (first_of_year c.date_of-year.result.0) (first_of_year (c.date_of-year.result.0 + 1))) (day_is c.args.rule.now c.args.plan.now c.requires.plan) in
    let few = c.days_in_year.ensures in
    omega (arith, most, same, few)
