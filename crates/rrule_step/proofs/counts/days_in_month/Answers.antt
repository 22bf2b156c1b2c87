use Rattle.std.proofs.Common.{◌≡◌, ◌+◌, ◌%◌, ◌∙◌, sym, ap, arith, true, false}
use Rattle.cal_model.specs.Recurrence.Passing.{day_passes}
use Rattle.cal_model.proofs.Words.CountedRuns.{count_in, count_in-shifted}
use Rattle.rrule_step.specs.Periods.{month_begin}
use Rattle.rrule_step.specs.Sets.{has}
use Rattle.rrule_step.proofs.CountLemmas.{none_in_month}
use Rattle.rrule_step.proofs.MonthLemmas.{month_at, month_first, month_next, size_bound}
use Rattle.rrule_step.proofs.counts.days_in_month.Goals as goal

pub returns-then-not-contains-clause-most : goal.returns-then-not-contains-clause-most
returns-then-not-contains-clause-most c =
    let out : has c.args.plan.now.months (c.args.number % 12 + 1) ≡ false = sym c.contains.ensures ∙ c.if-not-contains.true in
    let none = none_in_month (day_passes c.args.rule.now c.args.plan.now.start.day) c.args.number (λ d is. c.requires.plan.missed d (ap (has c.args.plan.now.months) is ∙ out)) in
    omega (arith, none)

pub days_of-days-requires-clause-sets : goal.days_of-days-requires-clause-sets
days_of-days-requires-clause-sets c = c.requires.plan.days

pub days_of-days-requires-clause-listed : goal.days_of-days-requires-clause-listed
days_of-days-requires-clause-listed c = λ i lt.
    let there : has c.args.plan.now.months (c.args.number % 12 + 1) ≡ true = sym c.contains.ensures ∙ c.if-not-contains.false in
    c.requires.plan.listed (c.new-month.result.first + i) (ap (has c.args.plan.now.months) (month_at c.new-month.result i lt ∙ c.new-month.ensures.month) ∙ there)

pub count_below-requires : goal.count_below-requires
count_below-requires c = size_bound c.new-month.result

pub returns-clause-most : goal.returns-clause-most
returns-clause-most c =
    let made = c.new-month.ensures in
    let first = month_first c.new-month.result c.args.number made.year made.month in
    let next = month_next c.new-month.result c.args.number made.year made.month in
    let most = count_in-shifted (day_passes c.args.rule.now c.args.plan.now.start.day) (has c.days_of-days.result) c.new-month.result.first c.new-month.result.size (month_begin (c.args.number + 1)) next (λ i lt w. c.days_of-days.ensures i lt ∙ w) in
    let same = ap (λ a. count_in (day_passes c.args.rule.now c.args.plan.now.start.day) a (month_begin (c.args.number + 1))) first in
    let value = c.count_below.ensures.value in
    omega (arith, most, same, value)
