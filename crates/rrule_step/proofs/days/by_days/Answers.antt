use Rattle.std.proofs.Common.{◌∙◌, arith, rules}
use Rattle.rrule_step.proofs.MonthLemmas.{month_bounds, size_bound, year_at_most, by_day_month_at, by_day_year_at}
use Rattle.rrule_step.proofs.days.by_days.Goals as goal

pub all_weekdays-requires-clause-first : goal.all_weekdays-requires-clause-first
all_weekdays-requires-clause-first c = let bounds = month_bounds c.args.month.now in omega (arith, bounds)

pub all_weekdays-requires-clause-size : goal.all_weekdays-requires-clause-size
all_weekdays-requires-clause-size c = let bound = size_bound c.args.month.now in omega (arith, bound)

pub all_weekdays-requires-else-counts_in_month-clause-size : goal.all_weekdays-requires-else-counts_in_month-clause-size
all_weekdays-requires-else-counts_in_month-clause-size c = let most = year_at_most c.args.month.now.year in omega (arith, most, c.year_length-size.ensures)

pub returns-then-counts_in_month : goal.returns-then-counts_in_month
returns-then-counts_in_month c = λ i lt.
    let bound = size_bound c.args.month.now in
    c.all_weekdays.ensures c.args.rule.now.by_day c.requires.ordinals i (omega (arith, bound, lt)) ∙ by_day_month_at c.args.month.now i lt c.args.rule.now (search rules) (search rules)

pub returns-else-counts_in_month : goal.returns-else-counts_in_month
returns-else-counts_in_month c = λ i lt.
    let bound = size_bound c.args.month.now in
    c.all_weekdays-else-counts_in_month.ensures c.args.rule.now.by_day c.requires.ordinals i (omega (arith, bound, lt))
    ∙ by_day_year_at c.args.month.now i lt c.args.rule.now c.days_before_month-before.result c.year_length-size.result (search rules) (search rules) c.days_before_month-before.ensures.value c.year_length-size.ensures
