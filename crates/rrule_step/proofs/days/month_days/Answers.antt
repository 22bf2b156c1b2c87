use Rattle.std.proofs.Common.{◌∙◌, rules}
use Rattle.rrule_step.proofs.MonthLemmas.{size_least, size_bound, month_day_at}
use Rattle.rrule_step.proofs.days.month_days.Goals as goal

pub named_in_month-requires : goal.named_in_month-requires
named_in_month-requires c = (size_least c.args.month.now, size_bound c.args.month.now)

pub returns-else-is_empty : goal.returns-else-is_empty
returns-else-is_empty c = λ i lt.
    c.named_in_month.ensures c.args.rule.now.by_month_day c.requires.days i lt ∙ month_day_at c.args.month.now i lt c.args.rule.now (search rules)
