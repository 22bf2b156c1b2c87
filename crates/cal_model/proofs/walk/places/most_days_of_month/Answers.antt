use Rattle.std.proofs.Common.{◌≡◌, ◌∙◌, sym, false}
use Rattle.cal_model.specs.Words.Lists.{is_empty}
use Rattle.cal_model.proofs.Walks.DayCounts.{one_of_month, numbered_of_month}
use Rattle.cal_model.proofs.walk.places.most_days_of_month.Goals as goal

pub returns-then-names_no_days-clause-most : goal.returns-then-names_no_days-clause-most
returns-then-names_no_days-clause-most c =
    let none = c.names_no_days.ensures c.if-names_no_days.true in
    one_of_month c.args.rule.now c.requires.monthly none.0 none.1

pub returns-else-by_weekday-numbers-clause-most : goal.returns-else-by_weekday-numbers-clause-most
returns-else-by_weekday-numbers-clause-most c =
    let some : is_empty c.args.rule.now.by_month_day ≡ false = sym c.is_empty.ensures ∙ c.if-by_weekday-numbers.false.0 in
    rw c.len-numbers.ensures (numbered_of_month c.args.rule.now c.requires.monthly some)
