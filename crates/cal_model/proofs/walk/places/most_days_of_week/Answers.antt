use Rattle.std.proofs.Common.{◌≡◌, ◌∙◌, sym, false}
use Rattle.cal_model.specs.Words.Lists.{is_empty}
use Rattle.cal_model.proofs.Walks.DayCounts.{one_of_week, seven_of_week, named_of_week}
use Rattle.cal_model.proofs.walk.places.most_days_of_week.Goals as goal

pub returns-then-names_no_days-clause-most : goal.returns-then-names_no_days-clause-most
returns-then-names_no_days-clause-most c =
    let none = c.names_no_days.ensures c.if-names_no_days.true in
    one_of_week c.args.rule.now c.requires.weekly c.requires.rule.week_start_below none.0 none.1

pub returns-then-is_empty-clause-most : goal.returns-then-is_empty-clause-most
returns-then-is_empty-clause-most c = seven_of_week c.args.rule.now c.requires.weekly c.requires.rule.week_start_below

pub returns-else-is_empty-clause-most : goal.returns-else-is_empty-clause-most
returns-else-is_empty-clause-most c =
    let some : is_empty c.args.rule.now.by_day ≡ false = sym c.is_empty.ensures ∙ c.if-is_empty.false in
    rw c.weekdays_of.ensures.value (named_of_week c.args.rule.now c.requires.weekly c.requires.rule.week_start_below some)
