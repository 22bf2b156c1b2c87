use Rattle.std.proofs.Common.{◌≡◌, ◌∙◌, sym, false}
use Rattle.cal_model.specs.Words.Lists.{is_empty}
use Rattle.cal_model.proofs.Walks.DayCounts.{all_of_month, few_of_month, named_of_month}
use Rattle.cal_model.proofs.walk.places.most_weekdays_of_month.Goals as goal

pub returns-then-is_empty-clause-most : goal.returns-then-is_empty-clause-most
returns-then-is_empty-clause-most c = all_of_month c.args.rule.now c.requires.monthly

pub returns-then-weekdays-lt3-clause-most : goal.returns-then-weekdays-lt3-clause-most
returns-then-weekdays-lt3-clause-most c =
    let some : is_empty c.args.rule.now.by_day ≡ false = sym c.is_empty.ensures ∙ c.if-is_empty.false in
    rw c.weekdays_of-weekdays.ensures.value (few_of_month c.args.rule.now c.requires.monthly some)

pub returns-else-weekdays-lt3-clause-most : goal.returns-else-weekdays-lt3-clause-most
returns-else-weekdays-lt3-clause-most c =
    let some : is_empty c.args.rule.now.by_day ≡ false = sym c.is_empty.ensures ∙ c.if-is_empty.false in
    rw c.weekdays_of-weekdays.ensures.value (named_of_month c.args.rule.now c.requires.monthly some)
