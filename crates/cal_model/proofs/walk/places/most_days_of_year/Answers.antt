use Rattle.std.proofs.Common.{◌≡◌, ◌∙◌, sym, false}
use Rattle.cal_model.specs.Words.Lists.{is_empty}
use Rattle.cal_model.proofs.Walks.DayCounts.{all_of_year, few_of_year, named_of_year}
use Rattle.cal_model.proofs.walk.places.most_days_of_year.Goals as goal

pub returns-then-is_empty-clause-most : goal.returns-then-is_empty-clause-most
returns-then-is_empty-clause-most c = all_of_year c.args.rule.now c.requires.yearly

pub returns-then-weekdays-lt2-clause-most : goal.returns-then-weekdays-lt2-clause-most
returns-then-weekdays-lt2-clause-most c =
    let some : is_empty c.args.rule.now.by_day ≡ false = sym c.is_empty.ensures ∙ c.if-is_empty.false in
    rw c.weekdays_of-weekdays.ensures.value (few_of_year c.args.rule.now c.requires.yearly some)

pub returns-else-weekdays-lt2-clause-most : goal.returns-else-weekdays-lt2-clause-most
returns-else-weekdays-lt2-clause-most c =
    let some : is_empty c.args.rule.now.by_day ≡ false = sym c.is_empty.ensures ∙ c.if-is_empty.false in
    rw c.weekdays_of-weekdays.ensures.value (named_of_year c.args.rule.now c.requires.yearly some)
