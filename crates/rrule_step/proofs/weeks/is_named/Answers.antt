use Rattle.std.proofs.Common.{◌≡◌, ◌+◌, ◌-◌, ◌∙◌, sym, ap, arith}
use Rattle.cal_model.specs.Words.Integers.{some_names_place}
use Rattle.rrule_step.proofs.weeks.is_named.Goals as goal

pub returns-then-count-eq53 : goal.returns-then-count-eq53
returns-then-count-eq53 c =
    let numbers = c.args.rule.now.by_week in
    let at : c.args.week - 1 + 1 ≡ c.args.week = omega (arith, c.requires.week) in
    c.contains.ensures
    ∙ (c.requires.weeks.of_53 (c.args.week - 1) (omega (arith, c.requires.week, c.if-count-eq53.true))
    ∙ (ap (λ week. some_names_place numbers week 53) at ∙ ap (λ count. some_names_place numbers c.args.week count) (sym c.if-count-eq53.true)))

pub returns-else-count-eq53 : goal.returns-else-count-eq53
returns-else-count-eq53 c =
    let numbers = c.args.rule.now.by_week in
    let at : c.args.week - 1 + 1 ≡ c.args.week = omega (arith, c.requires.week) in
    let few : c.args.count ≡ 52 = omega (arith, c.requires.count, c.if-count-eq53.false) in
    c.contains-else-count-eq53.ensures
    ∙ (c.requires.weeks.of_52 (c.args.week - 1) (omega (arith, c.requires.week, few))
    ∙ (ap (λ week. some_names_place numbers week 52) at ∙ ap (λ count. some_names_place numbers c.args.week count) (sym few)))
