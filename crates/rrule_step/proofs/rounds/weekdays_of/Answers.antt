use Rattle.std.proofs.Common.{◌≡◌, ◌∙◌, sym, arith, false}
use Rattle.cal_moment.specs.Calendar.{weekday_of}
use Rattle.cal_model.specs.Words.Lists.{is_empty}
use Rattle.rrule_step.proofs.RoundLemmas.{by_day_named}
use Rattle.rrule_step.proofs.rounds.weekdays_of.Goals as goal

pub returns-else-is_empty : goal.returns-else-is_empty
returns-else-is_empty c = λ day h.
    let some : is_empty c.args.rule.now.by_day ≡ false = sym c.is_empty.ensures ∙ c.if-is_empty.false in
    c.named_weekdays.ensures (weekday_of day) (omega arith) ∙ by_day_named c.args.rule.now day some h
