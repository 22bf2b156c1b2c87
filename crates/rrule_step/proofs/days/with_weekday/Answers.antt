use Rattle.std.proofs.Common.{◌+◌, ◌∙◌, sym, rules, ◌==◌}
use Rattle.cal_moment.specs.Calendar.{weekday_of}
use Rattle.rrule_step.specs.Sets.{has}
use Rattle.rrule_step.proofs.OrdinalLemmas.{asks_for-same, asks_of-none, by_weekday, none_more}
use Rattle.rrule_step.proofs.days.with_weekday.Goals as goal

pub returns-then-is_none-2 : goal.returns-then-is_none-2
returns-then-is_none-2 c = λ i lt.
    let front = c.is_none.ensures (search rules) in
    let back = c.is_none-then-is_none.ensures (search rules) in
    let none = asks_of-none c.args.ordinals.now c.args.weekday (c.args.before + i + 1) c.args.size
    (λ n. sym (c.counted-front.ensures n) ∙ front n) (λ n. sym (c.counted_back-back.ensures n) ∙ back n) in
    none_more (weekday_of (c.args.first + i) == c.args.weekday) _ (has c.args.set i) none

pub returns : goal.returns
returns c = λ i lt.
    let same = asks_for-same c.args.ordinals.now c.args.weekday (c.args.before + i + 1) c.args.size (has c.counted-front.result) (has c.counted_back-back.result)
    c.counted-front.ensures c.counted_back-back.ensures in
    c.with_weeks.ensures i lt ∙ by_weekday c.args.weekday (weekday_of (c.args.first + i)) _ _ (has c.args.set i) same
