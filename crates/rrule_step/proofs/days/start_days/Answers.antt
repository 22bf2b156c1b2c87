use Rattle.std.proofs.Common.{◌≤◌, ◌<◌, ◌∙◌, sym, arith}
use Rattle.rrule_step.proofs.MonthLemmas.{size_bound, same_day_at, yearly_at}
use Rattle.rrule_step.proofs.days.start_days.Goals as goal

pub returns-in-Monthly : goal.returns-in-Monthly
returns-in-Monthly c = λ i lt.
    let bound = size_bound c.args.month.now in
    rw c.in-Monthly.is (c.only.ensures i (omega (arith, bound, lt)) ∙ sym (same_day_at c.args.month.now i lt c.args.start.now))

pub returns-in-Yearly : goal.returns-in-Yearly
returns-in-Yearly c = λ i lt.
    let bound = size_bound c.args.month.now in
    rw c.in-Yearly.is (c.start_day_if.ensures i (omega (arith, bound, lt)) ∙ yearly_at c.args.month.now i lt c.args.rule.now c.args.start.now c.in_start_month.result c.in_start_month.ensures)
