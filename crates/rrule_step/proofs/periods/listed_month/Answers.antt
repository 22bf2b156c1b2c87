use Rattle.std.proofs.Common.{◌≡◌, ◌+◌, ◌*◌, ◌/◌, ◌≤◌, ◌<◌, arith}
use Rattle.cal_moment.specs.Calendar.{year_of, month_of}
use Rattle.cal_model.proofs.Recurrence.Rising.{month_of-first, month_of-last}
use Rattle.rrule_step.proofs.CalendarLemmas.{month_from, month_before}
use Rattle.rrule_step.proofs.periods.listed_month.Goals as goal

pub returns-in-Some-clause-none : goal.returns-in-Some-clause-none
returns-in-Some-clause-none c = λ day low high.
    let next = c.in-Some.ensures in
    let from = month_from c.args.month day low in
    let to = month_before _ day high in
    let some = month_of-first day in
    let most = month_of-last day in
    let below = next.below in
    let after = next.at_or_after in
    let year : year_of day ≡ c.args.month / 12 = omega (arith, from, to, some, most, below, after) in
    next.none_before.each (month_of day) (omega (arith, year, from)) (omega (arith, year, to, below, after))

pub returns-in-None-clause-none : goal.returns-in-None-clause-none
returns-in-None-clause-none c = λ day low high.
    let none = c.in-None.ensures in
    let from = month_from c.args.month day low in
    let to = month_before _ day high in
    let some = month_of-first day in
    let most = month_of-last day in
    let year : year_of day ≡ c.args.month / 12 = omega (arith, from, to, some, most) in
    none.each (month_of day) (omega (arith, year, from)) (omega (arith, most))
