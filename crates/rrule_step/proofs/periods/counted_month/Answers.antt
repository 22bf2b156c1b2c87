use Rattle.std.proofs.Common.{◌≡◌, ◌+◌, ◌*◌, ◌/◌, ◌≤◌, ◌<◌, arith}
use Rattle.cal_moment.specs.Calendar.{year_of, month_of}
use Rattle.cal_model.proofs.Recurrence.Rising.{month_of-first, month_of-last}
use Rattle.rrule_step.proofs.CalendarLemmas.{month_from, month_before}
use Rattle.rrule_step.specs.Periods.{month_begin}
use Rattle.rrule_step.proofs.periods.counted_month.Goals as goal

pub returns-in-Monthly-clause-none : goal.returns-in-Monthly-clause-none
returns-in-Monthly-clause-none c = λ m low high.
    let from = month_from c.args.month (m / 86400) (omega (arith, low)) in
    let to = month_before c.min.result (m / 86400) (omega (arith, high)) in
    rw c.in-Monthly.is (c.counted_from.ensures.none.each (12 * year_of (m / 86400) + month_of (m / 86400)) (omega (arith, from)) (omega (arith, to, from)))

pub returns-else-year-month-clause-none : goal.returns-else-year-month-clause-none
returns-else-year-month-clause-none c = λ m low high.
    let from = month_from c.args.month (m / 86400) (omega (arith, low)) in
    let to = month_before (12 * c.min-else-year-month.result) (m / 86400) (omega (arith, high)) in
    let some = month_of-first (m / 86400) in
    let most = month_of-last (m / 86400) in
    rw c.in-Yearly.is (c.counted_from-year.ensures.none.each (year_of (m / 86400)) (omega (arith, from, most)) (omega (arith, to, some)))
