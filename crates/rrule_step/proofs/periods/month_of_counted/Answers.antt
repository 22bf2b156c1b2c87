use Rattle.std.proofs.Common.{◌+◌, ◌≤◌, ◌<◌, arith}
use Rattle.rrule_step.specs.Periods.{month_begin}
use Rattle.rrule_step.proofs.CalendarLemmas.{month_begun, month_from, year_small}
use Rattle.rrule_step.proofs.MonthLemmas.{month_bounds, month_first, month_next, size_least}
use Rattle.rrule_step.proofs.periods.month_of_counted.Goals as goal

pub overflow_add-end : goal.overflow_add-end
overflow_add-end c = let bounds = month_bounds c.new-this.result in omega (arith, bounds)

pub counted_day-counted-requires-clause-day : goal.counted_day-counted-requires-clause-day
counted_day-counted-requires-clause-day c =
    let bounds = month_bounds c.new-this.result in
    let size = size_least c.new-this.result in
    (omega (arith, bounds), omega (arith, bounds, size))

pub returns-then-counted-end-clause-none : goal.returns-then-counted-end-clause-none
returns-then-counted-end-clause-none c = λ m low high. absurd (omega (arith, low, high))

pub returns-then-is_past-clause-none : goal.returns-then-is_past-clause-none
returns-then-is_past-clause-none c = λ m low high.
    let first = month_first c.new-this.result c.args.month c.new-this.ensures.year c.new-this.ensures.month in
    let before : m < 66332736000 = high in
    c.counted_day-counted.ensures.none m (omega (arith, first, low)) (omega (arith, before))

pub returns-clause-from : goal.returns-clause-from
returns-clause-from c =
    let next = month_next c.new-this.result c.args.month c.new-this.ensures.year c.new-this.ensures.month in
    let behind : month_begin (c.args.month + 1) ≤ c.counted_day-counted.result = omega (arith, next) in
    let from = month_from (c.args.month + 1) c.counted_day-counted.result behind in
    let date = c.date_of-year.ensures in
    let year = date.year in
    let of = date.month in
    omega (arith, from, year, of)

pub returns-clause-to : goal.returns-clause-to
returns-clause-to c =
    let date = c.date_of-year.ensures in
    let year = date.year in
    let bounds = date.bounds in
    let small = year_small c.counted_day-counted.result (omega arith) in
    omega (arith, year, bounds, small)

pub returns-clause-none : goal.returns-clause-none
returns-clause-none c = λ m low high.
    let first = month_first c.new-this.result c.args.month c.new-this.ensures.year c.new-this.ensures.month in
    let date = c.date_of-year.ensures in
    let bounds = date.bounds in
    let begun = month_begun c.counted_day-counted.result c.date_of-year.result.0 c.date_of-year.result.1 date.year date.month bounds.2 bounds.3 in
    c.counted_day-counted.ensures.none m (omega (arith, first, low)) (omega (arith, high, begun))
