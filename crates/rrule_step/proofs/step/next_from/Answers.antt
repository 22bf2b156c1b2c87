use Rattle.std.proofs.Common.{arith}
use Rattle.rrule_step.proofs.CalendarLemmas.{month_begun, year_small}
use Rattle.rrule_step.proofs.step.next_from.Goals as goal

pub next_moment-requires-clause-month : goal.next_moment-requires-clause-month
next_moment-requires-clause-month c =
    let date = c.date_of-year.ensures in
    let bounds = date.bounds in
    let small = year_small c.day_number-day.result (omega arith) in
    let year = date.year in
    (omega (arith, bounds), omega (arith, bounds, small, year))

pub next_moment-requires-clause-begun : goal.next_moment-requires-clause-begun
next_moment-requires-clause-begun c =
    let date = c.date_of-year.ensures in
    let bounds = date.bounds in
    month_begun c.day_number-day.result _ _ date.year date.month bounds.2 bounds.3
