use Rattle.std.proofs.Common.{arith}
use Rattle.rrule_step.proofs.CalendarLemmas.{weeks_within}
use Rattle.rrule_step.proofs.weeks.week_passes.Goals as goal

pub is_named-requires-clause-week : goal.is_named-requires-clause-week
is_named-requires-clause-week c =
    let last = c.near_year-year.ensures.last in
    let end = c.first_of_year.ensures in
    let apart = c.saturating_sub.ensures in
    (omega arith, omega (arith, last, end, apart))

pub is_named-requires-clause-count : goal.is_named-requires-clause-count
is_named-requires-clause-count c =
    rw c.first_of_year.ensures (weeks_within c.near_year-year.result c.first_fourth_day-first.result c.first_fourth_day-first.ensures.from c.first_fourth_day-first.ensures.first_week)
