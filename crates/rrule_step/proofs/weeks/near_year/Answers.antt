use Rattle.std.proofs.Common.{◌≡◌, ◌+◌, ◌-◌, ◌≤◌, ◌<◌, sym, arith}
use Rattle.cal_moment.specs.Calendar.{year_of, first_of_year}
use Rattle.cal_moment.proofs.CalendarLaws.{year_of-only}
use Rattle.rrule_step.proofs.weeks.near_year.Goals as goal

pub returns-then-day-first_of_year-clause-value : goal.returns-then-day-first_of_year-clause-value
returns-then-day-first_of_year-clause-value c =
    let some = c.requires.year in
    let same : c.args.year - 1 + 1 ≡ c.args.year = omega (arith, some) in
    sym (year_of-only c.args.day (c.args.year - 1) (omega arith) (rw same (omega arith)))

pub returns-then-day-first_of_year-2-clause-value : goal.returns-then-day-first_of_year-2-clause-value
returns-then-day-first_of_year-2-clause-value c = sym (year_of-only c.args.day c.args.year (omega arith) (omega arith))

pub returns-else-day-first_of_year-2-clause-value : goal.returns-else-day-first_of_year-2-clause-value
returns-else-day-first_of_year-2-clause-value c = sym (year_of-only c.args.day (c.args.year + 1) (omega arith) (omega arith))
