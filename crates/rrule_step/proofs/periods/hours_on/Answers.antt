use Rattle.std.proofs.Common.{◌≡◌, ◌+◌, ◌-◌, ◌<◌, ◌≤◌, sym, arith}
use Rattle.cal_moment.specs.Calendar.{year_of, month_of}
use Rattle.rrule_step.proofs.MonthLemmas.{month_bounds, year_at, month_at}
use Rattle.rrule_step.proofs.periods.hours_on.Goals as goal

pub period_of-number-requires-clause-day : goal.period_of-number-requires-clause-day
period_of-number-requires-clause-day c = let bounds = month_bounds c.args.month.now in omega (arith, bounds, c.requires.within)

pub period_of-number-requires-clause-year : goal.period_of-number-requires-clause-year
period_of-number-requires-clause-year c =
    let month = c.args.month.now in
    let years = month.year_is in
    let at : c.args.month.now.first + (c.args.day - c.args.month.now.first) ≡ c.args.day = omega (arith, c.requires.within) in
    let is = year_at c.args.month.now (c.args.day - c.args.month.now.first) (omega (arith, c.requires.within)) in
    (sym (rw at at is), omega (arith, years))

pub period_of-number-requires-clause-month : goal.period_of-number-requires-clause-month
period_of-number-requires-clause-month c =
    let month = c.args.month.now in
    let months = month.month_is in
    let at : c.args.month.now.first + (c.args.day - c.args.month.now.first) ≡ c.args.day = omega (arith, c.requires.within) in
    let is = month_at c.args.month.now (c.args.day - c.args.month.now.first) (omega (arith, c.requires.within)) in
    (sym (rw at at is), omega (arith, months))
