use Rattle.std.proofs.Common.{◌≡◌, ◌≢◌, ◌+◌, ◌-◌, ◌<◌, ◌≤◌, ◌∙◌, ap, sym, arith}
use Rattle.cal_moment.specs.Calendar.{year_of, first_of_year, weekday_of}
use Rattle.cal_moment.proofs.CalendarLaws.{year_of-first, year_of-last}
use Rattle.cal_model.specs.Recurrence.Passing.{week_passes}
use Rattle.rrule_step.proofs.CalendarLemmas.{week_goes_on}
use Rattle.rrule_step.proofs.MonthLemmas.{month_bounds, year_at}
use Rattle.rrule_step.proofs.weeks.week_passes_at.Goals as goal

pub overflow_add-day : goal.overflow_add-day
overflow_add-day c = let bounds = month_bounds c.args.month.now in omega (arith, bounds)

pub begins-requires : goal.begins-requires
begins-requires c = let bounds = month_bounds c.args.month.now in omega (arith, bounds)

pub week_passes-requires-clause-to : goal.week_passes-requires-clause-to
week_passes-requires-clause-to c =
    let year = year_at c.args.month.now c.args.place c.requires.place in
    let last = year_of-last (c.args.month.now.first + c.args.place) in
    rw year at last

pub returns-else-begins : goal.returns-else-begins
returns-else-begins c =
    let bounds = month_bounds c.args.month.now in
    let apart = c.begins.ensures c.if-begins.false in
    let some = apart.0 in
    let at : c.args.month.now.first + c.args.place - 1 + 1 ≡ c.args.month.now.first + c.args.place = omega (arith, some) in
    let other : weekday_of (c.args.month.now.first + c.args.place - 1 + 1) ≢ c.args.rule.now.week_start = rw at apart.1 in
    let goes = week_goes_on c.args.rule.now (c.args.month.now.first + c.args.place - 1) (omega (arith, bounds, some)) c.requires.rule.week_start_below other in
    c.requires.before some ∙ sym (rw at at goes)
