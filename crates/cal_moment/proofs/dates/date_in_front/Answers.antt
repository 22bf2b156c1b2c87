use Rattle.std.proofs.lemmas.Result.{err_from_is_err_and}
use Rattle.cal_moment.proofs.DateLemmas.{date_stops_year, date_stops_month, date_stops_day}
use Rattle.cal_moment.proofs.dates.date_in_front.Goals as goal

pub returns-in_err-year-clause-err : goal.returns-in_err-year-clause-err
returns-in_err-year-clause-err c =
    let p = err_from_is_err_and c.from_residual.result c.from_residual.ensures.1 in
    rw (p.1, p.2) (date_stops_year c.args.text.now c.in_err-year.field-0.0.now c.in_err-year.ensures.err)

pub returns-in_err-month-clause-err : goal.returns-in_err-month-clause-err
returns-in_err-month-clause-err c =
    let p = err_from_is_err_and c.from_residual-in_err-month.result c.from_residual-in_err-month.ensures.1 in
    let year = c.in_ok-year.ensures.ok in
    rw (p.1, p.2, year.3)
    (date_stops_month c.in_ok-year.year c.in_ok-year.rest.now c.in_err-month.field-0.0.now year.0 year.1 c.in_err-month.ensures.err)

pub returns-in_err-day-clause-err : goal.returns-in_err-day-clause-err
returns-in_err-day-clause-err c =
    let p = err_from_is_err_and c.from_residual-in_err-day.result c.from_residual-in_err-day.ensures.1 in
    let year = c.in_ok-year.ensures.ok in
    let month = c.in_ok-month.ensures.ok in
    let length = c.days_of_month.ensures.value in
    rw (p.1, p.2, year.3, month.3)
    (date_stops_day c.in_ok-year.year c.in_ok-month.month c.in_ok-month.rest.now c.in_err-day.field-0.0.now year.0 year.1 month.0 month.1 (rw length at c.in_err-day.ensures.err))
