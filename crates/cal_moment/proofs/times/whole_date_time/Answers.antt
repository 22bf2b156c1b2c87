use Rattle.std.proofs.lemmas.Result.{err_from_is_err_and}
use Rattle.cal_moment.proofs.DateTimeLemmas.{date_time_stops_date, date_time_stops_letter, date_time_stops_time, date_time_stops_utc}
use Rattle.cal_moment.proofs.times.whole_date_time.Goals as goal

pub returns-in_err-day-clause-err : goal.returns-in_err-day-clause-err
returns-in_err-day-clause-err c =
    let p = err_from_is_err_and c.from_residual.result c.from_residual.ensures.1 in
    rw (p.1, p.2) (date_time_stops_date c.args.text.now c.in_err-day.field-0.0.now c.in_err-day.ensures.err)

pub returns-in_err-second-clause-err : goal.returns-in_err-second-clause-err
returns-in_err-second-clause-err c =
    let p = err_from_is_err_and c.from_residual-in_err-second.result c.from_residual-in_err-second.ensures.1 in
    let date = c.in_ok-day.ensures.ok in
    rw (p.1, p.2, date.2, c.in-Some.ensures.some)
    (date_time_stops_time date.0 (c.in_ok-day.day, date.1) c.in-Some.time.now c.in_err-second.field-0.0.now c.in_err-second.ensures.err)

pub returns-in_err-utc-clause-err : goal.returns-in_err-utc-clause-err
returns-in_err-utc-clause-err c =
    let p = err_from_is_err_and c.from_residual-in_err-utc.result c.from_residual-in_err-utc.ensures.1 in
    let date = c.in_ok-day.ensures.ok in
    let time = c.in_ok-second.ensures.ok in
    rw (p.1, p.2, date.2, c.in-Some.ensures.some, time.2)
    (date_time_stops_utc date.0 (c.in_ok-day.day, date.1) time.0 c.in_ok-second.rest.now c.in_err-utc.field-0.0.now (c.in_ok-second.second, time.1) c.in_err-utc.ensures.err)

pub returns-in_default-clause-err : goal.returns-in_default-clause-err
returns-in_default-clause-err c =
    let date = c.in_ok-day.ensures.ok in
    rw date.2 (date_time_stops_letter date.0 (c.in_ok-day.day, date.1) c.in_ok-day.rest.now c.in_default.ensures.none)
