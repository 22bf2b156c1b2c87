use Rattle.std.proofs.Common.{◌+◌, ◌*◌, refl, ap}
use Rattle.std.proofs.lemmas.Result.{err_from_is_err_and}
use Rattle.cal_moment.specs.Texts.{time_text}
use Rattle.cal_moment.proofs.TimeLemmas.{time_stops_hour, time_stops_minute, time_stops_second}
use Rattle.cal_moment.proofs.times.time_in_front.Goals as goal

pub returns-in_err-hour-clause-err : goal.returns-in_err-hour-clause-err
returns-in_err-hour-clause-err c =
    let p = err_from_is_err_and c.from_residual.result c.from_residual.ensures.1 in
    rw (p.1, p.2) (time_stops_hour c.args.text.now c.in_err-hour.field-0.0.now c.in_err-hour.ensures.err)

pub returns-in_err-minute-clause-err : goal.returns-in_err-minute-clause-err
returns-in_err-minute-clause-err c =
    let p = err_from_is_err_and c.from_residual-in_err-minute.result c.from_residual-in_err-minute.ensures.1 in
    let hour = c.in_ok-hour.ensures.ok in
    rw (p.1, p.2, hour.3)
    (time_stops_minute c.in_ok-hour.hour c.in_ok-hour.rest.now c.in_err-minute.field-0.0.now hour.1 c.in_err-minute.ensures.err)

pub returns-in_err-second-clause-err : goal.returns-in_err-second-clause-err
returns-in_err-second-clause-err c =
    let p = err_from_is_err_and c.from_residual-in_err-second.result c.from_residual-in_err-second.ensures.1 in
    let hour = c.in_ok-hour.ensures.ok in
    let minute = c.in_ok-minute.ensures.ok in
    rw (p.1, p.2, hour.3, minute.3)
    (time_stops_second c.in_ok-hour.hour c.in_ok-minute.minute c.in_ok-minute.rest.now c.in_err-second.field-0.0.now hour.1 minute.1 c.in_err-second.ensures.err)

pub returns-clause-ok : goal.returns-clause-ok
returns-clause-ok c =
    let hour = c.in_ok-hour.ensures.ok in
    let minute = c.in_ok-minute.ensures.ok in
    let second = c.in_ok-second.ensures.ok in (
      time_text c.in_ok-hour.hour c.in_ok-minute.minute c.in_ok-second.second,
      record {
        hour = c.in_ok-hour.hour;
        minute = c.in_ok-minute.minute;
        second = c.in_ok-second.second;
        hour_in = hour.1;
        minute_in = minute.1;
        second_in = second.1;
        spelled = refl;
        number = ap (λ s. 3600 * c.in_ok-hour.hour + 60 * c.in_ok-minute.minute + s) c.min.ensures;
      },
      rw (hour.3, minute.3, second.3) refl,
    )
