use Rattle.std.proofs.lemmas.Result.{err_from_is_err_and}
use Rattle.cal_moment.proofs.OffsetLemmas.{offset_stops_sign, offset_stops_hour, offset_stops_minute, offset_stops_second}
use Rattle.cal_moment.proofs.offsets.whole_offset.Goals as goal

pub returns-in_default-clause-err : goal.returns-in_default-clause-err
returns-in_default-clause-err c = offset_stops_sign c.args.text.now c.in_default.ensures.none

pub returns-in_err-hour-clause-err : goal.returns-in_err-hour-clause-err
returns-in_err-hour-clause-err c =
    let p = err_from_is_err_and c.from_residual.result c.from_residual.ensures.1 in
    rw (p.1, p.2, c.in-Some.ensures.some)
    (offset_stops_hour c.in-Some.negative c.in-Some.rest.now c.in_err-hour.field-0.0.now c.in_err-hour.ensures.err)

pub returns-in_err-minute-clause-err : goal.returns-in_err-minute-clause-err
returns-in_err-minute-clause-err c =
    let p = err_from_is_err_and c.from_residual-in_err-minute.result c.from_residual-in_err-minute.ensures.1 in
    let hour = c.in_ok-hour.ensures.ok in
    rw (p.1, p.2, c.in-Some.ensures.some, hour.3)
    (offset_stops_minute c.in-Some.negative c.in_ok-hour.hour c.in_ok-hour.rest.now c.in_err-minute.field-0.0.now hour.1 c.in_err-minute.ensures.err)

pub returns-in_err-second-clause-err : goal.returns-in_err-second-clause-err
returns-in_err-second-clause-err c =
    let p = err_from_is_err_and c.from_residual-in_err-second.result c.from_residual-in_err-second.ensures.1 in
    let hour = c.in_ok-hour.ensures.ok in
    let minute = c.in_ok-minute.ensures.ok in
    rw (p.1, p.2, c.in-Some.ensures.some, hour.3, minute.3)
    (offset_stops_second c.in-Some.negative c.in_ok-hour.hour c.in_ok-minute.minute c.in_ok-minute.rest.now c.in_err-second.field-0.0.now hour.1 minute.1 c.in_err-second.ensures.err)
