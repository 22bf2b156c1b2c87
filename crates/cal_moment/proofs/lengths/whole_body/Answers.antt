use Rattle.std.proofs.Common.{◌∙◌, sym}
use Rattle.std.proofs.lemmas.Result.{err_from_is_err_and}
use Rattle.cal_moment.proofs.BodyLemmas.{body_stops_behind, body_stops_count, body_stops_times, body_stops_week, body_stops_days, body_stops_letter, times_body, weeks_body, days_body}
use Rattle.cal_moment.proofs.Fronts.{not_empty, empty_is}
use Rattle.cal_moment.proofs.lengths.whole_body.Goals as goal

pub returns-in_err-seconds-clause-err : goal.returns-in_err-seconds-clause-err
returns-in_err-seconds-clause-err c =
    let p = err_from_is_err_and c.from_residual.result c.from_residual.ensures.1 in
    rw (p.1, p.2, c.in-Some.ensures.some) (body_stops_times c.in-Some.times.now c.in_err-seconds.field-0.0.now c.in_err-seconds.ensures.err)

pub returns-in-Some-clause-ok : goal.returns-in-Some-clause-ok
returns-in-Some-clause-ok c =
    times_body c.args.text.now c.in-Some.times.now c.in_ok-seconds.seconds c.in-Some.ensures.some c.in_ok-seconds.ensures.ok

pub returns-in_default-count-clause-err : goal.returns-in_default-count-clause-err
returns-in_default-count-clause-err c = body_stops_count c.args.text.now c.in_default.ensures.none c.in_default-count.ensures.none

pub returns-then-is_empty-clause-ok : goal.returns-then-is_empty-clause-ok
returns-then-is_empty-clause-ok c =
    let count = c.in-Some-count.ensures.some in
    let end = empty_is c.in-Some-letter.end.now (sym c.is_empty.ensures ∙ c.if-is_empty.true) in
    rw (count.split, c.in-Some-letter.ensures.some, end) (weeks_body count.number c.in-Some-count.number count.spells)

pub returns-else-is_empty-clause-err : goal.returns-else-is_empty-clause-err
returns-else-is_empty-clause-err c =
    let some = not_empty c.in-Some-letter.end.now (sym c.is_empty.ensures ∙ c.if-is_empty.false) in
    body_stops_behind c.args.text.now c.in-Some-count.number c.in-Some-count.rest.now c.in-Some-letter.end.now c.in_default.ensures.none c.in-Some-count.ensures.some
    (rw c.in-Some-letter.ensures.some (body_stops_week c.in-Some-count.number c.in-Some-letter.end.now some))

pub returns-in_default-letter-2-clause-err : goal.returns-in_default-letter-2-clause-err
returns-in_default-letter-2-clause-err c =
    body_stops_behind c.args.text.now c.in-Some-count.number c.in-Some-count.rest.now c.in-Some-count.rest.now c.in_default.ensures.none c.in-Some-count.ensures.some
    (body_stops_letter c.in-Some-count.number c.in-Some-count.rest.now c.in_default-letter.ensures.none c.in_default-letter-2.ensures.none)

pub returns-in_err-seconds-2-clause-err : goal.returns-in_err-seconds-2-clause-err
returns-in_err-seconds-2-clause-err c =
    let p = err_from_is_err_and c.from_residual-in_err-seconds-2.result c.from_residual-in_err-seconds-2.ensures.1 in
    rw (p.1, p.2)
    (body_stops_behind c.args.text.now c.in-Some-count.number c.in-Some-count.rest.now c.in_err-seconds-2.field-0.0.now c.in_default.ensures.none c.in-Some-count.ensures.some
    (rw c.in-Some-letter-2.ensures.some (body_stops_days c.in-Some-count.number c.in-Some-letter-2.rest.now c.in_err-seconds-2.field-0.0.now c.in_err-seconds-2.ensures.err)))

pub returns-clause-ok : goal.returns-clause-ok
returns-clause-ok c =
    let count = c.in-Some-count.ensures.some in
    rw (count.split, c.in-Some-letter-2.ensures.some)
    (days_body count.number c.in-Some-count.number c.in-Some-letter-2.rest.now c.in_ok-seconds-2.seconds count.spells c.in_ok-seconds-2.ensures.ok)
