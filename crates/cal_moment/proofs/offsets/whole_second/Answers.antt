use Rattle.std.proofs.Common.{◌∙◌, sym}
use Rattle.std.proofs.lemmas.Result.{err_from_is_err_and}
use Rattle.cal_moment.proofs.Fronts.{not_empty}
use Rattle.cal_moment.proofs.OffsetLemmas.{second_stops, second_stops_end}
use Rattle.cal_moment.proofs.offsets.whole_second.Goals as goal

pub returns-in_err-second-clause-err : goal.returns-in_err-second-clause-err
returns-in_err-second-clause-err c =
    let p = err_from_is_err_and c.from_residual.result c.from_residual.ensures.1 in
    rw (p.1, p.2)
    (second_stops c.args.text.now c.in_err-second.field-0.0.now (not_empty c.args.text.now (sym c.is_empty.ensures ∙ c.if-is_empty.false)) c.in_err-second.ensures.err)

pub returns-else-is_empty-2-clause-err : goal.returns-else-is_empty-2-clause-err
returns-else-is_empty-2-clause-err c =
    let second = c.in_ok-second.ensures.ok in
    rw second.3
    (second_stops_end c.in_ok-second.second c.in_ok-second.rest.now second.1 (not_empty c.in_ok-second.rest.now (sym c.is_empty-2.ensures ∙ c.if-is_empty-2.false)))
