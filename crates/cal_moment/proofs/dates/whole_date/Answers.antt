use Rattle.std.proofs.Common.{◌∙◌, sym}
use Rattle.std.proofs.lemmas.Result.{err_from_is_err_and}
use Rattle.cal_moment.specs.BadPlace.{IsIn}
use Rattle.cal_moment.specs.Texts.{SpellsDate}
use Rattle.cal_moment.proofs.DateLemmas.{date_stops_end}
use Rattle.cal_moment.proofs.Fronts.{not_empty}
use Rattle.cal_moment.proofs.StopsLemmas.{stops_whole}
use Rattle.cal_moment.proofs.dates.whole_date.Goals as goal

pub returns-in_err-day-clause-err : goal.returns-in_err-day-clause-err
returns-in_err-day-clause-err c =
    let p = err_from_is_err_and c.from_residual.result c.from_residual.ensures.1 in
    rw (p.1, p.2) (stops_whole (IsIn SpellsDate) c.args.text.now c.in_err-day.field-0.0.now c.in_err-day.ensures.err)

pub returns-else-is_empty-clause-err : goal.returns-else-is_empty-clause-err
returns-else-is_empty-clause-err c =
    let date = c.in_ok-day.ensures.ok in
    rw date.2 (date_stops_end date.0 c.in_ok-day.rest.now (c.in_ok-day.day, date.1) (not_empty c.in_ok-day.rest.now (sym c.is_empty.ensures ∙ c.if-is_empty.false)))
