use Rattle.std.proofs.Common.{◌∙◌, sym}
use Rattle.cal_moment.proofs.DateTimeLemmas.{utc_stops, utc_stops_end}
use Rattle.cal_moment.proofs.Fronts.{not_empty}
use Rattle.cal_moment.proofs.times.whole_utc.Goals as goal

pub returns-in_default-clause-err : goal.returns-in_default-clause-err
returns-in_default-clause-err c =
    utc_stops c.args.text.now (not_empty c.args.text.now (sym c.is_empty.ensures ∙ c.if-is_empty.false)) c.in_default.ensures.none

pub returns-else-is_empty-2-clause-err : goal.returns-else-is_empty-2-clause-err
returns-else-is_empty-2-clause-err c =
    rw c.in-Some.ensures.some
    (utc_stops_end c.in-Some.rest.now (not_empty c.in-Some.rest.now (sym c.is_empty-2.ensures ∙ c.if-is_empty-2.false)))
