use Rattle.std.proofs.Common.{rules, ◌∙◌, to_z-of_z, FitsSigned, w64}
use Rattle.cal_model.proofs.Conversions.SpanLemmas.{instant_by-found}
use Rattle.cal_model.proofs.local_times.instant_in.Goals as goal

pub returns : goal.returns
returns c =
    let fits : FitsSigned w64 c.args.local = search rules in
    let result_fits : FitsSigned w64 c.instant_by.result = search (rules, c.instant_by.type_inv) in
    let found = rw (to_z-of_z fits) at c.value_at.ensures in
    let made = rw (to_z-of_z fits) at c.instant_by.ensures in
    let right = c.requires.spans.right c.args.local c.requires.near in
    rw (to_z-of_z result_fits) (made ∙ instant_by-found c.args.table.now c.args.local c.value_at.result c.requires.table.rising (found ∙ right))
