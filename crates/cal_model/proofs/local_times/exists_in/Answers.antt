use Rattle.std.proofs.Common.{rules, ◌∙◌, to_z-of_z, FitsSigned, w64}
use Rattle.cal_model.proofs.Conversions.SpanLemmas.{is_shown-found}
use Rattle.cal_model.proofs.local_times.exists_in.Goals as goal

pub returns : goal.returns
returns c =
    let fits : FitsSigned w64 c.args.local = search rules in
    let found = rw (to_z-of_z fits) at c.value_at.ensures in
    let made = c.is_shown.ensures in
    let right = c.requires.spans.right c.args.local c.requires.near in
    made ∙ is_shown-found c.args.table.now c.args.local c.value_at.result c.requires.table.rising (found ∙ right)
