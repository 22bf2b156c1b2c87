use Rattle.std.proofs.Common.{false, ◌||◌, ◌∙◌}
use Rattle.std.specs.Prelude.{codes}
use Rattle.cal_model.specs.Words.Lists.{is_empty}
use Rattle.cal_model.specs.Words.Namespaces.{dav}
use Rattle.cal_model.specs.Bodies.ElementParts.{named}
use Rattle.cal_model.specs.Bodies.ReportBodies.{asked_data}
use Rattle.dav_elements.specs.Reasons.{refusal_by}
use Rattle.dav_elements.proofs.RowLemmas.{multiget_rows}
use Rattle.dav_elements.proofs.reports.multiget_reason.Goals as goal

pub returns : goal.returns
returns c =
    let lacks = c.lacks_href.ensures in
    let asked = c.data_faults-asked.ensures in
    let bad = c.either-bad.ensures ∙ (λ i. lacks i || (asked i).bad) in
    c.first_reason.ensures ∙ (λ i. refusal_by (bad i) (asked i).range false false (asked i).unsupported) ∙ multiget_rows (is_empty (named dav (codes "href") c.args.root.now)) (asked_data c.args.root.now)
