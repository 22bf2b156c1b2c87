use Rattle.std.proofs.Common.{◌||◌, ◌∙◌}
use Rattle.cal_model.specs.Bodies.ReportBodies.{asked_data}
use Rattle.dav_elements.specs.Reasons.{refusal_by}
use Rattle.dav_elements.proofs.RowLemmas.{query_rows}
use Rattle.dav_elements.proofs.reports.query_reason.Goals as goal

pub returns : goal.returns
returns c =
    let filter = c.top_faults-filter.ensures in
    let asked = c.data_faults-asked.ensures in
    let bad = c.either-bad.ensures ∙ (λ i. (filter i).nameless || (asked i).bad) in
    let invalid = c.either-invalid.ensures ∙ (λ i. (filter i).invalid || (asked i).range) in
    c.first_reason.ensures ∙ (λ i. refusal_by (bad i) (invalid i) (filter i).unsupported (filter i).collation (asked i).unsupported) ∙ query_rows c.args.top.now (asked_data c.args.root.now)
