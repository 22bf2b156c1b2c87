use Rattle.std.proofs.Common.{◌≡◌, true, false, sym, ap, ◌∙◌}
use Rattle.cal_base.specs.Xml.XmlNames.{is_same_name}
use Rattle.cal_base.specs.Xml.XmlMarkup.{Tag}
use Rattle.dav_body.proofs.TagSteps.{closing_step, closing_stop}
use Rattle.dav_body.proofs.progress.end_tag.Goals as goal

pub returns-in_ok-closed-clause-step : goal.returns-in_ok-closed-clause-step
returns-in_ok-closed-clause-step c =
    let same : is_same_name c.args.inner.tag.name c.args.name ≡ true = ap (λ (tag : Tag). is_same_name tag.name c.args.name) (sym c.tag.ensures) ∙ ap (λ name. is_same_name name c.args.name) (sym c.name.ensures) ∙ sym c.is_same.ensures ∙ c.if-is_same.true in
    closing_step c.args.inner c.args.around c.args.name _ same c.in_ok-closed.ensures

pub returns-else-is_same-clause-stop : goal.returns-else-is_same-clause-stop
returns-else-is_same-clause-stop c =
    let other : is_same_name c.args.inner.tag.name c.args.name ≡ false = ap (λ (tag : Tag). is_same_name tag.name c.args.name) (sym c.tag.ensures) ∙ ap (λ name. is_same_name name c.args.name) (sym c.name.ensures) ∙ sym c.is_same.ensures ∙ c.if-is_same.false in
    closing_stop c.args.inner c.args.around c.args.name c.args.place other
