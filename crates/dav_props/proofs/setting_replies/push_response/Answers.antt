use Rattle.std.proofs.Common.{◌≡◌, ◌∙◌, ◌++◌, map, subst, List, ℕ}
use Rattle.std.specs.Prelude.{OnOk}
use Rattle.cal_model.specs.Properties.PropertyReplies.{propstats}
use Rattle.cal_model.specs.Replies.XmlText.{response}
use Rattle.dav_props.specs.KeptTexts.{answer_in}
use Rattle.dav_props.proofs.setting_replies.push_response.Goals as goal

pub returns : goal.returns
returns c =
    let out = c.args.out.now in
    let answers = map (answer_in c.args.refused.now c.args.otherwise) c.args.names.now in
    subst (λ (href : List ℕ). OnOk c.end.result (c.end.new.out ≡ out ++ response href (propstats answers))) (c.as_slice.ensures ∙ c.in_ok-href.ensures.text)
    (c.end.ensures.text out c.as_slice.result.now answers (c.in_ok-push_answers.ensures out c.as_slice.result.now c.in_ok-response.ensures.begun))
