use Rattle.std.proofs.Common.{◌≡◌, ◌∙◌, ap, map, List}
use Rattle.cal_model.specs.declared.property.PropSet.{PropSet}
use Rattle.cal_model.specs.Properties.PropertyReplies.{once, propstats}
use Rattle.cal_model.specs.Properties.PropertyTable.{Answer}
use Rattle.cal_model.specs.Replies.Hrefs.{href}
use Rattle.cal_model.specs.Replies.ReplyForms.{xml_reply}
use Rattle.cal_model.specs.Replies.XmlText.{multistatus, response}
use Rattle.dav_props.specs.KeptTexts.{answer_in}
use Rattle.dav_props.proofs.FaultLemmas.{answers_are}
use Rattle.dav_props.proofs.setting_replies.settings_reply.Goals as goal

pub returns : goal.returns
returns c faults names_are tells =
    let answer = answer_in c.args.refused.now c.args.otherwise in
    let names : c.as_slice-2.result.now ≡ once (map (λ (set : PropSet). set.name) c.args.sets.now) = c.as_slice-2.ensures ∙ (c.in_ok-names-2.ensures ∙ ap once (c.as_slice.ensures ∙ c.in_ok-names.ensures)) in
    c.xml_reply.ensures
    ∙ (ap (xml_reply 207) c.in_ok-body.ensures
    ∙ ap (λ (answers : List Answer). xml_reply 207 (multistatus (response (href c.args.path.now) (propstats answers)))) (ap (map answer) names ∙ answers_are c.args.refused.now faults c.args.otherwise c.args.sets.now tells names_are))
