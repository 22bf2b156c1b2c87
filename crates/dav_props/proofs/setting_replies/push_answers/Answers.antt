use Rattle.std.proofs.Common.{subst, take, map, List}
use Rattle.std.proofs.lemmas.List.{take_all}
use Rattle.multistatus.specs.Answered.{IsAnswered}
use Rattle.cal_model.specs.Properties.PropertyTable.{Answer}
use Rattle.dav_props.specs.KeptTexts.{answer_in}
use Rattle.dav_props.proofs.FaultLemmas.{map_one}
use Rattle.dav_props.proofs.setting_replies.push_answers.Goals as goal

pub loop-name-preserved : goal.loop-name-preserved
loop-name-preserved c front href start =
    let answers = answer_in c.args.refused.now c.args.otherwise in
    let at = c.loop-name.name-index in
    subst (λ (a : List Answer). IsAnswered front href a c.push_one.new.response c.push_one.new.out) (map_one answers c.args.names.now at c.name-item.result c.loop-name-test.true c.name-item.is)
    (c.in_ok-push_one.ensures front href (map answers (take at c.args.names.now)) (c.loop-name.invariant front href start))

pub returns : goal.returns
returns c front href start =
    let answers = answer_in c.args.refused.now c.args.otherwise in
    subst (λ names. IsAnswered front href (map answers names) c.loop-name.response c.loop-name.out) (take_all c.loop-name.name-index c.args.names.now c.loop-name-test.false) (c.loop-name.invariant front href start)
