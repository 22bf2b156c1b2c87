use Rattle.std.proofs.Common.{◌≡◌, ◌∙◌, sym, ap, take, drop, length}
use Rattle.std.proofs.Math.Seq.{drop-append_seam}
use Rattle.cal_model.specs.Properties.PropertyReplies.{property_element}
use Rattle.multistatus.specs.Answered.{IsAnswered}
use Rattle.dav_props.specs.KeptTexts.{answer_in}
use Rattle.std.proofs.Common.{subst}
use Rattle.dav_props.proofs.setting_replies.push_one.Goals as goal

pub returns : goal.returns
returns c front href answers before =
    let out = c.args.out.now in
    let written = c.push_empty_property.new.out in
    let answer = answer_in c.args.refused.now c.args.otherwise c.args.name.now in
    let place : c.len-place.result ≡ length out = c.len-place.ensures in
    let begun : take c.len-place.result written ≡ out = ap (λ n. take n written) place ∙ c.push_empty_property.ensures.front in
    let behind : drop c.len-place.result written ≡ property_element answer =
    ap (λ n. drop n written) place ∙ (ap (drop (length out)) (c.in_ok-push_empty_property.ensures.element answer.status) ∙ drop-append_seam out (property_element answer)) in
    c.take_in.ensures.answered front href answers answer (subst (λ w. IsAnswered front href answers c.args.response.now w) (sym begun) before) behind c.in_ok-status.ensures
