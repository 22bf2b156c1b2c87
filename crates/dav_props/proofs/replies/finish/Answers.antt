use Rattle.std.proofs.Common.{◌≤◌, ◌<◌, ℕ, List, length, ap, ◌∙◌, subst, arith}
use Rattle.cal_model.specs.Refusals.RequestLimits.{answer_limit}
use Rattle.cal_model.specs.Replies.ReplyForms.{xml_reply}
use Rattle.dav_props.proofs.FindLemmas.{long_before, long_reply, short_reply}
use Rattle.dav_props.proofs.SeenLemmas.{if_ok_then}
use Rattle.dav_props.proofs.replies.finish.Goals as goal

pub returns-then-len-gt-ANSWER_LIMIT : goal.returns-then-len-gt-ANSWER_LIMIT
returns-then-len-gt-ANSWER_LIMIT c =
    let past : answer_limit < length c.args.out = omega (arith, c.len.ensures, c.if-len-gt-ANSWER_LIMIT.true) in
    if_ok_then c.refused.result (λ reply is responses up. is ∙ long_reply responses (long_before c.args.out responses past up)) c.refused.ensures

pub returns-then-len-gt-ANSWER_LIMIT-2 : goal.returns-then-len-gt-ANSWER_LIMIT-2
returns-then-len-gt-ANSWER_LIMIT-2 c =
    let fits : length c.args.out ≤ answer_limit = omega (arith, c.len.ensures, c.if-len-gt-ANSWER_LIMIT.false) in
    let past : answer_limit < length c.in_ok-body.body = omega (arith, c.len-2.ensures, c.if-len-gt-ANSWER_LIMIT-2.true) in
    if_ok_then c.refused-then-len-gt-ANSWER_LIMIT-2.result
    (λ reply is responses up. is ∙ long_reply responses (subst (λ (body : List ℕ). answer_limit < length body) (c.in_ok-body.ensures responses (up.fits fits)) past)) c.refused-then-len-gt-ANSWER_LIMIT-2.ensures

pub returns : goal.returns
returns c responses up =
    let fits : length c.args.out ≤ answer_limit = omega (arith, c.len.ensures, c.if-len-gt-ANSWER_LIMIT.false) in
    let short : length c.in_ok-body.body ≤ answer_limit = omega (arith, c.len-2.ensures, c.if-len-gt-ANSWER_LIMIT-2.false) in
    let whole = c.in_ok-body.ensures responses (up.fits fits) in
    ap (xml_reply 207) whole ∙ short_reply responses (subst (λ (body : List ℕ). length body ≤ answer_limit) whole short)
