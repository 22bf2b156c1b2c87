use Rattle.std.proofs.Common.{◌∙◌, ◌++◌, ◌∷◌, [], ap}
use Rattle.cal_script.proofs.OutputLemmas.{reply_frame-parts}
use Rattle.cal_script.proofs.reply_frame.frame_octets.Goals as goal

pub returns : goal.returns
returns c =
    c.in_ok-push.ensures.ok
    ∙ (ap (λ xs. xs ++ 10 ∷ []) (c.in_ok-extend_from_slice-2.ensures.ok
    ∙ ap (λ xs. xs ++ c.args.octets.now) (c.in_ok-extend_from_slice.ensures.ok ∙ ap (λ xs. xs ++ c.as_bytes.result.now) (c.reserve.ensures ∙ c.new-frame.ensures)))
    ∙ reply_frame-parts c.args.connection c.args.octets.now c.as_bytes.result.now (c.as_bytes.ensures.value ∙ c.in_ok-head.ensures))
