use Rattle.std.proofs.Common.{◌≡◌, ◌+◌, ◌++◌, length, sym, ap, ◌∙◌, arith, append_assoc, length-append}
use Rattle.std.specs.Prelude.{codes}
use Rattle.multistatus.specs.ReplyPieces.{begun}
use Rattle.multistatus.proofs.ReplyLemmas.{begun_size, cut_begun, multistatus_filled}
use Rattle.multistatus.proofs.bodies.end_multistatus.Goals as goal
use Rattle.multistatus.proofs.bodies.end_multistatus.Goals.{then-len+in_ok-extend_from_slice, else-len+in_ok-extend_from_slice-2}

pub returns : goal.returns
returns c responses is =
    let size : length c.args.body ≡ 109 + length responses = ap length is ∙ length-append begun responses ∙ ap (λ n. n + length responses) begun_size in
    elim c.if-len.branch [
      | then-len+in_ok-extend_from_slice w ↦
          w.body-is ∙ w.in_ok-extend_from_slice.ensures.ok ∙ ap (λ text. text ++ codes "/>") w.truncate.ensures
          ∙ cut_begun c.args.body responses is (sym c.len.ensures ∙ w.if-len.true)
      | else-len+in_ok-extend_from_slice-2 w ↦
          w.body-is ∙ w.in_ok-extend_from_slice-2.ensures.ok ∙ ap (λ text. text ++ codes "</D:multistatus>") is ∙ append_assoc begun responses (codes "</D:multistatus>")
          ∙ multistatus_filled responses (omega (arith, size, c.len.ensures, w.if-len.false))
    ]
