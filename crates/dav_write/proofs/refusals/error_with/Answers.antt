use Rattle.std.proofs.Common.{◌++◌, codes, [], sym, ap, ◌∙◌}
use Rattle.dav_write.proofs.Appending.{then_more}
use Rattle.dav_write.specs.ErrorTexts.{error_front}
use Rattle.dav_write.proofs.ErrorLemmas.{error-empty, error-filled}
use Rattle.dav_write.proofs.refusals.error_with.Goals as goal
use Rattle.dav_write.proofs.refusals.error_with.Goals.{then-is_empty+in_ok-extend_from_slice, else-is_empty+in_ok-push+in_ok-extend_from_slice-2+in_ok-extend_from_slice-3}

pub returns : goal.returns
returns c =
    let front = c.in_ok-push_front.ensures ∙ ap (λ body. body ++ error_front) (c.in_ok-reserve.ensures ∙ c.new-out.ensures) in
    elim c.if-is_empty.branch [
      | then-is_empty+in_ok-extend_from_slice w ↦ w.out-is ∙ then_more [] error_front (codes "/>") front w.in_ok-extend_from_slice.ensures.ok ∙ error-empty c.args.condition.now (sym c.is_empty.ensures ∙ w.if-is_empty.true)
      | else-is_empty+in_ok-push+in_ok-extend_from_slice-2+in_ok-extend_from_slice-3 w ↦
          w.out-is ∙ then_more [] error_front _ front (then_more _ (codes ">") _ w.in_ok-push.ensures.ok (then_more _ c.args.condition.now (codes "</D:error>") w.in_ok-extend_from_slice-2.ensures.ok w.in_ok-extend_from_slice-3.ensures.ok))
          ∙ error-filled c.args.condition.now (sym c.is_empty.ensures ∙ w.if-is_empty.false)
    ]
