use Rattle.std.proofs.Common.{◌++◌, [], sym, ap, ◌∙◌, arith}
use Rattle.std.specs.Prelude.{codes}
use Rattle.std.proofs.lemmas.Bool.Decides.{nat_tests}
use Rattle.cal_model.specs.Replies.XmlText.{xml_text}
use Rattle.dav_write.proofs.Appending.{on_ok_then, then_more}
use Rattle.dav_write.proofs.ElementLemmas.{text_is_written}
use Rattle.dav_write.proofs.ErrorLemmas.{filled}
use Rattle.multistatus.proofs.ReplyLemmas.{href_empty}
use Rattle.multistatus.proofs.TagLemmas.{behind_front}
use Rattle.multistatus.proofs.responses.push_href_text.Goals as goal

pub returns-then-is_empty-clause-text : goal.returns-then-is_empty-clause-text
returns-then-is_empty-clause-text c =
    on_ok_then c.extend_from_slice.result (λ written. written ∙ ap (λ text. c.args.out.now ++ text) (href_empty c.args.href.now (grind (arith, nat_tests, c.is_empty.ensures, c.if-is_empty.true)))) c.extend_from_slice.ensures.ok

pub returns-in_err-push_text-clause-front : goal.returns-in_err-push_text-clause-front
returns-in_err-push_text-clause-front c = behind_front c.args.out.now (codes "<D:href>") _ _ c.in_ok-extend_from_slice.ensures.ok c.push_text.ensures.front

pub returns-clause-text : goal.returns-clause-text
returns-clause-text c =
    let old = c.args.out.now in
    let text = xml_text c.args.href.now in
    on_ok_then c.extend_from_slice-3.result
    (λ written.
    then_more old (codes "<D:href>") _ c.in_ok-extend_from_slice.ensures.ok (then_more _ text (codes "</D:href>") c.in_ok-push_text.ensures.text written)
    ∙ ap (λ text. old ++ text) (sym (filled (codes "D:href") [] text (text_is_written c.args.href.now (grind (arith, nat_tests, c.is_empty.ensures, c.if-is_empty.false))))))
    c.extend_from_slice-3.ensures.ok
