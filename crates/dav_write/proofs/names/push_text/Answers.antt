use Rattle.std.proofs.Common.{◌++◌, sym, ap, ◌∙◌, arith}
use Rattle.std.proofs.lemmas.Grind.{common_steps}
use Rattle.dav_write.proofs.Appending.{on_ok_then}
use Rattle.dav_write.proofs.TextRuns.{xml_text-plain, xml_text-run}
use Rattle.dav_write.proofs.names.push_text.Goals as goal

pub runs-preserved : goal.runs-preserved
runs-preserved c =
    let run = xml_text-run c.runs.rest.now c.in-Some.place (sym c.first_escaped.ensures.first ∙ c.in-Some.is) in
    record {
      text = grind (arith, common_steps, run, c.runs.invariant.text, c.in_ok-push_text_octet.ensures.text, c.in_ok-extend_from_slice.ensures.ok, c.behind-rest.ensures);
      front = grind (arith, common_steps, c.runs.invariant.front, c.in_ok-push_text_octet.ensures.text, c.in_ok-extend_from_slice.ensures.ok);
    }

pub returns-clause-text : goal.returns-clause-text
returns-clause-text c =
    on_ok_then c.extend_from_slice-2.result
    (λ written. written ∙ ap (λ text. c.runs.out ++ text) (sym (xml_text-plain c.runs.rest.now (sym c.first_escaped.ensures.first ∙ c.in_default.is))) ∙ c.runs.invariant.text)
    c.extend_from_slice-2.ensures.ok
