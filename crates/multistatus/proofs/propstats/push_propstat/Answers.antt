use Rattle.std.proofs.Common.{◌<◌, ◌++◌, length, ap, subst, ◌∙◌, arith}
use Rattle.std.specs.Prelude.{flat_map}
use Rattle.std.proofs.lemmas.Bool.Decides.{nat_tests}
use Rattle.cal_model.specs.Properties.PropertyReplies.{property_element}
use Rattle.dav_write.proofs.Appending.{on_ok_then, then_more}
use Rattle.multistatus.specs.ReplyPieces.{number_of, propstat_front, propstat_end}
use Rattle.multistatus.proofs.ReplyLemmas.{propstat_filled}
use Rattle.multistatus.proofs.TagLemmas.{behind_front}
use Rattle.multistatus.proofs.propstats.push_propstat.Goals as goal

pub returns-clause-text : goal.returns-clause-text
returns-clause-text c answers is =
    let old = c.args.out.now in
    let status = number_of c.args.status in
    let some : 0 < length (flat_map property_element answers) = subst (λ text. 0 < length text) is (grind (arith, nat_tests, c.is_empty.ensures, c.if-is_empty.false)) in
    on_ok_then c.push_propstat_end.result
    (λ written.
    then_more old propstat_front _ c.in_ok-extend_from_slice.ensures.ok (then_more _ c.args.elements.now (propstat_end status) c.in_ok-extend_from_slice-2.ensures.ok written)
    ∙ ap (λ text. old ++ (propstat_front ++ (text ++ propstat_end status))) is
    ∙ ap (λ text. old ++ text) (propstat_filled status answers some))
    c.push_propstat_end.ensures.text

pub returns-clause-front : goal.returns-clause-front
returns-clause-front c =
    behind_front c.args.out.now propstat_front _ _ c.in_ok-extend_from_slice.ensures.ok
    (behind_front _ c.args.elements.now _ _ c.in_ok-extend_from_slice-2.ensures.ok c.push_propstat_end.ensures.front)
