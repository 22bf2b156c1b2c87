use Rattle.std.proofs.Common.{◌<◌, ◌++◌, length, ap, ◌∙◌, arith, append_assoc, length-append}
use Rattle.std.specs.Prelude.{flat_map}
use Rattle.cal_model.specs.Properties.PropertyReplies.{property_element}
use Rattle.dav_write.proofs.Appending.{on_ok_then}
use Rattle.multistatus.specs.ReplyPieces.{propstat_front, propstat_end}
use Rattle.multistatus.proofs.ReplyLemmas.{propstat_filled}
use Rattle.multistatus.proofs.propstats.end_found.Goals as goal

pub returns-clause-text : goal.returns-clause-text
returns-clause-text c before answers begin found is =
    let properties = flat_map property_element answers in
    let some : 0 < length properties = omega (arith, c.len.ensures, c.if-len-found.false, found, ap length is, length-append (before ++ propstat_front) properties) in
    on_ok_then c.push_propstat_end.result
    (λ written.
    written ∙ ap (λ text. text ++ propstat_end 200) is
    ∙ append_assoc (before ++ propstat_front) properties (propstat_end 200)
    ∙ append_assoc before propstat_front (properties ++ propstat_end 200)
    ∙ ap (λ text. before ++ text) (propstat_filled 200 answers some))
    c.push_propstat_end.ensures.text
