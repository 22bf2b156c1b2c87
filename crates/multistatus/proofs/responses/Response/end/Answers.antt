use Rattle.std.proofs.Common.{◌++◌, ap, ◌∙◌, append_assoc}
use Rattle.std.specs.Prelude.{codes}
use Rattle.cal_model.specs.Properties.PropertyReplies.{with_status, propstat_of, propstats}
use Rattle.dav_write.proofs.Appending.{on_ok_then}
use Rattle.multistatus.specs.ReplyPieces.{response_front}
use Rattle.multistatus.specs.Answered.{others}
use Rattle.multistatus.proofs.ReplyLemmas.{propstats_pieces, response_behind, cut_front, more_front}
use Rattle.multistatus.proofs.TagLemmas.{ends_front}
use Rattle.multistatus.proofs.responses.Response.end.Goals as goal

pub returns-in_err-end_found-clause-front : goal.returns-in_err-end_found-clause-front
returns-in_err-end_found-clause-front c front href answers so_far = cut_front c.args.self c.args.out.now _ so_far c.end_found.ensures.front

pub returns-in_err-push_others-clause-front : goal.returns-in_err-push_others-clause-front
returns-in_err-push_others-clause-front c front href answers so_far =
    more_front front (response_front href) (propstat_of 200 (with_status 200 answers)) _ _ (c.in_ok-end_found.ensures.text (front ++ response_front href) (with_status 200 answers) so_far.begin so_far.found so_far.text) c.push_others.ensures.front

pub returns-clause-text : goal.returns-clause-text
returns-clause-text c front href answers so_far =
    let found = propstat_of 200 (with_status 200 answers) in
    on_ok_then c.extend_from_slice.result
    (λ written.
    written
    ∙ ap (λ text. text ++ codes "</D:response>")
    (c.in_ok-push_others.ensures.text front href c.args.out.now answers so_far
    ∙ ap (λ text. text ++ others answers) (c.in_ok-end_found.ensures.text (front ++ response_front href) (with_status 200 answers) so_far.begin so_far.found so_far.text)
    ∙ append_assoc (front ++ response_front href) found (others answers)
    ∙ ap (λ text. (front ++ response_front href) ++ text) (propstats_pieces answers))
    ∙ response_behind front href (propstats answers))
    c.extend_from_slice.ensures.ok

pub returns-clause-front : goal.returns-clause-front
returns-clause-front c front href answers so_far =
    let before = front ++ response_front href in
    let found = propstat_of 200 (with_status 200 answers) in
    let more =
    c.in_ok-push_others.ensures.text front href c.args.out.now answers so_far
    ∙ ap (λ text. text ++ others answers) (c.in_ok-end_found.ensures.text before (with_status 200 answers) so_far.begin so_far.found so_far.text)
    ∙ append_assoc before found (others answers) in
    more_front front (response_front href) (found ++ others answers) _ _ more (ends_front c.extend_from_slice.result _ _ _ c.extend_from_slice.ensures.ok c.extend_from_slice.ensures.err)
