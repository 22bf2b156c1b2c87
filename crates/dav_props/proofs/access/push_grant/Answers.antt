use Rattle.std.proofs.Common.{◌++◌, ap, ◌∙◌}
use Rattle.std.specs.Prelude.{codes}
use Rattle.cal_model.specs.Properties.PropertyValues.{grantee, bit_elements}
use Rattle.cal_model.specs.Replies.XmlText.{element}
use Rattle.dav_write.proofs.Appending.{then_more, on_ok_then}
use Rattle.dav_props.specs.Contents.{ace_front}
use Rattle.dav_props.proofs.PieceLemmas.{grant_pieces}
use Rattle.multistatus.proofs.TagLemmas.{behind_front, ends_front}
use Rattle.dav_props.proofs.access.push_grant.Goals as goal

pub returns-clause-text : goal.returns-clause-text
returns-clause-text g c =
    let directory = g.V.View.directory c.args.seen.now.view.now in
    let grant = c.args.grant.now in
    on_ok_then c.extend_from_slice.result
    (λ written.
    then_more c.args.out.now (ace_front (grantee directory grant.who)) _ c.in_ok-push_ace_front.ensures.text
    (then_more _ (element (codes "D:grant") (bit_elements grant.held.0)) (codes "</D:ace>") c.in_ok-push_granted.ensures.text written)
    ∙ ap (λ text. c.args.out.now ++ text) (grant_pieces directory grant))
    c.extend_from_slice.ensures.ok

pub returns-clause-front : goal.returns-clause-front
returns-clause-front g c =
    behind_front c.args.out.now (ace_front (grantee (g.V.View.directory c.args.seen.now.view.now) c.args.grant.now.who)) _ _ c.in_ok-push_ace_front.ensures.text
    (behind_front _ (element (codes "D:grant") (bit_elements c.args.grant.now.held.0)) _ _ c.in_ok-push_granted.ensures.text
    (ends_front c.extend_from_slice.result _ _ (codes "</D:ace>") c.extend_from_slice.ensures.ok c.extend_from_slice.ensures.err))
