use Rattle.std.proofs.Common.{◌++◌, length, ap, ◌∙◌}
use Rattle.std.specs.Prelude.{codes}
use Rattle.dav_write.proofs.Appending.{on_ok_then}
use Rattle.cal_model.specs.Properties.PropertyValues.{bit_elements}
use Rattle.multistatus.specs.PropertyTags.{opened}
use Rattle.multistatus.proofs.TagLemmas.{closed_is, within, kept_front, front_stays, opened_behind}
use Rattle.dav_props.proofs.access.push_granted.Goals as goal

pub push_close-requires : goal.push_close-requires
push_close-requires c = within _ _ _ (bit_elements c.args.set) _ c.len-place.ensures c.in_ok-push.ensures.ok c.in_ok-push_privileges.ensures.text

pub returns-clause-text : goal.returns-clause-text
returns-clause-text c =
    let content = bit_elements c.args.set in
    on_ok_then c.push_close.result
    (λ written.
    written
    ∙ closed_is c.args.out.now (codes "DAV:") (codes "grant") content _ _ (c.len-place.ensures ∙ ap length c.in_ok-push_open.ensures.text)
    (c.in_ok-push_privileges.ensures.text ∙ ap (λ text. text ++ content) (c.in_ok-push.ensures.ok ∙ ap (λ text. text ++ codes ">") c.in_ok-push_open.ensures.text)))
    c.push_close.ensures.text

pub returns-clause-front : goal.returns-clause-front
returns-clause-front c =
    kept_front c.args.out.now _ _ _ (opened_behind c.args.out.now (opened (codes "DAV:") (codes "grant")) _ _ c.in_ok-push_open.ensures.text c.len-place.ensures) c.push_close.ensures.front
    (front_stays c.args.out.now (opened (codes "DAV:") (codes "grant")) (codes ">") (bit_elements c.args.set) _
    (c.in_ok-push_privileges.ensures.text ∙ ap (λ text. text ++ bit_elements c.args.set) (c.in_ok-push.ensures.ok ∙ ap (λ text. text ++ codes ">") c.in_ok-push_open.ensures.text)))
