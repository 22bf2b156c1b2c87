use Rattle.std.proofs.Common.{◌++◌, length, ap, ◌∙◌}
use Rattle.std.specs.Prelude.{codes}
use Rattle.cal_model.specs.Replies.XmlText.{xml_text}
use Rattle.dav_write.proofs.Appending.{on_ok_then}
use Rattle.multistatus.specs.PropertyTags.{opened, closed}
use Rattle.multistatus.proofs.TagLemmas.{closed_is, within, kept_front, front_stays, opened_behind}
use Rattle.multistatus.proofs.propstats.push_text_property.Goals as goal

pub push_close-requires : goal.push_close-requires
push_close-requires c = within _ _ _ _ _ c.len-place.ensures c.in_ok-push.ensures.ok c.in_ok-push_text.ensures.text

pub returns-clause-element : goal.returns-clause-element
returns-clause-element c =
    let space = c.args.name.now.space in
    let name = c.args.name.now.name in
    let old = c.args.out.now in
    let content = xml_text c.args.text.now in
    let tag = c.in_ok-push_open.ensures.text ∙ (λ i. old ++ opened (c.as_slice.ensures i) (c.as_slice-2.ensures i)) in
    on_ok_then c.push_close.result
    (λ written.
    written ∙ (λ i. closed c.len-place.result (c.as_slice-3.ensures i) (c.as_slice-4.ensures i) c.push_text.new.out)
    ∙ closed_is old space name content _ _ (c.len-place.ensures ∙ ap length tag)
    (c.in_ok-push_text.ensures.text ∙ ap (λ text. text ++ content) (c.in_ok-push.ensures.ok ∙ ap (λ text. text ++ codes ">") tag)))
    c.push_close.ensures.text

pub returns-clause-front : goal.returns-clause-front
returns-clause-front c =
    let content = xml_text c.args.text.now in
    let tag = opened c.as_slice.result.now c.as_slice-2.result.now in
    kept_front c.args.out.now _ _ _ (opened_behind c.args.out.now tag _ _ c.in_ok-push_open.ensures.text c.len-place.ensures) c.push_close.ensures.front
    (front_stays c.args.out.now tag (codes ">") content _
    (c.in_ok-push_text.ensures.text ∙ ap (λ text. text ++ content) (c.in_ok-push.ensures.ok ∙ ap (λ text. text ++ codes ">") c.in_ok-push_open.ensures.text)))
