use Rattle.std.proofs.Common.{◌++◌, codes, ap, ◌∙◌}
use Rattle.dav_write.proofs.Appending.{then_more, on_ok_then}
use Rattle.dav_write.specs.ElementTexts.{value_text, own_prefix}
use Rattle.dav_write.proofs.tags.push_own_attribute.Goals as goal

pub returns : goal.returns
returns c =
    let place = c.args.place in
    let attr = c.args.attr.now in
    on_ok_then c.push_value-2.result
    (λ written.
    then_more c.args.out.now (codes " xmlns:") _ c.in_ok-extend_from_slice.ensures.ok
    (then_more _ (own_prefix place) _ c.in_ok-push_own_prefix.ensures
    (then_more _ (value_text attr.space) _ (c.in_ok-push_value.ensures.text ∙ ap (λ value. c.push_own_prefix.new.out ++ value_text value) c.as_slice.ensures)
    (then_more _ (codes " ") _ c.in_ok-push.ensures.ok
    (then_more _ (own_prefix place) _ c.in_ok-push_own_prefix-2.ensures
    (then_more _ (codes ":") _ c.in_ok-push-2.ensures.ok
    (then_more _ attr.name (value_text attr.value) (c.in_ok-extend_from_slice-2.ensures.ok ∙ ap (λ name. c.push-2.new.self ++ name) c.as_slice-2.ensures)
    (written ∙ ap (λ value. c.extend_from_slice-2.new.self ++ value_text value) c.as_slice-3.ensures))))))))
    c.push_value-2.ensures.text
