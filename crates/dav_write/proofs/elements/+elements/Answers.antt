use Rattle.std.proofs.Common.{◌≡◌, ◌++◌, ◌<◌, length, map, codes, sym, ap, ◌∙◌}
use Rattle.std.specs.List.{concat}
use Rattle.std.proofs.lemmas.List.{take_all}
use Rattle.dav_write.proofs.Appending.{then_more, on_ok_then}
use Rattle.dav_write.specs.ElementTexts.{tag_front, end_tag, item_text}
use Rattle.dav_write.proofs.ElementLemmas.{written_element-empty, written_element-filled, nothing_written, something_written, items_more}
use Rattle.dav_write.proofs.elements.+elements.Goals as goal

pub push_element-returns-then-not-has_content : goal.push_element-returns-then-not-has_content
push_element-returns-then-not-has_content t c =
    let e = c.args.element.now in
    let front = tag_front c.args.declarations.now e.space e.name e.attrs in
    let none = nothing_written c.has_content.result c.as_slice.result.now e.items c.as_slice.ensures c.has_content.ensures.1 c.if-not-has_content.true in
    on_ok_then c.extend_from_slice.result
    (λ written.
    then_more c.args.out.now front (codes "/>") c.in_ok-push_tag_front.ensures written
    ∙ ap (λ text. c.args.out.now ++ text) (sym (written_element-empty e c.args.declarations.now none)))
    c.extend_from_slice.ensures.ok

pub push_element-items-preserved : goal.push_element-items-preserved
push_element-items-preserved t c =
    let items = c.as_slice-item-items.result.now in
    items_more c.push.new.self c.items.out c.push_item.new.out items c.items.item-index c.item-item.result c.items-test.true c.item-item.is c.items.invariant c.in_ok-push_item.ensures

pub push_element-returns : goal.push_element-returns
push_element-returns t c =
    let e = c.args.element.now in
    let front = tag_front c.args.declarations.now e.space e.name e.attrs in
    let content = concat (map item_text e.items) in
    let some : 0 < length content = something_written c.has_content.result c.as_slice.result.now e.items c.as_slice.ensures c.has_content.ensures.0 c.if-not-has_content.false in
    let inside : c.items.out ≡ c.push.new.self ++ content =
    c.items.invariant ∙ ap (λ items. c.push.new.self ++ concat (map item_text items)) (take_all c.items.item-index c.as_slice-item-items.result.now c.items-test.false ∙ c.as_slice-item-items.ensures) in
    on_ok_then c.push_end.result
    (λ written.
    then_more c.args.out.now front _ c.in_ok-push_tag_front.ensures
    (then_more _ (codes ">") _ c.in_ok-push.ensures.ok
    (then_more _ content (end_tag e.space e.name) inside
    (written ∙ ap (λ space. c.items.out ++ end_tag space c.as_slice-3.result.now) c.as_slice-2.ensures ∙ ap (λ name. c.items.out ++ end_tag e.space name) c.as_slice-3.ensures)))
    ∙ ap (λ text. c.args.out.now ++ text) (sym (written_element-filled e c.args.declarations.now some)))
    c.push_end.ensures.text
