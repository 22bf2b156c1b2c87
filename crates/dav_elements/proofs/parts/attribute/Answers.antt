use Rattle.std.proofs.Common.{ap, sym, ◌∙◌, Some, option_map, List, ℕ}
use Rattle.std.specs.Prelude.{find}
use Rattle.cal_base.specs.declared.element.Attr.{Attr}
use Rattle.cal_model.specs.Bodies.ElementParts.{is_attribute}
use Rattle.dav_elements.proofs.ListSteps.{find_found, find_more}
use Rattle.dav_elements.proofs.parts.attribute.Goals as goal

pub returns-then-is_attribute : goal.returns-then-is_attribute
returns-then-is_attribute c =
    let value : Attr → List ℕ = λ attr. attr.value in
    ap Some c.as_slice.ensures
    ∙ ap (option_map value) (sym (find_found (is_attribute c.args.name.now) c.as_slice-attr-items.result.now c.attrs.attr-index c.attr-item.result c.attrs-test.true c.attr-item.is c.attrs.invariant (sym c.is_attribute.ensures ∙ c.if-is_attribute.true)))
    ∙ ap (λ attrs. option_map value (find (is_attribute c.args.name.now) attrs)) c.as_slice-attr-items.ensures

pub attrs-preserved : goal.attrs-preserved
attrs-preserved c = find_more (is_attribute c.args.name.now) c.as_slice-attr-items.result.now c.attrs.attr-index c.attr-item.result c.attrs-test.true c.attr-item.is c.attrs.invariant (sym c.is_attribute.ensures ∙ c.if-is_attribute.false)
