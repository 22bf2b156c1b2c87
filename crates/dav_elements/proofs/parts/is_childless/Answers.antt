use Rattle.std.proofs.Common.{ap, sym, ◌∙◌}
use Rattle.std.specs.Prelude.{flat_map}
use Rattle.cal_model.specs.Words.Lists.{is_empty}
use Rattle.cal_model.specs.Bodies.ElementParts.{item_elements}
use Rattle.dav_elements.proofs.ListSteps.{found_some, flat_split}
use Rattle.dav_elements.proofs.parts.is_childless.Goals as goal

pub returns-in-Some : goal.returns-in-Some
returns-in-Some c =
    sym (found_some c.in-Some._child.now (flat_split item_elements c.as_slice-item-items.result.now c.items.item-index c.item-item.result c.items-test.true c.item-item.is) c.in-Some.ensures)
    ∙ ap (λ items. is_empty (flat_map item_elements items)) c.as_slice-item-items.ensures
