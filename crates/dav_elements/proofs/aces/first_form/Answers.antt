use Rattle.std.proofs.Common.{ap, take, ◌∙◌}
use Rattle.std.specs.Prelude.{filter, flat_map}
use Rattle.cal_model.specs.Bodies.ElementParts.{item_elements}
use Rattle.cal_model.specs.Bodies.AclBodies.{is_form}
use Rattle.dav_elements.proofs.ListSteps.{first_found, flat_split, kept_split}
use Rattle.dav_elements.proofs.aces.first_form.Goals as goal

pub returns-in-Some : goal.returns-in-Some
returns-in-Some c =
    first_found c.in-Some.form.now (kept_split is_form (flat_split item_elements c.as_slice-item-items.result.now c.items.item-index c.item-item.result c.items-test.true c.item-item.is)) c.in-Some.ensures c.items.invariant
    ∙ ap (λ items. take 1 (filter is_form (flat_map item_elements items))) c.as_slice-item-items.ensures
