use Rattle.std.proofs.Common.{sym, ◌∙◌}
use Rattle.cal_model.specs.Bodies.ElementParts.{item_elements}
use Rattle.cal_model.specs.Bodies.PropertyBodies.{has_nameless_component}
use Rattle.dav_elements.proofs.ListSteps.{any_found, flat_split}
use Rattle.dav_elements.proofs.settings.has_nameless.Goals as goal

pub returns-then-is_nameless_set : goal.returns-then-is_nameless_set
returns-then-is_nameless_set c = sym (any_found has_nameless_component c.in-Some.property.now (flat_split item_elements c.args.items.now c.items.item-index c.item-item.result c.items-test.true c.item-item.is) c.in-Some.ensures (sym c.is_nameless_set.ensures ∙ c.if-is_nameless_set.true))
