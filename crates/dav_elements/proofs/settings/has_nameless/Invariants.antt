use Rattle.std.proofs.Common.{◌≡◌, false, take}
use Rattle.std.specs.Prelude.{flat_map}
use Rattle.std.specs.List.{list_any}
use Rattle.cal_model.specs.Bodies.ElementParts.{item_elements}
use Rattle.cal_model.specs.Bodies.PropertyBodies.{has_nameless_component}
use Rattle.dav_elements.proofs.settings.has_nameless.Given as goal

-- no component set so far has a component without a name
abbrev pub invariant-items : goal.invariant-items
invariant-items l = list_any has_nameless_component (flat_map item_elements (take l.item-index l.items)) ≡ false
