use Rattle.std.proofs.Common.{◌≡◌, map, take}
use Rattle.std.specs.Prelude.{flat_map}
use Rattle.cal_model.specs.Access.Privileges.{set_named}
use Rattle.cal_model.specs.Bodies.ElementParts.{item_elements}
use Rattle.cal_model.specs.Bodies.AskedProperties.{property_name}
use Rattle.dav_elements.specs.AceAnswers.{with_sets}
use Rattle.dav_elements.proofs.aces.granted_by.Given as goal

-- with the names of the items so far
abbrev pub invariant-items : goal.invariant-items
invariant-items l = l.granted ≡ with_sets l.fn.before (map (λ privilege. set_named (property_name privilege)) (flat_map item_elements (take l.item-index l.items)))
