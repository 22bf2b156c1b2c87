use Rattle.std.proofs.Common.{◌≡◌, false, map, take}
use Rattle.std.specs.Prelude.{filter, flat_map, codes}
use Rattle.cal_model.specs.Words.Namespaces.{dav}
use Rattle.cal_model.specs.Access.Privileges.{set_named}
use Rattle.cal_model.specs.Bodies.ElementParts.{children, has_name, item_elements}
use Rattle.cal_model.specs.Bodies.AskedProperties.{property_name}
use Rattle.dav_elements.specs.AceAnswers.{with_sets}
use Rattle.dav_elements.proofs.aces.granted_by_each.Given as goal

-- with the privileges of the items so far
abbrev pub invariant-items : goal.invariant-items
invariant-items l = l.granted ≡ with_sets (record { bits = 0; unknown = false }) (map (λ privilege. set_named (property_name privilege)) (flat_map children (filter (has_name dav (codes "privilege")) (flat_map item_elements (take l.item-index l.items)))))
