use Rattle.std.proofs.Common.{◌≡◌, map, take}
use Rattle.std.specs.Prelude.{flat_map}
use Rattle.cal_model.specs.Bodies.ElementParts.{item_elements}
use Rattle.cal_model.specs.Bodies.AskedProperties.{property_name}
use Rattle.dav_elements.proofs.properties.read_names.Given as goal

-- those of the items so far are read
abbrev pub invariant-items : goal.invariant-items
invariant-items l = l.names ≡ map property_name (flat_map item_elements (take l.item-index l.items))
