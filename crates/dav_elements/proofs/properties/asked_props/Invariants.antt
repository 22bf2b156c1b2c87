use Rattle.std.proofs.Common.{◌≡◌, [], take}
use Rattle.std.specs.Prelude.{filter, flat_map}
use Rattle.cal_model.specs.Bodies.ElementParts.{item_elements}
use Rattle.cal_model.specs.Bodies.AskedProperties.{is_props}
use Rattle.dav_elements.proofs.properties.asked_props.Given as goal

-- no item so far says what is asked for
abbrev pub invariant-items : goal.invariant-items
invariant-items l = filter is_props (flat_map item_elements (take l.item-index l.item-items)) ≡ []
