use Rattle.std.proofs.Common.{◌≡◌, [], take}
use Rattle.std.specs.Prelude.{filter, flat_map}
use Rattle.cal_model.specs.Bodies.ElementParts.{has_name, item_elements}
use Rattle.dav_elements.proofs.parts.first_named.Given as goal

-- no item so far is of the name
abbrev pub invariant-items : goal.invariant-items
invariant-items l = filter (has_name l.space l.name) (flat_map item_elements (take l.item-index l.item-items)) ≡ []
