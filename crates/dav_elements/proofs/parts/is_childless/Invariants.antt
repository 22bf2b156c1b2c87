use Rattle.std.proofs.Common.{◌≡◌, [], take}
use Rattle.std.specs.Prelude.{flat_map}
use Rattle.cal_model.specs.Bodies.ElementParts.{item_elements}
use Rattle.dav_elements.proofs.parts.is_childless.Given as goal

-- no item so far is an element
abbrev pub invariant-items : goal.invariant-items
invariant-items l = flat_map item_elements (take l.item-index l.item-items) ≡ []
