use Rattle.std.proofs.Common.{◌≡◌, [], take}
use Rattle.std.specs.Prelude.{filter, flat_map}
use Rattle.cal_model.specs.Bodies.ElementParts.{item_elements}
use Rattle.cal_model.specs.Bodies.AclBodies.{is_form}
use Rattle.dav_elements.proofs.aces.first_form.Given as goal

-- no item so far is a known form
abbrev pub invariant-items : goal.invariant-items
invariant-items l = filter is_form (flat_map item_elements (take l.item-index l.item-items)) ≡ []
