use Rattle.std.proofs.Common.{◌≡◌, ◌++◌, map, take}
use Rattle.std.specs.Prelude.{flat_map, if◌then◌else◌}
use Rattle.cal_model.specs.Bodies.ElementParts.{item_elements}
use Rattle.cal_model.specs.Bodies.PropertyBodies.{setting, removal}
use Rattle.dav_elements.proofs.settings.push_each.Given as goal

-- those of the items so far are appended
abbrev pub invariant-items : goal.invariant-items
invariant-items l = l.settings ≡ l.initial.settings ++ map (if l.sets then setting else removal) (flat_map item_elements (take l.item-index l.items))
