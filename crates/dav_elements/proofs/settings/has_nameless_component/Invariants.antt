use Rattle.std.proofs.Common.{◌≡◌, false, take}
use Rattle.std.specs.Prelude.{filter, flat_map, codes}
use Rattle.std.specs.List.{list_any}
use Rattle.cal_model.specs.Words.Namespaces.{caldav}
use Rattle.cal_model.specs.Bodies.ElementParts.{has_name, item_elements, lacks_name}
use Rattle.dav_elements.proofs.settings.has_nameless_component.Given as goal

-- no component so far lacks a name
abbrev pub invariant-items : goal.invariant-items
invariant-items l = list_any lacks_name (filter (has_name caldav (codes "comp")) (flat_map item_elements (take l.item-index l.items))) ≡ false
