use Rattle.std.proofs.Common.{◌≡◌, ◌+◌, ◌*◌, false, take}
use Rattle.std.specs.Prelude.{filter, flat_map, codes}
use Rattle.std.specs.List.{list_any}
use Rattle.cal_model.specs.Words.Namespaces.{caldav}
use Rattle.cal_model.specs.Bodies.ElementParts.{has_name, item_elements}
use Rattle.dav_elements.specs.NamelessPicks.{is_nameless_to}
use Rattle.dav_elements.proofs.picks.+nameless.Given as goal

-- no component so far lacks a name
abbrev pub invariant-has_nameless_comp-items : goal.invariant-has_nameless_comp-items
invariant-has_nameless_comp-items l = list_any (is_nameless_to l.depth) (filter (has_name caldav (codes "comp")) (flat_map item_elements (take l.item-index l.items))) ≡ false

abbrev pub decreases-is_nameless_to : goal.decreases-is_nameless_to
decreases-is_nameless_to l = 2 * l.depth

abbrev pub decreases-has_nameless_comp : goal.decreases-has_nameless_comp
decreases-has_nameless_comp l = 2 * l.depth + 1
