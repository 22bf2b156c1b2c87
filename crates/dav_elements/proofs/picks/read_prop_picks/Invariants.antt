use Rattle.std.proofs.Common.{◌≡◌, map, take}
use Rattle.std.specs.Prelude.{filter, flat_map, codes}
use Rattle.cal_model.specs.Words.Namespaces.{caldav}
use Rattle.cal_model.specs.Bodies.ElementParts.{has_name, item_elements}
use Rattle.cal_model.specs.Bodies.DataElements.{prop_pick}
use Rattle.dav_elements.proofs.picks.read_prop_picks.Given as goal

-- those of the items so far are read
abbrev pub invariant-items : goal.invariant-items
invariant-items l = l.picks ≡ map prop_pick (filter (has_name caldav (codes "prop")) (flat_map item_elements (take l.item-index l.items)))
