use Rattle.std.proofs.Common.{◌≡◌, ◌+◌, ◌*◌, map, take}
use Rattle.std.specs.Prelude.{filter, flat_map, codes}
use Rattle.cal_model.specs.Words.Namespaces.{caldav}
use Rattle.cal_model.specs.Bodies.ElementParts.{has_name, item_elements}
use Rattle.cal_model.specs.Bodies.DataElements.{comp_pick_to}
use Rattle.dav_elements.proofs.picks.+comp_picks.Given as goal

-- those of the items so far are read
abbrev pub invariant-read_comp_picks-items : goal.invariant-read_comp_picks-items
invariant-read_comp_picks-items l = l.picks ≡ map (comp_pick_to l.depth) (filter (has_name caldav (codes "comp")) (flat_map item_elements (take l.item-index l.items)))

abbrev pub decreases-read_comp_pick_to : goal.decreases-read_comp_pick_to
decreases-read_comp_pick_to l = 2 * l.depth

abbrev pub decreases-read_comp_picks : goal.decreases-read_comp_picks
decreases-read_comp_picks l = 2 * l.depth + 1
