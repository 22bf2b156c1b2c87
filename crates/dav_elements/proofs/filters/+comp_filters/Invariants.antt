use Rattle.std.proofs.Common.{◌≡◌, ◌+◌, ◌*◌, map, take}
use Rattle.std.specs.Prelude.{filter, flat_map, codes}
use Rattle.cal_model.specs.Words.Namespaces.{caldav}
use Rattle.cal_model.specs.Bodies.ElementParts.{has_name, item_elements}
use Rattle.cal_model.specs.Bodies.FilterElements.{comp_filter_to}
use Rattle.dav_elements.proofs.filters.+comp_filters.Given as goal

-- those of the items so far are read
abbrev pub invariant-read_comp_filters-items : goal.invariant-read_comp_filters-items
invariant-read_comp_filters-items l = l.filters ≡ map (comp_filter_to l.depth) (filter (has_name caldav (codes "comp-filter")) (flat_map item_elements (take l.item-index l.items)))

abbrev pub decreases-read_comp_filter : goal.decreases-read_comp_filter
decreases-read_comp_filter l = 2 * l.depth

abbrev pub decreases-read_comp_filters : goal.decreases-read_comp_filters
decreases-read_comp_filters l = 2 * l.depth + 1
