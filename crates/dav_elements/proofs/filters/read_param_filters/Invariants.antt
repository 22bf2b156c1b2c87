use Rattle.std.proofs.Common.{◌≡◌, map, take}
use Rattle.std.specs.Prelude.{filter, flat_map, codes}
use Rattle.cal_model.specs.Words.Namespaces.{caldav}
use Rattle.cal_model.specs.Bodies.ElementParts.{has_name, item_elements}
use Rattle.cal_model.specs.Bodies.FilterElements.{param_filter}
use Rattle.dav_elements.proofs.filters.read_param_filters.Given as goal

-- those of the items so far are read
abbrev pub invariant-items : goal.invariant-items
invariant-items l = l.filters ≡ map param_filter (filter (has_name caldav (codes "param-filter")) (flat_map item_elements (take l.item-index l.items)))
