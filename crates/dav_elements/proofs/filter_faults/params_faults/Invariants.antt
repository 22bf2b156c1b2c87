use Rattle.std.proofs.Common.{◌≡◌, take}
use Rattle.std.specs.Prelude.{filter, flat_map, codes}
use Rattle.cal_model.specs.Words.Namespaces.{caldav}
use Rattle.cal_model.specs.Bodies.ElementParts.{has_name, item_elements}
use Rattle.dav_elements.specs.FilterFaults.{each_fault, param_faults}
use Rattle.dav_elements.proofs.filter_faults.params_faults.Given as goal

-- what is wrong with those of the items so far
abbrev pub invariant-items : goal.invariant-items
invariant-items l = l.faults ≡ each_fault param_faults (filter (has_name caldav (codes "param-filter")) (flat_map item_elements (take l.item-index l.items)))
