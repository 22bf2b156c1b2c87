use Rattle.std.proofs.Common.{◌≡◌, ◌+◌, ◌*◌, take}
use Rattle.std.specs.Prelude.{filter, flat_map, codes}
use Rattle.cal_model.specs.Words.Namespaces.{caldav}
use Rattle.cal_model.specs.Bodies.ElementParts.{has_name, item_elements}
use Rattle.dav_elements.specs.FilterFaults.{each_fault, comp_faults_to}
use Rattle.dav_elements.proofs.filter_faults.+comp_faults.Given as goal

-- what is wrong with those of the items so far
abbrev pub invariant-comps_faults-items : goal.invariant-comps_faults-items
invariant-comps_faults-items l = l.faults ≡ each_fault (comp_faults_to l.depth) (filter (has_name caldav (codes "comp-filter")) (flat_map item_elements (take l.item-index l.items)))

abbrev pub decreases-comp_faults : goal.decreases-comp_faults
decreases-comp_faults l = 3 * l.depth

abbrev pub decreases-comp_faults_in : goal.decreases-comp_faults_in
decreases-comp_faults_in l = 3 * l.depth + 1

abbrev pub decreases-comps_faults : goal.decreases-comps_faults
decreases-comps_faults l = 3 * l.depth + 2
