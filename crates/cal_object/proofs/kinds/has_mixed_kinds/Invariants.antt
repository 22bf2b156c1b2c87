use Rattle.std.proofs.Common.{◌≡◌, length}
use Rattle.cal_model.specs.Objects.ResourceFaults.{are_different}
use Rattle.ical_values.specs.Parts.{text_there}
use Rattle.cal_object.specs.KindNodes.{differ_from, names_of}
use Rattle.cal_object.proofs.kinds.has_mixed_kinds.Given as goal

-- the texts that are left beside the first one
abbrev pub invariant-nodes : goal.invariant-nodes
invariant-nodes l = differ_from (text_there l.first) (names_of l.rest) ≡ are_different (names_of l.nodes)

abbrev pub decreases-nodes : goal.decreases-nodes
decreases-nodes l = length l.rest
