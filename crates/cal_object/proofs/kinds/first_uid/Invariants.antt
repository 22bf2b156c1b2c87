use Rattle.std.proofs.Common.{◌≡◌, length}
use Rattle.cal_base.specs.Lines.ComponentTrees.{first}
use Rattle.cal_object.specs.KindNodes.{uids_of}
use Rattle.cal_object.proofs.kinds.first_uid.Given as goal

abbrev pub invariant-nodes : goal.invariant-nodes
invariant-nodes l = first (uids_of l.rest) ≡ first (uids_of l.nodes)

abbrev pub decreases-nodes : goal.decreases-nodes
decreases-nodes l = length l.rest
