use Rattle.std.proofs.Common.{◌≡◌, length}
use Rattle.cal_model.specs.Objects.ResourceFaults.{lacks_zone}
use Rattle.cal_object.specs.KindNodes.{some_kind}
use Rattle.cal_object.proofs.missing_zone.has_missing_zone.Given as goal

abbrev pub invariant-nodes : goal.invariant-nodes
invariant-nodes l = some_kind (lacks_zone l.names) l.rest ≡ some_kind (lacks_zone l.names) l.nodes

abbrev pub decreases-nodes : goal.decreases-nodes
decreases-nodes l = length l.rest
