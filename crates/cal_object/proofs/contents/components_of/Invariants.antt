use Rattle.std.proofs.Common.{◌≡◌, ◌+◌, ◌++◌, length}
use Rattle.cal_object.specs.KindNodes.{components_from}
use Rattle.cal_object.proofs.contents.components_of.Given as goal

abbrev pub invariant-nodes : goal.invariant-nodes
invariant-nodes l = record {
  number : l.number + length l.rest ≡ length l.nodes;
  components : l.components ++ components_from l.names l.number l.rest ≡ components_from l.names 0 l.nodes;
}

abbrev pub decreases-nodes : goal.decreases-nodes
decreases-nodes l = length l.rest
