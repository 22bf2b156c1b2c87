use Rattle.std.proofs.Common.{◌≡◌, ◌+◌, length}
use Rattle.cal_object.specs.Alignments.{tables_of}
use Rattle.cal_object.specs.KindNodes.{components_from, first_bad_component}
use Rattle.cal_object.proofs.contents.bad_component.Given as goal

abbrev pub invariant-nodes : goal.invariant-nodes
invariant-nodes l = record {
  number : l.number + length l.rest ≡ length l.nodes;
  left : l.left ≡ components_from l.names l.number l.rest;
  found : first_bad_component (tables_of l.zones) l.number l.rest ≡ first_bad_component (tables_of l.zones) 0 l.nodes;
}

abbrev pub decreases-nodes : goal.decreases-nodes
decreases-nodes l = length l.rest
