use Rattle.number_set.proofs.DescentLemmas.{IsOnTheWay}
use Rattle.number_set.proofs.tree.first_leaf.Given as goal

abbrev pub invariant-loop-left : goal.invariant-loop-left
invariant-loop-left l = IsOnTheWay l.nodes l.fn.height l.at l.left

abbrev pub decreases-loop-left : goal.decreases-loop-left
decreases-loop-left l = l.left
