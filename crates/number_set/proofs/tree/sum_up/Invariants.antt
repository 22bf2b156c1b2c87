use Rattle.number_set.proofs.TreeLemmas.{IsSummedBut}
use Rattle.number_set.proofs.tree.sum_up.Given as goal

abbrev pub invariant-loop-below : goal.invariant-loop-below
invariant-loop-below l = IsSummedBut l.half l.initial.nodes l.nodes l.below

abbrev pub decreases-loop-below : goal.decreases-loop-below
decreases-loop-below l = l.below
