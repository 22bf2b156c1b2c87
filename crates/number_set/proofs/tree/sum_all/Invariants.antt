use Rattle.number_set.proofs.TreeLemmas.{IsSummedFrom}
use Rattle.number_set.proofs.tree.sum_all.Given as goal

abbrev pub invariant-loop-next : goal.invariant-loop-next
invariant-loop-next l = IsSummedFrom l.half l.initial.nodes l.nodes l.next

abbrev pub decreases-loop-next : goal.decreases-loop-next
decreases-loop-next l = l.next
