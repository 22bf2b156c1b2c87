use Rattle.piece_claims.proofs.LaneLemmas.{IsGrown}
use Rattle.piece_claims.proofs.lanes.grow_all.Given as goal

abbrev pub invariant-loop-k : goal.invariant-loop-k
invariant-loop-k l = IsGrown l.initial.sets l.sets l.bound l.k
