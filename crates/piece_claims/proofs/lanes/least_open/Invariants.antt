use Rattle.piece_claims.specs.Lanes.{AreEmptyTo}
use Rattle.piece_claims.proofs.lanes.least_open.Given as goal

abbrev pub invariant-loop-k : goal.invariant-loop-k
invariant-loop-k l = AreEmptyTo l.lanes l.k
