use Rattle.piece_claims.specs.Lanes.{AreSwept}
use Rattle.piece_claims.specs.Out.{pairs_out}
use Rattle.piece_claims.proofs.lanes.refresh_all.Given as goal

abbrev pub invariant-loop-origin : goal.invariant-loop-origin
invariant-loop-origin l = AreSwept l.initial.lanes l.lanes l.first l.live l.index.pieces (pairs_out l.out) l.origin
