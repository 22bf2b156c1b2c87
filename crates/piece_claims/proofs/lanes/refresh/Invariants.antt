use Rattle.piece_claims.specs.Boards.{is_open_if, pair_at}
use Rattle.piece_claims.specs.Out.{pairs_out}
use Rattle.piece_claims.proofs.LaneLemmas.{IsDone}
use Rattle.piece_claims.proofs.lanes.refresh.Given as goal

abbrev pub invariant-loop-k : goal.invariant-loop-k
invariant-loop-k l = IsDone l.initial.lanes l.lanes l.first l.origin (λ window. is_open_if l.alive l.index.pieces (pairs_out l.out) (pair_at l.origin window)) l.k
