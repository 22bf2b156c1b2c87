use Rattle.std.proofs.Common.{◌≡◌, ◌+◌, ◌≤◌, length}
use Rattle.std.specs.Prelude.{IfSome}
use Rattle.cal_model.specs.Pieces.PieceLists.{newest_within}
use Rattle.piece_claims.specs.Boards.{rows_limit}
use Rattle.piece_claims.specs.Counts.{AreCounts}
use Rattle.piece_claims.specs.Kept.{AreOfLive}
use Rattle.piece_claims.specs.Lanes.{AreAsWide, AreOpen}
use Rattle.piece_claims.specs.Out.{pairs_out}
use Rattle.piece_claims.specs.Shelved.{IsFilled}
use Rattle.piece_claims.proofs.aging.make_room.Given as goal

abbrev pub invariant-loop-index : goal.invariant-loop-index
invariant-loop-index g l = record {
  same : newest_within rows_limit l.index.pieces ≡ newest_within rows_limit l.fn.index.pieces;
  budget : l.index.budget ≡ l.fn.index.budget;
  wide : AreAsWide l.fn.lanes l.lanes;
  live : AreOfLive l.live l.index.pieces;
  open_now : AreOpen l.lanes l.first l.live l.index.pieces (pairs_out l.out);
  counted : AreCounts l.counts l.first l.index.pieces;
  shelved : IfSome l.shelving.shelf (IsFilled l.shelving.filled l.index.pieces);
  filled : l.shelving.filled ≤ l.fn.shelving.filled;
  cost : l.steps + length l.index.pieces ≡ l.fn.steps + length l.fn.index.pieces;
}

abbrev pub decreases-loop-index : goal.decreases-loop-index
decreases-loop-index g l = length l.index.pieces
