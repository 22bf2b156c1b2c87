use Rattle.std.proofs.Common.{◌≡◌, length}
use Rattle.cal_model.specs.Pieces.PieceLists.{rows_in, newest_within}
use Rattle.piece_index.specs.Entries.{pieces_of}
use Rattle.piece_index.proofs.chains.Chains.shrink.Given as goal

abbrev pub invariant-loop-left : goal.invariant-loop-left
invariant-loop-left l = record {
  rows : l.left ≡ rows_in (pieces_of l.self);
  same : newest_within l.budget (pieces_of l.self) ≡ newest_within l.budget (pieces_of l.fn.self);
}

abbrev pub decreases-loop-left : goal.decreases-loop-left
decreases-loop-left l = length (pieces_of l.self)
