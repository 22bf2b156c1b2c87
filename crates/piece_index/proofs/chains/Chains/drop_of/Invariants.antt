use Rattle.std.proofs.Common.{◌≡◌, ◌+◌, ◌≤◌, length, filter}
use Rattle.cal_model.specs.Pieces.PieceLists.{rows_in, is_piece_of, is_other_piece}
use Rattle.piece_index.specs.Entries.{pieces_of}
use Rattle.piece_index.proofs.chains.Chains.drop_of.Given as goal

abbrev pub invariant-loop-piece : goal.invariant-loop-piece
invariant-loop-piece g l = record {
  rows : l.left ≡ rows_in (pieces_of l.self);
  fits : l.left ≤ l.fn.rows;
  same : filter (is_other_piece l.origin) (pieces_of l.self) ≡ filter (is_other_piece l.origin) (pieces_of l.fn.self);
  cost : l.steps + length (filter (is_piece_of l.origin) (pieces_of l.self)) ≡ l.fn.steps + length (filter (is_piece_of l.origin) (pieces_of l.fn.self));
}

abbrev pub decreases-loop-piece : goal.decreases-loop-piece
decreases-loop-piece g l = length (pieces_of l.self)
