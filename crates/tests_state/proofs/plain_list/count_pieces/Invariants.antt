use Rattle.std.proofs.Common.{◌≡◌, ◌+◌, drop, filter, length}
use Rattle.cal_model.specs.Pieces.PieceLists.{is_piece_of}
use Rattle.tests_state.proofs.plain_list.count_pieces.Given as goal

abbrev pub invariant-loop-piece : goal.invariant-loop-piece
invariant-loop-piece g l = l.steps + length (filter (is_piece_of l.origin) (drop l.piece-index l.pieces)) ≡ l.fn.steps + length (filter (is_piece_of l.origin) l.pieces)
