use Rattle.std.proofs.Common.{◌≡◌, drop}
use Rattle.cal_model.specs.Pieces.PieceLists.{rows_at}
use Rattle.tests_state.proofs.plain_list.rows_of.Given as goal

abbrev pub invariant-loop-piece : goal.invariant-loop-piece
invariant-loop-piece l = rows_at l.origin l.fn.window l.pieces ≡ rows_at l.origin l.fn.window (drop l.piece-index l.pieces)
