use Rattle.std.proofs.Common.{◌≡◌, ◌+◌, drop, filter}
use Rattle.cal_model.specs.Pieces.PieceLists.{rows_in, is_other_piece}
use Rattle.tests_state.proofs.plain_list.rows_of_others.Given as goal

abbrev pub invariant-loop-piece : goal.invariant-loop-piece
invariant-loop-piece l = l.rows + rows_in (filter (is_other_piece l.origin) (drop l.piece-index l.pieces)) ≡ rows_in (filter (is_other_piece l.origin) l.pieces)
