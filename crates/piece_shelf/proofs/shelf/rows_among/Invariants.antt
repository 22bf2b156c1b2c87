use Rattle.std.proofs.Common.{◌≡◌, drop}
use Rattle.cal_model.specs.Pieces.PieceLists.{rows_at}
use Rattle.piece_shelf.proofs.shelf.rows_among.Given as goal

abbrev pub invariant-pieces : goal.invariant-pieces
invariant-pieces l = rows_at l.origin l.window l.pieces ≡ rows_at l.origin l.window (drop l.piece-index l.pieces)
