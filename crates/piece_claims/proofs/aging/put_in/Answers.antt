use Rattle.std.proofs.Common.{◌-◌, ◌∙◌, [], ◌∷◌, ◌++◌, List, length, ap, arith}
use Rattle.cal_model.specs.declared.piece.Piece.{Piece}
use Rattle.cal_model.specs.Pieces.KeptPieces.{KeptPieces}
use Rattle.cal_model.proofs.Pieces.PieceListLaws.{within_done}
use Rattle.piece_claims.proofs.aging.put_in.Goals as goal

pub returns-in-Done-clause-ok : goal.returns-in-Done-clause-ok
returns-in-Done-clause-ok c =
    let state : List Piece → KeptPieces = λ ps. record { budget = c.args.index.now.budget; pieces = ps ++ c.args.piece ∷ [] } in
    c.in-Done.ensures.added.1 ∙ ap state (within_done (c.args.index.now.budget - length c.args.piece.rows) c.args.index.now.pieces (let room = c.requires.room in omega arith))
