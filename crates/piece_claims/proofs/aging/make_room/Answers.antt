use Rattle.std.proofs.Common.{◌≡◌, ◌∙◌, ap, sym, arith, List, ℕ}
use Rattle.cal_model.specs.declared.piece.Piece.{Piece}
use Rattle.cal_model.specs.Pieces.PieceLists.{newest_within}
use Rattle.cal_model.proofs.Pieces.PieceListLaws.{within_done}
use Rattle.piece_claims.specs.Boards.{rows_limit}
use Rattle.piece_claims.proofs.aging.make_room.Goals as goal

pub returns-clause-pieces : goal.returns-clause-pieces
returns-clause-pieces g c =
    let done : c.loop-index.index.pieces ≡ newest_within rows_limit c.args.index.now.pieces =
    sym (within_done rows_limit c.loop-index.index.pieces (let few = c.loop-index-test.false in let rows = c.rows.ensures.rows in omega (arith, few, rows))) ∙ c.loop-index.invariant.same in
    ap (λ (ps : List Piece). record { budget = c.loop-index.index.budget; pieces = ps }) done
    ∙ ap (λ (b : ℕ). record { budget = b; pieces = newest_within rows_limit c.args.index.now.pieces }) c.loop-index.invariant.budget
