use Rattle.std.proofs.Common.{length, refl, ap, arith}
use Rattle.std.proofs.lemmas.List.Filters.{length-filter_both}
use Rattle.cal_model.specs.Pieces.PieceLists.{is_other_piece, is_piece_of}
use Rattle.piece_claims.specs.Boards.{Board}
use Rattle.cal_book.proofs.ending.end.Goals as goal

pub returns-in-Some-clause-steps : goal.returns-in-Some-clause-steps
returns-in-Some-clause-steps g c =
    let both = length-filter_both (is_piece_of c.in-Some.origin) (is_other_piece c.in-Some.origin) (λ x. refl) c.args.claims.now.pieces in
    let left = ap (λ (b : Board). length b.pieces) c.ended.ensures.board in
    let cost = c.ended.ensures.cost in
    omega (arith, both, left, cost)
