use Rattle.std.proofs.Common.{◌≡◌, ◌-◌, ◌∙◌, ap, sym, subst, arith, [], ◌∷◌, ◌++◌, None}
use Rattle.cal_model.specs.Pieces.PieceLists.{ArePairsApart, rows_at, rows_in, newest_within}
use Rattle.cal_model.proofs.Pieces.PieceListLaws.{rows_in_append, apart_within, apart_snoc}
use Rattle.cal_model.proofs.Pieces.FoundPieces.{none_within}
use Rattle.cal_model.proofs.Pieces.FoundPieces.{found_after_add}
use Rattle.tests_state.proofs.plain_list.PlainList.add.Goals as goal

pub invariant_of-self-2 : goal.invariant_of-self-2
invariant_of-self-2 c =
    let room = c.self.inside.budget - c.row_count-needed.result in
    let shrunk = c.shrink-left.ensures.pieces ∙ ap (newest_within room) c.reserve.ensures.items in
    let new : rows_at c.args.piece.origin c.args.piece.window c.self.inside.pieces.items ≡ None =
    ap (λ s. rows_at c.args.piece.origin c.args.piece.window s.pieces) c.self.view_is ∙ c.requires in
    record {
      counted = omega (arith, ap rows_in c.push_reserved.ensures.items, rows_in_append c.shrink-left.new.pieces.items (c.args.piece ∷ []));
      fits = omega arith;
      apart = subst ArePairsApart (sym (c.push_reserved.ensures.items ∙ ap (λ xs. xs ++ c.args.piece ∷ []) shrunk))
          (apart_snoc c.args.piece _ (apart_within room _ c.self.invariant.apart) (none_within c.args.piece.origin c.args.piece.window room _ new));
    }

pub returns-clause-found : goal.returns-clause-found
returns-clause-found c done =
    let room = c.self.inside.budget - c.row_count-needed.result in
    let shrunk = c.shrink-left.ensures.pieces ∙ ap (newest_within room) c.reserve.ensures.items in
    let new : rows_at c.args.piece.origin c.args.piece.window c.self.inside.pieces.items ≡ None =
    ap (λ s. rows_at c.args.piece.origin c.args.piece.window s.pieces) c.self.view_is ∙ c.requires in
    ap (rows_at c.args.piece.origin c.args.piece.window) (c.push_reserved.ensures.items ∙ ap (λ xs. xs ++ c.args.piece ∷ []) shrunk)
    ∙ found_after_add room c.self.inside.pieces.items c.args.piece new
