use Rattle.std.proofs.Common.{◌≡◌, ◌∙◌, ◌-◌, ◌+◌, ap, sym, length, List, [], ◌∷◌, ◌++◌, ℤ, None, to_z, of_z, w32}
use Rattle.std.proofs.lemmas.Int.{to_z-of_z}
use Rattle.std.proofs.lemmas.Result.{on_ok_weaker}
use Rattle.cal_model.specs.declared.piece.Piece.{Piece}
use Rattle.cal_model.specs.Pieces.PieceLists.{newest_within, rows_at}
use Rattle.cal_model.proofs.Pieces.FoundPieces.{found_after_add}
use Rattle.piece_claims.specs.Boards.{Board, piece_at, rows_limit}
use Rattle.piece_claims.proofs.AgingLemmas.{on_ok_both, steps_are}
use Rattle.piece_claims.proofs.OutLemmas.{none_if_not_found}
use Rattle.piece_claims.proofs.claims.Claims.publish.Goals as goal

pub returns-clause-found : goal.returns-clause-found
returns-clause-found g c =
    let whole : to_z w32 (of_z w32 c.args.window) ≡ c.args.window = to_z-of_z w32 c.args.window c.ranges.window in
    let pieces_are : c.abandon.new.self.pieces ≡ c.args.self.now.pieces = ap (λ (b : Board). b.pieces) c.abandon.ensures in
    on_ok_weaker c.keep.result
    (λ is none.
    let now : c.keep.new.self.pieces ≡ newest_within (rows_limit - length c.args.rows) c.abandon.new.self.pieces ++ piece_at c.args.origin (to_z w32 (of_z w32 c.args.window)) c.args.rows ∷ [] = ap (λ (b : Board). b.pieces) is in
    ap (rows_at c.args.origin c.args.window) now
    ∙ ap (λ (ps : List Piece). rows_at c.args.origin c.args.window (newest_within (rows_limit - length c.args.rows) ps ++ piece_at c.args.origin (to_z w32 (of_z w32 c.args.window)) c.args.rows ∷ [])) pieces_are
    ∙ ap (λ (w : ℤ). rows_at c.args.origin c.args.window (newest_within (rows_limit - length c.args.rows) c.args.self.now.pieces ++ piece_at c.args.origin w c.args.rows ∷ [])) whole
    ∙ found_after_add (rows_limit - length c.args.rows) c.args.self.now.pieces (piece_at c.args.origin c.args.window c.args.rows) none) c.keep.ensures.ok

pub returns-clause-cost : goal.returns-clause-cost
returns-clause-cost g c =
    let whole : to_z w32 (of_z w32 c.args.window) ≡ c.args.window = to_z-of_z w32 c.args.window c.ranges.window in
    let pieces_are : c.abandon.new.self.pieces ≡ c.args.self.now.pieces = ap (λ (b : Board). b.pieces) c.abandon.ensures in
    let inside_are : c.self.inside.index.pieces ≡ c.args.self.now.pieces = ap (λ (b : Board). b.pieces) c.self.view_is ∙ pieces_are in
    let none : rows_at c.args.origin c.args.window c.args.self.now.pieces ≡ None =
    ap (λ (w : ℤ). rows_at c.args.origin w c.args.self.now.pieces) (sym whole)
    ∙ sym (ap (rows_at c.args.origin (to_z w32 (of_z w32 c.args.window))) inside_are)
    ∙ none_if_not_found c.get.result _ c.get.ensures (sym c.is_some.ensures ∙ c.if-is_some.false) in
    on_ok_weaker c.keep.result
    (λ both.
    let now : c.keep.new.self.pieces ≡ newest_within (rows_limit - length c.args.rows) c.abandon.new.self.pieces ++ piece_at c.args.origin (to_z w32 (of_z w32 c.args.window)) c.args.rows ∷ [] = ap (λ (b : Board). b.pieces) both.0 in
    steps_are (piece_at c.args.origin c.args.window c.args.rows) c.args.self.now.pieces c.keep.new.self.pieces _ _ none
    (now
    ∙ ap (λ (ps : List Piece). newest_within (rows_limit - length c.args.rows) ps ++ piece_at c.args.origin (to_z w32 (of_z w32 c.args.window)) c.args.rows ∷ []) pieces_are
    ∙ ap (λ (w : ℤ). newest_within (rows_limit - length c.args.rows) c.args.self.now.pieces ++ piece_at c.args.origin w c.args.rows ∷ []) whole)
    (both.1 ∙ ap (λ (ps : List Piece). c.args.steps.now + length ps + 1) pieces_are)) (on_ok_both _ _ c.keep.result c.keep.ensures.ok c.keep.ensures.cost)
