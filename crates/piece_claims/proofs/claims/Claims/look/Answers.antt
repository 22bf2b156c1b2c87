use Rattle.std.proofs.Common.{◌≡◌, ◌∙◌, ap, ℕ, ℤ, List}
use Rattle.std.proofs.lemmas.Result.{IfOk-weaker}
use Rattle.cal_model.specs.Pieces.PieceLists.{rows_at}
use Rattle.cal_model.specs.declared.piece.Piece.{Piece}
use Rattle.piece_shelf.specs.Shelves.{held_on}
use Rattle.piece_claims.specs.Boards.{Board}
use Rattle.piece_claims.specs.Shelved.{IsFilled}
use Rattle.piece_claims.proofs.ShelvedLemmas.{whole}
use Rattle.piece_claims.proofs.claims.Claims.look.Goals as goal

pub returns-clause-held : goal.returns-clause-held
returns-clause-held c =
    IfOk-weaker c.look.result (IsFilled c.self.inside.entries c.self.inside.index.pieces) (λ shelf. (o : ℕ) (w : ℤ) → held_on shelf o w ≡ rows_at o w c.args.self.now.pieces)
    (λ (shelf : List (List (List Piece))) filled (o : ℕ) (w : ℤ).
    whole c.self.inside.entries c.self.inside.live c.self.inside.index.pieces shelf c.self.invariant.0.unknown c.self.invariant.1.of_live filled o w
    ∙ ap (λ (s : Board). rows_at o w s.pieces) c.self.view_is)
    c.look.ensures.look
