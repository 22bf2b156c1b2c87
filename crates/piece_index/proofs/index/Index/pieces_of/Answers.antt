use Rattle.std.proofs.Common.{◌≡◌, ◌∙◌, ap, map, filter, ℕ, ℤ, List}
use Rattle.std.proofs.lemmas.Result.{IfOk-weaker}
use Rattle.cal_model.specs.declared.piece.Piece.{Piece}
use Rattle.cal_model.specs.Pieces.PieceLists.{rows_at}
use Rattle.piece_index.specs.Entries.{is_of}
use Rattle.piece_index.proofs.PieceLemmas.{rows_at_reversed}
use Rattle.piece_index.proofs.WalkLemmas.{rows_of_own}
use Rattle.piece_index.proofs.index.Index.pieces_of.Goals as goal

pub returns : goal.returns
returns c =
    let own : List Piece = map (λ (e : ℕ × Piece). e.1) (filter (is_of c.args.origin) c.self.inside.chains) in
    IfOk-weaker c.pieces_of.result (λ pieces. pieces ≡ own) (λ pieces. (w : ℤ) → rows_at c.args.origin w pieces ≡ rows_at c.args.origin w c.args.self.now.pieces)
    (λ (pieces : List Piece) is (w : ℤ).
    ap (rows_at c.args.origin w) is
    ∙ rows_of_own c.args.origin w c.self.inside.chains
    ∙ rows_at_reversed c.args.origin w c.self.inside.chains c.self.invariant.0.apart
    ∙ ap (λ s. rows_at c.args.origin w s.pieces) c.self.view_is)
    c.pieces_of.ensures
