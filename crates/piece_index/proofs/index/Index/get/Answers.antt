use Rattle.std.proofs.Common.{◌≡◌, ◌⊎◌, ◌∙◌, sym, ap, map, ℕ, of_z, to_z, w32, inl, inr, ◌<ℤ◌, arith}
use Rattle.std.proofs.lemmas.Int.{ints}
use Rattle.std.proofs.lemmas.Int.{to_z-of_z}
use Rattle.cal_model.specs.declared.piece.Piece.{Piece}
use Rattle.cal_model.specs.Pieces.PieceLists.{rows_at}
use Rattle.piece_index.proofs.PieceLemmas.{rows_at_reversed}
use Rattle.piece_index.proofs.BoundLemmas.{none_outside}
use Rattle.piece_index.proofs.index.Index.get.Goals as goal
use Rattle.piece_index.proofs.index.Index.get.Goals.{then-window-self-via-then-window-self, then-window-self-via-else-window-self+then-window-self-2}

outside : (c : goal.Joined-then-window-self) → (c.args.window <ℤ c.self.inside.least_window) ⊎ (c.self.inside.greatest_window <ℤ c.args.window)
outside c =
    elim c.then-window-self.branch [
      | then-window-self-via-then-window-self w ↦ let test = w.if-window-self.true in inl (omega (arith, ints, test))
      | then-window-self-via-else-window-self+then-window-self-2 w ↦ let test = w.if-window-self-2.true in inr (omega (arith, ints, test))
    ]

pub returns-then-window-self : goal.returns-then-window-self
returns-then-window-self c =
    sym (ap (λ s. rows_at c.args.origin c.args.window s.pieces) (sym c.self.view_is) ∙ none_outside c.args.origin c.args.window c.self.inside.least_window c.self.inside.greatest_window _ (outside c) c.self.invariant.1)

pub returns : goal.returns
returns c =
    let whole : to_z w32 (of_z w32 c.args.window) ≡ c.args.window = to_z-of_z w32 c.args.window c.ranges.window in
    c.find.ensures
    ∙ ap (λ w. rows_at c.args.origin w (map (λ (e : ℕ × Piece). e.1) c.self.inside.chains)) whole
    ∙ rows_at_reversed c.args.origin c.args.window c.self.inside.chains c.self.invariant.0.apart
    ∙ ap (λ s. rows_at c.args.origin c.args.window s.pieces) c.self.view_is
