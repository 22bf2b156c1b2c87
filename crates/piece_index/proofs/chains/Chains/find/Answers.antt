use Rattle.std.proofs.Common.{◌≡◌, ℕ, of_z, to_z, w32, sym, ap, ◌∙◌, subst, map}
use Rattle.std.proofs.lemmas.Int.{to_z-of_z}
use Rattle.slab.specs.Slab.{slab_len}
use Rattle.cal_model.specs.declared.piece.Piece.{Piece}
use Rattle.piece_index.specs.Nodes.{next}
use Rattle.piece_index.specs.Walks.{IsWalked, rows_of_window, entries_from}
use Rattle.cal_model.specs.Pieces.PieceLists.{rows_at}
use Rattle.piece_index.specs.Firsts.{first_at}
use Rattle.piece_index.proofs.WalkLemmas.{walked_object, rows_found}
use Rattle.piece_index.proofs.chains.Chains.find.Goals as goal

pub rows_from-requires : goal.rows_from-requires
rows_from-requires c =
    let e : c.copied-first.result ≡ first_at c.self.inside.firsts c.args.origin = c.copied-first.ensures ∙ c.get.ensures.value in
    subst (λ x. IsWalked (next c.self.inside.nodes) (slab_len c.self.inside.nodes) x) (sym e)
    (walked_object c.self.inside.nodes (first_at c.self.inside.firsts) c.self.inside.newest c.self.inside.oldest _ c.self.invariant c.args.origin)

pub returns : goal.returns
returns c =
    let e : c.copied-first.result ≡ first_at c.self.inside.firsts c.args.origin = c.copied-first.ensures ∙ c.get.ensures.value in
    let whole : to_z w32 (of_z w32 c.args.window) ≡ c.args.window = to_z-of_z w32 c.args.window c.ranges.window in
    c.rows_from.ensures
    ∙ ap (λ w. rows_of_window w (entries_from c.self.inside.nodes c.copied-first.result)) whole
    ∙ ap (λ x. rows_of_window c.args.window (entries_from c.self.inside.nodes x)) e
    ∙ rows_found c.self.inside.nodes (first_at c.self.inside.firsts) c.self.inside.newest c.self.inside.oldest _ c.self.invariant c.args.origin c.args.window
    ∙ ap (λ es. rows_at c.args.origin c.args.window (map (λ (e : ℕ × Piece). e.1) es)) c.self.view_is
