use Rattle.std.proofs.Common.{◌≡◌, ℕ, List, map, filter, IfOk, sym, ap, ◌∙◌, subst}
use Rattle.slab.specs.Slab.{slab_len}
use Rattle.cal_model.specs.declared.piece.Piece.{Piece}
use Rattle.piece_index.specs.Nodes.{next}
use Rattle.piece_index.specs.Entries.{is_of}
use Rattle.piece_index.specs.Walks.{IsWalked, entries_from}
use Rattle.piece_index.specs.Firsts.{first_at}
use Rattle.piece_index.proofs.WalkLemmas.{walked_object, entries_found}
use Rattle.piece_index.proofs.chains.Chains.pieces_of.Goals as goal

pub pieces_from-requires : goal.pieces_from-requires
pieces_from-requires c =
    let e : c.copied-first.result ≡ first_at c.self.inside.firsts c.args.origin = c.copied-first.ensures ∙ c.get.ensures.value in
    subst (λ x. IsWalked (next c.self.inside.nodes) (slab_len c.self.inside.nodes) x) (sym e)
    (walked_object c.self.inside.nodes (first_at c.self.inside.firsts) c.self.inside.newest c.self.inside.oldest _ c.self.invariant c.args.origin)

pub returns : goal.returns
returns c =
    let e : c.copied-first.result ≡ first_at c.self.inside.firsts c.args.origin = c.copied-first.ensures ∙ c.get.ensures.value in
    let pieces : List (ℕ × Piece) → List Piece = map (λ (e : ℕ × Piece). e.1) in
    subst (λ (ps : List Piece). IfOk c.pieces_from.result (λ pieces. pieces ≡ ps))
    (ap (λ x. pieces (entries_from c.self.inside.nodes x)) e
    ∙ ap pieces (entries_found c.self.inside.nodes (first_at c.self.inside.firsts) c.self.inside.newest c.self.inside.oldest _ c.self.invariant c.args.origin)
    ∙ ap (λ (es : List (ℕ × Piece)). pieces (filter (is_of c.args.origin) es)) c.self.view_is) c.pieces_from.ensures
