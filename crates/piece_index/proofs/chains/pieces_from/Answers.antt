use Rattle.std.proofs.Common.{◌≡◌, ◌<◌, ◌++◌, ◌∷◌, [], List, ℕ, length, map, append_assoc, sym, ap, ◌∙◌, subst}
use Rattle.std.specs.Option.{option_and_then}
use Rattle.std.proofs.lemmas.List.{append-nil}
use Rattle.slab.specs.Slab.{slab_len}
use Rattle.cal_model.specs.declared.piece.Piece.{Piece}
use Rattle.piece_index.specs.declared.node.Node.{Node}
use Rattle.piece_index.specs.Nodes.{next}
use Rattle.piece_index.specs.Entries.{walk}
use Rattle.piece_index.specs.Walks.{IsWalked, entries_from}
use Rattle.piece_index.proofs.WalkLemmas.{walked_on, walk_shorter, entries_step, entries_at_end}
use Rattle.piece_index.proofs.chains.pieces_from.Goals as goal

pub nodes-smaller : goal.nodes-smaller
nodes-smaller c =
    let nodes = c.args.nodes.now in
    let e : next nodes c.in-Some.key ≡ c.in-Some-get.node.now.next = ap (option_and_then (λ (n : Node). n.next)) (sym c.in-Some-get.ensures) in
    let w = subst (λ x. IsWalked (next nodes) (slab_len nodes) x) c.in-Some.is c.nodes.invariant.walked in
    let shorter = walk_shorter nodes c.in-Some.key w in
    let r : length (walk (slab_len nodes) (next nodes) c.in-Some-get.node.now.next) < length (walk (slab_len nodes) (next nodes) c.nodes.at) =
    rw (c.in-Some.is, ← e) shorter in
    r

pub nodes-preserved : goal.nodes-preserved
nodes-preserved c =
    let nodes = c.args.nodes.now in
    let pieces : List (ℕ × Piece) → List Piece = map (λ (e : ℕ × Piece). e.1) in
    let e : next nodes c.in-Some.key ≡ c.in-Some-get.node.now.next = ap (option_and_then (λ (n : Node). n.next)) (sym c.in-Some-get.ensures) in
    let w = subst (λ x. IsWalked (next nodes) (slab_len nodes) x) c.in-Some.is c.nodes.invariant.walked in
    let rest = pieces (entries_from nodes c.in-Some-get.node.now.next) in
    record {
      walked = subst (λ x. IsWalked (next nodes) (slab_len nodes) x) e (walked_on (next nodes) (slab_len nodes) c.in-Some.key w);
      same =
          ap (λ (ps : List Piece). ps ++ rest) (c.in_ok-push.ensures.ok ∙ ap (λ (p : Piece). c.nodes.pieces ++ p ∷ []) c.in_ok-share.ensures)
          ∙ append_assoc c.nodes.pieces (c.in-Some-get.node.now.piece ∷ []) rest
          ∙ ap (λ (es : List (ℕ × Piece)). c.nodes.pieces ++ pieces es) (sym (entries_step nodes c.in-Some.key c.in-Some-get.node.now (sym c.in-Some-get.ensures) w))
          ∙ ap (λ at. c.nodes.pieces ++ pieces (entries_from nodes at)) (sym c.in-Some.is)
          ∙ c.nodes.invariant.same;
    }

pub returns : goal.returns
returns c =
    let nodes = c.args.nodes.now in
    let pieces : List (ℕ × Piece) → List Piece = map (λ (e : ℕ × Piece). e.1) in
    sym (append-nil c.nodes.pieces)
    ∙ ap (λ (es : List (ℕ × Piece)). c.nodes.pieces ++ pieces es) (sym (entries_at_end nodes))
    ∙ ap (λ at. c.nodes.pieces ++ pieces (entries_from nodes at)) (sym c.in_default.is)
    ∙ c.nodes.invariant.same
