use Rattle.std.proofs.Common.{◌≡◌, ◌++◌, ℕ, length, map}
use Rattle.slab.specs.Slab.{slab_len}
use Rattle.cal_model.specs.declared.piece.Piece.{Piece}
use Rattle.piece_index.specs.Nodes.{next}
use Rattle.piece_index.specs.Entries.{walk}
use Rattle.piece_index.specs.Walks.{IsWalked, entries_from}
use Rattle.piece_index.proofs.chains.pieces_from.Given as goal

-- what was shared, and what is left to share
abbrev pub invariant-nodes : goal.invariant-nodes
invariant-nodes l = record {
  walked : IsWalked (next l.nodes) (slab_len l.nodes) l.at;
  same : l.pieces ++ map (λ (e : ℕ × Piece). e.1) (entries_from l.nodes l.at) ≡ map (λ (e : ℕ × Piece). e.1) (entries_from l.nodes l.fn.first);
}

abbrev pub decreases-nodes : goal.decreases-nodes
decreases-nodes l = length (walk (slab_len l.nodes) (next l.nodes) l.at)
