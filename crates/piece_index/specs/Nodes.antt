-- What stands in the nodes of a slab, and what taking one out does to its neighbours.
use Rattle.std.specs.Prelude.{ℕ, ◌==◌, if◌then◌else◌, Option, Some, None}
use Rattle.std.specs.Option.{option_map, option_and_then}
use Rattle.slab.specs.Slab.{Slab, get}
use Rattle.piece_index.specs.declared.node.Node.{Node}
use Rattle.cal_model.specs.declared.piece.Piece.{Piece}

-- a neighbour of the node j after a write at a node, if any
abbrev pub spliced : Option ℕ → ℕ → Option ℕ → Option ℕ → Option ℕ
spliced None j written before = before
spliced (Some at) j written before = if at == j then written else before

-- a node j after another was taken out: where it was a neighbour of that one, it is one of the neighbour beyond it
abbrev pub closed : Node → ℕ → Node → Node
closed gone j node =
    record {
      piece = node.piece;
      older = spliced gone.newer j gone.older node.older;
      newer = spliced gone.older j gone.newer node.newer;
      previous = spliced gone.next j gone.previous node.previous;
      next = spliced gone.previous j gone.next node.next;
    }

abbrev pub older : Slab Node → ℕ → Option ℕ
older nodes k = option_and_then (λ node. node.older) (get nodes k)

abbrev pub newer : Slab Node → ℕ → Option ℕ
newer nodes k = option_and_then (λ node. node.newer) (get nodes k)

abbrev pub previous : Slab Node → ℕ → Option ℕ
previous nodes k = option_and_then (λ node. node.previous) (get nodes k)

abbrev pub next : Slab Node → ℕ → Option ℕ
next nodes k = option_and_then (λ node. node.next) (get nodes k)

abbrev pub piece_at : Slab Node → ℕ → Option Piece
piece_at nodes k = option_map (λ node. node.piece) (get nodes k)

-- a node j after its neighbour was written if it is the node `at`

abbrev pub with_older : Option ℕ → Option ℕ → ℕ → Node → Node
with_older at written j node = record node { older = spliced at j written node.older }

abbrev pub with_newer : Option ℕ → Option ℕ → ℕ → Node → Node
with_newer at written j node = record node { newer = spliced at j written node.newer }

abbrev pub with_previous : Option ℕ → Option ℕ → ℕ → Node → Node
with_previous at written j node = record node { previous = spliced at j written node.previous }

abbrev pub with_next : Option ℕ → Option ℕ → ℕ → Node → Node
with_next at written j node = record node { next = spliced at j written node.next }
