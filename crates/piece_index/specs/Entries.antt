-- The entries of an index, each a node's number and its piece, the newest first; and how the nodes show them.
use Rattle.std.specs.Prelude.{◌≡◌, ◌≢◌, ℕ, zero, suc, ◌+◌, Bool, ◌==◌, if◌then◌else◌, List, [], ◌∷◌, ◌++◌, map, filter, filter_map, length, Option, Some, None}
use Rattle.std.specs.Option.{option_map}
use Rattle.std.specs.List.{AllByRecursion, last_or}
use Rattle.slab.specs.Slab.{Slab, get, slab_len}
use Rattle.piece_index.specs.declared.node.Node.{Node}
use Rattle.cal_model.specs.declared.piece.Piece.{Piece}
use Rattle.piece_index.specs.Nodes.{older, newer, previous, next, piece_at, spliced, closed}
use Rattle.piece_index.specs.Chains.{first, IsApart, IsMutual, IsChain}

abbrev pub keys : List (ℕ × Piece) → List ℕ
keys entries = map (λ (e : ℕ × Piece). e.0) entries

abbrev pub is_of : ℕ → ℕ × Piece → Bool
is_of origin e = e.1.origin == origin

-- the numbers of the nodes of an object, the newest first
abbrev pub keys_of : ℕ → List (ℕ × Piece) → List ℕ
keys_of origin entries = keys (filter (is_of origin) entries)

abbrev pub piece_of : ℕ → List (ℕ × Piece) → Option Piece
piece_of k [] = None
piece_of k (e ∷ es) = if e.0 == k then Some e.1 else piece_of k es

abbrev pub removed : ℕ → List (ℕ × Piece) → List (ℕ × Piece)
removed k [] = []
removed k (e ∷ es) = if e.0 == k then es else e ∷ removed k es

-- so many numbers along the links, from one on
abbrev pub walk : ℕ → (ℕ → Option ℕ) → Option ℕ → List ℕ
walk zero after at = []
walk (suc n) after None = []
walk (suc n) after (Some k) = k ∷ walk n after (after k)

abbrev pub entry_at : Slab Node → ℕ → Option (ℕ × Piece)
entry_at nodes k = option_map (λ piece. (k, piece)) (piece_at nodes k)

-- the entries along the chain by age
abbrev pub entries_of : Slab Node → Option ℕ → List (ℕ × Piece)
entries_of nodes newest = filter_map (entry_at nodes) (walk (slab_len nodes) (older nodes) newest)

-- a node j after the node k was put before a newest and before a first of its object
abbrev pub joined : ℕ → Option ℕ → Option ℕ → ℕ → Node → Node
joined k newest first_one j node =
    record {
      piece = node.piece;
      older = node.older;
      newer = spliced newest j (Some k) node.newer;
      previous = spliced first_one j (Some k) node.previous;
      next = node.next;
    }

abbrev pub or_else : Option ℕ → ℕ → Option ℕ
or_else None k = Some k
or_else (Some x) k = Some x

-- Both chains visit their nodes once each, back links agree with forward links, and the map and the ends lead to the right nodes.
pub record IsIndexed (nodes : Slab Node) (first_of : ℕ → Option ℕ) (newest oldest : Option ℕ) (entries : List (ℕ × Piece)) : Type 0 where
  pub apart : IsApart (keys entries)
  pub pieces : AllByRecursion (λ (e : ℕ × Piece). piece_at nodes e.0 ≡ Some e.1) entries
  pub by_age : IsChain (newer nodes) (older nodes) (keys entries)
  pub ages_agree : IsMutual (newer nodes) (older nodes)
  pub by_object : (o : ℕ) → IsChain (previous nodes) (next nodes) (keys_of o entries)
  pub objects_agree : IsMutual (previous nodes) (next nodes)
  pub firsts : (o : ℕ) → first_of o ≡ first (keys_of o entries)
  pub newest_is : newest ≡ first (keys entries)
  pub oldest_is : oldest ≡ last_or None (keys entries)
  pub size : slab_len nodes ≡ length entries

-- the node k was taken out, and its neighbours were linked with one another
pub record IsTaken (old new : Slab Node) (k : ℕ) (gone : Node) : Type 0 where
  pub was : get old k ≡ Some gone
  pub is_gone : get new k ≡ None
  pub others : (j : ℕ) → j ≢ k → get new j ≡ option_map (closed gone j) (get old j)
  pub size : slab_len new + 1 ≡ slab_len old

-- a node was put at k, before the newest and the first of its object
pub record IsPut (old new : Slab Node) (k : ℕ) (node : Node) : Type 0 where
  pub was_vacant : get old k ≡ None
  pub put : node.older ≢ Some k → node.next ≢ Some k → get new k ≡ Some node
  pub others : (j : ℕ) → j ≢ k → get new j ≡ option_map (joined k node.older node.next j) (get old j)
  pub size : slab_len new ≡ slab_len old + 1

-- the pieces of some entries, which stand from the newest to the oldest
abbrev pub pieces_of : List (ℕ × Piece) → List Piece
pieces_of [] = []
pieces_of (e ∷ es) = pieces_of es ++ e.1 ∷ []

-- one piece was taken out
pub record IsOneOut (piece : Piece) (old new : List Piece) : Type 0 where
  pub before : List Piece
  pub after : List Piece
  pub was : old ≡ before ++ piece ∷ after
  pub left : new ≡ before ++ after
