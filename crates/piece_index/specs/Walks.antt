-- Going along the chain of an object to the piece of a window.
use Rattle.std.specs.Prelude.{◌≡◌, ℕ, ℤ, if◌then◌else◌, List, [], ◌∷◌, filter_map, Option, Some, None}
use Rattle.std.specs.Ordering.{int_eq}
use Rattle.slab.specs.Slab.{Slab, slab_len}
use Rattle.piece_index.specs.declared.node.Node.{Node}
use Rattle.cal_model.specs.declared.piece.Piece.{Piece}
use Rattle.cal_model.specs.declared.row.Row.{Row}
use Rattle.piece_index.specs.Chains.{first, IsPath}
use Rattle.piece_index.specs.Nodes.{next}
use Rattle.piece_index.specs.Entries.{walk, entry_at}

-- so many steps from a number on come to the end of the chain
pub record IsWalked (after : ℕ → Option ℕ) (n : ℕ) (at : Option ℕ) : Type 0 where
  pub start : at ≡ first (walk n after at)
  pub path : IsPath after (walk n after at)

-- the rows of the first entry of a window
abbrev pub rows_of_window : ℤ → List (ℕ × Piece) → Option (List Row)
rows_of_window window [] = None
rows_of_window window (e ∷ es) = if int_eq e.1.window window then Some e.1.rows else rows_of_window window es

-- the entries from a node on, along its object's chain
abbrev pub entries_from : Slab Node → Option ℕ → List (ℕ × Piece)
entries_from nodes at = filter_map (entry_at nodes) (walk (slab_len nodes) (next nodes) at)
