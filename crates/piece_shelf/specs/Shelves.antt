-- Pieces by origin, in pages of 256 slots one behind another: the slot of an object has its pieces.
-- Given: pieces. How many there may be is not said here.
use Rattle.std.specs.Prelude.{ℕ, ℤ, ◌/◌, ◌%◌, List, [], slice_index_or, Option}
use Rattle.cal_model.specs.declared.piece.Piece.{Piece}
use Rattle.cal_model.specs.declared.row.Row.{Row}
use Rattle.cal_model.specs.Pieces.PieceLists.{rows_at}

-- the pieces in the slot of an object, none where there is no such slot
abbrev pub slot_of : List (List (List Piece)) → ℕ → List Piece
slot_of pages origin = slice_index_or (slice_index_or pages (origin / 256) []) (origin % 256) []

-- the rows of an object in a window, where its slot has a piece of them
abbrev pub held_on : List (List (List Piece)) → ℕ → ℤ → Option (List Row)
held_on pages origin window = rows_at origin window (slot_of pages origin)
