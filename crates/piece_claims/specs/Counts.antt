-- How many rows the pieces have in each window of the horizon.
use Rattle.std.specs.Prelude.{◌≡◌, ℕ, zero, suc, ◌+◌, ◌<◌, List, [], ◌∷◌, length, slice_index_or, Option, Some, None, if◌then◌else◌, ℤ, pos, ◌+ℤ◌}
use Rattle.std.specs.Ordering.{int_eq}
use Rattle.cal_model.specs.declared.piece.Piece.{Piece}
use Rattle.cal_model.specs.declared.row.Row.{Row}
use Rattle.cal_model.specs.Pieces.PieceLists.{rows_at}
use Rattle.piece_claims.specs.Lanes.{windows}

-- the count of the window k
abbrev pub count_at : List ℕ → ℕ → ℕ
count_at counts k = slice_index_or counts k 0

-- the rows of a window, so many as come, where it is this one
abbrev pub rows_if : ℤ → ℤ → ℕ → ℕ
rows_if this window rows = if int_eq window this then rows else 0

-- the rows of all pieces of a window
abbrev pub rows_of_window : ℤ → List Piece → ℕ
rows_of_window window [] = 0
rows_of_window window (piece ∷ pieces) = rows_if window piece.window (length piece.rows) + rows_of_window window pieces

-- the rows of the piece of an object in a window, none without a piece
abbrev pub size : Option (List Row) → ℕ
size None = 0
size (Some rows) = length rows

abbrev pub size_at : ℕ → ℤ → List Piece → ℕ
size_at origin window pieces = size (rows_at origin window pieces)

-- the rows of the pieces of so many objects in a window
abbrev pub sizes_to : ℕ → ℤ → List Piece → ℕ
sizes_to zero window pieces = 0
sizes_to (suc n) window pieces = sizes_to n window pieces + size_at n window pieces

-- the counts are those of the windows, from the first on
abbrev pub AreCounts : List ℕ → ℤ → List Piece → Type 0
AreCounts counts from pieces = (k : ℕ) → k < windows → count_at counts k ≡ rows_of_window (from +ℤ pos k) pieces

-- the rows of one window more
abbrev pub HasMoreIn : List ℕ → List ℕ → ℤ → ℤ → ℕ → Type 0
HasMoreIn old new from window rows = (k : ℕ) → k < windows → count_at new k ≡ count_at old k + rows_if (from +ℤ pos k) window rows

-- the rows of the pieces of one object more
abbrev pub HasMoreOf : List ℕ → List ℕ → ℤ → ℕ → List Piece → Type 0
HasMoreOf old new from origin pieces = (k : ℕ) → k < windows → count_at new k ≡ count_at old k + size_at origin (from +ℤ pos k) pieces
