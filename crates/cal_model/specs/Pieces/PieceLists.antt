-- A list of pieces from the oldest to the newest: which piece is of an object, what is found, how many rows there are, and what is left where the oldest go.
-- Of the store and of what the rows are nothing is said here.
use Rattle.std.specs.Prelude.{◌≡◌, ℕ, ℤ, ◌+◌, Bool, not, ◌&&◌, ◌==◌, nat_le, if◌then◌else◌, List, [], ◌∷◌, length, Option, Some, None}
use Rattle.std.specs.Ordering.{int_eq}
use Rattle.cal_model.specs.declared.piece.Piece.{Piece}
use Rattle.cal_model.specs.declared.row.Row.{Row}

-- whether a piece is of an object, is of another, and is the object's piece in a window

abbrev pub is_piece_of : ℕ → Piece → Bool
is_piece_of origin piece = piece.origin == origin

abbrev pub is_other_piece : ℕ → Piece → Bool
is_other_piece origin piece = not (is_piece_of origin piece)

abbrev pub is_piece_at : ℕ → ℤ → Piece → Bool
is_piece_at origin window piece = is_piece_of origin piece && int_eq piece.window window

-- the rows of the piece of an object in a window
abbrev pub rows_at : ℕ → ℤ → List Piece → Option (List Row)
rows_at origin window [] = None
rows_at origin window (piece ∷ pieces) = if is_piece_at origin window piece then Some piece.rows else rows_at origin window pieces

-- no two pieces of one object and window
abbrev pub ArePairsApart : List Piece → Type 0
ArePairsApart [] = Unit {0}
ArePairsApart (piece ∷ pieces) = (rows_at piece.origin piece.window pieces ≡ None) × ArePairsApart pieces

-- how many rows the pieces have in all
abbrev pub rows_in : List Piece → ℕ
rows_in [] = 0
rows_in (piece ∷ pieces) = length piece.rows + rows_in pieces

-- the longest end of the list with at most so many rows: as few of the oldest as make room are gone
abbrev pub newest_within : ℕ → List Piece → List Piece
newest_within room [] = []
newest_within room (piece ∷ pieces) = if nat_le (rows_in (piece ∷ pieces)) room then piece ∷ pieces else newest_within room pieces
