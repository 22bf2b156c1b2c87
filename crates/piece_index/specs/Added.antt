-- What each answer of `add` says of the index before and after it.
use Rattle.std.specs.Prelude.{◌≡◌, ◌-◌, ◌<◌, ◌≤◌, [], ◌∷◌, ◌++◌, length}
use Rattle.cal_model.specs.declared.piece.Piece.{Piece}
use Rattle.piece_index.specs.declared.index.Added.{Added}
use Rattle.piece_index.specs.declared.index.Added.TheVariants.{Done, Full, NoMemory}
use Rattle.cal_model.specs.Pieces.KeptPieces.{KeptPieces}
use Rattle.cal_model.specs.Pieces.PieceLists.{newest_within}

-- after the pieces that still fit beside the new one comes the new one; a piece that alone is too large changes nothing, and so
-- does want of memory
abbrev pub IsAdded : KeptPieces → Piece → KeptPieces → Added → Type 0
IsAdded old piece new Done =
    (length piece.rows ≤ old.budget)
    × (new ≡ record old { pieces = newest_within (old.budget - length piece.rows) old.pieces ++ piece ∷ [] })
IsAdded old piece new (Full back) = (old.budget < length piece.rows) × (back ≡ piece) × (new ≡ old)
IsAdded old piece new (NoMemory back) = (length piece.rows ≤ old.budget) × (back ≡ piece) × (new ≡ old)
