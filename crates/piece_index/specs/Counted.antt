-- What an index keeps of its list of pieces.
use Rattle.std.specs.Prelude.{◌≡◌, ℕ, ◌≤◌, List}
use Rattle.cal_model.specs.declared.piece.Piece.{Piece}
use Rattle.cal_model.specs.Pieces.PieceLists.{rows_in, ArePairsApart}

-- how many rows they have, which are no more than the budget; and each object and window at most once
pub record IsCounted (rows budget : ℕ) (pieces : List Piece) : Type 0 where
  pub counted : rows ≡ rows_in pieces
  pub fits : rows ≤ budget
  pub apart : ArePairsApart pieces
