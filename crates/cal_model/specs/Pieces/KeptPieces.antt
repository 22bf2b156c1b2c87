-- The pieces that are kept within a budget of rows.
use Rattle.std.specs.Prelude.{ℕ, ◌≤◌, List}
use Rattle.cal_model.specs.declared.piece.Piece.{Piece}
use Rattle.cal_model.specs.Pieces.PieceLists.{rows_in, ArePairsApart}

-- the pieces from the oldest to the newest, and how many rows they may have in all
pub record KeptPieces : Type 0 where
  pub budget : ℕ
  pub pieces : List Piece

-- at most one piece of each object and window, and no more rows than the budget
pub record IsWithinBudget (kept : KeptPieces) : Type 0 where
  pub apart : ArePairsApart kept.pieces
  pub fits : rows_in kept.pieces ≤ kept.budget
