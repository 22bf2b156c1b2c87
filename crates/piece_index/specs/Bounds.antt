-- Between which windows the pieces of an index lie.
use Rattle.std.specs.Prelude.{ℤ, ◌≤ℤ◌, List}
use Rattle.std.specs.List.{AllByRecursion}
use Rattle.cal_model.specs.declared.piece.Piece.{Piece}

abbrev pub IsBetween : ℤ → ℤ → Piece → Type 0
IsBetween least greatest piece = (least ≤ℤ piece.window) × (piece.window ≤ℤ greatest)

abbrev pub AreBetween : ℤ → ℤ → List Piece → Type 0
AreBetween least greatest pieces = AllByRecursion (IsBetween least greatest) pieces
