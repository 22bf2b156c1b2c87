-- What stands on the shelf beside the index.
use Rattle.std.specs.Prelude.{◌≡◌, ◌≢◌, ℕ, ℤ, ◌≤◌, nat_lt, if◌then◌else◌, List, Option, None, IfSome}
use Rattle.cal_model.specs.declared.piece.Piece.{Piece}
use Rattle.cal_model.specs.Pieces.PieceLists.{rows_at}
use Rattle.piece_shelf.specs.Shelves.{held_on}

-- a shelf has the pieces of the objects of the first so many entries, and no others
abbrev pub IsFilled : ℕ → List Piece → List (List (List Piece)) → Type 0
IsFilled filled pieces shelf = (o : ℕ) (w : ℤ) → held_on shelf o w ≡ (if nat_lt o filled then rows_at o w pieces else None)

-- pieces changed at one object alone
abbrev pub AreSameBut : ℕ → List Piece → List Piece → Type 0
AreSameBut origin before pieces = (o : ℕ) (w : ℤ) → o ≢ origin → rows_at o w pieces ≡ rows_at o w before

-- where there is a shelf, it has the pieces of the first so many of the entries
pub record AreShelved (shelf : Option (List (List (List Piece)))) (filled entries : ℕ) (pieces : List Piece) : Type 0 where
  pub within : filled ≤ entries
  pub filled_to : IfSome shelf (IsFilled filled pieces)
