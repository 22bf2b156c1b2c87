-- Which pieces of expanded recurrence are right, and which stay. A piece is the rows of one object in one window of 64 days; no standard speaks of pieces, and no reply depends on which of them are kept.
-- Given: a journal, and pieces. How a list of pieces is kept within its budget is chapter Pieces.
use Rattle.std.specs.Prelude.{◌≡◌, Bool, List, filter, is_some, Some, Ok}
use Rattle.cal_model.specs.declared.object.Object.{Object}
use Rattle.cal_model.specs.declared.piece.Piece.{Piece}
use Rattle.cal_model.specs.Instances.Rows.{rows_in}
use Rattle.cal_model.specs.Objects.ObjectReading.{read_object}
use Rattle.cal_model.specs.History.Journal.{Entry}
use Rattle.cal_model.specs.History.LiveObjects.{Placed, live_at}

-- A piece is right: its object is still the one that its entry made, and its rows are those of the object in its window.
pub record IsRight (journal : List Entry) (piece : Piece) : Type 0 where
  pub placed : Placed
  pub live : live_at journal piece.origin ≡ Some placed
  pub object : Object
  pub reading : read_object placed.octets ≡ Ok object
  pub rows : piece.rows ≡ rows_in object piece.window

-- the pieces whose objects the journal still has: those that stay after a request, in their order
abbrev pub is_live : List Entry → Piece → Bool
is_live journal piece = is_some (live_at journal piece.origin)

abbrev pub live_pieces : List Entry → List Piece → List Piece
live_pieces journal pieces = filter (is_live journal) pieces
