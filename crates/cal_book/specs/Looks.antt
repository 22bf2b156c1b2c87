-- A look: what a book shows at one journal. Requests that only read are answered from it while the book goes on.
-- Given: what contracts see of a look; and of the book that it was taken of, with the event that it was taken for.
use Rattle.std.specs.Prelude.{◌≡◌, ◌≤◌, ℕ, true, List, ℤ}
use Rattle.cal_model.specs.declared.piece.Piece.{Piece}
use Rattle.cal_model.specs.declared.request.Event.{Event}
use Rattle.cal_model.specs.History.Origins.{Origins, AreLive}
use Rattle.cal_model.specs.Pieces.PieceLists.{rows_at}
use Rattle.cal_model.specs.Serving.Outcomes.{is_reading}
use Rattle.cal_model.specs.State.ServerState.{Directory, ServerState, directory_of}
use Rattle.cal_model.specs.Users.UsersFile.{Users}
use Rattle.collections.specs.Kept.{Kept, users_of, state_of, origins_of}
use Rattle.cal_book.specs.Answering.ReadingCost.{reading_cost}
use Rattle.cal_book.specs.Cores.{Core, directory_in, state_in}
use Rattle.dav_reports.specs.CalendarObjects.{AreHeldRight}
use Rattle.dav_reports.specs.PieceRows.{Held}
use Rattle.piece_shelf.specs.Shelves.{held_on}

-- the users; the state that is shown, with the origins of its objects; the shelf of the pieces that are held of them; and the greatest moment that was counted
pub record Sight : Type 0 where
  pub users : Users
  pub kept : Kept
  pub shelf : List (List (List Piece))
  pub latest : ℤ

abbrev pub look_directory : Sight → Directory
look_directory look = directory_of look.users

abbrev pub look_state : Sight → ServerState
look_state look = state_of look.kept

abbrev pub look_origins : Sight → Origins
look_origins look = origins_of look.kept

abbrev pub look_held : Sight → Held
look_held look = held_on look.shelf

-- the rows that some pieces hold
abbrev pub held_in : List Piece → Held
held_in pieces origin window = rows_at origin window pieces

-- What holds of each look: its state is one of its users, and what is held of an object are its rows.
pub record IsLook (users : Users) (kept : Kept) (held : Held) : Type 0 where
  pub same : users_of kept ≡ directory_of users
  pub right : (home : ℕ) (calendar : List ℕ) → AreHeldRight held (origins_of kept) (state_of kept) home calendar

-- The look is for an event that only reads, and at the journal of this book: it shows the state to which that leads, whatever becomes of the book; and to answer the event from it costs no more than to ask the book, since it holds the pieces that the book has.
pub record IsLookAt (core : Core) (event : Event) (look : Sight) : Type 0 where
  pub reads : is_reading event.request.method ≡ true
  pub users : look.users ≡ core.users
  pub state : look_state look ≡ state_in core
  pub origins : AreLive core.work.journal (look_origins look)
  pub cost : reading_cost (look_held look) (look_origins look) (directory_in core) (state_in core) event ≤ reading_cost (held_in core.work.pieces) (look_origins look) (directory_in core) (state_in core) event
  pub latest : look.latest ≡ core.work.latest
