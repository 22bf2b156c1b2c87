-- What contracts see of a book.
-- Given: the users, and what claims depend on, whose journal says all that the server holds.
use Rattle.std.specs.Prelude.{◌≡◌, ℕ, List, nat_le, min, if◌then◌else◌, Some}
use Rattle.std.specs.List.{AllByRecursion}
use Rattle.cal_model.specs.History.Claims.{Work}
use Rattle.cal_model.specs.History.Journal.{Entry, IsLegal}
use Rattle.cal_model.specs.History.LiveObjects.{Placed, live_at}
use Rattle.cal_model.specs.History.RightPieces.{IsRight}
use Rattle.cal_model.specs.Pieces.KeptPieces.{IsWithinBudget}
use Rattle.cal_model.specs.State.ServerState.{Directory, ServerState, directory_of, octets_at}
use Rattle.cal_model.specs.State.SoundStates.{IsSound}
use Rattle.cal_model.specs.Users.UsersFile.{Users}
use Rattle.cal_book.specs.EventSteps.{state_behind}

-- the users; the journal, the pieces and the claims; and for how many deletions there is room
pub record Core : Type 0 where
  pub users : Users
  pub work : Work
  pub spare : ℕ

abbrev pub directory_in : Core → Directory
directory_in core = directory_of core.users

abbrev pub state_in : Core → ServerState
state_in core = state_behind core.users core.work.journal

-- the most rows that the pieces have in all
abbrev pub rows_limit : ℕ
rows_limit = 4_000_000

-- the octets of an object that the journal made and that is still there are those that a state has at its place
abbrev pub HasLiveOctets : List Entry → ServerState → Type 0
HasLiveOctets journal state = (n : ℕ) (placed : Placed) → live_at journal n ≡ Some placed → octets_at state placed.home placed.calendar placed.object ≡ Some placed.octets

-- What holds of each book: its journal is legal, and the state that it leads to is sound, so that each object can be served and each grant is to a user; its pieces are right, which are those of objects that the state has,
-- and no two are of one object and window.
pub record IsRightCore (core : Core) : Type 0 where
  pub legal : IsLegal (directory_in core) core.work.journal
  pub sound : IsSound (directory_in core) (state_in core)
  pub live : HasLiveOctets core.work.journal (state_in core)
  pub right : AllByRecursion (IsRight core.work.journal) core.work.pieces
  pub within : IsWithinBudget (record { budget = rows_limit; pieces = core.work.pieces })

-- the room of a need-privileges reply
abbrev pub reply_room : ℕ
reply_room = 4096

-- for how many deletions there is room, by the room for entries of both and that for a reply
abbrev pub spare_of : ℕ → ℕ → ℕ → ℕ
spare_of entries places room = if nat_le reply_room room then min entries places else 0
