-- How a server at a journal file ends, and what it leaves.
-- Given: the users, and what the disk tells of its file.
use Rattle.std.specs.Prelude.{◌≡◌, ◌⊎◌, ◌++◌, ℕ, Bool, true, false, List, Option, IfSome, Result, Ok, Err}
use Rattle.cal_model.specs.History.Journal.{Entry, IsLegal}
use Rattle.cal_model.specs.State.ServerState.{directory_of}
use Rattle.cal_model.specs.Users.UsersFile.{Users}
use Rattle.cal_keeper.specs.Disks.CrashModel.{Past}
use Rattle.cal_session.specs.KeptBooks.{LeavesAllOrButLast}
use Rattle.caldav_server.specs.KeptRuns.{StoodFor, IsKeptWith}
use Rattle.caldav_server.specs.ServeEnds.{IsServeStatus, IsServedStatus}
use Rattle.caldav_server.specs.declared.threads.NotServed.{NotServed}
use Rattle.caldav_server.specs.declared.threads.NotServed.TheVariants.{Door}

-- The file that a server leaves at a status: it is kept for a legal journal; at 8, where a call of the disk failed, each crash leaves one that stands for all of the journal or for all but its last entry.
pub record LeavesJournal (users : Users) (journal : List Entry) (status : ℕ) (told : Option Past) : Type 0 where
  pub legal : IsLegal (directory_of users) journal
  pub whole : (status ≡ 8 → ⊥) → IsKeptWith users journal told
  pub broken : status ≡ 8 → IfSome told (LeavesAllOrButLast users journal)

-- The same of a journal that goes on from another.
abbrev pub LeavesMore : Users → List Entry → ℕ → Option Past → Type 0
LeavesMore users journal status told = (more : List Entry) × LeavesJournal users (journal ++ more) status told

-- A server began with a journal for which the file stood, and leaves a file that has one which goes on from it.
pub record ServedFrom (users : Users) (status : ℕ) (told now : Option Past) : Type 0 where
  pub journal : List Entry
  pub stood : StoodFor users journal told
  pub leaves : LeavesMore users journal status now

-- The status of a server behind its journal, by whether its book is broken, and else by how it ended.
abbrev pub served_status : {T : Type 0} → Bool → Result T NotServed → ℕ
served_status true served = 8
served_status false (Ok done) = 0
served_status false (Err Door) = 4
served_status false (Err other) = 7

-- those that come behind the journal, 8 where a call of the disk failed; and all, with 9 where the file is refused
abbrev pub IsKeptServedStatus : ℕ → Type 0
IsKeptServedStatus status = IsServedStatus status ⊎ (status ≡ 8)

abbrev pub IsKeptServeStatus : ℕ → Type 0
IsKeptServeStatus status = IsServeStatus status ⊎ (status ≡ 8) ⊎ (status ≡ 9)
