-- Where a running script stands.
use Rattle.std.specs.Prelude.{◌≡◌, ◌+◌, List, [], length, All, replicate}
use Rattle.std.specs.List.{AllZip}
use Rattle.cal_model.specs.History.Claims.{Pair}
use Rattle.cal_model.specs.State.ServerState.{ServerState}
use Rattle.cal_model.specs.Transcripts.ScriptFrames.{last_connection, last_slot}
use Rattle.cal_model.specs.Transcripts.Transcript.{Standing}
use Rattle.cal_model.specs.Users.UsersFile.{Users}
use Rattle.cal_book.specs.Cores.{Core, state_in}
use Rattle.cal_script.specs.Answering.{IsBookOf}
use Rattle.cal_script.specs.Readings.{Rests}
use Rattle.cal_script.specs.SlotTurns.{IsSlotIn, IsKeptOrHeld}
use Rattle.cal_script.specs.declared.connections.Connection.{Connection}
use Rattle.cal_script.specs.declared.script.Script.{Script}
use Rattle.cal_script.specs.declared.slots.Slot.{Slot}

-- a script that runs: the book of its desk, its connections and its slots
pub record Running : Type 0 where
  pub book : Core
  pub connections : List Connection
  pub slots : List Slot

abbrev pub running : Core → Script → Running
running book script = record { book = book; connections = script.connections.items; slots = script.slots.items }

-- What holds of each script that runs: its book is of its users; each claim in a slot is one of the journal, and each claim that is out is in a slot, so that none is lost, or was out before.
pub record IsSound (users : Users) (kept : List Pair) (script : Running) : Type 0 where
  pub book_of : IsBookOf users script.book
  pub connections : length script.connections ≡ last_connection + 1
  pub slots : length script.slots ≡ last_slot + 1
  pub claims : All (IsSlotIn script.book.work.journal) script.slots
  pub held : All (IsKeptOrHeld kept script.slots) script.book.work.out

-- the script stands there: its state is that of the book, and of what came on its connections all that is complete was answered
pub record StandsAt (standing : Standing) (script : Running) : Type 0 where
  pub server : standing.server ≡ state_in script.book
  pub streams : AllZip Rests standing.streams script.connections

-- where a script begins at a desk: nothing came on any connection
abbrev pub standing_in : ServerState → Standing
standing_in server = record { server = server; streams = replicate (last_connection + 1) [] }
