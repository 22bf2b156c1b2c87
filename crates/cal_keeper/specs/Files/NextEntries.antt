-- What a reader of a journal file finds next.
-- Given: the users, the reader before, and what was found.
use Rattle.std.specs.Prelude.{◌≡◌, ℕ, ◌+◌, false, List, [], ◌∷◌, ◌++◌, length, drop, Option, IfSome}
use Rattle.cal_base.specs.World.Outside.{Rose}
use Rattle.cal_model.specs.declared.request.Event.{Event}
use Rattle.cal_model.specs.History.Journal.{Entry, asked}
use Rattle.cal_model.specs.State.ServerState.{directory_of}
use Rattle.cal_model.specs.Users.UsersFile.{Users}
use Rattle.cal_keeper.specs.declared.reader.NextEntry.{NextEntry}
use Rattle.cal_keeper.specs.declared.reader.NextEntry.TheVariants as end
use Rattle.cal_keeper.specs.Disks.CrashModel.{Past, reading}
use Rattle.cal_keeper.specs.Files.Payloads.{payload_of}
use Rattle.cal_keeper.specs.Files.RecordForm.{HasRecord, HasClosedGate}
use Rattle.cal_keeper.specs.Files.Standing.{IsRecorded, StandsFor, IsKeptFor, IsRead}
use Rattle.cal_keeper.specs.Keepers.{ReaderState}
use Rattle.cal_keeper.specs.Principals.{counts_of}

-- an entry of a file has this event and status
pub record IsEventOf (users : Users) (event : Event) (status : ℕ) (entry : Entry) : Type 0 where
  pub recorded : IsRecorded users entry
  pub event_is : event ≡ asked (directory_of users) entry
  pub status_is : status ≡ entry.status

-- The record of an entry stands at the place, and it is read, up to the next gate's place. Where the file stands for entries, this is the next of them.
pub record GoesOn (users : Users) (entry : Entry) (place next : ℕ) (past : Past) : Type 0 where
  pub there : HasRecord (payload_of entry) (drop place (reading past))
  pub read : (entries : List Entry) → IsRead users entries place past → IsRead users (entries ++ entry ∷ []) next past
  pub stands : (entries all : List Entry) → IsRead users entries place past → StandsFor users all (reading past) → (more : List Entry) × (all ≡ entries ++ entry ∷ more)

-- A closed gate stands there: the file is kept for the entries that were read. Where it stands for entries, these are all of them.
pub record Ends (users : Users) (place : ℕ) (past : Past) : Type 0 where
  pub gate : HasClosedGate (drop place (reading past))
  pub kept : (entries : List Entry) → IsRead users entries place past → IsKeptFor users entries place past
  pub stands : (entries all : List Entry) → IsRead users entries place past → StandsFor users all (reading past) → all ≡ entries

-- Neither stands there: an open record is outside the form, or the file ends in a gate's place. Where the file stands for entries, that does not come.
pub record IsBadAt (users : Users) (place : ℕ) (past : Past) : Type 0 where
  pub no_record : (entry : Entry) → IsRecorded users entry → HasRecord (payload_of entry) (drop place (reading past)) → ⊥
  pub no_gate : HasClosedGate (drop place (reading past)) → ⊥
  pub stands : (entries all : List Entry) → IsRead users entries place past → StandsFor users all (reading past) → ⊥

-- What was found: an entry, whose place and form are told of each disk; the end; neither; a failure, for which a fault was counted; or want of memory, and the reader as it was.
abbrev pub IsFound : {D : Type 0} → (D → Option Past) → (D → ℕ) → Users → ReaderState D → NextEntry D → Type 0
IsFound past faults users old (end.Entry reader event status) =
    (entry : Entry) × IsEventOf users event status entry × (reader.place ≡ old.place + 5 + length (payload_of entry)) × IfSome (past old.disk) (GoesOn users entry old.place reader.place)
    × (reader.principals ≡ counts_of users) × (reader.records ≡ old.records + 1)
IsFound past faults users old (end.End keeper) =
    IfSome (past old.disk) (Ends users old.place) × (keeper.principals ≡ counts_of users) × (keeper.place ≡ old.place) × (keeper.records ≡ old.records) × (keeper.broken ≡ false)
IsFound past faults users old (end.Bad disk place) = IfSome (past old.disk) (IsBadAt users old.place) × (place ≡ old.place)
IsFound past faults users old (end.Failed disk) = Rose (faults old.disk) (faults disk)
IsFound past faults users old (end.NoMemory reader) = (reader.principals ≡ counts_of users) × (reader.place ≡ old.place) × (reader.records ≡ old.records)

-- the disk that is left
abbrev pub disk_left : {D : Type 0} → NextEntry D → D
disk_left (end.Entry reader event status) = reader.disk
disk_left (end.End keeper) = keeper.disk
disk_left (end.Bad disk place) = disk
disk_left (end.Failed disk) = disk
disk_left (end.NoMemory reader) = reader.disk
