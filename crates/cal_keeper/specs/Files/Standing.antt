-- What a journal file stands for: entries, or the events that they ask, each beside its status.
-- Given: the users. The events of a file bear the session 0; they are without conditions, of size 0 for a deletion and of the length of its octets for a PUT, whose media type is a calendar's (`History.Journal`).
use Rattle.std.specs.Prelude.{◌≡◌, ℕ, List, ◌++◌, length, map}
use Rattle.std.specs.List.{AllByRecursion}
use Rattle.cal_model.specs.declared.request.Event.{Event}
use Rattle.cal_model.specs.History.Journal.{Entry, asked}
use Rattle.cal_model.specs.State.ServerState.{directory_of}
use Rattle.cal_model.specs.Users.UsersFile.{Users}
use Rattle.cal_keeper.specs.Disks.CrashModel.{Past, reading, IsSettled}
use Rattle.cal_keeper.specs.Files.Headers.{header_of}
use Rattle.cal_keeper.specs.Files.Payloads.{payload_of, HasForm}
use Rattle.cal_keeper.specs.Files.RecordForm.{front_of, IsFile, IsKept}
use Rattle.cal_keeper.specs.Principals.{counts_of}

-- an entry as a file has it
abbrev pub recorded : Entry → Entry
recorded entry = record entry { session = 0 }

-- an entry that a file of these users may have
pub record IsRecorded (users : Users) (entry : Entry) : Type 0 where
  pub session : entry.session ≡ 0
  pub form : HasForm (counts_of users) entry

-- The octets stand for these entries: they are the file of these users with the payloads of these entries, in order.
pub record StandsFor (users : Users) (entries : List Entry) (octets : List ℕ) : Type 0 where
  pub recorded : AllByRecursion (IsRecorded users) entries
  pub file : IsFile (header_of users) (map payload_of entries) octets

-- the events of entries, each beside its status
abbrev pub events_of : Users → List Entry → List (Event × ℕ)
events_of users entries = map (λ (entry : Entry). (asked (directory_of users) entry, entry.status)) entries

-- The octets stand for these events with these statuses, of these users.
abbrev pub Stands : List ℕ → Users → List (Event × ℕ) → Type 0
Stands octets users events = (entries : List Entry) × StandsFor users entries octets × (events ≡ events_of users entries)

-- A file is kept for entries: it stands for them, its closed gate stands at that place, and a crash leaves it as it reads.
pub record IsKeptFor (users : Users) (entries : List Entry) (place : ℕ) (past : Past) : Type 0 where
  pub recorded : AllByRecursion (IsRecorded users) entries
  pub kept : IsKept (header_of users) (map payload_of entries) place past

-- Entries were read of a file: they stand in front of the place, and a crash leaves the file as it reads. What stands from there on is not known yet.
pub record IsRead (users : Users) (entries : List Entry) (place : ℕ) (past : Past) : Type 0 where
  pub recorded : AllByRecursion (IsRecorded users) entries
  pub place_is : place ≡ length (front_of (header_of users) (map payload_of entries))
  pub rest : List ℕ
  pub front : reading past ≡ front_of (header_of users) (map payload_of entries) ++ rest
  pub settled : IsSettled past
