-- How the loading of a kept book from its file ended.
-- Given: the users, the disk before, and the end. Read what a file stands for in `Files` of the crate that keeps it. Where a disk tells no past nothing is said of octets, and all else holds.
use Rattle.std.specs.Prelude.{◌≡◌, ◌≢◌, ◌⊎◌, ℕ, false, List, [], drop, Option, Some, IfSome, option_map}
use Rattle.std.specs.List.{AllByRecursion}
use Rattle.cal_base.specs.World.Outside.{Rose}
use Rattle.cal_model.specs.History.Journal.{Entry, asked, IsLegal}
use Rattle.cal_model.specs.Serving.Outcomes.{Outcome, accepted, unchanged, outcome}
use Rattle.cal_model.specs.State.ServerState.{directory_of}
use Rattle.cal_model.specs.Users.UsersFile.{Users}
use Rattle.cal_keeper.specs.Disks.CrashModel.{Past, reading, synced}
use Rattle.cal_keeper.specs.Files.NextEntries.{IsBadAt}
use Rattle.cal_keeper.specs.Files.Opening.{IsNoJournal, IsOfOthers, IsUnwritten}
use Rattle.cal_keeper.specs.Files.Payloads.{payload_of}
use Rattle.cal_keeper.specs.Files.RecordForm.{HasRecord}
use Rattle.cal_keeper.specs.Files.Standing.{IsRecorded, StandsFor, IsRead}
use Rattle.cal_book.specs.EventSteps.{state_behind}
use Rattle.cal_book.specs.LegalJournals.{is_accepted_with}
use Rattle.cal_session.specs.KeptBooks.{KeptState, IsKeptOf}
use Rattle.cal_session.specs.declared.loading.Loaded.{Loaded}
use Rattle.cal_session.specs.declared.loading.Loaded.TheVariants.{Ready, Refused, Mismatch, Failed, NoMemory}

-- the octets stand for no legal history of these users
abbrev pub IsNoHistory : Users → List ℕ → Type 0
IsNoHistory users octets = (entries : List Entry) → IsLegal (directory_of users) entries → StandsFor users entries octets → ⊥

-- Ready

-- there was no file, and there are no entries; or it stands for the entries, and was synced and not written
abbrev pub HasTaken : Users → List Entry → Option Past → Past → Type 0
HasTaken users journal new past = ((reading past ≡ []) × (journal ≡ [])) ⊎ (StandsFor users journal (reading past) × (new ≡ Some (synced past)))

-- a book of these users that is kept, whose entries bear the session 0, and of which no claim is out
pub record IsReady {D : Type 0} (past : D → Option Past) (users : Users) (disk : D) (kept : KeptState D) : Type 0 where
  pub unbroken : kept.keeper.broken ≡ false
  pub users_are : kept.book.users ≡ users
  pub sessions : AllByRecursion (λ (entry : Entry). entry.session ≡ 0) kept.book.work.journal
  pub legal : IsLegal (directory_of users) kept.book.work.journal
  pub out : kept.book.work.out ≡ []
  pub kept_for : IsKeptOf past kept.book kept.keeper
  pub stands : IfSome (past disk) (HasTaken users kept.book.work.journal (past kept.keeper.disk))

-- Refused

-- behind legal entries neither a record in the form nor a closed gate stands at a gate's place
pub record EndsBadly (users : Users) (place : ℕ) (past : Past) : Type 0 where
  pub entries : List Entry
  pub legal : IsLegal (directory_of users) entries
  pub read : IsRead users entries place past
  pub bad : IsBadAt users place past

-- the file is no journal, told at 0; or one of other users, told at the first difference of their texts; or it ends badly, told at the gate's place
abbrev pub IsRefusedAt : Users → ℕ → Past → Type 0
IsRefusedAt users place past = ((place ≡ 0) × IsNoJournal (reading past)) ⊎ (IsOfOthers users place (reading past) ⊎ EndsBadly users place (synced past))

pub record IsRefused {D : Type 0} (past : D → Option Past) (users : Users) (disk left : D) (place : ℕ) : Type 0 where
  pub unwritten : IsUnwritten (past disk) (past left)
  pub some : IfSome (past disk) (λ p. reading p ≢ [])
  pub cause : IfSome (past disk) (IsRefusedAt users place)
  pub no_history : IfSome (past disk) (λ p. IsNoHistory users (reading p))

-- Mismatch

-- the status with which a change was accepted; 0 where none was
abbrev pub status_made : Outcome → ℕ
status_made (accepted status after) = status
status_made (unchanged reply) = 0

-- what an entry asks, in the state that those before it lead to
abbrev pub outcome_behind : Users → List Entry → Entry → Outcome
outcome_behind users entries entry = outcome (directory_of users) (state_behind users entries) (asked (directory_of users) entry)

-- The record of an entry stands there behind legal entries, and what the entry asks is not accepted behind these with the status that is kept.
pub record Differs (users : Users) (told : Option Past) (place kept made : ℕ) : Type 0 where
  pub entries : List Entry
  pub entry : Entry
  pub legal : IsLegal (directory_of users) entries
  pub recorded : IsRecorded users entry
  pub there : IfSome told (λ p. IsRead users entries place p × HasRecord (payload_of entry) (drop place (reading p)))
  pub kept_is : kept ≡ entry.status
  pub other : is_accepted_with kept (outcome_behind users entries entry) ≡ false
  pub made_is : made ≡ status_made (outcome_behind users entries entry)

pub record IsMismatched {D : Type 0} (past : D → Option Past) (users : Users) (disk left : D) (place kept made : ℕ) : Type 0 where
  pub unwritten : IsUnwritten (past disk) (past left)
  pub differs : Differs users (option_map synced (past disk)) place kept made
  pub no_history : IfSome (past disk) (λ p. IsNoHistory users (reading p))

-- How it ended: ready; or refused, or at a record that is not accepted as it was, and then the file stands for no legal history of these users; or a failure, for which a fault was counted; or want of memory.
abbrev pub IsLoaded : {D : Type 0} → (D → Option Past) → (D → ℕ) → Users → D → Loaded D → Type 0
IsLoaded past faults users disk (Ready kept) = IsReady past users disk kept
IsLoaded past faults users disk (Refused left place) = IsRefused past users disk left place
IsLoaded past faults users disk (Mismatch left place kept made) = IsMismatched past users disk left place kept made
IsLoaded past faults users disk (Failed left) = Rose (faults disk) (faults left)
IsLoaded past faults users disk (NoMemory left) = IsUnwritten (past disk) (past left)

-- the disk that is left
abbrev pub disk_left : {D : Type 0} → Loaded D → D
disk_left (Ready kept) = kept.keeper.disk
disk_left (Refused disk place) = disk
disk_left (Mismatch disk place kept made) = disk
disk_left (Failed disk) = disk
disk_left (NoMemory disk) = disk
