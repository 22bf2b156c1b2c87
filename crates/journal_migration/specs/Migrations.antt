-- How the carrying of a journal over to other users ended.
-- Given: the old and the new users, and the pasts of the old file and of the new one, before and after. Read what a file stands for in `Files` of the crate that keeps it.
-- Where a disk tells no past nothing is said of octets, and all else holds.
use Rattle.std.specs.Prelude.{◌≡◌, ◌⊎◌, ◌<◌, ◌≢◌, ℕ, false, List, [], ◌∷◌, ◌++◌, length, drop, Option, None, IfSome, option_map}
use Rattle.std.specs.List.{AllByRecursion}
use Rattle.cal_base.specs.World.Outside.{Rose}
use Rattle.cal_model.specs.History.Journal.{Entry, asked, IsLegal}
use Rattle.cal_model.specs.Serving.Outcomes.{Outcome, accepted, unchanged, outcome}
use Rattle.cal_model.specs.State.ServerState.{directory_of, user_number, user_name, group_number, group_name}
use Rattle.cal_model.specs.Users.UsersFile.{Users}
use Rattle.cal_keeper.specs.Disks.CrashModel.{Past, reading, synced}
use Rattle.cal_keeper.specs.Files.Creating.{HasLength}
use Rattle.cal_keeper.specs.Files.NextEntries.{IsBadAt}
use Rattle.cal_keeper.specs.Files.Opening.{IsNoJournal, IsOfOthers}
use Rattle.cal_keeper.specs.Files.Payloads.{payload_of}
use Rattle.cal_keeper.specs.Files.RecordForm.{HasRecord}
use Rattle.cal_keeper.specs.Files.Standing.{IsRecorded, StandsFor, IsKeptFor, IsRead}
use Rattle.cal_book.specs.EventSteps.{state_behind}
use Rattle.cal_book.specs.LegalJournals.{is_accepted_with}
use Rattle.journal_migration.specs.Renumbering.{AreAllIn, moved_entry, moved_entries}
use Rattle.journal_migration.specs.MovedStates.{HaveSameHomes}
use Rattle.journal_migration.specs.declared.gone.Principal.{Principal}
use Rattle.journal_migration.specs.declared.gone.Principal.TheVariants.{User, Group}
use Rattle.journal_migration.specs.declared.migrating.Migrated.{Migrated}
use Rattle.journal_migration.specs.declared.migrating.Migrated.TheVariants.{Done, Gone, Refused, Mismatch, Declined, NotEmpty, OldFailed, NotBegun, NewFailed, NoMemory}

-- Done

-- a file is kept for entries, wherever its closed gate stands
abbrev pub IsKeptSomewhere : Users → List Entry → Past → Type 0
IsKeptSomewhere users entries past = (place : ℕ) × IsKeptFor users entries place past

-- Entries are a legal history of the old users, and so are they, mapped, of the new ones; and the states to which the two lead have the same homes.
pub record IsHistoryOfBoth (old new : Users) (entries : List Entry) : Type 0 where
  pub recorded : AllByRecursion (IsRecorded old) entries
  pub legal : IsLegal (directory_of old) entries
  pub legal_moved : IsLegal (directory_of new) (moved_entries old new entries)
  pub homes : HaveSameHomes old new (state_behind old entries) (state_behind new (moved_entries old new entries))

-- The old file stands for such entries. The new one, which had no octets before, stands for them in their order, each for the new users and with its status; and so does what any crash from now on leaves of it.
pub record IsDone (old new : Users) (from to to_after : Option Past) : Type 0 where
  pub entries : List Entry
  pub all_in : AreAllIn old new
  pub of_both : IsHistoryOfBoth old new entries
  pub stood : IfSome from (λ past. StandsFor old entries (reading past))
  pub empty : HasLength 0 to
  pub kept : IfSome to_after (IsKeptSomewhere new (moved_entries old new entries))

-- Who is gone

-- no new user has the name of the old one of a number
pub record IsUserGone (old new : Users) (user : ℕ) : Type 0 where
  pub within : user < length old.people
  pub gone : user_number (directory_of new) (user_name (directory_of old) user) ≡ None

-- nor has a new group that of a group
pub record IsGroupGone (old new : Users) (group : ℕ) : Type 0 where
  pub within : group < length old.groups
  pub gone : group_number (directory_of new) (group_name (directory_of old) group) ≡ None

abbrev pub IsGone : Users → Users → Principal → Type 0
IsGone old new (User user) = IsUserGone old new user
IsGone old new (Group group) = IsGroupGone old new group

-- Refused

-- the octets stand for no legal history of these users
abbrev pub IsNoHistory : Users → List ℕ → Type 0
IsNoHistory users octets = (entries : List Entry) → IsLegal (directory_of users) entries → StandsFor users entries octets → ⊥

-- behind legal entries neither a record in the form nor a closed gate stands at a gate's place
pub record EndsBadly (users : Users) (place : ℕ) (past : Past) : Type 0 where
  pub entries : List Entry
  pub legal : IsLegal (directory_of users) entries
  pub read : IsRead users entries place past
  pub bad : IsBadAt users place past

-- the file is no journal (as one without an octet is none), told at 0; or one of other users, told at the first difference of their texts; or it ends badly, told at the gate's place
abbrev pub IsRefusedAt : Users → ℕ → Past → Type 0
IsRefusedAt users place past = ((place ≡ 0) × IsNoJournal (reading past)) ⊎ (IsOfOthers users place (reading past) ⊎ EndsBadly users place (synced past))

pub record IsRefused (old : Users) (from : Option Past) (place : ℕ) : Type 0 where
  pub cause : IfSome from (IsRefusedAt old place)
  pub no_history : IfSome from (λ past. IsNoHistory old (reading past))

-- An event that is not accepted

-- the status with which a change was accepted; 0 where none was
abbrev pub status_made : Outcome → ℕ
status_made (accepted status after) = status
status_made (unchanged reply) = 0

-- what an entry asks, in the state that those before it lead to
abbrev pub outcome_behind : Users → List Entry → Entry → Outcome
outcome_behind users entries entry = outcome (directory_of users) (state_behind users entries) (asked (directory_of users) entry)

-- it is not accepted with the status that is kept, but with another one, or not at all
pub record IsAcceptedOtherwise (users : Users) (entries : List Entry) (entry : Entry) (kept made : ℕ) : Type 0 where
  pub kept_is : kept ≡ entry.status
  pub other : is_accepted_with kept (outcome_behind users entries entry) ≡ false
  pub made_is : made ≡ status_made (outcome_behind users entries entry)

-- The record of an entry stands in the old file, which was synced, at a gate's place behind legal entries.
pub record IsNextEntry (old : Users) (from : Option Past) (place : ℕ) (entries : List Entry) (entry : Entry) : Type 0 where
  pub legal : IsLegal (directory_of old) entries
  pub recorded : IsRecorded old entry
  pub there : IfSome from (λ past. IsRead old entries place past × HasRecord (payload_of entry) (drop place (reading past)))

-- The old users' own book does not accept it as it was: then the file stands for no legal history of theirs.
pub record IsMismatch (old : Users) (from : Option Past) (place kept made : ℕ) : Type 0 where
  pub entries : List Entry
  pub entry : Entry
  pub next : IsNextEntry old from place entries entry
  pub otherwise_made : IsAcceptedOtherwise old entries entry kept made
  pub no_history : IfSome from (λ past. IsNoHistory old (reading past))

-- The old users' book accepts it as it was, and that of the new users does not.
pub record IsDeclined (old new : Users) (from : Option Past) (place kept made : ℕ) : Type 0 where
  pub entries : List Entry
  pub entry : Entry
  pub next : IsNextEntry old from place entries entry
  pub legal : IsLegal (directory_of old) (entries ++ entry ∷ [])
  pub otherwise_made : IsAcceptedOtherwise new (moved_entries old new entries) (moved_entry old new entry) kept made

-- How it ended: done; or somebody is gone; or the old file is refused, or an event of it; or the new file has octets; or a failure, for which a fault was counted; or want of memory.
abbrev pub IsMigrated : {D : Type 0} → (D → Option Past) → (D → ℕ) → Users → Users → (from to from_after to_after : D) → Migrated → Type 0
IsMigrated past faults old new from to from_after to_after Done = IsDone old new (past from) (past to) (past to_after)
IsMigrated past faults old new from to from_after to_after (Gone principal) = IsGone old new principal
IsMigrated past faults old new from to from_after to_after (Refused place) = IsRefused old (past from) place
IsMigrated past faults old new from to from_after to_after (Mismatch place kept made) = IsMismatch old (option_map synced (past from)) place kept made
IsMigrated past faults old new from to from_after to_after (Declined place kept made) = IsDeclined old new (option_map synced (past from)) place kept made
IsMigrated past faults old new from to from_after to_after (NotEmpty count) = HasLength count (past to) × (count ≢ 0)
IsMigrated past faults old new from to from_after to_after OldFailed = Rose (faults from) (faults from_after)
IsMigrated past faults old new from to from_after to_after NotBegun = Rose (faults to) (faults to_after)
IsMigrated past faults old new from to from_after to_after NewFailed = Rose (faults to) (faults to_after)
IsMigrated past faults old new from to from_after to_after NoMemory = Unit {0}

-- the new file had no octets, or nothing was done to it
abbrev pub WritesOverNothing : Option Past → Option Past → Type 0
WritesOverNothing to to_after = HasLength 0 to ⊎ (to_after ≡ to)
