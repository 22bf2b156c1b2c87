-- A journal file that is written whole: until it is finished a blank stands in the place of its mark, so that nothing takes it for a journal.
-- Given: the users, the disk before, and how each call ended; and the pasts before and after, where the disk tells them.
use Rattle.std.specs.Prelude.{◌≡◌, ◌≢◌, ◌⊎◌, ℕ, false, true, Bool, IsTrue, List, [], ◌∷◌, ◌++◌, length, map, replicate, take, Option, Some, None}
use Rattle.std.specs.List.{AllByRecursion}
use Rattle.cal_base.specs.World.Outside.{Rose}
use Rattle.cal_model.specs.History.Journal.{Entry}
use Rattle.cal_model.specs.Users.UsersFile.{Users}
use Rattle.cal_keeper.specs.declared.draft.Finished.{Finished}
use Rattle.cal_keeper.specs.declared.draft.Finished.TheVariants as finish
use Rattle.cal_keeper.specs.declared.drafting.Drafted.{Drafted}
use Rattle.cal_keeper.specs.declared.drafting.Drafted.TheVariants as end
use Rattle.cal_keeper.specs.Disks.CrashModel.{Past, wrote, synced, reading, MayLeave, LeavesOnly}
use Rattle.cal_keeper.specs.Disks.DiskCalls.{after_write}
use Rattle.cal_keeper.specs.Files.Creating.{HasLength}
use Rattle.cal_keeper.specs.Files.Headers.{users_text}
use Rattle.cal_keeper.specs.Files.Opening.{IsNoJournal}
use Rattle.cal_keeper.specs.Files.Payloads.{long_text, payload_of}
use Rattle.cal_keeper.specs.Files.RecordForm.{front_of}
use Rattle.cal_keeper.specs.Files.Standing.{recorded, IsRecorded, StandsFor, IsKeptFor}
use Rattle.cal_keeper.specs.Keepers.{DraftState}
use Rattle.cal_keeper.specs.Principals.{counts_of}

-- what stands in the place of the mark until then: as many zeros
abbrev pub blank : List ℕ
blank = replicate 16 0

-- the past of a file in which the blank was written, and brought to the disk
abbrev pub with_blank : Past → Past
with_blank past = synced (after_write 0 blank past)

-- whatever a crash now leaves begins with the blank
abbrev pub StaysBlank : Past → Type 0
StaysBlank past = (image : List ℕ) → MayLeave past image → take 16 image ≡ blank

-- A file is drafted with a header and payloads: it reads as all that stands in front of the closed gate, its next gate is to stand behind that, and whatever a crash leaves begins with the blank.
pub record IsDraft (header : List ℕ) (payloads : List (List ℕ)) (place : ℕ) (past : Past) : Type 0 where
  pub place_is : place ≡ length (front_of header payloads)
  pub reads : reading past ≡ front_of header payloads
  pub stays_blank : StaysBlank past

-- the header of these users with the blank in the place of the mark
abbrev pub blank_header : Users → List ℕ
blank_header users = blank ++ long_text (users_text users)

-- A file is drafted for entries: but for its mark and the closed gate behind them it reads as the file that stands for them.
pub record IsDraftOf (users : Users) (entries : List Entry) (place : ℕ) (past : Past) : Type 0 where
  pub recorded : AllByRecursion (IsRecorded users) entries
  pub draft : IsDraft (blank_header users) (map payload_of entries) place past

-- Beginning

-- The file is drafted for no entries; and since the blank was on the disk, which came before all else that was done to the file, each crash left what is no journal.
pub record BeginsDraft (users : Users) (place : ℕ) (old new : Past) : Type 0 where
  pub leaves : LeavesOnly IsNoJournal (with_blank old) new
  pub drafted : IsDraftOf users [] place new

-- the same, where the disk tells its past
abbrev pub BeginsTold : Users → ℕ → Option Past → Option Past → Type 0
BeginsTold users place None new = new ≡ None
BeginsTold users place (Some old) new = (past : Past) × (new ≡ Some past) × BeginsDraft users place old past

-- one write was tried, in the place of the mark, and nothing else was done
abbrev pub TriesMark : Past → Past → Type 0
TriesMark old new = (octets : List ℕ) × (new ≡ wrote old 0 16 octets)

-- No draft was begun. The file is as it was; or it had no octets, and then that one write was tried, or since the blank was on the disk each crash left what is no journal.
abbrev pub FailsToBegin : Past → Past → Type 0
FailsToBegin old new = (new ≡ old) ⊎ ((reading old ≡ []) × (TriesMark old new ⊎ LeavesOnly IsNoJournal (with_blank old) new))

-- the same, where the disk tells its past
abbrev pub FailsTold : Option Past → Option Past → Type 0
FailsTold None new = new ≡ None
FailsTold (Some old) new = (past : Past) × (new ≡ Some past) × FailsToBegin old past

-- How it ended: a draft of no entries of a file that had no octets; or a file that has some; or a failure, for which a fault was counted; or want of memory, and nothing was written. A file that has octets is written at no end.
abbrev pub IsDrafted : {D : Type 0} → (D → Option Past) → (D → ℕ) → Users → D → Drafted D → Type 0
IsDrafted past faults users disk (end.Begun draft) =
    HasLength 0 (past disk) × BeginsTold users draft.place (past disk) (past draft.disk) × (draft.principals ≡ counts_of users) × (draft.records ≡ 0) × (draft.broken ≡ false)
IsDrafted past faults users disk (end.NotEmpty left count) = HasLength count (past disk) × (count ≢ 0) × (past left ≡ past disk)
IsDrafted past faults users disk (end.Failed left) = Rose (faults disk) (faults left) × FailsTold (past disk) (past left)
IsDrafted past faults users disk (end.NoMemory left) = past left ≡ past disk

-- the disk that is left
abbrev pub disk_left : {D : Type 0} → Drafted D → D
disk_left (end.Begun draft) = draft.disk
disk_left (end.NotEmpty disk count) = disk
disk_left (end.Failed disk) = disk
disk_left (end.NoMemory disk) = disk

-- Adding an entry

-- At whichever moment a crash comes, it leaves what is no journal, also where the entry did not go through. Where it did, the file is drafted for it too.
pub record DraftsEntry (users : Users) (entry : Entry) (place next : ℕ) (went_through : Bool) (old new : Past) : Type 0 where
  pub any_moment : (entries : List Entry) → IsDraftOf users entries place old → LeavesOnly IsNoJournal old new
  pub added : IsTrue went_through → (entries : List Entry) → IsDraftOf users entries place old → IsDraftOf users (entries ++ recorded entry ∷ []) next new

-- the same, where the disk tells the past
abbrev pub DraftsTold : Users → Entry → ℕ → ℕ → Bool → Option Past → Option Past → Type 0
DraftsTold users entry place next went_through None new = new ≡ None
DraftsTold users entry place next went_through (Some old) new = (past : Past) × (new ≡ Some past) × DraftsEntry users entry place next went_through old past

-- What a draft does so, whichever users the file is of, of whom it knows how many they are, and how many groups they have.
abbrev pub DraftsTo : {D : Type 0} → (D → Option Past) → DraftState D → DraftState D → Entry → Bool → Type 0
DraftsTo past old new entry went_through = (users : Users) → counts_of users ≡ old.principals → DraftsTold users entry old.place new.place went_through (past old.disk) (past new.disk)

-- Finishing

-- the octets are no journal, or stand for all of these entries
abbrev pub IsNoneOrWhole : Users → List Entry → List ℕ → Type 0
IsNoneOrWhole users entries octets = IsNoJournal octets ⊎ StandsFor users entries octets

-- At whichever moment a crash comes, it leaves what is no journal or what stands for all entries. Where it went through, the file is kept for them, so that each crash from then on leaves them.
pub record FinishesDraft (users : Users) (place : ℕ) (went_through : Bool) (old new : Past) : Type 0 where
  pub any_moment : (entries : List Entry) → IsDraftOf users entries place old → LeavesOnly (IsNoneOrWhole users entries) old new
  pub whole : IsTrue went_through → (entries : List Entry) → IsDraftOf users entries place old → IsKeptFor users entries place new

-- the same, where the disk tells the past
abbrev pub FinishesTold : Users → ℕ → Bool → Option Past → Option Past → Type 0
FinishesTold users place went_through None new = new ≡ None
FinishesTold users place went_through (Some old) new = (past : Past) × (new ≡ Some past) × FinishesDraft users place went_through old past

-- How it ended: the file is kept; or a failure, for which a fault was counted.
abbrev pub IsFinished : {D : Type 0} → (D → Option Past) → (D → ℕ) → DraftState D → Finished D → Type 0
IsFinished past faults old (finish.Done left) = (users : Users) → FinishesTold users old.place true (past old.disk) (past left)
IsFinished past faults old (finish.Failed left) = ((users : Users) → FinishesTold users old.place false (past old.disk) (past left)) × Rose (faults old.disk) (faults left)

-- the disk that is left
abbrev pub finished_disk : {D : Type 0} → Finished D → D
finished_disk (finish.Done disk) = disk
finished_disk (finish.Failed disk) = disk
