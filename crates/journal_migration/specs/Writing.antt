-- The steps in which the entries of a book are written into a new file.
-- Given: the users, the entries, and the draft or the disk before and after. The public contracts cite none of it.
use Rattle.std.specs.Prelude.{◌≡◌, ◌≢◌, ℕ, Bool, true, false, not, List, Option, Some, None, IfSome}
use Rattle.cal_base.specs.World.Outside.{Rose}
use Rattle.cal_model.specs.History.Journal.{Entry}
use Rattle.cal_model.specs.Users.UsersFile.{Users}
use Rattle.cal_keeper.specs.Disks.CrashModel.{Past, LeavesOnly}
use Rattle.cal_keeper.specs.Files.Creating.{HasLength}
use Rattle.cal_keeper.specs.Files.Drafts.{with_blank, FailsTold, IsDraftOf, DraftsTo, IsNoneOrWhole}
use Rattle.cal_keeper.specs.Files.Opening.{IsNoJournal}
use Rattle.cal_keeper.specs.Keepers.{DraftState}
use Rattle.cal_keeper.specs.Principals.{counts_of}
use Rattle.journal_migration.specs.Migrations.{IsKeptSomewhere}
use Rattle.journal_migration.specs.Stops.{Since}
use Rattle.journal_migration.specs.declared.migrating.Migrated.{Migrated}
use Rattle.journal_migration.specs.declared.migrating.Migrated.TheVariants as migrated

-- One entry

-- an entry was added, or it was tried
pub record HasAdded {D : Type 0} (past : D → Option Past) (entry : Entry) (old new : DraftState D) (went_through : Bool) : Type 0 where
  pub drafts : DraftsTo past old new entry went_through
  pub principals : new.principals ≡ old.principals
  pub broken : new.broken ≡ not went_through

-- the entry of a number was, if there is one
abbrev pub HasWritten : {D : Type 0} → (D → Option Past) → Option Entry → DraftState D → DraftState D → Bool → Type 0
HasWritten past None old new went_through = (new ≡ old) × (went_through ≡ true)
HasWritten past (Some entry) old new went_through = HasAdded past entry old new went_through

-- All entries

-- a draft of entries, and a crash since an earlier moment left no journal
abbrev pub IsDraftSince : Users → List Entry → ℕ → Past → Past → Type 0
IsDraftSince users entries place first past = IsDraftOf users entries place past × LeavesOnly IsNoJournal first past

-- a draft of none has these entries now
pub record IsDraftSoFar {D : Type 0} (past : D → Option Past) (users : Users) (entries : List Entry) (begun draft : DraftState D) : Type 0 where
  pub principals : draft.principals ≡ counts_of users
  pub unbroken : draft.broken ≡ false
  pub drafted : Since (IsDraftSince users entries draft.place) (past begun.disk) (past draft.disk)

-- since an earlier moment a crash left no journal, or the whole one; and the file is kept
abbrev pub IsWholeSince : Users → List Entry → Past → Past → Type 0
IsWholeSince users entries first past = LeavesOnly (IsNoneOrWhole users entries) first past × IsKeptSomewhere users entries past

-- how the writing of a draft of none ended
abbrev pub IsWrittenFrom : {D : Type 0} → (D → Option Past) → (D → ℕ) → Users → List Entry → D → D → Migrated → Type 0
IsWrittenFrom past faults users entries begun left migrated.Done = Since (IsWholeSince users entries) (past begun) (past left)
IsWrittenFrom past faults users entries begun left migrated.NewFailed = Since (LeavesOnly (IsNoneOrWhole users entries)) (past begun) (past left) × Rose (faults begun) (faults left)
IsWrittenFrom past faults users entries begun left other = ⊥

-- since the blank was on the disk a crash left no journal, or the whole one
abbrev pub LeavesNoneOrAll : Users → List Entry → Past → Past → Type 0
LeavesNoneOrAll users entries first past = LeavesOnly (IsNoneOrWhole users entries) (with_blank first) past

-- how the writing of a new file ended
abbrev pub IsWrittenAs : {D : Type 0} → (D → Option Past) → (D → ℕ) → Users → List Entry → D → D → Migrated → Type 0
IsWrittenAs past faults users entries disk left migrated.Done =
    HasLength 0 (past disk) × Since (LeavesNoneOrAll users entries) (past disk) (past left) × IfSome (past left) (IsKeptSomewhere users entries)
IsWrittenAs past faults users entries disk left migrated.NewFailed =
    HasLength 0 (past disk) × Since (LeavesNoneOrAll users entries) (past disk) (past left) × Rose (faults disk) (faults left)
IsWrittenAs past faults users entries disk left migrated.NotBegun = Rose (faults disk) (faults left) × FailsTold (past disk) (past left)
IsWrittenAs past faults users entries disk left (migrated.NotEmpty count) = HasLength count (past disk) × (count ≢ 0) × (past left ≡ past disk)
IsWrittenAs past faults users entries disk left migrated.NoMemory = past left ≡ past disk
IsWrittenAs past faults users entries disk left other = ⊥
