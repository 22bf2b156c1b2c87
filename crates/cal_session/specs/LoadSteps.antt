-- The steps in which a kept book is loaded: what comes of a record, of all of them, and of the file.
-- Given: as in Loading. The public contracts cite none of it.
use Rattle.std.specs.Prelude.{◌≡◌, ℕ, ◌<◌, ◌^◌, true, false, ◌==◌, if◌then◌else◌, [], length, Option, Some, None, IfSome, Result, Ok, Err}
use Rattle.std.specs.List.{AllByRecursion}
use Rattle.cal_base.specs.World.Outside.{Rose}
use Rattle.cal_model.specs.declared.request.Event.{Event}
use Rattle.cal_model.specs.History.Journal.{Entry, IsLegal}
use Rattle.cal_model.specs.Serving.Outcomes.{Outcome, outcome}
use Rattle.cal_model.specs.State.ServerState.{directory_of}
use Rattle.cal_model.specs.Users.UsersFile.{Users}
use Rattle.cal_keeper.specs.Disks.CrashModel.{Past, reading}
use Rattle.cal_keeper.specs.Files.Standing.{IsRecorded, IsRead, IsKeptFor}
use Rattle.cal_keeper.specs.Keepers.{KeeperState, ReaderState}
use Rattle.cal_keeper.specs.Principals.{counts_of}
use Rattle.cal_book.specs.Cores.{Core, directory_in, state_in}
use Rattle.cal_book.specs.EventSteps.{journal_after}
use Rattle.cal_book.specs.LegalJournals.{is_accepted_with}
use Rattle.cal_session.specs.KeptBooks.{IsKeptOf}
use Rattle.cal_session.specs.Loading.{IsNoHistory, EndsBadly, Differs, status_made}
use Rattle.cal_session.specs.declared.loading.Filled.{Filled}
use Rattle.cal_session.specs.declared.loading.Filled.TheVariants as filled
use Rattle.cal_session.specs.declared.loading.Loaded.{Loaded}
use Rattle.cal_session.specs.declared.loading.Loaded.TheVariants as loaded
use Rattle.cal_session.specs.declared.loading.Remade.{Remade}
use Rattle.cal_session.specs.declared.loading.Remade.TheVariants as remade

-- Asking again

-- what a book that was asked again has at the number of its next entry, beside the status that is kept
abbrev pub remade_by : Option Entry → ℕ → Remade
remade_by None kept = remade.Other 0
remade_by (Some entry) kept = if entry.status == kept then remade.Same else remade.Other entry.status

-- by an outcome: it was accepted with the status that is kept, and then a fact holds; or it was not
abbrev pub IsRemadeBy : Outcome → ℕ → Type 0 → Remade → Type 0
IsRemadeBy made kept fact remade.Same = (is_accepted_with kept made ≡ true) × fact
IsRemadeBy made kept fact (remade.Other status) = (is_accepted_with kept made ≡ false) × (status ≡ status_made made)
IsRemadeBy made kept fact remade.NoMemory = Unit {0}

-- the journal is the one behind the event, and the claims that are out are as before
abbrev pub GoesOnBy : Core → Event → Core → Type 0
GoesOnBy old event new = (new.work.journal ≡ journal_after old.users event old.work.journal) × (new.work.out ≡ old.work.out)

abbrev pub IsRemade : Core → Event → ℕ → Core → Remade → Type 0
IsRemade old event kept new end = IsRemadeBy (outcome (directory_in old) (state_in old) event) kept (GoesOnBy old event new) end

-- Reading

-- a book has the entries that were read of a file so far
pub record IsReadInto {D : Type 0} (past : D → Option Past) (users : Users) (book : Core) (reader : ReaderState D) : Type 0 where
  pub users_are : book.users ≡ users
  pub out : book.work.out ≡ []
  pub recorded : AllByRecursion (IsRecorded users) book.work.journal
  pub principals : counts_of users ≡ reader.principals
  pub records : reader.records ≡ length book.work.journal
  pub read : IfSome (past reader.disk) (IsRead users book.work.journal reader.place)

-- a book has all that a file stands for, and the keeper keeps it
pub record IsReadWhole {D : Type 0} (past : D → Option Past) (users : Users) (book : Core) (keeper : KeeperState D) : Type 0 where
  pub users_are : book.users ≡ users
  pub out : book.work.out ≡ []
  pub recorded : AllByRecursion (IsRecorded users) book.work.journal
  pub legal : IsLegal (directory_of users) book.work.journal
  pub principals : keeper.principals ≡ counts_of users
  pub records : keeper.records ≡ length book.work.journal
  pub unbroken : keeper.broken ≡ false
  pub kept_for : IfSome (past keeper.disk) (IsKeptFor users book.work.journal keeper.place)

-- how the reading of a file that was opened ended: nothing was written, whether a call failed or not
abbrev pub IsReadAs : {D : Type 0} → (D → Option Past) → (D → ℕ) → Users → D → Core → Filled D → Type 0
IsReadAs past faults users disk book (filled.Whole keeper) = IsReadWhole past users book keeper × (past keeper.disk ≡ past disk)
IsReadAs past faults users disk book (filled.Refused left place) =
    (past left ≡ past disk) × IfSome (past disk) (EndsBadly users place) × IfSome (past disk) (λ p. IsNoHistory users (reading p))
IsReadAs past faults users disk book (filled.Mismatch left place kept made) =
    (past left ≡ past disk) × Differs users (past disk) place kept made × IfSome (past disk) (λ p. IsNoHistory users (reading p))
IsReadAs past faults users disk book (filled.Failed left) = Rose (faults disk) (faults left)
IsReadAs past faults users disk book (filled.NoMemory left) = past left ≡ past disk

-- by what the next record is: it was read into the book, and the reader stands behind it; or the reading has ended
abbrev pub IsReadOn : {D : Type 0} → (D → Option Past) → (D → ℕ) → Users → ReaderState D → Core → Result (ReaderState D) (Filled D) → Type 0
IsReadOn past faults users reader book (Ok behind) =
    IsReadInto past users book behind × (past behind.disk ≡ past reader.disk) × (reader.place < behind.place) × (reader.place < 2 ^ 64)
IsReadOn past faults users reader book (Err end) = IsReadAs past faults users reader.disk book end

-- the end of a loading, by that of the filling of its book
abbrev pub loaded_by : {D : Type 0} → Core → Filled D → Loaded D
loaded_by book (filled.Whole keeper) = loaded.Ready (record { book = book; keeper = keeper })
loaded_by book (filled.Refused left place) = loaded.Refused left place
loaded_by book (filled.Mismatch left place kept made) = loaded.Mismatch left place kept made
loaded_by book (filled.Failed left) = loaded.Failed left
loaded_by book (filled.NoMemory left) = loaded.NoMemory left

-- what it needs for that: the keeper keeps the book
abbrev pub KeepsWhole : {D : Type 0} → (D → Option Past) → Core → Filled D → Type 0
KeepsWhole past book (filled.Whole keeper) = IsKeptOf past book keeper
KeepsWhole past book other = Unit {0}

-- the disk that is left
abbrev pub disk_in : {D : Type 0} → Filled D → D
disk_in (filled.Whole keeper) = keeper.disk
disk_in (filled.Refused disk place) = disk
disk_in (filled.Mismatch disk place kept made) = disk
disk_in (filled.Failed disk) = disk
disk_in (filled.NoMemory disk) = disk

abbrev pub disk_after : {D : Type 0} → Result (ReaderState D) (Filled D) → D
disk_after (Ok reader) = reader.disk
disk_after (Err end) = disk_in end
