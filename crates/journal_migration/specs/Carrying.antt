-- The steps in which a journal is carried over: what comes of an event that is asked of a book again, of one that is asked of both, and of all of them.
-- Given: as in Migrations. The public contracts cite none of it.
use Rattle.std.specs.Prelude.{◌≡◌, ℕ, ◌<◌, ◌^◌, true, false, ◌==◌, if◌then◌else◌, [], Option, Some, None, IfSome, Result, Ok, Err, option_map}
use Rattle.std.specs.List.{AllByRecursion}
use Rattle.cal_base.specs.World.Outside.{Rose}
use Rattle.cal_model.specs.declared.request.Event.{Event}
use Rattle.cal_model.specs.History.Journal.{Entry}
use Rattle.cal_model.specs.Serving.Outcomes.{Outcome, outcome}
use Rattle.cal_model.specs.Users.UsersFile.{Users}
use Rattle.cal_keeper.specs.Disks.CrashModel.{Past, reading, synced}
use Rattle.cal_keeper.specs.Files.Standing.{IsRecorded, IsRead, StandsFor}
use Rattle.cal_keeper.specs.Keepers.{ReaderState}
use Rattle.cal_keeper.specs.Principals.{counts_of}
use Rattle.cal_book.specs.Cores.{Core, directory_in, state_in}
use Rattle.cal_book.specs.EventSteps.{journal_after}
use Rattle.cal_book.specs.LegalJournals.{is_accepted_with}
use Rattle.journal_migration.specs.Renumbering.{moved_event, moved_entries}
use Rattle.journal_migration.specs.Migrations.{status_made, IsNoHistory, EndsBadly, IsRefused, IsMismatch, IsDeclined}
use Rattle.journal_migration.specs.declared.asking.Remade.{Remade}
use Rattle.journal_migration.specs.declared.asking.Remade.TheVariants as remade
use Rattle.journal_migration.specs.declared.carrying.Books.{Books}
use Rattle.journal_migration.specs.declared.carrying.Carried.{Carried}
use Rattle.journal_migration.specs.declared.carrying.Carried.TheVariants as carried
use Rattle.journal_migration.specs.declared.migrating.Migrated.{Migrated}
use Rattle.journal_migration.specs.declared.migrating.Migrated.TheVariants as migrated

-- Asking again

-- what a book that was asked again has at the number of its next entry, beside the status that is kept
abbrev pub remade_by : Option Entry → ℕ → Remade
remade_by None kept = remade.Other 0
remade_by (Some entry) kept = if entry.status == kept then remade.Same else remade.Other entry.status

-- by an outcome: it was accepted with the status that is kept, and then a fact holds; or it was not
abbrev pub IsRemadeBy : Outcome → ℕ → Type 0 → Remade → Type 0
IsRemadeBy made kept fact remade.Same = (is_accepted_with kept made ≡ true) × fact
IsRemadeBy made kept fact (remade.Other status) = (is_accepted_with kept made ≡ false) × (status ≡ status_made made)
IsRemadeBy made kept fact remade.NoMemory = Unit {0}

abbrev pub IsRemade : Core → Event → ℕ → Core → Remade → Type 0
IsRemade old event kept new end =
    IsRemadeBy (outcome (directory_in old) (state_in old) event) kept (new.work.journal ≡ journal_after old.users event old.work.journal) end

-- Asking both

-- two books of the old and the new users
pub record AreBooksOf (old new : Users) (books : Books) : Type 0 where
  pub source : books.source.users ≡ old
  pub target : books.target.users ≡ new

-- an event was asked of the first book, and then, for the new users, of the second
abbrev pub IsCarried : Users → Users → Event → ℕ → Books → Books → Carried → Type 0
IsCarried old new event kept before after carried.Same =
    IsRemade before.source event kept after.source remade.Same × IsRemade before.target (moved_event old new event) kept after.target remade.Same
IsCarried old new event kept before after (carried.Mismatch made) = IsRemade before.source event kept after.source (remade.Other made)
IsCarried old new event kept before after (carried.Declined made) =
    IsRemade before.source event kept after.source remade.Same × IsRemade before.target (moved_event old new event) kept after.target (remade.Other made)
IsCarried old new event kept before after carried.NoMemory = Unit {0}

-- what is asked of the second book alone
abbrev pub IsAskedOn : Event → ℕ → Core → Core → Carried → Type 0
IsAskedOn event kept before after carried.Same = IsRemade before event kept after remade.Same
IsAskedOn event kept before after (carried.Declined made) = IsRemade before event kept after (remade.Other made)
IsAskedOn event kept before after carried.NoMemory = Unit {0}
IsAskedOn event kept before after other = ⊥

-- Reading

-- the two books have the same entries, the second for the new users
pub record AreWhole (old new : Users) (books : Books) : Type 0 where
  pub books_of : AreBooksOf old new books
  pub recorded : AllByRecursion (IsRecorded old) books.source.work.journal
  pub moved : books.target.work.journal ≡ moved_entries old new books.source.work.journal

-- and these are what was read of a file so far
pub record IsReadInto {D : Type 0} (past : D → Option Past) (old new : Users) (books : Books) (reader : ReaderState D) : Type 0 where
  pub whole : AreWhole old new books
  pub principals : counts_of old ≡ reader.principals
  pub read : IfSome (past reader.disk) (IsRead old books.source.work.journal reader.place)

-- and these are all for which a file stands
pub record IsReadWhole (old new : Users) (told : Option Past) (books : Books) : Type 0 where
  pub whole : AreWhole old new books
  pub stood : IfSome told (λ past. StandsFor old books.source.work.journal (reading past))

-- how the reading of a file that was opened, and so synced, ended
abbrev pub IsReadAs : {D : Type 0} → (D → Option Past) → (D → ℕ) → Users → Users → D → Books → D → Result (Unit {0}) Migrated → Type 0
IsReadAs past faults old new disk books left (Ok done) = IsReadWhole old new (past disk) books
IsReadAs past faults old new disk books left (Err (migrated.Refused place)) = IfSome (past disk) (EndsBadly old place) × IfSome (past disk) (λ p. IsNoHistory old (reading p))
IsReadAs past faults old new disk books left (Err (migrated.Mismatch place kept made)) = IsMismatch old (past disk) place kept made
IsReadAs past faults old new disk books left (Err (migrated.Declined place kept made)) = IsDeclined old new (past disk) place kept made
IsReadAs past faults old new disk books left (Err migrated.OldFailed) = Rose (faults disk) (faults left)
IsReadAs past faults old new disk books left (Err migrated.NoMemory) = Unit {0}
IsReadAs past faults old new disk books left (Err other) = ⊥

-- by what the next record is: it was read into the books, and the reader stands behind it; or the reading has ended
abbrev pub IsReadOn : {D : Type 0} → (D → Option Past) → (D → ℕ) → Users → Users → ReaderState D → Books → Result (ReaderState D) (Result (Unit {0}) Migrated × D) → Type 0
IsReadOn past faults old new reader books (Ok behind) = IsReadInto past old new books behind × (reader.place < behind.place) × (reader.place < 2 ^ 64)
IsReadOn past faults old new reader books (Err end) = IsReadAs past faults old new reader.disk books end.1 end.0

abbrev pub disk_after : {D : Type 0} → Result (ReaderState D) (Result (Unit {0}) Migrated × D) → D
disk_after (Ok reader) = reader.disk
disk_after (Err end) = end.1

-- new books of the old and the new users
pub record AreNewBooks (old new : Users) (books : Books) : Type 0 where
  pub books_of : AreBooksOf old new books
  pub source : books.source.work.journal ≡ []
  pub target : books.target.work.journal ≡ []

-- how the reading of a file ended, which was opened for it
abbrev pub IsReadFrom : {D : Type 0} → (D → Option Past) → (D → ℕ) → Users → Users → D → Books → D → Result (Unit {0}) Migrated → Type 0
IsReadFrom past faults old new disk books left (Ok done) = IsReadWhole old new (past disk) books
IsReadFrom past faults old new disk books left (Err (migrated.Refused place)) = IsRefused old (past disk) place
IsReadFrom past faults old new disk books left (Err (migrated.Mismatch place kept made)) = IsMismatch old (option_map synced (past disk)) place kept made
IsReadFrom past faults old new disk books left (Err (migrated.Declined place kept made)) = IsDeclined old new (option_map synced (past disk)) place kept made
IsReadFrom past faults old new disk books left (Err migrated.OldFailed) = Rose (faults disk) (faults left)
IsReadFrom past faults old new disk books left (Err migrated.NoMemory) = Unit {0}
IsReadFrom past faults old new disk books left (Err other) = ⊥
