-- A file that is opened, and what the reading of it came to.
use Rattle.std.proofs.Common.{◌≡◌, inl, inr, ℕ, ◌<◌, ◌≤◌, ◌⊎◌, List, [], Option, Some, None, Ok, Err, Result, IfSome, refl, sym, ◌∙◌, ap, subst, arith}
use Rattle.std.specs.Prelude.{option_map}
use Rattle.std.specs.List.{AllByRecursion}
use Rattle.std.proofs.lemmas.Bool.{cases_lt}
use Rattle.cal_base.specs.World.Outside.{Rose}
use Rattle.cal_model.specs.History.Journal.{Entry}
use Rattle.cal_model.specs.Users.UsersFile.{Users}
use Rattle.cal_keeper.specs.Disks.CrashModel.{Past, reading, synced}
use Rattle.cal_keeper.specs.Files.Opening.{IsNoJournal, IsOfOthers, StandsForNone, IsUnwritten}
use Rattle.cal_keeper.specs.Files.Standing.{IsRecorded, IsRead, StandsFor}
use Rattle.cal_keeper.specs.Keepers.{ReaderState}
use Rattle.cal_keeper.specs.Principals.{counts_of}
use Rattle.journal_migration.specs.Carrying.{AreNewBooks, IsReadInto, IsReadWhole, IsReadAs, IsReadFrom}
use Rattle.journal_migration.specs.Migrations.{IsNoHistory, EndsBadly, IsRefusedAt, IsRefused, IsMismatch, IsDeclined}
use Rattle.journal_migration.specs.Renumbering.{moved_entries}
use Rattle.journal_migration.specs.declared.carrying.Books.{Books}
use Rattle.journal_migration.specs.declared.migrating.Migrated.{Migrated}
use Rattle.journal_migration.specs.declared.migrating.Migrated.TheVariants as migrated

each : (P Q : Past → Type 0) (told : Option Past) → ((past : Past) → P past → Q past) → IfSome told P → IfSome told Q
each P Q None more p = tt
each P Q (Some past) more p = more past p

-- what holds of a file that was synced holds of it before
before_sync : (P : Past → Type 0) (old new : Option Past) → new ≡ option_map synced old → IfSome new P → IfSome old (λ p. P (synced p))
before_sync P None new is p = tt
before_sync P (Some past) new is p = subst (λ (told : Option Past). IfSome told P) is p

-- a count that rose later rose since earlier
pub rose_since : (first second third : ℕ) → first ≤ second → second ≤ third → Rose second third → Rose first third
rose_since first second third h g (inl less) = inl (omega (arith, h, less))
rose_since first second third h g (inr full) = by (cases_lt first second) where
  by : (first < second) ⊎ (second ≤ first) → Rose first third
  by (inl less) = inl (omega (arith, less, g))
  by (inr not_more) = inr (omega (arith, h, not_more, full))

-- The start

pub begun : {D : Type 0} (past : D → Option Past) (old new : Users) (books : Books) (reader : ReaderState D) → AreNewBooks old new books → reader.principals ≡ counts_of old → IfSome (past reader.disk) (IsRead old [] reader.place)
    → IsReadInto past old new books reader
begun past old new books reader started principals read = record {
  whole = record {
    books_of = started.books_of;
    recorded = subst (λ (es : List Entry). AllByRecursion (IsRecorded old) es) (sym started.source) tt;
    moved = started.target ∙ sym (ap (moved_entries old new) started.source);
  };
  principals = sym principals;
  read = subst (λ (es : List Entry). IfSome (past reader.disk) (IsRead old es reader.place)) (sym started.source) read;
}

-- A file that is not opened

module _ (old : Users) (told : Option Past) (none : IfSome told (λ p. StandsForNone old (reading p))) where
  no_history : IfSome told (λ p. IsNoHistory old (reading p))
  no_history = each (λ p. StandsForNone old (reading p)) (λ p. IsNoHistory old (reading p)) told (λ p stands_for_none entries legal stands. stands_for_none entries stands) none

  pub refused_journal : IfSome told (λ p. IsNoJournal (reading p)) → IsRefused old told 0
  refused_journal is = record { cause = each (λ p. IsNoJournal (reading p)) (IsRefusedAt old 0) told (λ p no_journal. inl (refl, no_journal)) is; no_history = no_history }

  pub refused_users : (place : ℕ) → IfSome told (λ p. IsOfOthers old place (reading p)) → IsRefused old told place
  refused_users place is = record { cause = each (λ p. IsOfOthers old place (reading p)) (IsRefusedAt old place) told (λ p of_others. inr (inl of_others)) is; no_history = no_history }

-- The ends of a reading

module _ {D : Type 0} (past : D → Option Past) (faults : D → ℕ) (old new : Users) (disk first left : D) (books : Books) (synced_is : past first ≡ option_map synced (past disk)) where
  pub read_from : (end : Result (Unit {0}) Migrated) → faults disk ≤ faults first → faults first ≤ faults left → IsReadAs past faults old new first books left end → IsReadFrom past faults old new disk books left end
  read_from (Ok done) opened falls ended = record {
    whole = ended.whole;
    stood = before_sync (λ p. StandsFor old books.source.work.journal (reading p)) (past disk) (past first) synced_is ended.stood;
  }
  read_from (Err migrated.Done) opened falls ended = absurd ended
  read_from (Err (migrated.Gone principal)) opened falls ended = absurd ended
  read_from (Err (migrated.Refused place)) opened falls ended = record {
    cause = each (λ p. EndsBadly old place (synced p)) (IsRefusedAt old place) (past disk) (λ p ends. inr (inr ends)) (before_sync (EndsBadly old place) (past disk) (past first) synced_is ended.0);
    no_history = before_sync (λ p. IsNoHistory old (reading p)) (past disk) (past first) synced_is ended.1;
  }
  read_from (Err (migrated.Mismatch place kept made)) opened falls ended = subst (λ (o : Option Past). IsMismatch old o place kept made) synced_is ended
  read_from (Err (migrated.Declined place kept made)) opened falls ended = subst (λ (o : Option Past). IsDeclined old new o place kept made) synced_is ended
  read_from (Err (migrated.NotEmpty count)) opened falls ended = absurd ended
  read_from (Err migrated.OldFailed) opened falls ended = rose_since (faults disk) (faults first) (faults left) opened falls ended
  read_from (Err migrated.NotBegun) opened falls ended = absurd ended
  read_from (Err migrated.NewFailed) opened falls ended = absurd ended
  read_from (Err migrated.NoMemory) opened falls ended = tt

  pub unwritten : past left ≡ past first → IsUnwritten (past disk) (past left)
  unwritten same = inr (same ∙ synced_is)

-- The ends of a reading from further back

pub read_since : {D : Type 0} (past : D → Option Past) (faults : D → ℕ) (old new : Users) (first now left : D) (books : Books) → past now ≡ past first → faults first ≤ faults now → faults now ≤ faults left → (end : Result (Unit {0}) Migrated)
    → IsReadAs past faults old new now books left end → IsReadAs past faults old new first books left end
read_since past faults old new first now left books same falls more (Ok done) ended = subst (λ (o : Option Past). IsReadWhole old new o books) same ended
read_since past faults old new first now left books same falls more (Err migrated.Done) ended = absurd ended
read_since past faults old new first now left books same falls more (Err (migrated.Gone principal)) ended = absurd ended
read_since past faults old new first now left books same falls more (Err (migrated.Refused place)) ended =
    (subst (λ (o : Option Past). IfSome o (EndsBadly old place)) same ended.0, subst (λ (o : Option Past). IfSome o (λ p. IsNoHistory old (reading p))) same ended.1)
read_since past faults old new first now left books same falls more (Err (migrated.Mismatch place kept made)) ended = subst (λ (o : Option Past). IsMismatch old o place kept made) same ended
read_since past faults old new first now left books same falls more (Err (migrated.Declined place kept made)) ended = subst (λ (o : Option Past). IsDeclined old new o place kept made) same ended
read_since past faults old new first now left books same falls more (Err (migrated.NotEmpty count)) ended = absurd ended
read_since past faults old new first now left books same falls more (Err migrated.OldFailed) ended = rose_since (faults first) (faults now) (faults left) falls more ended
read_since past faults old new first now left books same falls more (Err migrated.NotBegun) ended = absurd ended
read_since past faults old new first now left books same falls more (Err migrated.NewFailed) ended = absurd ended
read_since past faults old new first now left books same falls more (Err migrated.NoMemory) ended = tt
