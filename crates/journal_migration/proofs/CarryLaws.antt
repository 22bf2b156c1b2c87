-- An event that is asked of the books of both users: that it can be asked, and what comes of it.
use Rattle.std.proofs.Common.{◌≡◌, ℕ, ◌<◌, ◌≤◌, ◌^◌, false, List, [], ◌∷◌, ◌++◌, drop, Option, Some, None, Ok, Err, IfSome, sym, ◌∙◌, ap, subst, arith}
use Rattle.std.specs.Prelude.{ℤ, pos, ◌≤ℤ◌}
use Rattle.std.specs.List.{AllByRecursion}
use Rattle.std.proofs.lemmas.Bool.{false≢true}
use Rattle.std.proofs.lemmas.Int.{ints}
use Rattle.std.proofs.lemmas.List.{map-append}
use Rattle.cal_model.specs.declared.request.Event.{Event}
use Rattle.cal_model.specs.History.Journal.{Entry, IsLegal}
use Rattle.cal_model.specs.Requests.BookableRequests.{IsBookable}
use Rattle.cal_model.specs.State.Changes.{Change, change_of}
use Rattle.cal_model.specs.State.ServerState.{directory_of, opening_state}
use Rattle.cal_model.specs.State.UserNames.{AreToldApart}
use Rattle.cal_model.specs.Users.UsersFile.{Users}
use Rattle.cal_model.specs.Words.Limits.{last_moment}
use Rattle.cal_keeper.specs.declared.reader.NextEntry.TheVariants as next_entry
use Rattle.cal_keeper.specs.Disks.CrashModel.{Past, reading}
use Rattle.cal_keeper.specs.Files.EntryLaws.{FormIsBookable}
use Rattle.cal_keeper.specs.Files.NextEntries.{IsEventOf, GoesOn, Ends, IsBadAt, IsFound}
use Rattle.cal_keeper.specs.Files.Payloads.{payload_of, seconds_of}
use Rattle.cal_keeper.specs.Files.RecordForm.{HasRecord}
use Rattle.cal_keeper.specs.Files.Standing.{IsRecorded, IsRead, StandsFor}
use Rattle.cal_keeper.specs.Keepers.{KeeperState, ReaderState}
use Rattle.cal_book.specs.Cores.{Core, directory_in}
use Rattle.cal_book.specs.LegalJournals.{is_accepted_with}
use Rattle.journal_migration.specs.Carrying.{IsRemade, AreBooksOf, IsCarried, IsReadInto, IsReadAs, IsReadOn}
use Rattle.journal_migration.specs.Migrations.{IsNoHistory, EndsBadly, outcome_behind, IsAcceptedOtherwise, IsNextEntry, IsMismatch, IsDeclined}
use Rattle.journal_migration.specs.Renumbering.{AreAllIn, moved_entry, moved_entries, moved_event}
use Rattle.journal_migration.specs.declared.asking.Remade.TheVariants as remade
use Rattle.journal_migration.specs.declared.carrying.Books.{Books}
use Rattle.journal_migration.specs.declared.carrying.Carried.TheVariants as carried
use Rattle.journal_migration.specs.declared.migrating.Migrated.TheVariants as migrated
use Rattle.journal_migration.proofs.EntryLaws.{moved_event-asked}
use Rattle.journal_migration.proofs.FormLaws.{recorded_moved}
use Rattle.journal_migration.proofs.RemadeLaws.{asks_change, passes, grown, made_otherwise, legal_with, legal_passes}

-- Facts that are told where a past is

both : (P Q R : Past → Type 0) (told : Option Past) → ((past : Past) → P past → Q past → R past) → IfSome told P → IfSome told Q → IfSome told R
both P Q R None join p q = tt
both P Q R (Some past) join p q = join past p q

each : (P Q : Past → Type 0) (told : Option Past) → ((past : Past) → P past → Q past) → IfSome told P → IfSome told Q
each P Q None more p = tt
each P Q (Some past) more p = more past p

all_push : (P : Entry → Type 0) (entries : List Entry) (entry : Entry) → AllByRecursion P entries → P entry → AllByRecursion P (entries ++ entry ∷ [])
all_push P [] entry all one = (one, tt)
all_push P (first ∷ entries) entry all one = (all.0, all_push P entries entry all.1 one)

-- What is asked can be asked

moment_from : (moment : ℤ) (seconds : ℕ) → moment ≡ pos seconds → pos 0 ≤ℤ moment
moment_from moment seconds is = subst (λ (m : ℤ). pos 0 ≤ℤ m) (sym is) (omega (arith, ints))

moment_to : (moment : ℤ) (seconds : ℕ) → moment ≡ pos seconds → seconds ≤ last_moment → moment ≤ℤ pos last_moment
moment_to moment seconds is within = subst (λ (m : ℤ). m ≤ℤ pos last_moment) (sym is) (omega (arith, ints, within))

module _ (law : FormIsBookable) (users : Users) (told : AreToldApart (directory_of users)) (event : Event) (status : ℕ) (entry : Entry) (of_entry : IsEventOf users event status entry) where
  pub own_bookable : IsBookable users event.who event.request
  own_bookable = subst (λ (e : Event). IsBookable users e.who e.request) (sym of_entry.event_is) (law users entry told of_entry.recorded.form)

  pub bookable : (book : Core) → book.users ≡ users → IsBookable book.users event.who event.request
  bookable book users_are = subst (λ (u : Users). IsBookable u event.who event.request) (sym users_are) own_bookable

  pub from_1970 : pos 0 ≤ℤ event.moment
  from_1970 = subst (λ (e : Event). pos 0 ≤ℤ e.moment) (sym of_entry.event_is) (moment_from entry.moment (seconds_of entry.moment) of_entry.recorded.form.moment)

  pub to_9999 : event.moment ≤ℤ pos 253402300799
  to_9999 = subst (λ (e : Event). e.moment ≤ℤ pos last_moment) (sym of_entry.event_is) (moment_to entry.moment (seconds_of entry.moment) of_entry.recorded.form.moment of_entry.recorded.form.to_9999)

  pub asks : (book : Core) → book.users ≡ users → (change : Change) × (change_of (directory_in book) event.request ≡ Some change)
  asks book users_are = (entry.change, asks_change users told book users_are event status entry of_entry)

-- the same event for the new users is that of the entry for them
pub event_moved : (old new : Users) → AreAllIn old new → (event : Event) (status : ℕ) (entry : Entry) → IsEventOf old event status entry → IsEventOf new (moved_event old new event) status (moved_entry old new entry)
event_moved old new all event status entry of_entry = record {
  recorded = recorded_moved old new all entry of_entry.recorded;
  event_is = ap (moved_event old new) of_entry.event_is ∙ moved_event-asked old new all entry of_entry.recorded.form.home;
  status_is = of_entry.status_is;
}

-- A record that was read

module _ {D : Type 0} (past : D → Option Past) (faults : D → ℕ) (old new : Users) (all : AreAllIn old new) (told : AreToldApart (directory_of old)) (told_new : AreToldApart (directory_of new))
    (before after : Books) (reader behind : ReaderState D) (event : Event) (status : ℕ) (into : IsReadInto past old new before reader) (found : IsFound past faults old reader (next_entry.Entry behind event status)) where
  abbrev entry : Entry
  entry = found.0

  abbrev journal : List Entry
  journal = before.source.work.journal

  grown_source : IsRemade before.source event status after.source remade.Same → after.source.work.journal ≡ journal ++ entry ∷ []
  grown_source again = grown old told before.source into.whole.books_of.source event status entry found.1 after.source again

  grown_target : IsRemade before.target (moved_event old new event) status after.target remade.Same → after.target.work.journal ≡ before.target.work.journal ++ moved_entry old new entry ∷ []
  grown_target again =
      grown new told_new before.target into.whole.books_of.target (moved_event old new event) status (moved_entry old new entry) (event_moved old new all event status entry found.1) after.target again

  same_after : IsCarried old new event status before after carried.Same → after.target.work.journal ≡ moved_entries old new after.source.work.journal
  same_after again =
      grown_target again.1
      ∙ ap (λ (es : List Entry). es ++ moved_entry old new entry ∷ []) into.whole.moved
      ∙ sym (map-append (moved_entry old new) journal (entry ∷ []))
      ∙ sym (ap (moved_entries old new) (grown_source again.0))

  read_now : IfSome (past reader.disk) (IsRead old (journal ++ entry ∷ []) behind.place)
  read_now = both (IsRead old journal reader.place) (GoesOn old entry reader.place behind.place) (IsRead old (journal ++ entry ∷ []) behind.place) (past reader.disk) (λ p was goes. goes.read journal was) into.read found.3

  pub read_on : AreBooksOf old new after → past behind.disk ≡ past reader.disk → reader.place < 2 ^ 64 → IsCarried old new event status before after carried.Same → IsReadOn past faults old new reader after (Ok behind)
  read_on books_of same within again =
      let further = found.2 in (
        record {
          whole = record {
            books_of = books_of;
            recorded = subst (λ (es : List Entry). AllByRecursion (IsRecorded old) es) (sym (grown_source again.0)) (all_push (IsRecorded old) journal entry into.whole.recorded found.1.recorded);
            moved = same_after again;
          };
          principals = sym found.4;
          read = subst (λ (es : List Entry). IfSome (past behind.disk) (IsRead old es behind.place)) (sym (grown_source again.0))
              (subst (λ (o : Option Past). IfSome o (IsRead old (journal ++ entry ∷ []) behind.place)) (sym same) read_now);
        },
        omega (arith, further),
        within,
      )

  next_entry_is : IsLegal (directory_in before.source) journal → IsNextEntry old (past reader.disk) reader.place journal entry
  next_entry_is legal = record {
    legal = subst (λ (u : Users). IsLegal (directory_of u) journal) into.whole.books_of.source legal;
    recorded = found.1.recorded;
    there = both (IsRead old journal reader.place) (GoesOn old entry reader.place behind.place) (λ p. IsRead old journal reader.place p × HasRecord (payload_of entry) (drop reader.place (reading p))) (past reader.disk)
        (λ p was goes. (was, goes.there)) into.read found.3;
  }

  -- of a history of the old users it would be the next entry, and it does not pass
  no_history : (made : ℕ) → IsRemade before.source event status after.source (remade.Other made) → IfSome (past reader.disk) (λ p. IsNoHistory old (reading p))
  no_history made again =
      both (IsRead old journal reader.place) (GoesOn old entry reader.place behind.place) (λ p. IsNoHistory old (reading p)) (past reader.disk)
      (λ p was goes entries legal stands. refuted entries legal (goes.stands journal entries was stands)) into.read found.3
    where
      fails : is_accepted_with entry.status (outcome_behind old journal entry) ≡ false
      fails =
          let otherwise_made = made_otherwise old told before.source into.whole.books_of.source event status entry found.1 made after.source again in
          ap (λ (n : ℕ). is_accepted_with n (outcome_behind old journal entry)) (sym otherwise_made.kept_is) ∙ otherwise_made.other

      refuted : (entries : List Entry) → IsLegal (directory_of old) entries → (more : List Entry) × (entries ≡ journal ++ entry ∷ more) → ⊥
      refuted entries legal (more, is) =
          false≢true (sym fails ∙ legal_passes old journal entry more (opening_state (directory_of old)) (subst (λ (es : List Entry). IsLegal (directory_of old) es) is legal))

  pub mismatch : (made place : ℕ) (left : D) → place ≡ reader.place → IsLegal (directory_in before.source) journal → IsCarried old new event status before after (carried.Mismatch made)
      → IsReadAs past faults old new reader.disk after left (Err (migrated.Mismatch place status made))
  mismatch made place left place_is legal again =
      subst (λ (at : ℕ). IsMismatch old (past reader.disk) at status made) (sym place_is)
      (record {
        entries = journal;
        entry = entry;
        next = next_entry_is legal;
        otherwise_made = made_otherwise old told before.source into.whole.books_of.source event status entry found.1 made after.source again;
        no_history = no_history made again;
      })

  pub declined : (made place : ℕ) (left : D) → place ≡ reader.place → IsLegal (directory_in before.source) journal → IsCarried old new event status before after (carried.Declined made)
      → IsReadAs past faults old new reader.disk after left (Err (migrated.Declined place status made))
  declined made place left place_is legal again =
      let next = next_entry_is legal in
      subst (λ (at : ℕ). IsDeclined old new (past reader.disk) at status made) (sym place_is)
      (record {
        entries = journal;
        entry = entry;
        next = next;
        legal = legal_with old journal entry (opening_state (directory_of old)) next.legal (passes old told before.source into.whole.books_of.source event status entry found.1 after.source again.0);
        otherwise_made = subst (λ (es : List Entry). IsAcceptedOtherwise new es (moved_entry old new entry) status made) into.whole.moved
            (made_otherwise new told_new before.target into.whole.books_of.target (moved_event old new event) status (moved_entry old new entry) (event_moved old new all event status entry found.1) made after.target again.1);
      })

-- The end, and a bad record

pub read_whole : {D : Type 0} (past : D → Option Past) (faults : D → ℕ) (old new : Users) (books : Books) (reader : ReaderState D) (keeper : KeeperState D) (left : D)
    → IsReadInto past old new books reader → IsFound past faults old reader (next_entry.End keeper) → IsReadAs past faults old new reader.disk books left (Ok tt)
read_whole past faults old new books reader keeper left into found = record {
  whole = into.whole;
  stood = both (IsRead old books.source.work.journal reader.place) (Ends old reader.place) (λ p. StandsFor old books.source.work.journal (reading p)) (past reader.disk)
      (λ p was ends. (let kept = ends.kept books.source.work.journal was in record { recorded = kept.recorded; file = kept.kept.file })) into.read found.0;
}

pub read_badly : {D : Type 0} (past : D → Option Past) (faults : D → ℕ) (old new : Users) (books : Books) (reader : ReaderState D) (left : D) (place : ℕ) → IsLegal (directory_in books.source) books.source.work.journal
    → IsReadInto past old new books reader → IsFound past faults old reader (next_entry.Bad left place) → IsReadAs past faults old new reader.disk books left (Err (migrated.Refused place))
read_badly past faults old new books reader left place legal into found = (
  subst (λ (at : ℕ). IfSome (past reader.disk) (EndsBadly old at)) (sym found.1)
      (both (IsRead old books.source.work.journal reader.place) (IsBadAt old reader.place) (EndsBadly old reader.place) (past reader.disk)
      (λ p was bad. record { entries = books.source.work.journal; legal = subst (λ (u : Users). IsLegal (directory_of u) books.source.work.journal) into.whole.books_of.source legal; read = was; bad = bad })
      into.read found.0),
  both (IsRead old books.source.work.journal reader.place) (IsBadAt old reader.place) (λ p. IsNoHistory old (reading p)) (past reader.disk) (λ p was bad entries legal_too stands. bad.stands books.source.work.journal entries was stands) into.read found.0,
)
