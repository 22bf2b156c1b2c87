-- A kept book is loaded: what was read so far, and what each end comes to.
use Rattle.std.proofs.Common.{◌≡◌, ◌≢◌, inl, inr, ℕ, ◌+◌, ◌<◌, ◌≤◌, ◌^◌, true, false, List, [], ◌∷◌, ◌++◌, length, drop, map, Option, Some, None, Ok, IfSome, option_map, refl, sym, ◌∙◌, ap, subst, arith, length-append}
use Rattle.std.specs.List.{AllByRecursion}
use Rattle.std.proofs.lemmas.Bool.{false≢true}
use Rattle.turn_lock.proofs.Histories.{all_as}
use Rattle.cal_model.specs.declared.request.Event.{Event}
use Rattle.cal_model.specs.History.Journal.{Entry, asked, IsLegal}
use Rattle.cal_model.specs.Serving.Outcomes.{outcome}
use Rattle.cal_model.specs.State.Changes.{Change, change_of}
use Rattle.cal_model.specs.State.ServerState.{directory_of, opening_state}
use Rattle.cal_model.specs.State.UserNames.{AreToldApart}
use Rattle.cal_model.specs.Users.UsersFile.{Users}
use Rattle.cal_keeper.specs.declared.reader.NextEntry.TheVariants as next_entry
use Rattle.cal_keeper.specs.Disks.CrashModel.{Past, reading, synced}
use Rattle.cal_keeper.specs.Files.Creating.{HasLength}
use Rattle.cal_keeper.specs.Files.NextEntries.{GoesOn, IsFound}
use Rattle.cal_keeper.specs.Files.Opening.{IsNoJournal, IsOfOthers, StandsForNone, IsUnwritten}
use Rattle.cal_keeper.specs.Files.Payloads.{payload_of}
use Rattle.cal_keeper.specs.Files.RecordForm.{HasRecord}
use Rattle.cal_keeper.specs.Files.Standing.{recorded, IsRecorded, IsKeptFor, IsRead}
use Rattle.cal_keeper.specs.Keepers.{KeeperState, ReaderState}
use Rattle.cal_keeper.specs.Principals.{counts_of}
use Rattle.cal_book.specs.Cores.{Core, directory_in, state_in}
use Rattle.cal_book.specs.EventSteps.{entries_made, state_behind}
use Rattle.cal_book.specs.LegalJournals.{is_accepted_with}
use Rattle.cal_session.specs.Loading.{IsNoHistory, HasTaken, IsReady, EndsBadly, IsRefusedAt, IsRefused, status_made, outcome_behind, Differs, IsMismatched, IsLoaded, disk_left}
use Rattle.cal_session.specs.LoadSteps.{IsRemade, IsReadInto, IsReadWhole, IsReadAs, IsReadOn, loaded_by, KeepsWhole, disk_in}
use Rattle.cal_session.specs.declared.loading.Filled.{Filled}
use Rattle.cal_session.specs.declared.loading.Filled.TheVariants as filled
use Rattle.cal_session.specs.declared.loading.Loaded.{Loaded}
use Rattle.cal_session.specs.declared.loading.Loaded.TheVariants as loaded
use Rattle.cal_session.specs.declared.loading.Remade.TheVariants as remade
use Rattle.cal_session.proofs.RemadeLaws.{own_change, made_anew, legal_passes}
use Rattle.cal_session.proofs.SessionLaws.{rose_since}

-- Facts that are told where a past is

both : (P Q R : Past → Type 0) (told : Option Past) → ((past : Past) → P past → Q past → R past) → IfSome told P → IfSome told Q → IfSome told R
both P Q R None join p q = tt
both P Q R (Some past) join p q = join past p q

each : (P Q : Past → Type 0) (told : Option Past) → ((past : Past) → P past → Q past) → IfSome told P → IfSome told Q
each P Q None more p = tt
each P Q (Some past) more p = more past p

-- what holds of a file that was synced holds of it before
before_sync : (P : Past → Type 0) (old new : Option Past) → new ≡ option_map synced old → IfSome new P → IfSome old (λ p. P (synced p))
before_sync P None new is p = tt
before_sync P (Some past) new is p = subst (λ (told : Option Past). IfSome told P) is p

-- Lists of entries

all_push : (P : Entry → Type 0) (entries : List Entry) (entry : Entry) → AllByRecursion P entries → P entry → AllByRecursion P (entries ++ entry ∷ [])
all_push P [] entry all one = (one, tt)
all_push P (first ∷ entries) entry all one = (all.0, all_push P entries entry all.1 one)

own_record : (entry : Entry) → entry.session ≡ 0 → recorded entry ≡ entry
own_record entry none = ap (λ (session : ℕ). record entry { session = session }) (sym none)

-- entries of a file are as they are recorded
pub as_recorded : (users : Users) (entries : List Entry) → AllByRecursion (IsRecorded users) entries → map recorded entries ≡ entries
as_recorded users [] all = refl
as_recorded users (entry ∷ entries) all = ap (λ (e : Entry). e ∷ map recorded entries) (own_record entry all.0.session) ∙ ap (λ (es : List Entry). entry ∷ es) (as_recorded users entries all.1)

-- A record that was read

module _ {D : Type 0} (past : D → Option Past) (faults : D → ℕ) (users : Users) (book : Core) (reader behind : ReaderState D) (event : Event) (status : ℕ) (old : IsReadInto past users book reader) (found : IsFound past faults users reader (next_entry.Entry behind event status)) where
  abbrev entry : Entry
  entry = found.0

  abbrev journal : List Entry
  journal = book.work.journal

  -- what was asked of the book is what the entry asks of these users
  pub same_outcome : outcome (directory_in book) (state_in book) event ≡ outcome_behind users journal entry
  same_outcome =
      ap (λ (u : Users). outcome (directory_of u) (state_behind u journal) event) old.users_are
      ∙ ap (λ (e : Event). outcome (directory_of users) (state_behind users journal) e) found.1.event_is

  -- and it asks for a change
  pub asks_change : AreToldApart (directory_of users) → (change : Change) × (change_of (directory_in book) event.request ≡ Some change)
  asks_change told = (
    entry.change,
    subst (λ (u : Users). change_of (directory_of u) event.request ≡ Some entry.change) (sym old.users_are)
        (subst (λ (e : Event). change_of (directory_of users) e.request ≡ Some entry.change) (sym found.1.event_is) (own_change users told entry.change found.1.recorded.form.home)),
  )

  module _ (new : Core) (told : AreToldApart (directory_of users)) (users_kept : new.users ≡ book.users) where
    same_made : entries_made book.users (state_in book) event ≡ entries_made users (state_behind users journal) (asked (directory_of users) entry)
    same_made =
        ap (λ (u : Users). entries_made u (state_behind u journal) event) old.users_are
        ∙ ap (λ (e : Event). entries_made users (state_behind users journal) e) found.1.event_is

    passes : IsRemade book event status new remade.Same → is_accepted_with entry.status (outcome_behind users journal entry) ≡ true
    passes again =
        ap (is_accepted_with entry.status) (sym same_outcome) ∙ ap (λ (n : ℕ). is_accepted_with n (outcome (directory_in book) (state_in book) event)) (sym found.1.status_is) ∙ again.0

    grown : IsRemade book event status new remade.Same → new.work.journal ≡ journal ++ entry ∷ []
    grown again =
        again.1.0
        ∙ ap (λ (es : List Entry). journal ++ es) (same_made ∙ made_anew users (state_behind users journal) entry told found.1.recorded.form.home (passes again))

    pub read_on : past behind.disk ≡ past reader.disk → IsRemade book event status new remade.Same → IsReadInto past users new behind
    read_on same again =
        let journal_is = grown again in
        let read : IfSome (past reader.disk) (IsRead users (journal ++ entry ∷ []) behind.place) =
        both (IsRead users journal reader.place) (GoesOn users entry reader.place behind.place) (IsRead users (journal ++ entry ∷ []) behind.place) (past reader.disk) (λ p was goes. goes.read journal was) old.read found.3 in
        record {
          users_are = users_kept ∙ old.users_are;
          out = again.1.1 ∙ old.out;
          recorded = subst (λ (es : List Entry). AllByRecursion (IsRecorded users) es) (sym journal_is) (all_push (IsRecorded users) journal entry old.recorded found.1.recorded);
          principals = sym found.4;
          records = found.5 ∙ ap (λ (n : ℕ). n + 1) old.records ∙ sym (ap length journal_is ∙ length-append journal (entry ∷ []));
          read = subst (λ (es : List Entry). IfSome (past behind.disk) (IsRead users es behind.place)) (sym journal_is)
              (subst (λ (o : Option Past). IfSome o (IsRead users (journal ++ entry ∷ []) behind.place)) (sym same) read);
        }

    pub read_on_to : past behind.disk ≡ past reader.disk → reader.place < 2 ^ 64 → IsRemade book event status new remade.Same → IsReadOn past faults users reader new (Ok behind)
    read_on_to same within again = let further = found.2 in (read_on same again, same, omega (arith, further), within)

  -- another status is told where the entry is not accepted with its own
  pub differs : (made : ℕ) (new : Core) → IsLegal (directory_in book) journal → IsRemade book event status new (remade.Other made) → Differs users (past reader.disk) reader.place status made
  differs made new legal again = record {
    entries = journal;
    entry = entry;
    legal = subst (λ (u : Users). IsLegal (directory_of u) journal) old.users_are legal;
    recorded = found.1.recorded;
    there = both (IsRead users journal reader.place) (GoesOn users entry reader.place behind.place) (λ p. IsRead users journal reader.place p × HasRecord (payload_of entry) (drop reader.place (reading p))) (past reader.disk)
        (λ p was goes. (was, goes.there)) old.read found.3;
    kept_is = found.1.status_is;
    other = ap (is_accepted_with status) (sym same_outcome) ∙ again.0;
    made_is = again.1 ∙ ap status_made same_outcome;
  }

  -- and then the file stands for no legal history
  pub no_history : (made : ℕ) (new : Core) → IsRemade book event status new (remade.Other made) → IfSome (past reader.disk) (λ p. IsNoHistory users (reading p))
  no_history made new again =
      both (IsRead users journal reader.place) (GoesOn users entry reader.place behind.place) (λ p. IsNoHistory users (reading p)) (past reader.disk)
      (λ p was goes all legal stands. refuted all legal (goes.stands journal all was stands)) old.read found.3
    where
      refused : is_accepted_with entry.status (outcome_behind users journal entry) ≡ false
      refused = ap (λ (n : ℕ). is_accepted_with n (outcome_behind users journal entry)) (sym found.1.status_is) ∙ ap (is_accepted_with status) (sym same_outcome) ∙ again.0

      refuted : (all : List Entry) → IsLegal (directory_of users) all → (more : List Entry) × (all ≡ journal ++ entry ∷ more) → ⊥
      refuted all legal (more, all_is) =
          let passed = legal_passes users journal entry more (opening_state (directory_of users)) (subst (λ (es : List Entry). IsLegal (directory_of users) es) all_is legal) in
          false≢true (sym refused ∙ passed)

  pub read_other : (made place : ℕ) (new : Core) (left : D) → left ≡ behind.disk → place ≡ reader.place → past behind.disk ≡ past reader.disk → IsLegal (directory_in book) journal
      → IsRemade book event status new (remade.Other made) → IsReadAs past faults users reader.disk new (filled.Mismatch left place status made)
  read_other made place new left left_is place_is same legal again =
      (ap past left_is ∙ same, subst (λ (at : ℕ). Differs users (past reader.disk) at status made) (sym place_is) (differs made new legal again), no_history made new again)

-- The start

pub begun : {D : Type 0} (past : D → Option Past) (users : Users) (book : Core) (reader : ReaderState D) → book.users ≡ users → book.work.out ≡ [] → book.work.journal ≡ []
    → reader.principals ≡ counts_of users → reader.records ≡ 0 → IfSome (past reader.disk) (IsRead users [] reader.place) → IsReadInto past users book reader
begun past users book reader users_are out none principals records read = record {
  users_are = users_are;
  out = out;
  recorded = subst (λ (es : List Entry). AllByRecursion (IsRecorded users) es) (sym none) tt;
  principals = sym principals;
  records = records ∙ ap length (sym none);
  read = subst (λ (es : List Entry). IfSome (past reader.disk) (IsRead users es reader.place)) (sym none) read;
}

-- The ends of a reading, as those of a loading

module _ {D : Type 0} (past : D → Option Past) (faults : D → ℕ) (users : Users) (disk first : D) (synced_is : past first ≡ option_map synced (past disk)) where
  taken : (entries : List Entry) (place : ℕ) (old new : Option Past) → new ≡ option_map synced old → IfSome new (IsKeptFor users entries place) → IfSome old (HasTaken users entries new)
  taken entries place None new is kept = tt
  taken entries place (Some p) new is kept =
      let now : IsKeptFor users entries place (synced p) = subst (λ (o : Option Past). IfSome o (IsKeptFor users entries place)) is kept in
      inr (record { recorded = now.recorded; file = now.kept.file }, is)

  ready : (book : Core) (keeper : KeeperState D) → IsReadWhole past users book keeper → past keeper.disk ≡ past first → IsReady past users disk (record { book = book; keeper = keeper })
  ready book keeper whole same = record {
    unbroken = whole.unbroken;
    users_are = whole.users_are;
    sessions = all_as (IsRecorded users) (λ (entry : Entry). entry.session ≡ 0) book.work.journal (λ entry is. is.session) whole.recorded;
    legal = whole.legal;
    out = whole.out;
    kept_for = record {
      principals = whole.principals ∙ ap counts_of (sym whole.users_are);
      records = λ unbroken. whole.records;
      file = λ unbroken.
          subst (λ (u : Users). IfSome (past keeper.disk) (IsKeptFor u (map recorded book.work.journal) keeper.place)) (sym whole.users_are)
          (subst (λ (es : List Entry). IfSome (past keeper.disk) (IsKeptFor users es keeper.place)) (sym (as_recorded users book.work.journal whole.recorded)) whole.kept_for);
      left = λ broken. absurd (false≢true (sym whole.unbroken ∙ broken));
    };
    stands = taken book.work.journal keeper.place (past disk) (past keeper.disk) (same ∙ synced_is) whole.kept_for;
  }

  unwritten : (left : D) → past left ≡ past first → IsUnwritten (past disk) (past left)
  unwritten left same = inr (same ∙ synced_is)

  refused : (left : D) (place : ℕ) → IfSome (past disk) (λ p. reading p ≢ []) → past left ≡ past first → IfSome (past first) (EndsBadly users place) → IfSome (past first) (λ p. IsNoHistory users (reading p)) → IsRefused past users disk left place
  refused left place some same bad none = record {
    unwritten = unwritten left same;
    some = some;
    cause = each (λ p. EndsBadly users place (synced p)) (IsRefusedAt users place) (past disk) (λ p ends. inr (inr ends)) (before_sync (EndsBadly users place) (past disk) (past first) synced_is bad);
    no_history = before_sync (λ p. IsNoHistory users (reading p)) (past disk) (past first) synced_is none;
  }

  mismatched : (left : D) (place kept made : ℕ) → past left ≡ past first → Differs users (past first) place kept made → IfSome (past first) (λ p. IsNoHistory users (reading p)) → IsMismatched past users disk left place kept made
  mismatched left place kept made same is none = record {
    unwritten = unwritten left same;
    differs = subst (λ (o : Option Past). Differs users o place kept made) synced_is is;
    no_history = before_sync (λ p. IsNoHistory users (reading p)) (past disk) (past first) synced_is none;
  }

  pub loaded_as_read : (book : Core) (end : Filled D) → faults disk ≤ faults first → faults first ≤ faults (disk_in end) → IfSome (past disk) (λ p. reading p ≢ []) → IsReadAs past faults users first book end
      → IsLoaded past faults users disk (loaded_by book end)
  loaded_as_read book (filled.Whole keeper) opened falls some ended = ready book keeper ended.0 ended.1
  loaded_as_read book (filled.Refused left place) opened falls some ended = refused left place some ended.0 ended.1 ended.2
  loaded_as_read book (filled.Mismatch left place kept made) opened falls some ended = mismatched left place kept made ended.0 ended.1 ended.2
  loaded_as_read book (filled.Failed left) opened falls some ended = rose_since (faults disk) (faults first) (faults left) opened falls ended
  loaded_as_read book (filled.NoMemory left) opened falls some ended = unwritten left ended

-- Files that are not opened

no_journal : (users : Users) (p : Past) → IsNoJournal (reading p) → IsRefusedAt users 0 p
no_journal users p is = inl (refl, is)

of_others : (users : Users) (place : ℕ) (p : Past) → IsOfOthers users place (reading p) → IsRefusedAt users place p
of_others users place p is = inr (inl is)

stands_for_none : (users : Users) (p : Past) → StandsForNone users (reading p) → IsNoHistory users (reading p)
stands_for_none users p none = λ entries legal stands. none entries stands

module _ {D : Type 0} (past : D → Option Past) (users : Users) (disk left : D) (some : IfSome (past disk) (λ p. reading p ≢ [])) (unwritten : IsUnwritten (past disk) (past left)) (none : IfSome (past disk) (λ p. StandsForNone users (reading p))) where
  no_history_there : IfSome (past disk) (λ p. IsNoHistory users (reading p))
  no_history_there = each (λ p. StandsForNone users (reading p)) (λ p. IsNoHistory users (reading p)) (past disk) (stands_for_none users) none

  pub refused_journal : IfSome (past disk) (λ p. IsNoJournal (reading p)) → IsRefused past users disk left 0
  refused_journal is = record {
    unwritten = unwritten;
    some = some;
    cause = each (λ p. IsNoJournal (reading p)) (IsRefusedAt users 0) (past disk) (no_journal users) is;
    no_history = no_history_there;
  }

  pub refused_users : (place : ℕ) → IfSome (past disk) (λ p. IsOfOthers users place (reading p)) → IsRefused past users disk left place
  refused_users place is = record {
    unwritten = unwritten;
    some = some;
    cause = each (λ p. IsOfOthers users place (reading p)) (IsRefusedAt users place) (past disk) (of_others users place) is;
    no_history = no_history_there;
  }

-- A file that is made

empty : (octets : List ℕ) → 0 ≡ length octets → octets ≡ []
empty [] none = refl
empty (octet ∷ octets) none = absurd (omega (arith, none))

pub ready_new : {D : Type 0} (past : D → Option Past) (users : Users) (disk : D) (book : Core) (keeper : KeeperState D) → book.users ≡ users → book.work.out ≡ [] → book.work.journal ≡ []
    → HasLength 0 (past disk) → IfSome (past keeper.disk) (IsKeptFor users [] keeper.place) → keeper.principals ≡ counts_of users → keeper.records ≡ 0 → keeper.broken ≡ false
    → IsReady past users disk (record { book = book; keeper = keeper })
ready_new past users disk book keeper users_are out none length_is kept principals records unbroken = record {
  unbroken = unbroken;
  users_are = users_are;
  sessions = subst (λ (es : List Entry). AllByRecursion (λ (entry : Entry). entry.session ≡ 0) es) (sym none) tt;
  legal = subst (λ (es : List Entry). IsLegal (directory_of users) es) (sym none) tt;
  out = out;
  kept_for = record {
    principals = principals ∙ ap counts_of (sym users_are);
    records = λ whole. records ∙ ap length (sym none);
    file = λ whole.
        subst (λ (es : List Entry). IfSome (past keeper.disk) (IsKeptFor book.users (map recorded es) keeper.place)) (sym none)
        (subst (λ (u : Users). IfSome (past keeper.disk) (IsKeptFor u [] keeper.place)) (sym users_are) kept);
    left = λ broken. absurd (false≢true (sym unbroken ∙ broken));
  };
  stands = each (λ p. 0 ≡ length (reading p)) (HasTaken users book.work.journal (past keeper.disk)) (past disk) (λ p is. inl (empty (reading p) is, none)) length_is;
}

-- The end of a loading, where the length was asked for first

not_empty : (octets : List ℕ) (count : ℕ) → count ≢ 0 → count ≡ length octets → octets ≢ []
not_empty octets count some is = λ none. some (is ∙ ap length none)

pub has_octets : (old new : Option Past) (count : ℕ) → HasLength count old → count ≢ 0 → new ≡ old → IfSome new (λ p. reading p ≢ [])
has_octets old new count length_is some same =
    subst (λ (o : Option Past). IfSome o (λ p. reading p ≢ [])) (sym same) (each (λ p. count ≡ length (reading p)) (λ p. reading p ≢ []) old (λ p is. not_empty (reading p) count some is) length_is)

module _ {D : Type 0} (past : D → Option Past) (faults : D → ℕ) (users : Users) (disk asked_disk : D) (same : past asked_disk ≡ past disk) (falls : faults disk ≤ faults asked_disk) where
  pub loaded_on : (end : Loaded D) → faults asked_disk ≤ faults (disk_left end) → IsLoaded past faults users asked_disk end → IsLoaded past faults users disk end
  loaded_on (loaded.Ready kept) more is = record {
    unbroken = is.unbroken;
    users_are = is.users_are;
    sessions = is.sessions;
    legal = is.legal;
    out = is.out;
    kept_for = is.kept_for;
    stands = subst (λ (o : Option Past). IfSome o (HasTaken users kept.book.work.journal (past kept.keeper.disk))) same is.stands;
  }
  loaded_on (loaded.Refused left place) more is = record {
    unwritten = subst (λ (o : Option Past). IsUnwritten o (past left)) same is.unwritten;
    some = subst (λ (o : Option Past). IfSome o (λ p. reading p ≢ [])) same is.some;
    cause = subst (λ (o : Option Past). IfSome o (IsRefusedAt users place)) same is.cause;
    no_history = subst (λ (o : Option Past). IfSome o (λ p. IsNoHistory users (reading p))) same is.no_history;
  }
  loaded_on (loaded.Mismatch left place kept made) more is = record {
    unwritten = subst (λ (o : Option Past). IsUnwritten o (past left)) same is.unwritten;
    differs = subst (λ (o : Option Past). Differs users (option_map synced o) place kept made) same is.differs;
    no_history = subst (λ (o : Option Past). IfSome o (λ p. IsNoHistory users (reading p))) same is.no_history;
  }
  loaded_on (loaded.Failed left) more is = rose_since (faults disk) (faults asked_disk) (faults left) falls more is
  loaded_on (loaded.NoMemory left) more is = subst (λ (o : Option Past). IsUnwritten o (past left)) same is

-- The end of a reading, from a reader further back

pub read_from : {D : Type 0} (past : D → Option Past) (faults : D → ℕ) (users : Users) (first now : D) (book : Core) (end : Filled D) → past now ≡ past first → faults first ≤ faults now → faults now ≤ faults (disk_in end)
    → IsReadAs past faults users now book end → IsReadAs past faults users first book end
read_from past faults users first now book (filled.Whole keeper) same falls more ended = (ended.0, ended.1 ∙ same)
read_from past faults users first now book (filled.Refused left place) same falls more ended =
    (ended.0 ∙ same, subst (λ (o : Option Past). IfSome o (EndsBadly users place)) same ended.1, subst (λ (o : Option Past). IfSome o (λ p. IsNoHistory users (reading p))) same ended.2)
read_from past faults users first now book (filled.Mismatch left place kept made) same falls more ended =
    (ended.0 ∙ same, subst (λ (o : Option Past). Differs users o place kept made) same ended.1, subst (λ (o : Option Past). IfSome o (λ p. IsNoHistory users (reading p))) same ended.2)
read_from past faults users first now book (filled.Failed left) same falls more ended = rose_since (faults first) (faults now) (faults left) falls more ended
read_from past faults users first now book (filled.NoMemory left) same falls more ended = ended ∙ same

-- The end of a filling and that of its loading

pub left_by : {D : Type 0} (book : Core) (end : Filled D) → disk_left (loaded_by book end) ≡ disk_in end
left_by book (filled.Whole keeper) = refl
left_by book (filled.Refused left place) = refl
left_by book (filled.Mismatch left place kept made) = refl
left_by book (filled.Failed left) = refl
left_by book (filled.NoMemory left) = refl

pub keeps_whole : {D : Type 0} (past : D → Option Past) (faults : D → ℕ) (users : Users) (disk : D) (book : Core) (end : Filled D) → IsLoaded past faults users disk (loaded_by book end) → KeepsWhole past book end
keeps_whole past faults users disk book (filled.Whole keeper) is = is.kept_for
keeps_whole past faults users disk book (filled.Refused left place) is = tt
keeps_whole past faults users disk book (filled.Mismatch left place kept made) is = tt
keeps_whole past faults users disk book (filled.Failed left) is = tt
keeps_whole past faults users disk book (filled.NoMemory left) is = tt

pub loaded_as_filled : {D : Type 0} (past : D → Option Past) (faults : D → ℕ) (users given : Users) (disk : D) (book : Core) (filled : Filled D) (end : Loaded D) → given ≡ users → end ≡ loaded_by book filled
    → IsLoaded past faults given disk (loaded_by book filled) → IsLoaded past faults users disk end
loaded_as_filled past faults users given disk book filled end users_are is loaded =
    subst (λ (e : Loaded _). IsLoaded past faults users disk e) (sym is) (subst (λ (u : Users). IsLoaded past faults u disk (loaded_by book filled)) users_are loaded)

pub falls_as_filled : {D : Type 0} (faults : D → ℕ) (disk : D) (book : Core) (filled : Filled D) (end : Loaded D) → end ≡ loaded_by book filled → faults disk ≤ faults (disk_in filled) → faults disk ≤ faults (disk_left end)
falls_as_filled faults disk book filled end is falls = let same = ap faults (ap disk_left is ∙ left_by book filled) in omega (arith, same, falls)
