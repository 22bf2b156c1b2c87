-- What comes of a change that is asked of a book again.
use Rattle.std.proofs.Common.{◌≡◌, ℕ, ◌<◌, Bool, true, false, ◌==◌, List, [], ◌∷◌, ◌++◌, length, Option, Some, slice_get, refl, sym, ◌∙◌, ap, subst}
use Rattle.std.specs.Prelude.{if◌then◌else◌}
use Rattle.std.proofs.lemmas.Bool.{false≢true, eqb-true, eq-eqb}
use Rattle.cal_model.specs.declared.request.Event.{Event}
use Rattle.cal_model.specs.History.Claims.{Work}
use Rattle.cal_model.specs.History.Journal.{Entry, asked, entry_of, replay_from, IsAcceptedAt, IsLegalFrom}
use Rattle.cal_model.specs.Serving.EventReplies.{state_of, state_after}
use Rattle.cal_model.specs.Serving.Outcomes.{Outcome, accepted, unchanged, outcome}
use Rattle.cal_model.specs.State.Changes.{Change, change_of}
use Rattle.cal_model.specs.State.ServerState.{Directory, ServerState, directory_of}
use Rattle.cal_model.specs.State.UserNames.{AreToldApart}
use Rattle.cal_model.specs.Users.UsersFile.{Users}
use Rattle.cal_keeper.specs.Files.NextEntries.{IsEventOf}
use Rattle.cal_keeper.specs.Files.Payloads.{home_of}
use Rattle.cal_book.specs.Cores.{Core, directory_in, state_in}
use Rattle.cal_book.specs.EventSteps.{entries_by, entries_made, work_after, journal_after, state_behind}
use Rattle.cal_book.specs.LegalJournals.{is_accepted_with}
use Rattle.journal_migration.specs.Carrying.{remade_by, IsRemadeBy, IsRemade}
use Rattle.journal_migration.specs.Migrations.{status_made, outcome_behind, IsAcceptedOtherwise}
use Rattle.journal_migration.specs.declared.asking.Remade.TheVariants as remade
use Rattle.journal_migration.proofs.EntryLaws.{own_change}

-- By the entry that came of it

by_status : (kept : ℕ) (fact : Type 0) (given : ℕ) (after : ServerState) → fact → (test : Bool) → (given == kept) ≡ test → IsRemadeBy (accepted given after) kept fact (if test then remade.Same else remade.Other given)
by_status kept fact given after holds true is = (is, holds)
by_status kept fact given after holds false is = (is, refl)

by_outcome : (kept : ℕ) (fact : Type 0) → fact → (event : Event) (change : Change) (made : Outcome) → IsRemadeBy made kept fact (remade_by (slice_get (entries_by event (Some change) made) 0) kept)
by_outcome kept fact holds event change (accepted given after) = by_status kept fact given after holds (given == kept) refl
by_outcome kept fact holds event change (unchanged reply) = (refl, refl)

at_seam : (entries more : List Entry) → slice_get (entries ++ more) (length entries) ≡ slice_get more 0
at_seam [] more = refl
at_seam (entry ∷ entries) more = at_seam entries more

module _ (old new : Core) (event : Event) (change : Change) (is : change_of (directory_in old) event.request ≡ Some change) (work : new.work ≡ work_after old.users event old.work) where
  first_made : slice_get new.work.journal (length old.work.journal) ≡ slice_get (entries_by event (Some change) (outcome (directory_in old) (state_in old) event)) 0
  first_made =
      ap (λ (w : Work). slice_get w.journal (length old.work.journal)) work
      ∙ at_seam old.work.journal (entries_made old.users (state_in old) event)
      ∙ ap (λ (c : Option Change). slice_get (entries_by event c (outcome (directory_in old) (state_in old) event)) 0) is

  pub remade_is : (kept : ℕ) → IsRemade old event kept new (remade_by (slice_get new.work.journal (length old.work.journal)) kept)
  remade_is kept =
      subst (λ (found : Option Entry). IsRemade old event kept new (remade_by found kept)) (sym first_made)
      (by_outcome kept (new.work.journal ≡ journal_after old.users event old.work.journal) (ap (λ (w : Work). w.journal) work) event change (outcome (directory_in old) (state_in old) event))

-- What is accepted with its status makes the entry anew

remade_entry : (entry : Entry) (event : Event) (made : Outcome) → entry_of event entry.change entry.status ≡ entry → is_accepted_with entry.status made ≡ true → entries_by event (Some entry.change) made ≡ entry ∷ []
remade_entry entry event (accepted given after) own passes = ap (λ (status : ℕ). entry_of event entry.change status ∷ []) (eqb-true given entry.status passes) ∙ ap (λ (e : Entry). e ∷ []) own
remade_entry entry event (unchanged reply) own passes = absurd (false≢true passes)

made_anew : (users : Users) (state : ServerState) (entry : Entry) → AreToldApart (directory_of users) → home_of entry.change < length users.people
    → is_accepted_with entry.status (outcome (directory_of users) state (asked (directory_of users) entry)) ≡ true → entries_made users state (asked (directory_of users) entry) ≡ entry ∷ []
made_anew users state entry told within passes =
    ap (λ (c : Option Change). entries_by (asked (directory_of users) entry) c (outcome (directory_of users) state (asked (directory_of users) entry))) (own_change users told entry.change within)
    ∙ remade_entry entry (asked (directory_of users) entry) (outcome (directory_of users) state (asked (directory_of users) entry)) refl passes

-- An event of an entry, asked of a book of these users

module _ (users : Users) (told : AreToldApart (directory_of users)) (book : Core) (users_are : book.users ≡ users) (event : Event) (status : ℕ) (entry : Entry) (of_entry : IsEventOf users event status entry) where
  pub asks_change : change_of (directory_in book) event.request ≡ Some entry.change
  asks_change =
      subst (λ (u : Users). change_of (directory_of u) event.request ≡ Some entry.change) (sym users_are)
      (subst (λ (e : Event). change_of (directory_of users) e.request ≡ Some entry.change) (sym of_entry.event_is) (own_change users told entry.change of_entry.recorded.form.home))

  same_outcome : outcome (directory_in book) (state_in book) event ≡ outcome_behind users book.work.journal entry
  same_outcome =
      ap (λ (u : Users). outcome (directory_of u) (state_behind u book.work.journal) event) users_are
      ∙ ap (λ (e : Event). outcome (directory_of users) (state_behind users book.work.journal) e) of_entry.event_is

  same_made : entries_made book.users (state_in book) event ≡ entries_made users (state_behind users book.work.journal) (asked (directory_of users) entry)
  same_made =
      ap (λ (u : Users). entries_made u (state_behind u book.work.journal) event) users_are
      ∙ ap (λ (e : Event). entries_made users (state_behind users book.work.journal) e) of_entry.event_is

  pub passes : (new : Core) → IsRemade book event status new remade.Same → is_accepted_with entry.status (outcome_behind users book.work.journal entry) ≡ true
  passes new again =
      ap (is_accepted_with entry.status) (sym same_outcome) ∙ ap (λ (n : ℕ). is_accepted_with n (outcome (directory_in book) (state_in book) event)) (sym of_entry.status_is) ∙ again.0

  -- the entry is behind the others
  pub grown : (new : Core) → IsRemade book event status new remade.Same → new.work.journal ≡ book.work.journal ++ entry ∷ []
  grown new again =
      again.1
      ∙ ap (λ (es : List Entry). book.work.journal ++ es) (same_made ∙ made_anew users (state_behind users book.work.journal) entry told of_entry.recorded.form.home (passes new again))

  -- or it was not accepted as it was
  pub made_otherwise : (made : ℕ) (new : Core) → IsRemade book event status new (remade.Other made) → IsAcceptedOtherwise users book.work.journal entry status made
  made_otherwise made new again = record {
    kept_is = of_entry.status_is;
    other = ap (is_accepted_with status) (sym same_outcome) ∙ again.0;
    made_is = again.1 ∙ ap status_made same_outcome;
  }

-- Legal histories

accepted_with : (status : ℕ) (state : ServerState) (made : Outcome) → is_accepted_with status made ≡ true → made ≡ accepted status (state_of state made)
accepted_with status state (accepted given after) passes = ap (λ (n : ℕ). accepted n after) (eqb-true given status passes)
accepted_with status state (unchanged reply) passes = absurd (false≢true passes)

-- a legal history stays legal with an entry that passes behind it
pub legal_with : (users : Users) (entries : List Entry) (entry : Entry) (state : ServerState) → IsLegalFrom (directory_of users) state entries
    → is_accepted_with entry.status (outcome (directory_of users) (replay_from (directory_of users) state entries) (asked (directory_of users) entry)) ≡ true → IsLegalFrom (directory_of users) state (entries ++ entry ∷ [])
legal_with users [] entry state legal passed = (accepted_with entry.status state (outcome (directory_of users) state (asked (directory_of users) entry)) passed, tt)
legal_with users (first ∷ entries) entry state legal passed = (legal.0, legal_with users entries entry (state_after (directory_of users) state (asked (directory_of users) first)) legal.1 passed)

accepted_at : (directory : Directory) (state : ServerState) (entries : List Entry) (entry : Entry) (more : List Entry) → IsLegalFrom directory state (entries ++ entry ∷ more) → IsAcceptedAt directory (replay_from directory state entries) entry
accepted_at directory state [] entry more legal = legal.0
accepted_at directory state (first ∷ entries) entry more legal = accepted_at directory (state_after directory state (asked directory first)) entries entry more legal.1

-- each entry of a legal history passes behind those before it
pub legal_passes : (users : Users) (entries : List Entry) (entry : Entry) (more : List Entry) (state : ServerState) → IsLegalFrom (directory_of users) state (entries ++ entry ∷ more)
    → is_accepted_with entry.status (outcome (directory_of users) (replay_from (directory_of users) state entries) (asked (directory_of users) entry)) ≡ true
legal_passes users entries entry more state legal =
    ap (is_accepted_with entry.status) (accepted_at (directory_of users) state entries entry more legal) ∙ eq-eqb entry.status entry.status refl
