-- What comes of a change that is asked of a book again.
use Rattle.std.proofs.Common.{◌≡◌, ℕ, ◌<◌, Bool, true, false, ◌==◌, List, [], ◌∷◌, ◌++◌, length, Option, Some, slice_get, refl, sym, ◌∙◌, ap, subst, arith}
use Rattle.std.specs.Prelude.{if◌then◌else◌, option_and_then}
use Rattle.std.proofs.lemmas.Bool.{false≢true, eqb-true, eq-eqb}
use Rattle.std.proofs.lemmas.List.{length-map}
use Rattle.cal_model.specs.declared.request.Content.TheVariants as content
use Rattle.cal_model.specs.declared.request.Event.{Event}
use Rattle.cal_model.specs.declared.request.Method.TheVariants as method
use Rattle.cal_model.specs.History.Claims.{Work}
use Rattle.cal_model.specs.History.Journal.{Entry, asked, request_for, entry_of, replay_from, IsAcceptedAt, IsLegalFrom}
use Rattle.cal_model.specs.Serving.EventReplies.{state_after}
use Rattle.cal_model.specs.Serving.Outcomes.{Outcome, accepted, unchanged, outcome}
use Rattle.cal_model.specs.State.Changes.{Change, put, delete_object, delete_calendar, make, patch, acl, change_of, change_of_object, change_of_calendar}
use Rattle.cal_model.specs.State.ServerState.{Directory, ServerState, directory_of, user_number, user_name}
use Rattle.cal_model.specs.State.UserNames.{AreToldApart}
use Rattle.cal_model.specs.Users.UsersFile.{User, Users}
use Rattle.cal_keeper.specs.Files.Payloads.{home_of}
use Rattle.cal_book.specs.Cores.{Core, directory_in, state_in}
use Rattle.cal_book.specs.EventSteps.{entries_by, entries_made, work_after}
use Rattle.cal_book.specs.LegalJournals.{is_accepted_with}
use Rattle.cal_session.specs.LoadSteps.{remade_by, IsRemadeBy, GoesOnBy, IsRemade}
use Rattle.cal_session.specs.declared.loading.Remade.TheVariants as remade
use Rattle.cal_session.proofs.KeptLaws.{at_seam}

-- A change in a home of these users is what its request asks for

known : (users : Users) → AreToldApart (directory_of users) → (home : ℕ) → home < length users.people → user_number (directory_of users) (user_name (directory_of users) home) ≡ Some home
known users told home within = told.own home (omega (arith, within, length-map users.people (λ (user : User). user.name)))

pub own_change : (users : Users) → AreToldApart (directory_of users) → (change : Change) → home_of change < length users.people → change_of (directory_of users) (request_for (directory_of users) change) ≡ Some change
unfolding change_of
own_change users told (put home calendar object octets) within = ap (option_and_then (λ h. change_of_object method.Put (content.Put true octets) h calendar object)) (known users told home within)
own_change users told (delete_object home calendar object) within = ap (option_and_then (λ h. change_of_object method.Delete content.None h calendar object)) (known users told home within)
own_change users told (delete_calendar home calendar) within = ap (option_and_then (λ h. change_of_calendar method.Delete content.None h calendar 0)) (known users told home within)
own_change users told (make home calendar sets size) within = ap (option_and_then (λ h. change_of_calendar method.Mkcalendar (content.Make sets) h calendar size)) (known users told home within)
own_change users told (patch home calendar sets size) within = ap (option_and_then (λ h. change_of_calendar method.Proppatch (content.Patch sets) h calendar size)) (known users told home within)
own_change users told (acl home calendar grants size) within = ap (option_and_then (λ h. change_of_calendar method.Acl (content.Acl grants) h calendar size)) (known users told home within)

-- By the entry that came of it

by_status : (kept : ℕ) (fact : Type 0) (given : ℕ) (after : ServerState) → fact → (test : Bool) → (given == kept) ≡ test → IsRemadeBy (accepted given after) kept fact (if test then remade.Same else remade.Other given)
by_status kept fact given after holds true is = (is, holds)
by_status kept fact given after holds false is = (is, refl)

by_outcome : (kept : ℕ) (fact : Type 0) → fact → (event : Event) (change : Change) (made : Outcome) → IsRemadeBy made kept fact (remade_by (slice_get (entries_by event (Some change) made) 0) kept)
by_outcome kept fact holds event change (accepted given after) = by_status kept fact given after holds (given == kept) refl
by_outcome kept fact holds event change (unchanged reply) = (refl, refl)

module _ (old new : Core) (event : Event) (change : Change) (is : change_of (directory_in old) event.request ≡ Some change) (work : new.work ≡ work_after old.users event old.work) where
  first_made : slice_get new.work.journal (length old.work.journal) ≡ slice_get (entries_by event (Some change) (outcome (directory_in old) (state_in old) event)) 0
  first_made =
      ap (λ (w : Work). slice_get w.journal (length old.work.journal)) work
      ∙ at_seam old.work.journal (entries_made old.users (state_in old) event)
      ∙ ap (λ (c : Option Change). slice_get (entries_by event c (outcome (directory_in old) (state_in old) event)) 0) is

  pub remade_is : (kept : ℕ) → IsRemade old event kept new (remade_by (slice_get new.work.journal (length old.work.journal)) kept)
  remade_is kept =
      subst (λ (found : Option Entry). IsRemade old event kept new (remade_by found kept)) (sym first_made)
      (by_outcome kept (GoesOnBy old event new) (ap (λ (w : Work). w.journal) work, ap (λ (w : Work). w.out) work) event change (outcome (directory_in old) (state_in old) event))

-- What is accepted with its status makes the entry anew

remade_entry : (entry : Entry) (event : Event) (made : Outcome) → entry_of event entry.change entry.status ≡ entry → is_accepted_with entry.status made ≡ true → entries_by event (Some entry.change) made ≡ entry ∷ []
remade_entry entry event (accepted given after) own passes = ap (λ (status : ℕ). entry_of event entry.change status ∷ []) (eqb-true given entry.status passes) ∙ ap (λ (e : Entry). e ∷ []) own
remade_entry entry event (unchanged reply) own passes = absurd (false≢true passes)

pub made_anew : (users : Users) (state : ServerState) (entry : Entry) → AreToldApart (directory_of users) → home_of entry.change < length users.people
    → is_accepted_with entry.status (outcome (directory_of users) state (asked (directory_of users) entry)) ≡ true → entries_made users state (asked (directory_of users) entry) ≡ entry ∷ []
made_anew users state entry told within passes =
    ap (λ (c : Option Change). entries_by (asked (directory_of users) entry) c (outcome (directory_of users) state (asked (directory_of users) entry))) (own_change users told entry.change within)
    ∙ remade_entry entry (asked (directory_of users) entry) (outcome (directory_of users) state (asked (directory_of users) entry)) refl passes

-- Of a legal history each entry passes behind those before it

accepted_at : (directory : Directory) (state : ServerState) (entries : List Entry) (entry : Entry) (more : List Entry) → IsLegalFrom directory state (entries ++ entry ∷ more) → IsAcceptedAt directory (replay_from directory state entries) entry
accepted_at directory state [] entry more legal = legal.0
accepted_at directory state (first ∷ entries) entry more legal = accepted_at directory (state_after directory state (asked directory first)) entries entry more legal.1

pub legal_passes : (users : Users) (entries : List Entry) (entry : Entry) (more : List Entry) (state : ServerState) → IsLegalFrom (directory_of users) state (entries ++ entry ∷ more)
    → is_accepted_with entry.status (outcome (directory_of users) (replay_from (directory_of users) state entries) (asked (directory_of users) entry)) ≡ true
legal_passes users entries entry more state legal =
    ap (is_accepted_with entry.status) (accepted_at (directory_of users) state entries entry more legal) ∙ eq-eqb entry.status entry.status refl
