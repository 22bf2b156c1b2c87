-- The request that an entry names asks for the entry's change, where it is accepted and names tell the users apart.
use Rattle.std.proofs.Common.{◌≡◌, ℕ, Bool, true, false, [], length, Option, Some, None, refl, sym, ap, ◌∙◌, subst, inl, inr}
use Rattle.std.specs.Prelude.{option_and_then, unwrap_or}
use Rattle.std.proofs.lemmas.Bool.{cases_lt, false≢true}
use Rattle.std.proofs.lemmas.Option.{slice_get_past}
use Rattle.cal_model.specs.declared.request.Content.TheVariants as content
use Rattle.cal_model.specs.declared.request.Event.{Event}
use Rattle.cal_model.specs.declared.request.Method.TheVariants as method
use Rattle.cal_model.specs.Objects.ObjectReading.{first_there}
use Rattle.cal_model.specs.Sight.Views.{whole_sight}
use Rattle.cal_model.specs.State.ServerState.{Directory, ServerState, user_number, user_name}
use Rattle.cal_model.specs.State.UserNames.{AreToldApart}
use Rattle.cal_model.specs.State.Changes.{Change, put, delete_object, delete_calendar, make, patch, acl, effect, change_of, change_of_object, change_of_calendar}
use Rattle.cal_model.specs.Serving.Outcomes.{Outcome, accepted, unchanged, outcome, outcome_where, is_reading, rows_of_change, changed, scene_by}
use Rattle.cal_model.specs.Serving.EventReplies.{state_after}
use Rattle.cal_model.specs.History.Journal.{Entry, asked, request_for, IsAcceptedAt}
use Rattle.cal_model.proofs.History.ReplayLaws.{accepted-rows}
use Rattle.cal_model.proofs.History.JournalLaws.{outcome-effect}

abbrev is_made : Outcome → Bool
is_made (accepted status state) = true
is_made (unchanged reply) = false

-- what is accepted asks for a change
asks_something : (directory : Directory) (state after : ServerState) (event : Event) (status : ℕ) → is_reading event.request.method ≡ false
    → outcome directory state event ≡ accepted status after → change_of directory event.request ≡ None → ⊥
unfolding outcome
asks_something directory state after event status changes done none =
    let scene = scene_by whole_sight directory state event in
    let as_change : outcome_where false directory state event ≡ accepted status after = subst (λ reads. outcome_where reads directory state event ≡ accepted status after) changes done in
    let made = (accepted-rows (first_there (rows_of_change state scene event.request)) (changed state scene event.request.method (change_of directory event.request)) status after as_change).1 in
    false≢true (ap is_made (sym (ap (changed state scene event.request.method) none) ∙ made))

-- a request for a change only reads nothing
pub changes_something : (directory : Directory) (change : Change) → is_reading (request_for directory change).method ≡ false
changes_something directory (put home calendar object octets) = refl
changes_something directory (delete_object home calendar object) = refl
changes_something directory (delete_calendar home calendar) = refl
changes_something directory (make home calendar sets size) = refl
changes_something directory (patch home calendar sets size) = refl
changes_something directory (acl home calendar grants size) = refl

-- a number whose name is somebody's is that user's
found_again : (directory : Directory) (home : ℕ) → AreToldApart directory → (user_number directory (user_name directory home) ≡ None → ⊥)
    → user_number directory (user_name directory home) ≡ Some home
found_again directory home told some = elim (cases_lt home (length directory.names)) [
  | inl within ↦ told.own home within
  | inr past ↦
      let nameless : user_name directory home ≡ [] = ap (λ o. unwrap_or o []) (slice_get_past directory.names home past) in
      absurd (some (ap (user_number directory) nameless ∙ told.named))
]

-- The request of an accepted entry asks for the entry's change.
pub asked_is_own : (directory : Directory) (state : ServerState) (entry : Entry) → AreToldApart directory → IsAcceptedAt directory state entry
    → change_of directory (asked directory entry).request ≡ Some entry.change
unfolding change_of
asked_is_own directory state entry told done = by_change entry.change refl where
  after : ServerState
  after = state_after directory state (asked directory entry)

  asks : change_of directory (request_for directory entry.change) ≡ None → ⊥
  asks none = asks_something directory state after (asked directory entry) entry.status (changes_something directory entry.change) done none

  -- of a change in a home
  in_home : (change : Change) → entry.change ≡ change → (home : ℕ) (make_change : ℕ → Option Change)
      → change_of directory (request_for directory change) ≡ option_and_then make_change (user_number directory (user_name directory home)) → make_change home ≡ Some change
      → change_of directory (request_for directory entry.change) ≡ Some entry.change
  in_home change is home make_change asked_is made_is =
      let here : change_of directory (request_for directory entry.change) ≡ option_and_then make_change (user_number directory (user_name directory home)) =
      ap (λ c. change_of directory (request_for directory c)) is ∙ asked_is in
      here
      ∙ ap (option_and_then make_change) (found_again directory home told (λ none. asks (here ∙ ap (option_and_then make_change) none)))
      ∙ made_is ∙ ap Some (sym is)

  by_change : (change : Change) → entry.change ≡ change → change_of directory (request_for directory entry.change) ≡ Some entry.change
  by_change (put home calendar object octets) is = in_home _ is home (λ h. change_of_object method.Put (content.Put true octets) h calendar object) refl refl
  by_change (delete_object home calendar object) is = in_home _ is home (λ h. change_of_object method.Delete content.None h calendar object) refl refl
  by_change (delete_calendar home calendar) is = in_home _ is home (λ h. change_of_calendar method.Delete content.None h calendar 0) refl refl
  by_change (make home calendar sets size) is = in_home _ is home (λ h. change_of_calendar method.Mkcalendar (content.Make sets) h calendar size) refl refl
  by_change (patch home calendar sets size) is = in_home _ is home (λ h. change_of_calendar method.Proppatch (content.Patch sets) h calendar size) refl refl
  by_change (acl home calendar grants size) is = in_home _ is home (λ h. change_of_calendar method.Acl (content.Acl grants) h calendar size) refl refl

-- So the state after it is the effect of that change.
pub state_after-effect : (directory : Directory) (state : ServerState) (entry : Entry) → AreToldApart directory → IsAcceptedAt directory state entry
    → state_after directory state (asked directory entry) ≡ effect entry.change state
state_after-effect directory state entry told done =
    (outcome-effect directory state (state_after directory state (asked directory entry)) (asked directory entry) entry.status entry.change
    (changes_something directory entry.change) (asked_is_own directory state entry told done) done).0
