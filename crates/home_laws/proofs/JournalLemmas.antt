-- The journal behind an event leads to the state after it.
use Rattle.std.proofs.Common.{◌≡◌, ℕ, Bool, true, false, cond, List, [], ◌∷◌, ◌++◌, Option, Some, None, refl, sym, ap, ◌∙◌}
use Rattle.std.specs.Prelude.{filter}
use Rattle.std.proofs.lemmas.Bool.{false≢true, eq-eqb}
use Rattle.std.proofs.lemmas.List.{append-nil}
use Rattle.cal_model.specs.declared.request.Event.{Event}
use Rattle.cal_model.specs.History.Journal.{Entry, entry_of, replay, IsLegal}
use Rattle.cal_model.specs.Objects.ObjectReading.{first_there}
use Rattle.cal_model.specs.Requests.ContentBounds.{SizeIsTold}
use Rattle.cal_model.specs.Serving.EventReplies.{state_of, state_after}
use Rattle.cal_model.specs.Serving.Outcomes.{Outcome, accepted, unchanged, outcome, outcome_where, is_reading, rows_of_change, changed, scene_by}
use Rattle.cal_model.specs.Sight.Views.{whole_sight}
use Rattle.cal_model.specs.State.Changes.{Change, change_of}
use Rattle.cal_model.specs.State.ServerState.{Directory, ServerState}
use Rattle.cal_model.proofs.History.EntryLaws.{accepted_keeps_legal}
use Rattle.cal_model.proofs.History.ReplayLaws.{accepted-rows}
use Rattle.home_laws.specs.LoneSessions.{entries_by, is_of}

abbrev is_made : Outcome → Bool
is_made (accepted status state) = true
is_made (unchanged reply) = false

-- what asks for no change is not accepted
never-accepted : (directory : Directory) (state after : ServerState) (event : Event) (status : ℕ) → change_of directory event.request ≡ None → outcome directory state event ≡ accepted status after → ⊥
unfolding outcome
never-accepted directory state after event status none e = by (is_reading event.request.method) e where
  by : (reads : Bool) → outcome_where reads directory state event ≡ accepted status after → ⊥
  by true done = false≢true (ap is_made done)
  by false done =
      let scene = scene_by whole_sight directory state event in
      let made = (accepted-rows (first_there (rows_of_change state scene event.request)) (changed state scene event.request.method (change_of directory event.request)) status after done).1 in
      false≢true (ap is_made (sym (ap (changed state scene event.request.method) none) ∙ made))

module _ (directory : Directory) (journal : List Entry) (event : Event) (legal : IsLegal directory journal) (size : SizeIsTold event.request.size event.request.content) where
  -- by what is asked for and what it does
  behind-parts : (change : Option Change) (made : Outcome) → change_of directory event.request ≡ change → outcome directory (replay directory journal) event ≡ made
      → replay directory (journal ++ entries_by event change made) ≡ state_of (replay directory journal) made
  behind-parts (Some change) (accepted status after) asks done = (accepted_keeps_legal directory journal after event status change legal size asks done).1
  behind-parts None (accepted status after) asks done = absurd (never-accepted directory (replay directory journal) after event status asks done)
  behind-parts (Some change) (unchanged reply) asks done = ap (replay directory) (append-nil journal)
  behind-parts None (unchanged reply) asks done = ap (replay directory) (append-nil journal)

  pub replay-behind : replay directory (journal ++ entries_by event (change_of directory event.request) (outcome directory (replay directory journal) event))
      ≡ state_after directory (replay directory journal) event
  replay-behind = behind-parts (change_of directory event.request) (outcome directory (replay directory journal) event) refl refl

-- what an event enters is of its session
pub entries_by-own : (session : ℕ) (event : Event) (change : Option Change) (made : Outcome) → event.session ≡ session → filter (is_of session) (entries_by event change made) ≡ entries_by event change made
entries_by-own session event (Some change) (accepted status after) same = ap (λ test. cond test (entry_of event change status ∷ []) []) (eq-eqb event.session session same)
entries_by-own session event None (accepted status after) same = refl
entries_by-own session event (Some change) (unchanged reply) same = refl
entries_by-own session event None (unchanged reply) same = refl
