-- Journals: one more entry, a beginning, and what an accepted change does.
use Rattle.std.proofs.Common.{◌≡◌, ℕ, false, List, [], ◌∷◌, ◌++◌, Some, refl, sym, ap, ◌∙◌, subst}
use Rattle.cal_model.specs.declared.request.Event.{Event}
use Rattle.cal_model.specs.Objects.ObjectReading.{first_there}
use Rattle.cal_model.specs.State.ServerState.{Directory, ServerState, opening_state}
use Rattle.cal_model.specs.Sight.Views.{whole_sight}
use Rattle.cal_model.specs.State.Changes.{Change, effect, change_of}
use Rattle.cal_model.specs.Serving.Outcomes.{Outcome, accepted, unchanged, outcome, outcome_where, is_reading, accepted_status, rows_of_change, changed, scene_by}
use Rattle.cal_model.specs.Serving.EventReplies.{state_of, state_after}
use Rattle.cal_model.specs.History.Journal.{Entry, asked, replay_from, replay, IsAcceptedAt, IsLegalFrom, IsLegal}
use Rattle.cal_model.proofs.History.ReplayLaws.{accepted-rows}
use Rattle.cal_model.specs.History.HistoryLaws.{BeginningsAreLegal}
use Rattle.cal_model.specs.Serving.ServingLaws.{AcceptedHasItsEffect}

-- the state behind two lists of entries
pub replay_from-append : (directory : Directory) (state : ServerState) (xs ys : List Entry) → replay_from directory state (xs ++ ys) ≡ replay_from directory (replay_from directory state xs) ys
replay_from-append directory state [] ys = refl
replay_from-append directory state (x ∷ xs) ys = replay_from-append directory (state_after directory state (asked directory x)) xs ys

-- one more entry that is accepted behind a legal journal
pub IsLegalFrom-push : (directory : Directory) (state : ServerState) (xs : List Entry) (entry : Entry)
    → IsLegalFrom directory state xs → IsAcceptedAt directory (replay_from directory state xs) entry → IsLegalFrom directory state (xs ++ entry ∷ [])
IsLegalFrom-push directory state [] entry legal there = (there, tt)
IsLegalFrom-push directory state (x ∷ xs) entry legal there = (legal.0, IsLegalFrom-push directory (state_after directory state (asked directory x)) xs entry legal.1 there)

-- a beginning of a legal journal is legal
pub IsLegalFrom-front : (directory : Directory) (state : ServerState) (xs ys : List Entry) → IsLegalFrom directory state (xs ++ ys) → IsLegalFrom directory state xs
IsLegalFrom-front directory state [] ys legal = tt
IsLegalFrom-front directory state (x ∷ xs) ys legal = (legal.0, IsLegalFrom-front directory (state_after directory state (asked directory x)) xs ys legal.1)

-- What an accepted change does

abbrev status_in : Outcome → ℕ
status_in (accepted status state) = status
status_in (unchanged reply) = 0

-- the state after an accepted event is the effect of its change, and the status is that of its method
pub outcome-effect : (directory : Directory) (state after : ServerState) (event : Event) (status : ℕ) (change : Change)
    → is_reading event.request.method ≡ false → change_of directory event.request ≡ Some change → outcome directory state event ≡ accepted status after
    → (after ≡ effect change state) × (status ≡ accepted_status (scene_by whole_sight directory state event) event.request.method)
unfolding outcome
outcome-effect directory state after event status change changes asks e =
    let scene = scene_by whole_sight directory state event in
    let as_change : outcome_where false directory state event ≡ accepted status after = subst (λ reads. outcome_where reads directory state event ≡ accepted status after) changes e in
    let made = (accepted-rows (first_there (rows_of_change state scene event.request)) (changed state scene event.request.method (change_of directory event.request)) status after as_change).1 in
    let done : accepted (accepted_status scene event.request.method) (effect change state) ≡ accepted status after = ap (changed state scene event.request.method) (sym asks) ∙ made in
    (sym (ap (state_of state) done), sym (ap status_in done))

-- An entry behind a legal journal whose request is accepted there: the journal stays legal, and leads to the state after it.
pub push-accepted : (directory : Directory) (journal : List Entry) (entry : Entry) (after : ServerState) → IsLegal directory journal
    → outcome directory (replay directory journal) (asked directory entry) ≡ accepted entry.status after
    → IsLegal directory (journal ++ entry ∷ []) × (replay directory (journal ++ entry ∷ []) ≡ after)
push-accepted directory journal entry after legal done =
    let stands = ap (state_of (replay directory journal)) done in (
      IsLegalFrom-push directory (opening_state directory) journal entry legal (done ∙ ap (accepted entry.status) (sym stands)),
      replay_from-append directory (opening_state directory) journal (entry ∷ []) ∙ stands,
    )

pub accepted_has_its_effect : AcceptedHasItsEffect
accepted_has_its_effect = outcome-effect

pub beginnings_are_legal : BeginningsAreLegal
beginnings_are_legal directory journal more legal = IsLegalFrom-front directory (opening_state directory) journal more legal
