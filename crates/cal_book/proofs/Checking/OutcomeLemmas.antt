-- The outcome of a request that changes something, by its rows.
use Rattle.std.proofs.Common.{◌≡◌, false, List, [], ◌∷◌, ◌++◌, Option, Some, None, refl, sym, ap, ◌∙◌}
use Rattle.cal_model.specs.declared.reply.Reply.{Reply}
use Rattle.cal_model.specs.declared.request.Event.{Event}
use Rattle.cal_model.specs.History.KeptChanges.{kept_change}
use Rattle.cal_model.specs.Objects.ObjectReading.{first_there}
use Rattle.cal_model.specs.Refusals.ChangeRefusals.{own_rows}
use Rattle.cal_model.specs.Refusals.SharedRefusals.{shared_rows}
use Rattle.cal_model.specs.Serving.Outcomes.{accepted, unchanged, outcome, outcome_where, is_reading, accepted_status, changed, unless_refused, scene_by}
use Rattle.cal_model.specs.Sight.Scenes.{Scene}
use Rattle.cal_model.specs.Sight.Views.{whole_sight}
use Rattle.cal_model.specs.State.Changes.{Change, change_of, effect}
use Rattle.cal_model.specs.State.ServerState.{Directory, ServerState}
use Rattle.cal_book.specs.declared.changes.check.ChangeCheck.{ChangeCheck}
use Rattle.cal_book.specs.declared.changes.check.ChangeCheck.TheVariants.{Made, Deletes, Refused, NoMemory}
use Rattle.cal_book.specs.Checking.Checks.{IsChecked}
use Rattle.cal_book.specs.Checking.OwnChecks.{IsOwnChecked, IsRefusal, own_refusal}

first_behind : {X : Type 0} (rows more : List (Option X)) → first_there rows ≡ None → first_there (rows ++ more) ≡ first_there more
first_behind [] more none = refl
first_behind (None ∷ rows) more none = first_behind rows more none
first_behind (Some x ∷ rows) more none = absurd cc

first_before : {X : Type 0} (rows more : List (Option X)) (x : X) → first_there rows ≡ Some x → first_there (rows ++ more) ≡ Some x
first_before [] more x is = absurd cc
first_before (None ∷ rows) more x is = first_before rows more x is
first_before (Some y ∷ rows) more x is = is

module _ (directory : Directory) (state : ServerState) (event : Event) (changes : is_reading event.request.method ≡ false) where
  abbrev scene : Scene
  scene = scene_by whole_sight directory state event

  by_rows : outcome directory state event
      ≡ unless_refused (first_there (shared_rows scene event.request ++ own_rows state scene event.request event.request.method)) (changed state scene event.request.method (change_of directory event.request))
  unfolding outcome
  by_rows = ap (λ reads. outcome_where reads directory state event) changes

  -- a shared row refuses
  pub checked_refusal : (reply : Reply) (result : ChangeCheck) → first_there (shared_rows scene event.request) ≡ Some reply → IsRefusal reply result → IsChecked directory state event result
  checked_refusal reply (Made change replied) first refused = absurd refused
  checked_refusal reply (Deletes home) first refused = absurd refused
  checked_refusal reply (Refused replied) first refused =
      by_rows
      ∙ ap (λ row. unless_refused row (changed state scene event.request.method (change_of directory event.request)))
      (first_before (shared_rows scene event.request) (own_rows state scene event.request event.request.method) reply first)
      ∙ ap unchanged (sym refused)
  checked_refusal reply NoMemory first refused = tt

  module _ (passes : first_there (shared_rows scene event.request) ≡ None) where
    by_own : outcome directory state event ≡ unless_refused (own_refusal state scene event.request) (changed state scene event.request.method (change_of directory event.request))
    by_own =
        by_rows
        ∙ ap (λ row. unless_refused row (changed state scene event.request.method (change_of directory event.request)))
        (first_behind (shared_rows scene event.request) (own_rows state scene event.request event.request.method) passes)

    accepted_by : (change : Change) → own_refusal state scene event.request ≡ None → change_of directory event.request ≡ Some change
        → outcome directory state event ≡ accepted (accepted_status scene event.request.method) (effect change state)
    accepted_by change none asks = by_own ∙ (λ i. unless_refused (none i) (changed state scene event.request.method (asks i)))

    -- the method's own rows decide
    pub checked_own : (result : ChangeCheck) → IsOwnChecked directory state scene event.request result → IsChecked directory state event result
    checked_own (Made change reply) own = record {
      asked_is = own.asked_is;
      accepted_is = accepted_by (kept_change change) own.passes own.asked_is ∙ ap (λ status. accepted status (effect (kept_change change) state)) (sym own.status_is);
      reply_is = own.reply_is;
      adds = own.adds;
      sound = own.sound;
    }
    checked_own (Deletes home) own = record {
      change = own.change;
      asked_is = own.asked_is;
      accepted_is = accepted_by own.change own.passes own.asked_is ∙ ap (λ status. accepted status (effect own.change state)) own.status_is;
      deletes = own.deletes;
      deleted = own.deleted;
    }
    checked_own (Refused reply) own = by_own ∙ ap (λ row. unless_refused row (changed state scene event.request.method (change_of directory event.request))) own
    checked_own NoMemory own = tt
