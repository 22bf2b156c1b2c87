-- The entry of an accepted change may come next.
-- Given: an event that is accepted in a state, and the change that it asks for.
use Rattle.std.proofs.Common.{◌≡◌, ℕ, Some, sym, ap, ◌∙◌}
use Rattle.cal_model.specs.declared.request.Event.{Event}
use Rattle.cal_model.specs.History.Journal.{entry_of}
use Rattle.cal_model.specs.Requests.ContentBounds.{SizeIsTold}
use Rattle.cal_model.specs.Serving.EventReplies.{state_of as state_behind}
use Rattle.cal_model.specs.Serving.Outcomes.{accepted, outcome}
use Rattle.cal_model.specs.State.Changes.{Change, change_of}
use Rattle.cal_model.specs.State.ServerState.{Directory, ServerState}
use Rattle.cal_model.specs.State.SoundStates.{IsSoundChange}
use Rattle.cal_model.proofs.History.EntryLaws.{accepted_is_replayed}
use Rattle.cal_book.specs.Keeping.KeptHistories.{IsNext}

pub is_next : (directory : Directory) (state after : ServerState) (event : Event) (status : ℕ) (change : Change)
    → SizeIsTold event.request.size event.request.content → change_of directory event.request ≡ Some change → outcome directory state event ≡ accepted status after
    → IsSoundChange directory change → IsNext directory state (entry_of event change status)
is_next directory state after event status change told asks done sound =
    let again = accepted_is_replayed directory state after event status change told asks done in
    record {
      accepted = again ∙ ap (accepted status) (sym (ap (state_behind state) again));
      sound = sound;
    }
