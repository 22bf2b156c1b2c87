-- The laws of outcomes: an accepted change has exactly its effect, what holds of states stays, and no reply has the status 503.
-- Given: the users, a state and an event. That replies are alike where states are is `Sight.SightLaws`.
use Rattle.std.specs.Prelude.{◌≡◌, ◌≢◌, ℕ, false, Some, None, ◌≤ℤ◌}
use Rattle.cal_model.specs.declared.request.Content.{Content}
use Rattle.cal_model.specs.declared.request.Content.TheVariants.{Bad}
use Rattle.cal_model.specs.declared.request.Event.{Event}
use Rattle.cal_model.specs.declared.row.Range.{Range}
use Rattle.cal_model.specs.Busy.BusyRuns.{runs_of_classes, calendar_runs}
use Rattle.cal_model.specs.Reports.FloatingZone.{floating_zone}
use Rattle.cal_model.specs.Serving.EventReplies.{reply_to}
use Rattle.cal_model.specs.Serving.Outcomes.{accepted, outcome, is_reading, accepted_status, scene_by}
use Rattle.cal_model.specs.Sight.Views.{whole_sight, served_class}
use Rattle.cal_model.specs.State.Changes.{Change, effect, change_of}
use Rattle.cal_model.specs.State.ServerState.{Directory, Calendar, ServerState, opening_state, own_zone, objects_of}
use Rattle.cal_model.specs.State.SoundStates.{IsSound, IsSoundChange}
use Rattle.cal_model.specs.Words.Limits.{first_date, last_date}

-- the state after an accepted change is its effect, and the status that of its method
abbrev pub AcceptedHasItsEffect : Type 0
AcceptedHasItsEffect =
    (directory : Directory) (state after : ServerState) (event : Event) (status : ℕ) (change : Change)
    → is_reading event.request.method ≡ false → change_of directory event.request ≡ Some change → outcome directory state event ≡ accepted status after
    → (after ≡ effect change state) × (status ≡ accepted_status (scene_by whole_sight directory state event) event.request.method)

-- what holds of the state at the start holds of each that is reached by changes that keep it
pub record StatesStaySound : Type 0 where
  pub opening : (directory : Directory) → IsSound directory (opening_state directory)
  pub changed : (directory : Directory) (change : Change) (state : ServerState) → IsSoundChange directory change → IsSound directory state → IsSound directory (effect change state)

-- what was found wrong with a request when it was read is never want of memory
abbrev pub IsNoWant : Content → Type 0
IsNoWant (Bad refusal) = refusal.status ≢ 503
IsNoWant other = Unit {0}

-- no reply has the status 503: so the octets that are written show where memory was missing
abbrev pub NoReplyWantsMemory : Type 0
NoReplyWantsMemory = (directory : Directory) (state : ServerState) (event : Event) → IsNoWant event.request.content → (reply_to directory state event).status ≢ 503

-- the busy times that are shown are those of the calendar's objects, within the dates that are served
abbrev pub ShownRunsAreTheCalendars : Type 0
ShownRunsAreTheCalendars =
    (calendar : Calendar) (range : Range) → first_date ≤ℤ range.start.0 → range.end.0 ≤ℤ last_date
    → runs_of_classes (served_class calendar) range ≡ calendar_runs (floating_zone None (own_zone calendar.texts)) (objects_of calendar.objects) range
