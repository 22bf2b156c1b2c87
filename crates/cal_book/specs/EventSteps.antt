-- What an event makes of the journal, and of what claims depend on, where it is not answered 503 (RFC 9110, 9.3 and 15.3).
-- Given: the users, a state or what claims depend on, and an event.
use Rattle.std.specs.Prelude.{◌≡◌, true, List, [], ◌∷◌, ◌++◌, Option, Some}
use Rattle.cal_model.specs.declared.request.Event.{Event}
use Rattle.cal_model.specs.History.Claims.{Work, latest_after}
use Rattle.cal_model.specs.History.Journal.{Entry, entry_of, replay, IsLegal}
use Rattle.cal_model.specs.History.RightPieces.{live_pieces}
use Rattle.cal_model.specs.Requests.ContentBounds.{SizeIsTold}
use Rattle.cal_model.specs.Serving.EventReplies.{reply_to, state_after}
use Rattle.cal_model.specs.Serving.Outcomes.{Outcome, accepted, is_reading, outcome}
use Rattle.cal_model.specs.State.Changes.{Change, change_of}
use Rattle.cal_model.specs.State.ServerState.{ServerState, directory_of}
use Rattle.cal_model.specs.Users.UsersFile.{Users}

-- the entry of an accepted change
abbrev pub entries_by : Event → Option Change → Outcome → List Entry
entries_by event (Some change) (accepted status after) = entry_of event change status ∷ []
entries_by event change made = []

-- The entries that an event makes: one where it is accepted.
abbrev pub entries_made : Users → ServerState → Event → List Entry
entries_made users state event = entries_by event (change_of (directory_of users) event.request) (outcome (directory_of users) state event)

-- the state that a journal leads to
abbrev pub state_behind : Users → List Entry → ServerState
state_behind users journal = replay (directory_of users) journal

-- the journal after an event
abbrev pub journal_after : Users → Event → List Entry → List Entry
journal_after users event journal = journal ++ entries_made users (state_behind users journal) event

-- what claims depend on after an event, its moment aside: pieces of objects that it replaced or removed are gone
abbrev pub stepped : Users → Event → Work → Work
stepped users event work =
    record work { journal = journal_after users event work.journal; pieces = live_pieces (journal_after users event work.journal) work.pieces }

-- What claims depend on after an event.
abbrev pub work_after : Users → Event → Work → Work
work_after users event work = record (stepped users event work) {
  latest = latest_after work.latest event.moment (reply_to (directory_of users) (state_behind users work.journal) event).status;
}

-- So the journal leads to the state after the event, and stays legal.
abbrev pub JournalsFollow : Type 0
JournalsFollow =
    (users : Users) (journal : List Entry) (event : Event) → IsLegal (directory_of users) journal → SizeIsTold event.request.size event.request.content
    → IsLegal (directory_of users) (journal_after users event journal)
    × (state_behind users (journal_after users event journal) ≡ state_after (directory_of users) (state_behind users journal) event)

-- A request that only reads enters nothing.
abbrev pub ReadingsEnterNothing : Type 0
ReadingsEnterNothing = (users : Users) (state : ServerState) (event : Event) → is_reading event.request.method ≡ true → entries_made users state event ≡ []
