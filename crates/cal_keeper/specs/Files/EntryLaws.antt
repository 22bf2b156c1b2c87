-- Laws of the entries of a file: each accepted change may be one, they may be asked of a book again, and their sessions play no part.
-- Given: the users. These laws are part of the contract of `file_laws`.
use Rattle.std.specs.Prelude.{◌≡◌, ℕ, ◌<◌, ◌^◌, List, map, Some, pos, ◌≤ℤ◌}
use Rattle.cal_model.specs.declared.request.Event.{Event}
use Rattle.cal_model.specs.History.Journal.{Entry, asked, entry_of, replay_from, IsLegalFrom}
use Rattle.cal_model.specs.Requests.BookableRequests.{IsBookable}
use Rattle.cal_model.specs.Serving.Outcomes.{accepted, outcome}
use Rattle.cal_model.specs.State.Changes.{Change, change_of}
use Rattle.cal_model.specs.State.ServerState.{Directory, ServerState, directory_of}
use Rattle.cal_model.specs.State.UserNames.{AreToldApart}
use Rattle.cal_model.specs.Users.UsersFile.{Users}
use Rattle.cal_model.specs.Words.Limits.{last_moment}
use Rattle.cal_keeper.specs.Files.Payloads.{HasForm}
use Rattle.cal_keeper.specs.Files.Standing.{recorded}
use Rattle.cal_keeper.specs.Principals.{counts_of}

-- the entry of an accepted change is in the form
abbrev pub AcceptedHasForm : Type 0
AcceptedHasForm =
    (users : Users) (state after : ServerState) (event : Event) (change : Change) (status : ℕ)
    → IsBookable users event.who event.request → event.request.size < 2 ^ 32 → pos 0 ≤ℤ event.moment → event.moment ≤ℤ pos last_moment
    → change_of (directory_of users) event.request ≡ Some change → outcome (directory_of users) state event ≡ accepted status after
    → HasForm (counts_of users) (entry_of event change status)

-- what an entry in the form asks can be booked
abbrev pub FormIsBookable : Type 0
FormIsBookable =
    (users : Users) (entry : Entry) → AreToldApart (directory_of users) → HasForm (counts_of users) entry → IsBookable users entry.who (asked (directory_of users) entry).request

-- an event does the same on each session
abbrev pub SessionsAreAlike : Type 0
SessionsAreAlike = (directory : Directory) (state : ServerState) (event : Event) (session : ℕ) → outcome directory state (record event { session = session }) ≡ outcome directory state event

-- so a legal journal is legal as it is recorded, and leads to the same state
abbrev pub RecordedIsLegal : Type 0
RecordedIsLegal = (directory : Directory) (state : ServerState) (entries : List Entry) → IsLegalFrom directory state entries → IsLegalFrom directory state (map recorded entries)

abbrev pub RecordedLeadsAlike : Type 0
RecordedLeadsAlike = (directory : Directory) (state : ServerState) (entries : List Entry) → replay_from directory state (map recorded entries) ≡ replay_from directory state entries
