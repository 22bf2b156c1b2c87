-- Homes are apart (RFC 4791, 6.2.1): a request about one home is answered from that home, the users and the request, and changes no other home. So of two sessions that ask of different homes, neither can tell that the other is there.
-- Given: the users, states and events. These are laws over the definitions alone; no program is in them.
use Rattle.std.specs.Prelude.{◌≡◌, ◌≢◌, ℕ, true, false, List, filter, Bool, Some, option_and_then}
use Rattle.std.specs.List.{AllByRecursion}
use Rattle.cal_model.specs.declared.request.Event.{Event}
use Rattle.cal_model.specs.declared.request.Request.{Request}
use Rattle.cal_model.specs.History.Journal.{Entry, asked, request_for, replay_from}
use Rattle.cal_model.specs.Serving.EventReplies.{reply_to, state_after}
use Rattle.cal_model.specs.Sight.Scenes.{user_in}
use Rattle.cal_model.specs.State.Changes.{Change, change_of}
use Rattle.cal_model.specs.State.ServerState.{Directory, ServerState, user_number, home_at}

-- a request is about a home: its path names the home's user
abbrev pub IsAbout : Directory → Request → ℕ → Type 0
IsAbout directory request home = option_and_then (user_number directory) (user_in request.path) ≡ Some home

-- A request about a home, in two states that have the same home there.
pub record HomesAreApart : Type 0 where
  -- it has the same reply
  pub reply : (directory : Directory) (a b : ServerState) (event : Event) (home : ℕ) → IsAbout directory event.request home → home_at a home ≡ home_at b home
      → reply_to directory a event ≡ reply_to directory b event
  -- it makes the same of that home
  pub after : (directory : Directory) (a b : ServerState) (event : Event) (home : ℕ) → IsAbout directory event.request home → home_at a home ≡ home_at b home
      → home_at (state_after directory a event) home ≡ home_at (state_after directory b event) home
  -- and leaves each other home as it was
  pub others : (directory : Directory) (state : ServerState) (event : Event) (home other : ℕ) → IsAbout directory event.request home → other ≢ home
      → home_at (state_after directory state event) other ≡ home_at state other

-- the same event on another session
abbrev pub on_session : ℕ → Event → Event
on_session session event = record { session = session; who = event.who; moment = event.moment; request = event.request }

-- On which session a request came plays no part.
pub record SessionsPlayNoPart : Type 0 where
  pub reply : (directory : Directory) (state : ServerState) (event : Event) (session : ℕ) → reply_to directory state (on_session session event) ≡ reply_to directory state event
  pub after : (directory : Directory) (state : ServerState) (event : Event) (session : ℕ) → state_after directory state (on_session session event) ≡ state_after directory state event

-- An entry is about the home that its request was about.
abbrev pub EntriesStayInHomes : Type 0
EntriesStayInHomes =
    (directory : Directory) (request : Request) (change : Change) (home : ℕ) → IsAbout directory request home → change_of directory request ≡ Some change
    → IsAbout directory (request_for directory change) home

-- an entry is one's own and about one's home, or another's and about another home
abbrev pub IsOwnOrApart : Directory → ℕ → (Entry → Bool) → Entry → Type 0
IsOwnOrApart directory home is_own entry = elim (is_own entry) [
  | true ↦ IsAbout directory (asked directory entry).request home
  | false ↦ (other : ℕ) × (home ≢ other) × IsAbout directory (asked directory entry).request other
]

-- So a journal leaves a home as one's own entries alone would leave it.
abbrev pub HomesFollowTheirEntries : Type 0
HomesFollowTheirEntries =
    (directory : Directory) (a b : ServerState) (home : ℕ) (is_own : Entry → Bool) (journal : List Entry)
    → AllByRecursion (IsOwnOrApart directory home is_own) journal → home_at a home ≡ home_at b home
    → home_at (replay_from directory a journal) home ≡ home_at (replay_from directory b (filter is_own journal)) home
