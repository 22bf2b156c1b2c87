-- A session that asks of its own home alone, beside others that ask of other homes, is answered as if it were alone, however their requests come between one another.
-- Given: the users, the journal that all sessions made together, and the turns of one session: what it asked, how long the journal was then, and what was replied.
use Rattle.std.specs.Prelude.{◌≡◌, ℕ, ◌+◌, ◌≤◌, ◌==◌, Bool, List, [], ◌∷◌, ◌++◌, length, map, take, drop, filter, Option, Some}
use Rattle.std.specs.List.{AllByRecursion}
use Rattle.cal_model.specs.declared.reply.Reply.{Reply}
use Rattle.cal_model.specs.declared.request.Event.{Event}
use Rattle.cal_model.specs.History.Journal.{Entry, entry_of, replay, IsLegal}
use Rattle.cal_model.specs.Requests.ContentBounds.{SizeIsTold}
use Rattle.cal_model.specs.Serving.EventReplies.{reply_to, state_after}
use Rattle.cal_model.specs.Serving.Outcomes.{Outcome, accepted, outcome}
use Rattle.cal_model.specs.State.Changes.{Change, change_of}
use Rattle.cal_model.specs.State.ServerState.{Directory, ServerState, opening_state}
use Rattle.home_laws.specs.Homes.{IsAbout, IsOwnOrApart}

-- the replies to events one after another, in a state that they alone change
abbrev pub replies_alone : Directory → ServerState → List Event → List Reply
replies_alone directory state [] = []
replies_alone directory state (event ∷ events) = reply_to directory state event ∷ replies_alone directory (state_after directory state event) events

-- a turn of a session
pub record Turn : Type 0 where
  -- the length of the journal
  pub at : ℕ
  pub event : Event
  pub reply : Reply

-- the entry of an event that is accepted
abbrev pub entries_by : Event → Option Change → Outcome → List Entry
entries_by event (Some change) (accepted status after) = entry_of event change status ∷ []
entries_by event change made = []

-- an entry of a session
abbrev pub is_of : ℕ → Entry → Bool
is_of session entry = entry.session == session

module _ (directory : Directory) (journal : List Entry) where
  -- the state in which a turn was answered
  abbrev pub state_at : Turn → ServerState
  state_at turn = replay directory (take turn.at journal)

  -- what a turn entered
  abbrev pub entries_of : Turn → List Entry
  entries_of turn = entries_by turn.event (change_of directory turn.event.request) (outcome directory (state_at turn) turn.event)

  abbrev pub all_entries_of : List Turn → List Entry
  all_entries_of [] = []
  all_entries_of (turn ∷ turns) = entries_of turn ++ all_entries_of turns

  -- one turn: it asks of the home, its reply is the definition's at its place, and what it entered stands there
  pub record IsTurn (session home : ℕ) (turn : Turn) : Type 0 where
    pub session_is : turn.event.session ≡ session
    pub about : IsAbout directory turn.event.request home
    pub size : SizeIsTold turn.event.request.size turn.event.request.content
    pub reply : turn.reply ≡ reply_to directory (state_at turn) turn.event
    pub stands : take (length (entries_of turn)) (drop turn.at journal) ≡ entries_of turn

  -- the places rise, past what each turn entered
  abbrev pub Rises : ℕ → List Turn → Type 0
  Rises from [] = Unit {0}
  Rises from (turn ∷ turns) = (from ≤ turn.at) × Rises (turn.at + length (entries_of turn)) turns

  -- All turns of a session: the journal has what they entered and no more of the session, and what others entered is about other homes.
  pub record AreTurns (session home : ℕ) (turns : List Turn) : Type 0 where
    pub legal : IsLegal directory journal
    pub apart : AllByRecursion (IsOwnOrApart directory home (is_of session)) journal
    pub each : AllByRecursion (IsTurn session home) turns
    pub rises : Rises 0 turns
    pub own : filter (is_of session) journal ≡ all_entries_of turns

-- So the replies are those that the session would have had alone.
abbrev pub SessionsAreAlone : Type 0
SessionsAreAlone =
    (directory : Directory) (journal : List Entry) (session home : ℕ) (turns : List Turn) → AreTurns directory journal session home turns
    → map (λ (turn : Turn). turn.reply) turns ≡ replies_alone directory (opening_state directory) (map (λ (turn : Turn). turn.event) turns)
