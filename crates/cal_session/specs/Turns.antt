-- The answered requests of a session, each by a turn at the book: at which place of the journal it was answered, and what it entered there.
-- Given: the users, the number of the session, and a journal that has all of it. A turn looks the state up in the journal: it is what the entries before its place lead to.
use Rattle.std.specs.Prelude.{◌≡◌, ◌≢◌, ◌⊎◌, ℕ, ◌+◌, ◌≤◌, ◌==◌, Bool, true, false, not, map, filter, List, [], ◌∷◌, ◌++◌, length, take, drop, if◌then◌else◌, Option, IfSome, ℤ}
use Rattle.std.specs.List.{AllByRecursion}
use Rattle.turn_lock.specs.Journals.{entries_by}
use Rattle.cal_model.specs.declared.reply.Reply.{Reply}
use Rattle.cal_model.specs.declared.request.Event.{Event}
use Rattle.cal_model.specs.declared.request.Request.{Request}
use Rattle.cal_model.specs.declared.wire.WireRequest.{WireRequest}
use Rattle.cal_model.specs.History.Journal.{Entry}
use Rattle.cal_model.specs.Replies.BareReplies.{bare_reply}
use Rattle.cal_model.specs.Requests.AskedRequests.{Asked, refused, asked, asked_of}
use Rattle.cal_model.specs.Serving.EventReplies.{reply_to}
use Rattle.cal_model.specs.Serving.Outcomes.{is_reading}
use Rattle.cal_model.specs.Sight.LookingAlike.{LookAlike}
use Rattle.cal_model.specs.State.ServerState.{ServerState, directory_of}
use Rattle.cal_model.specs.Users.UsersFile.{Users}
use Rattle.cal_book.specs.EventSteps.{entries_made, state_behind}
use Rattle.cal_session.specs.declared.served.Served.{Served}

-- What is asked

-- the event of a request of a session
abbrev pub event_of : ℕ → ℕ → ℤ → Request → Event
event_of number who moment request = record { session = number; who = who; moment = moment; request = request }

-- the reply to what is asked, in a state: a request that is refused before any state is looked at has that refusal
abbrev pub reply_in : Users → ℕ → ServerState → ℤ → Asked → Reply
reply_in users number state moment (refused reply) = reply
reply_in users number state moment (asked who request) = reply_to (directory_of users) state (event_of number who moment request)

-- the entries that it makes there: one, where it is an accepted change
abbrev pub entries_in : Users → ℕ → ServerState → ℤ → Asked → List Entry
entries_in users number state moment (refused reply) = []
entries_in users number state moment (asked who request) = entries_made users state (event_of number who moment request)

-- what only reads has that reply in each state that looks alike to who asks
abbrev pub IsAlike : Users → ℕ → ServerState → ℤ → Asked → Reply → Type 0
IsAlike users number state moment (refused reply) given = Unit {0}
IsAlike users number state moment (asked who request) given =
    is_reading request.method ≡ true → given.status ≢ 503 → (other : ServerState) → LookAlike (directory_of users) state other who
    → given ≡ reply_to (directory_of users) other (event_of number who moment request)

-- One turn

-- a request as it came, the turn in which it was answered, and the reply
pub record Answer : Type 0 where
  pub wire : WireRequest
  pub turn : Served
  pub reply : Reply

-- 503 stands for want of memory alone: nothing is changed then
abbrev pub is_busy : Reply → Bool
is_busy reply = reply.status == 503

-- a fact, where a request is refused before any state is looked at
abbrev pub WhereRefused : Asked → Type 0 → Type 0
WhereRefused (refused reply) fact = fact
WhereRefused (asked who request) fact = Unit {0}

-- the place of an answer, where so many entries had been seen: the book may have further ones when it is asked, and a refusal is told at those that had been seen
abbrev pub StandsBehind : Asked → ℕ → ℕ → Type 0
StandsBehind (refused reply) seen at = at ≡ seen
StandsBehind (asked who request) seen at = seen ≤ at

module _ (users : Users) (number : ℕ) where
  -- the state in which a turn is answered
  abbrev pub state_at : List Entry → Served → ServerState
  state_at journal turn = state_behind users (take turn.at journal)

  -- the entries of a turn, looked up in the journal at the end
  abbrev pub entries_of : List Entry → Answer → List Entry
  entries_of journal answer =
      if is_busy answer.reply then [] else entries_in users number (state_at journal answer.turn) answer.turn.moment (asked_of users answer.wire)

  -- the reply is the definition's in that state, or 503; what it entered stands at its place
  pub record IsAnswered (journal : List Entry) (answer : Answer) : Type 0 where
    pub status : answer.turn.status ≡ answer.reply.status
    pub reply : (answer.reply ≡ reply_in users number (state_at journal answer.turn) answer.turn.moment (asked_of users answer.wire)) ⊎ (answer.reply ≡ bare_reply 503)
    pub alike : IsAlike users number (state_at journal answer.turn) answer.turn.moment (asked_of users answer.wire) answer.reply
    pub within : answer.turn.at + length (entries_of journal answer) ≤ length journal
    pub stand : take (length (entries_of journal answer)) (drop answer.turn.at journal) ≡ entries_of journal answer

  -- All turns

  -- the places rise from a length on, past each accepted change, and end at another length; a refusal has the place behind the answer before it
  abbrev pub Rises : List Entry → ℕ → List Answer → ℕ → Type 0
  Rises journal from [] to = from ≤ to
  Rises journal from (answer ∷ answers) to = StandsBehind (asked_of users answer.wire) from answer.turn.at × Rises journal (answer.turn.at + length (entries_of journal answer)) answers to

  -- how many entries had been seen behind the answers, where so many had been before them
  abbrev pub seen_behind : List Entry → ℕ → List Answer → ℕ
  seen_behind journal before [] = before
  seen_behind journal before (answer ∷ answers) = seen_behind journal (answer.turn.at + length (entries_of journal answer)) answers

  abbrev pub all_entries_of : List Entry → List Answer → List Entry
  all_entries_of journal [] = []
  all_entries_of journal (answer ∷ answers) = entries_of journal answer ++ all_entries_of journal answers

  -- What a session did that had seen `old` before and has seen the journal at the end: each answer is at its place, and of the session's own entries those of its turns came, once each, and no others.
  pub record IsSession (old : List Entry) (answers : List Answer) (journal : List Entry) : Type 0 where
    pub begins : (rest : List Entry) × (journal ≡ old ++ rest)
    pub answered : AllByRecursion (IsAnswered journal) answers
    pub rises : Rises journal (length old) answers (length journal)
    pub own : entries_by (λ (entry : Entry). entry.session) number journal ≡ entries_by (λ (entry : Entry). entry.session) number old ++ all_entries_of journal answers

-- Turns of the lock

-- the places of the answers that the book gave, in order: those of requests which no refusal of their own shape answers, 503 aside
abbrev pub is_given : Users → Answer → Bool
is_given users answer = elim (asked_of users answer.wire) [ refused reply ↦ false | asked who request ↦ not (is_busy answer.reply) ]

abbrev pub places_given : Users → List Answer → List ℕ
places_given users answers = map (λ (answer : Answer). answer.turn.at) (filter (is_given users) answers)

-- a list within another, in order
abbrev pub IsWithin : List ℕ → List ℕ → Type 0
IsWithin [] ys = Unit {0}
IsWithin (x ∷ xs) [] = ⊥
IsWithin (x ∷ xs) (y ∷ ys) = ((x ≡ y) × IsWithin xs ys) ⊎ IsWithin (x ∷ xs) ys

-- so each answer that the book gave was given in a turn of the lock, at that turn's journal
pub record LooksUp (users : Users) (before : List ℕ) (answers : List Answer) (after : List ℕ) : Type 0 where
  pub looks : List ℕ
  pub grown : after ≡ before ++ looks
  pub within : IsWithin (places_given users answers) looks

-- the moments are the clock's, where it tells one
abbrev pub IsToldMoment : Option ℤ → ℤ → Type 0
IsToldMoment clock moment = IfSome clock (λ m. moment ≡ m)

abbrev pub AreToldMoments : Option ℤ → List Answer → Type 0
AreToldMoments clock answers = AllByRecursion (λ (answer : Answer). IsToldMoment clock answer.turn.moment) answers
