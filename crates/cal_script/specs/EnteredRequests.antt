-- Which requests a journal has entries of: it goes on by entries of events that frames at the front of an input ask, in their order, each once at most.
-- Given: the users, and the octets that came on each connection before. What the octets of a connection complete says `ConnectionAnswers` of the chapter Transcripts, and which entry an event makes `EventSteps` of the book. Scripts are this project's own.
use Rattle.std.specs.Prelude.{◌≡◌, ◌⊎◌, ℕ, ◌+◌, List, [], ◌∷◌, ◌++◌, All, flat_map, replicate, slice_get, slice_set, unwrap_or, Option, IfSome}
use Rattle.cal_model.specs.declared.request.Event.{Event}
use Rattle.cal_model.specs.History.Journal.{Entry}
use Rattle.cal_model.specs.Requests.AskedRequests.{Asked, refused, asked, asked_of}
use Rattle.cal_model.specs.Transcripts.ConnectionAnswers.{Completed, whole, faulty, Completes}
use Rattle.cal_model.specs.Transcripts.ScriptFrames.{Frame, bytes, worker, last_connection, frames_text, IsFrame}
use Rattle.cal_model.specs.Transcripts.Transcript.{event_of}
use Rattle.cal_model.specs.Users.UsersFile.{Users}
use Rattle.cal_book.specs.EventSteps.{journal_after}

-- Events

-- the event of a request: its session is the connection, its moment that of the frame with its last octet; a request that is refused as it stands has none
abbrev pub events_by : ℕ → ℕ → Asked → List Event
events_by connection moment (refused reply) = []
events_by connection moment (asked who request) = event_of connection who moment request ∷ []

-- that of a request that was completed; a fault has none
abbrev pub events_of : Users → ℕ → ℕ → Completed → List Event
events_of users connection moment (whole place wire) = events_by connection moment (asked_of users wire)
events_of users connection moment (faulty why) = []

abbrev pub events_of_all : Users → ℕ → ℕ → List Completed → List Event
events_of_all users connection moment completed = flat_map (events_of users connection moment) completed

-- Entries

-- Some of the events were entered one after the other, each as the book does it from the state that it finds.
abbrev pub EntersSome : Users → List Event → List Entry → List Entry → Type 0
EntersSome users [] before after = after ≡ before
EntersSome users (event ∷ events) before after =
    (next : List Entry) × ((next ≡ before) ⊎ (next ≡ journal_after users event before)) × EntersSome users events next after

-- Frames

-- octets that come on a connection ask the events of what they complete there
pub record ArrivalAsks (users : Users) (connection moment : ℕ) (stream payload : List ℕ) (events : List Event) : Type 0 where
  pub done : List Completed
  pub more : List Completed
  pub before_them : Completes stream done
  pub with_them : Completes (stream ++ payload) (done ++ more)
  pub events_are : events ≡ events_of_all users connection moment more

-- what came on a connection, by what came on each
abbrev pub came_on : List (List ℕ) → ℕ → List ℕ
came_on streams connection = unwrap_or (slice_get streams connection) []

-- what came on each once a frame came too
abbrev pub streams_after : List (List ℕ) → Frame → List (List ℕ)
streams_after streams (bytes connection moment payload) = slice_set streams connection (came_on streams connection ++ payload)
streams_after streams (worker step slot) = streams

-- the events that a frame asks; one of a worker asks none
abbrev pub FrameAsks : Users → List (List ℕ) → Frame → List Event → Type 0
FrameAsks users streams (bytes connection moment payload) events = ArrivalAsks users connection moment (came_on streams connection) payload events
FrameAsks users streams (worker step slot) events = events ≡ []

-- those of frames, one after the other
abbrev pub FramesAsk : Users → List (List ℕ) → List Frame → List Event → Type 0
FramesAsk users streams [] events = events ≡ []
FramesAsk users streams (frame ∷ frames) events =
    (first : List Event) × (rest : List Event)
    × (events ≡ first ++ rest) × FrameAsks users streams frame first × FramesAsk users (streams_after streams frame) frames rest

-- a journal goes on by some of the events that a frame asks
abbrev pub FrameEnters : Users → List (List ℕ) → Frame → List Entry → List Entry → Type 0
FrameEnters users streams frame before after = (events : List Event) × FrameAsks users streams frame events × EntersSome users events before after

-- whole frames stand at the front of the octets, and it goes on by some of the events that these ask
pub record FrontEnters (users : Users) (streams : List (List ℕ)) (octets : List ℕ) (before after : List Entry) : Type 0 where
  pub frames : List Frame
  pub bounds : All IsFrame frames
  pub behind : List ℕ
  pub spelled : octets ≡ frames_text frames ++ behind
  pub events : List Event
  pub ask : FramesAsk users streams frames events
  pub enters : EntersSome users events before after

-- Runs

-- A journal goes on by what frames at the front of the input ask, where nothing came on any connection before.
pub record IsEnteredBy (users : Users) (left : Option (List ℕ)) (before after : List Entry) : Type 0 where
  pub input : List ℕ
  pub told : IfSome left (λ octets. octets ≡ input)
  pub front : FrontEnters users (replicate (last_connection + 1) []) input before after
