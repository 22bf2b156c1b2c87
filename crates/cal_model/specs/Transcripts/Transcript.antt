-- What a script prints: the replies to the requests that its frames complete, one after the other. Scripts are this project's own.
-- Given: the users, and the octets of a script. It says what each reply may be, and nothing of how or when it is made: a frame of a worker changes neither the state nor the output.
use Rattle.std.specs.Prelude.{◌≡◌, ℕ, ◌⊎◌, List, [], ◌∷◌, ◌++◌, pos, slice_set, slice_get, unwrap_or, replicate, ◌+◌, All}
use Rattle.cal_model.specs.declared.reply.Reply.{Reply}
use Rattle.cal_model.specs.declared.request.Event.{Event}
use Rattle.cal_model.specs.declared.request.Request.{Request}
use Rattle.cal_model.specs.declared.wire.WireRequest.{WireRequest}
use Rattle.cal_model.specs.Replies.BareReplies.{bare_reply}
use Rattle.cal_model.specs.Replies.WireReplies.{answer_octets, fault_octets}
use Rattle.cal_model.specs.Requests.AskedRequests.{Asked, refused, asked, asked_of}
use Rattle.cal_model.specs.Serving.EventReplies.{reply_to, state_after}
use Rattle.cal_model.specs.State.ServerState.{ServerState, opening_state, directory_of}
use Rattle.cal_model.specs.Transcripts.ConnectionAnswers.{Completed, whole, faulty, Completes}
use Rattle.cal_model.specs.Transcripts.ScriptFrames.{Frame, bytes, worker, last_connection, reply_frame, frames_text, IsFrame, IsCutInto}
use Rattle.cal_model.specs.Users.UsersFile.{Users}

-- where a script stands: the state of the server, and the octets that came on each connection
pub record Standing : Type 0 where
  pub server : ServerState
  pub streams : List (List ℕ)

-- where it begins
abbrev pub at_start : Users → Standing
at_start users = record { server = opening_state (directory_of users); streams = replicate (last_connection + 1) [] }

abbrev pub stream_of : Standing → ℕ → List ℕ
stream_of standing connection = unwrap_or (slice_get standing.streams connection) []

abbrev pub fed : Standing → ℕ → List ℕ → Standing
fed standing connection octets = record standing { streams = slice_set standing.streams connection (stream_of standing connection ++ octets) }

-- Answers

-- the event of a request: the session is the connection
abbrev pub event_of : ℕ → ℕ → ℕ → Request → Event
event_of connection who moment request = record { session = connection; who = who; moment = pos moment; request = request }

-- a reply, and the state after it
pub record Answer : Type 0 where
  pub reply : Reply
  pub server : ServerState

-- there was no memory for it: 503, and nothing is changed
abbrev pub without_memory : ServerState → Answer
without_memory server = record { reply = bare_reply 503; server = server }

-- a request that is refused before any state is looked at changes none
abbrev pub answer_to : Users → ServerState → ℕ → ℕ → Asked → Answer
answer_to users server connection moment (refused reply) = record { reply = reply; server = server }
answer_to users server connection moment (asked who request) = record {
  reply = reply_to (directory_of users) server (event_of connection who moment request);
  server = state_after (directory_of users) server (event_of connection who moment request);
}

-- the answer to a request as it came, or none for want of memory
abbrev pub IsAnswer : Users → ServerState → ℕ → ℕ → WireRequest → Answer → Type 0
IsAnswer users server connection moment wire given = (given ≡ answer_to users server connection moment (asked_of users wire)) ⊎ (given ≡ without_memory server)

-- what is printed for all that was completed, and the state before and after
abbrev pub Prints : Users → ℕ → ℕ → ServerState → List Completed → List ℕ → ServerState → Type 0
Prints users connection moment before [] printed after = (printed ≡ []) × (after ≡ before)
Prints users connection moment before (whole place wire ∷ more) printed after =
    (given : Answer) × (rest : List ℕ) × IsAnswer users before connection moment wire given
    × (printed ≡ reply_frame connection (answer_octets place wire given.reply (pos moment)) ++ rest)
    × Prints users connection moment given.server more rest after
Prints users connection moment before (faulty why ∷ more) printed after =
    (rest : List ℕ) × (printed ≡ reply_frame connection (fault_octets why (pos moment)) ++ rest)
    × Prints users connection moment before more rest after

-- Frames

-- octets on a connection: they are answered as far as they complete what those before them did not
pub record BytesTurn (users : Users) (before : Standing) (connection moment : ℕ) (payload printed : List ℕ) (after : Standing) : Type 0 where
  pub done : List Completed
  pub more : List Completed
  pub before_them : Completes (stream_of before connection) done
  pub with_them : Completes (stream_of before connection ++ payload) (done ++ more)
  pub server : ServerState
  pub prints : Prints users connection moment before.server more printed server
  pub stands : after ≡ record (fed before connection payload) { server = server }

-- What one frame prints, and where the script stands before and after it. A worker frame changes neither.
abbrev pub Turn : Users → Standing → Frame → List ℕ → Standing → Type 0
Turn users before (bytes connection moment payload) printed after = BytesTurn users before connection moment payload printed after
Turn users before (worker step slot) printed after = (printed ≡ []) × (after ≡ before)

-- The output follows from the frames, from where the script stands.
abbrev pub Follows : Users → Standing → List Frame → List ℕ → Type 0
Follows users standing [] output = output ≡ []
Follows users standing (frame ∷ frames) output =
    (printed : List ℕ) × (rest : List ℕ) × (after : Standing)
    × (output ≡ printed ++ rest) × Turn users standing frame printed after × Follows users after frames rest

-- The output is what a script may print for the whole frames of these octets, which end before the rest.
pub record IsPrinted (users : Users) (input rest output : List ℕ) : Type 0 where
  pub frames : List Frame
  pub cut : IsCutInto input frames rest
  pub follows : Follows users (at_start users) frames output

-- The output is a beginning of what a script may print for whole frames at the start of these octets: it was cut short.
pub record IsPrintedInPart (users : Users) (input output : List ℕ) : Type 0 where
  pub frames : List Frame
  pub bounds : All IsFrame frames
  pub behind : List ℕ
  pub spelled : input ≡ frames_text frames ++ behind
  pub missing : List ℕ
  pub follows : Follows users (at_start users) frames (output ++ missing)
