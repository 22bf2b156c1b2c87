-- How a connection is read: which of what its octets complete was given out, and what is due next.
-- Given: the octets that came on a connection so far, and what was given out of them. Which that is at the end of a frame says `Transcripts.ConnectionAnswers`.
use Rattle.std.specs.Prelude.{◌≡◌, ◌⊎◌, ℕ, ◌+◌, ◌-◌, ◌≤◌, ◌<◌, true, false, List, [], ◌∷◌, ◌++◌, length, map, if◌then◌else◌}
use Rattle.std.specs.List.{enumerate_from}
use Rattle.cal_model.specs.declared.wire.WireRequest.{WireRequest}
use Rattle.cal_model.specs.Streams.StreamRequests.{Spells}
use Rattle.cal_model.specs.Streams.WireLimits.{request_limit, body_limit}
use Rattle.cal_model.specs.Transcripts.ConnectionAnswers.{Completed, whole, faulty, is_open, Completes}
use Rattle.http_wire.specs.Wires.{Stands}
use Rattle.cal_script.specs.declared.connections.Connection.{Connection}
use Rattle.cal_script.specs.declared.connections.Due.{Due}
use Rattle.cal_script.specs.declared.connections.Due.TheVariants.{Request, Fault, Nothing, NoMemory}

-- requests that are answered, numbered from 0
abbrev pub numbered : List WireRequest → List Completed
numbered requests = map (λ (entry : ℕ × WireRequest). whole entry.0 entry.1) (enumerate_from 0 requests)

-- an open connection: requests were given out, none of which closes it, and its wire stands behind them
pub record IsOpenReading (stream : List ℕ) (given : List Completed) (connection : Connection) : Type 0 where
  pub still : connection.closed ≡ false
  pub requests : List WireRequest
  pub rest : List ℕ
  pub given_is : given ≡ numbered requests
  pub none_closes : is_open requests ≡ true
  pub spelled : Spells stream requests rest
  pub stands : Stands rest connection.wire
  pub counted : connection.answered ≡ length requests

-- a closed one: whatever comes, no more is completed
pub record IsClosedReading (stream : List ℕ) (given : List Completed) (connection : Connection) : Type 0 where
  pub closed : connection.closed ≡ true
  pub all : (more : List ℕ) → Completes (stream ++ more) given

abbrev pub IsReading : List ℕ → List Completed → Connection → Type 0
IsReading stream given connection = IsOpenReading stream given connection ⊎ IsClosedReading stream given connection

-- all that the octets complete was given out
pub record Rests (stream : List ℕ) (connection : Connection) : Type 0 where
  pub given : List Completed
  pub reading : IsReading stream given connection
  pub all : Completes stream given

-- what is due is what the stream completes next
abbrev pub IsDue : Due → List ℕ → List Completed → Connection → Type 0
IsDue (Request before wire) stream given connection = IsReading stream (given ++ whole before wire ∷ []) connection
IsDue (Fault why) stream given connection = IsReading stream (given ++ faulty why ∷ []) connection
IsDue Nothing stream given connection = IsReading stream given connection × Completes stream given
IsDue NoMemory stream given connection = IsReading stream given connection

-- a request that is due has a body within the limit
abbrev pub HasShortBody : Due → Type 0
HasShortBody (Request before wire) = length wire.body ≤ body_limit
HasShortBody other = Unit {0}

-- fewer were answered before it than a connection has
abbrev pub IsEarly : Due → Type 0
IsEarly (Request before wire) = before < request_limit
IsEarly other = Unit {0}

-- how many times something may still be due
abbrev pub may_come : Connection → ℕ
may_come connection = if connection.closed then 0 else 1 + (request_limit - connection.answered)

-- something was due
abbrev pub IsSomething : Due → Type 0
IsSomething (Request before wire) = Unit {0}
IsSomething (Fault why) = Unit {0}
IsSomething Nothing = ⊥
IsSomething NoMemory = ⊥
