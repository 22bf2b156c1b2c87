-- What the octets of a connection hold that is answered (RFC 9112, 9.3 and 9.6): its requests up to the one behind which it closes, and perhaps the fault behind them.
-- Given: the octets of a connection so far. Which requests a stream has is chapter Streams; how a fault is answered is `Replies.WireReplies`.
use Rattle.std.specs.Prelude.{◌≡◌, ℕ, Bool, not, ◌&&◌, if◌then◌else◌, nat_lt, List, [], ◌∷◌, ◌++◌, length, map}
use Rattle.std.specs.List.{list_any, enumerate_from}
use Rattle.cal_model.specs.declared.wire.WireFault.{WireFault}
use Rattle.cal_model.specs.declared.wire.WireRequest.{WireRequest}
use Rattle.cal_model.specs.Streams.StreamRequests.{Ending, ends_idle, ends_cut, ends_at, IsStream, served}
use Rattle.cal_model.specs.Streams.WireLimits.{request_limit}

-- a request, with how many were answered before it on its connection; or a fault, behind which nothing is read
pub data Completed : Type 0 where
  whole : (before : ℕ) (wire : WireRequest) → Completed
  faulty : (why : WireFault) → Completed

-- no request asks to close, and there may be one more
abbrev pub is_open : List WireRequest → Bool
is_open requests = not (list_any (λ (wire : WireRequest). wire.close) requests) && nat_lt (length requests) request_limit

abbrev pub fault_in : Ending → List Completed
fault_in ends_idle = []
fault_in ends_cut = []
fault_in (ends_at why) = faulty why ∷ []

-- the requests that are answered, numbered from 0, and the fault where the connection is still open behind them
abbrev pub answered : List WireRequest → Ending → List Completed
answered requests ending =
    map (λ (entry : ℕ × WireRequest). whole entry.0 entry.1) (enumerate_from 0 (served requests)) ++ (if is_open requests then fault_in ending else [])

-- What a stream completes. Each stream has one reading, so it completes one list.
pub record Completes (stream : List ℕ) (done : List Completed) : Type 0 where
  pub requests : List WireRequest
  pub rest : List ℕ
  pub ending : Ending
  pub reading : IsStream stream requests rest ending
  pub are_done : done ≡ answered requests ending
