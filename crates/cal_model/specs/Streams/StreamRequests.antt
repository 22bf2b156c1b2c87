-- The requests of a stream (RFC 9112, 2 and 9.3): their spellings stand one after the other, and then comes what is left.
-- Given: the octets of a connection, all at once. Gives: what stands at their front, and which requests and which end they are. How the octets were cut into pieces when they came plays no part.
-- What stands at the front is decided by the octets alone: a request that is whole, and a fault that shows, stay whatever follows (`StreamLaws`).
use Rattle.std.specs.Prelude.{◌≡◌, ℕ, ◌+◌, Bool, true, false, ◌||◌, nat_le, if◌then◌else◌, List, [], ◌∷◌, length, take, drop, Some, None, Result, Ok, Err}
use Rattle.httparse.specs.Grammar.{RequestHead}
use Rattle.cal_model.specs.declared.wire.WireFault.{WireFault}
use Rattle.cal_model.specs.declared.wire.WireFault.TheVariants.{HeadTooLong}
use Rattle.cal_model.specs.declared.wire.WireRequest.{WireRequest}
use Rattle.cal_model.specs.Words.Lists.{is_empty}
use Rattle.cal_model.specs.Streams.WireLimits.{head_limit, request_limit}
use Rattle.cal_model.specs.Streams.Heads.{without_empty_lines, head_size}
use Rattle.cal_model.specs.Streams.HeadFields.{read_head, sized, chunked, framing_of, wire_request}
use Rattle.cal_model.specs.Streams.Chunks.{Chunked, whole, unfinished, faulty, chunked_body}

-- What stands at the front of some octets

-- a request and what stands behind it; the first fault; nothing but empty lines; or the start of a request
pub data Front : Type 0 where
  request : WireRequest → List ℕ → Front
  fault : WireFault → Front
  idle : Front
  cut : Front

-- a body of a stated length
abbrev pub with_length : RequestHead → ℕ → List ℕ → Front
with_length head size octets = if nat_le size (length octets) then request (wire_request head (take size octets)) (drop size octets) else cut

-- a body in chunks
abbrev pub with_chunks : RequestHead → Chunked → Front
with_chunks head (whole body rest) = request (wire_request head body) rest
with_chunks head unfinished = cut
with_chunks head (faulty why) = fault why

abbrev pub with_body : RequestHead → List ℕ → Front
with_body head octets = elim (framing_of head) [
  | sized size ↦ with_length head size octets
  | chunked ↦ with_chunks head (chunked_body octets)
]

-- behind a head that ends
abbrev pub with_head : Result RequestHead WireFault → List ℕ → Front
with_head (Err why) octets = fault why
with_head (Ok head) octets = with_body head octets

-- where no head ends within the limit
abbrev pub without_head : List ℕ → Front
without_head octets =
    if nat_le head_limit (length octets) then fault HeadTooLong
    else if is_empty (without_empty_lines octets) then idle
    else cut

-- where a head ends behind so many octets
abbrev pub at_head : ℕ → List ℕ → Front
at_head size octets = elim (nat_le size head_limit) [
  | true ↦ with_head (read_head (without_empty_lines (take size octets))) (drop size octets)
  | false ↦ fault HeadTooLong
]

-- What stands at the front of some octets.
unfoldable pub front : List ℕ → Front
front octets = elim (head_size octets) [ None ↦ without_head octets | Some size ↦ at_head size octets ]

-- The requests of a stream

-- the octets begin with the request, and behind it stands the rest
abbrev pub Begins : List ℕ → WireRequest → List ℕ → Type 0
Begins octets first rest = front octets ≡ request first rest

-- the spellings of the requests one after the other, and then the rest
abbrev pub Spells : List ℕ → List WireRequest → List ℕ → Type 0
Spells octets [] rest = octets ≡ rest
Spells octets (first ∷ more) rest = (behind : List ℕ) × Begins octets first behind × Spells behind more rest

-- how a stream ends behind its requests
pub data Ending : Type 0 where
  ends_idle : Ending
  ends_cut : Ending
  ends_at : WireFault → Ending

-- the rest begins with no request: it is nothing but empty lines, the start of a request, or has the first fault
abbrev pub Ends : List ℕ → Ending → Type 0
Ends rest ends_idle = front rest ≡ idle
Ends rest ends_cut = front rest ≡ cut
Ends rest (ends_at why) = front rest ≡ fault why

-- The requests of a stream, what is left behind them, and what that is.
pub record IsStream (stream : List ℕ) (requests : List WireRequest) (rest : List ℕ) (ending : Ending) : Type 0 where
  pub spelled : Spells stream requests rest
  pub ended : Ends rest ending

-- Those that are answered

-- up to the first that asks to close, itself counted
abbrev pub up_to_close : List WireRequest → List WireRequest
up_to_close [] = []
up_to_close (first ∷ more) = if first.close then first ∷ [] else first ∷ up_to_close more

-- no more than a connection has
abbrev pub served : List WireRequest → List WireRequest
served requests = up_to_close (take request_limit requests)

-- the reply to a request says that the connection closes, where so many were answered before it: it asks so, or no other is answered
abbrev pub closes_after : ℕ → WireRequest → Bool
closes_after before wire = wire.close || nat_le request_limit (before + 1)
