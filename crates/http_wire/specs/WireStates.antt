-- What stands at the front of a stream, as a state of the reading sees it.
use Rattle.std.specs.Prelude.{◌≡◌, ◌⊎◌, ℕ, ◌≤◌, List, ◌++◌, length, drop}
use Rattle.cal_model.specs.declared.wire.WireRequest.{WireRequest}
use Rattle.cal_model.specs.Streams.Chunks.{Chunked, whole, unfinished, faulty}
use Rattle.cal_model.specs.Streams.StreamRequests.{Front, request, fault, idle, cut, front}
use Rattle.http_wire.specs.declared.stage.Stage.{Stage}
use Rattle.http_wire.specs.declared.stage.Stage.TheVariants.{Head, Body, Failed}
use Rattle.http_wire.specs.declared.stage.Gone.{Gone}
use Rattle.http_wire.specs.declared.stage.Gone.TheVariants.{Request as GoneRequest, Need as GoneNeed, Fault as GoneFault, NoMemory as GoneNoMemory}
use Rattle.http_wire.specs.declared.stage.Begun.{Begun}
use Rattle.http_wire.specs.declared.stage.Begun.TheVariants.{Body as BegunBody, Need as BegunNeed, Fault as BegunFault, NoMemory as BegunNoMemory}
use Rattle.http_wire.specs.BodyParts.{reads}
use Rattle.http_wire.specs.HeadSearch.{Skipped, Looked}

-- the request with this body
abbrev pub with_octets : WireRequest → List ℕ → WireRequest
with_octets r body = record {
  method = r.method;
  target = r.target;
  close = r.close;
  authorization = r.authorization;
  media = r.media;
  coding = r.coding;
  depth = r.depth;
  if_match = r.if_match;
  if_none = r.if_none;
  body = body;
}

abbrev pub with_chunked : WireRequest → Chunked → Front
with_chunked r (whole body rest) = request (with_octets r body) rest
with_chunked r unfinished = cut
with_chunked r (faulty why) = fault why

-- what stands at the front of the stream, where the reading stands so and these octets follow
abbrev pub front_of : Stage → List ℕ → Front
front_of Head octets = front octets
front_of (Body r part) octets = with_chunked r (reads part r.body octets)
front_of (Failed why) octets = fault why

-- how far a body was read
abbrev pub GoneReads : Gone → Stage → List ℕ → Type 0
GoneReads (GoneRequest r n) stage octets = (n ≤ length octets) × ((more : List ℕ) → front_of stage (octets ++ more) ≡ request r (drop n octets ++ more))
GoneReads (GoneNeed next n) stage octets =
    (n ≤ length octets) × (front_of stage octets ≡ cut) × ((more : List ℕ) → front_of stage (octets ++ more) ≡ front_of next (drop n octets ++ more))
GoneReads (GoneFault why) stage octets = (more : List ℕ) → front_of stage (octets ++ more) ≡ fault why
GoneReads (GoneNoMemory next n) stage octets = (n ≤ length octets) × ((more : List ℕ) → front_of stage (octets ++ more) ≡ front_of next (drop n octets ++ more))

-- how far a head was read
abbrev pub BegunReads : Begun → List ℕ → Type 0
BegunReads (BegunBody r part n) octets = (n ≤ length octets) × ((more : List ℕ) → front (octets ++ more) ≡ front_of (Body r part) (drop n octets ++ more))
BegunReads (BegunNeed begun from) octets =
    (begun ≤ from) × (from ≤ length octets) × Skipped octets begun × Looked octets begun from × ((front octets ≡ idle) ⊎ (front octets ≡ cut))
BegunReads (BegunFault why) octets = (more : List ℕ) → front (octets ++ more) ≡ fault why
BegunReads BegunNoMemory octets = Unit {0}
