-- The laws of streams. What stands at the front of some octets stays there whatever follows, and each stream has one reading.
use Rattle.std.specs.Prelude.{◌≡◌, ℕ, ◌<◌, List, ◌++◌, length}
use Rattle.cal_model.specs.declared.wire.WireFault.{WireFault}
use Rattle.cal_model.specs.declared.wire.WireRequest.{WireRequest}
use Rattle.cal_model.specs.Streams.StreamRequests.{front, request, fault, Spells, Ending, IsStream}

-- a request that is whole stays, and what follows comes behind the rest
abbrev pub RequestsStay : Type 0
RequestsStay = (octets more : List ℕ) (first : WireRequest) (rest : List ℕ) → front octets ≡ request first rest → front (octets ++ more) ≡ request first (rest ++ more)

-- a fault that shows stays
abbrev pub FaultsStay : Type 0
FaultsStay = (octets more : List ℕ) (why : WireFault) → front octets ≡ fault why → front (octets ++ more) ≡ fault why

-- a request has octets
abbrev pub RequestsHaveOctets : Type 0
RequestsHaveOctets = (octets : List ℕ) (first : WireRequest) (rest : List ℕ) → front octets ≡ request first rest → length rest < length octets

-- each stream is some requests and then an end
abbrev pub StreamsAreRead : Type 0
StreamsAreRead = (stream : List ℕ) → (requests : List WireRequest) × (rest : List ℕ) × (ending : Ending) × IsStream stream requests rest ending

-- it is no others, and has no other end
abbrev pub ReadingsAgree : Type 0
ReadingsAgree =
    (stream : List ℕ) (requests others : List WireRequest) (rest behind : List ℕ) (ending end : Ending)
    → IsStream stream requests rest ending → IsStream stream others behind end → (requests ≡ others) × (rest ≡ behind) × (ending ≡ end)

-- the requests of a stream are the first of those of any longer one; the others are read from what was left and what came
abbrev pub StreamsGrow : Type 0
StreamsGrow =
    (stream more : List ℕ) (requests later : List WireRequest) (rest behind : List ℕ)
    → Spells stream requests rest → Spells (rest ++ more) later behind → Spells (stream ++ more) (requests ++ later) behind
