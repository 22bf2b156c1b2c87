-- What a wire says of its stream.
-- Given: a wire, and the octets of its stream behind the last request that it gave. Gives: what its next answer says of them, and which octets are left behind it.
-- A wire lets octets go that it does not need any more, so no octets of its own are those that are left: it stands in front of them where it goes on as they do, whatever follows.
use Rattle.std.specs.Prelude.{◌≡◌, ◌⊎◌, ℕ, ◌≤◌, List, [], ◌++◌, length, drop}
use Rattle.cal_model.specs.Streams.StreamRequests.{Front, request, fault, idle, cut, front, Begins}
use Rattle.cal_model.specs.Streams.WireLimits.{body_limit}
use Rattle.http_wire.specs.declared.wire.Wire.{Wire}
use Rattle.http_wire.specs.declared.wire.Next.{Next}
use Rattle.http_wire.specs.declared.wire.Next.TheVariants.{Request, Need, Fault, NoMemory}
use Rattle.http_wire.specs.WireStates.{front_of}

-- what stands at the front of what is left of the stream, if this follows
abbrev pub wire_front : Wire → List ℕ → Front
wire_front wire more = front_of wire.stage (drop wire.at wire.octets ++ more)

-- the wire stands in front of these octets, which are what is left of its stream
abbrev pub Stands : List ℕ → Wire → Type 0
Stands octets wire = (more : List ℕ) → front (octets ++ more) ≡ wire_front wire more

-- The answer where these octets are what is left of the stream, and the wire that it leaves: the request at their front, whose body is within the limit, and what is left behind it; that no request is whole yet; or the fault, which each later answer gives again, since nothing that follows mends it. Without memory nothing is lost.
abbrev pub NextIs : Next → List ℕ → Wire → Type 0
NextIs (Request r) octets wire = (rest : List ℕ) × Begins octets r rest × Stands rest wire × (length r.body ≤ body_limit)
NextIs Need octets wire = ((front octets ≡ idle) ⊎ (front octets ≡ cut)) × Stands octets wire
NextIs (Fault why) octets wire = (front octets ≡ fault why) × Stands octets wire
NextIs NoMemory octets wire = Stands octets wire

-- the same of a wire alone, by what stands at its front, whatever follows
abbrev pub Leads : Next → (List ℕ → Front) → Wire → Type 0
Leads (Request r) stands wire =
    (rest : List ℕ) × ((more : List ℕ) → stands more ≡ request r (rest ++ more)) × Stands rest wire
Leads Need stands wire = ((stands [] ≡ idle) ⊎ (stands [] ≡ cut)) × ((more : List ℕ) → stands more ≡ wire_front wire more)
Leads (Fault why) stands wire = ((more : List ℕ) → stands more ≡ fault why) × ((more : List ℕ) → wire_front wire more ≡ fault why)
Leads NoMemory stands wire = (more : List ℕ) → stands more ≡ wire_front wire more
