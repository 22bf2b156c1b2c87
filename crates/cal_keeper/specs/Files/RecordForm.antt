-- The form of a journal file: a header, records behind open gates, a closed gate, and then anything.
-- Given: the header's octets, and the payloads of records.
use Rattle.std.specs.Prelude.{◌≡◌, ◌≢◌, ℕ, ◌≤◌, List, ◌∷◌, ◌++◌, length, flat_map}
use Rattle.std.specs.Int.{w32, to_be_bytes}
use Rattle.cal_keeper.specs.Disks.CrashModel.{Past, reading, IsSettled}

-- The gate that is open; every other octet is a closed gate.
abbrev pub open_gate : ℕ
open_gate = 1

-- what stands behind the gate of a record and before the next gate: the payload behind its length, which has four octets
abbrev pub counted_payload : List ℕ → List ℕ
counted_payload payload = to_be_bytes w32 (length payload) ++ payload

-- a record behind its open gate
abbrev pub open_record : List ℕ → List ℕ
open_record payload = open_gate ∷ counted_payload payload

-- all that stands in front of the closed gate
abbrev pub front_of : List ℕ → List (List ℕ) → List ℕ
front_of header payloads = header ++ flat_map open_record payloads

-- The octets are a journal file with this header and these payloads.
pub record IsFile (header : List ℕ) (payloads : List (List ℕ)) (octets : List ℕ) : Type 0 where
  pub gate : ℕ
  pub rest : List ℕ
  pub is_closed : gate ≢ open_gate
  pub octets_are : octets ≡ front_of header payloads ++ gate ∷ rest

-- A file is kept: it has these payloads, its closed gate stands at that place, and a crash leaves it as it reads.
pub record IsKept (header : List ℕ) (payloads : List (List ℕ)) (place : ℕ) (past : Past) : Type 0 where
  pub place_is : place ≡ length (front_of header payloads)
  pub file : IsFile header payloads (reading past)
  pub settled : IsSettled past

-- What stands at the place of a gate

-- the most octets of a payload
abbrev pub payload_limit : ℕ
payload_limit = 134_217_728

-- a length that a payload may have
abbrev pub IsPayloadSize : ℕ → Type 0
IsPayloadSize size = (1 ≤ size) × (size ≤ payload_limit)

-- a record with this payload stands in front of the octets
abbrev pub HasRecord : List ℕ → List ℕ → Type 0
HasRecord payload octets = IsPayloadSize (length payload) × (more : List ℕ) × (octets ≡ open_record payload ++ more)

-- a closed gate does
abbrev pub HasClosedGate : List ℕ → Type 0
HasClosedGate octets = (gate : ℕ) × (more : List ℕ) × (gate ≢ open_gate) × (octets ≡ gate ∷ more)
