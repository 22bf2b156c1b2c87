-- What was read at the place of a gate: a record, a closed gate, or neither.
-- Given: the place, and the past of the file where the disk tells it.
use Rattle.std.specs.Prelude.{◌≡◌, ℕ, ◌<◌, Bool, true, false, List, ◌++◌, length, drop, Option, Some, None, Result, Ok, Err}
use Rattle.cal_model.specs.Users.UsersFile.{Users}
use Rattle.cal_keeper.specs.declared.reader.NextEntry.{NextEntry}
use Rattle.cal_keeper.specs.declared.record_reading.NoRecord.{NoRecord}
use Rattle.cal_keeper.specs.declared.record_reading.NoRecord.TheVariants.{Bad, Failed, NoMemory}
use Rattle.cal_keeper.specs.Disks.CrashModel.{Past, reading}
use Rattle.cal_keeper.specs.Files.NextEntries.{IsFound}
use Rattle.cal_keeper.specs.Files.RecordForm.{IsPayloadSize, HasRecord, HasClosedGate, counted_payload}
use Rattle.cal_keeper.specs.Keepers.{ReaderState}

-- neither a record nor a closed gate stands there
pub record HasNeither (octets : List ℕ) : Type 0 where
  pub no_record : (payload : List ℕ) → HasRecord payload octets → ⊥
  pub no_gate : HasClosedGate octets → ⊥

-- what was found in such octets
abbrev pub FoundIn : List ℕ → Result (Option (List ℕ)) NoRecord → Type 0
FoundIn octets (Ok (Some payload)) = HasRecord payload octets
FoundIn octets (Ok None) = HasClosedGate octets
FoundIn octets (Err Bad) = HasNeither octets
FoundIn octets (Err Failed) = Unit {0}
FoundIn octets (Err NoMemory) = Unit {0}

abbrev pub Finds : ℕ → Result (Option (List ℕ)) NoRecord → Option Past → Type 0
Finds place found None = Unit {0}
Finds place found (Some past) = FoundIn (drop place (reading past)) found

-- Parts of it

-- a place in memory was filled with the front of the octets, or there were too few of them
abbrev pub IsFilled : Bool → List ℕ → List ℕ → Type 0
IsFilled true octets into = (more : List ℕ) × (octets ≡ into ++ more)
IsFilled false octets into = length octets < length into

abbrev pub IsFilledFrom : ℕ → Bool → List ℕ → Option Past → Type 0
IsFilledFrom place filled into None = Unit {0}
IsFilledFrom place filled into (Some past) = IsFilled filled (drop place (reading past)) into

-- a payload stands there behind its length
abbrev pub HasPayload : List ℕ → List ℕ → Type 0
HasPayload payload octets = IsPayloadSize (length payload) × (more : List ℕ) × (octets ≡ counted_payload payload ++ more)

-- what was given of such octets
abbrev pub GivenOf : List ℕ → Result (List ℕ) NoRecord → Type 0
GivenOf octets (Ok payload) = HasPayload payload octets
GivenOf octets (Err Bad) = (payload : List ℕ) → HasPayload payload octets → ⊥
GivenOf octets (Err Failed) = Unit {0}
GivenOf octets (Err NoMemory) = Unit {0}

abbrev pub Gives : ℕ → Result (List ℕ) NoRecord → Option Past → Type 0
Gives place given None = Unit {0}
Gives place given (Some past) = GivenOf (drop place (reading past)) given

-- Behind a payload that was read

-- what a reader finds, whichever disk of the same past it had before the payload was read
abbrev pub FindsBehind : {D : Type 0} → (D → Option Past) → (D → ℕ) → Users → ReaderState D → NextEntry D → Type 0
FindsBehind past faults users reader found = (old : _) → past old ≡ past reader.disk → IsFound past faults users (record reader { disk = old }) found
