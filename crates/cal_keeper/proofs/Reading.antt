-- What is found behind a gate's place.
use Rattle.std.proofs.Common.{◌≡◌, ◌≢◌, ℕ, ◌+◌, ◌-◌, ◌<◌, ◌≤◌, min, true, List, [], ◌∷◌, ◌++◌, length, take, drop, get_or, nat_eq, inl, inr, Option, Some, None, Result, Ok, Err, IfSome, IfOk, IsErrOf, refl, sym, ◌∙◌, ap, arith, length-append, append_assoc, length-drop, take-append-drop}
use Rattle.std.specs.Int.{w32, to_be_bytes, from_be_bytes}
use Rattle.std.proofs.lemmas.Nat.{be_bytes_4, from_be_bytes-to_be_bytes_4}
use Rattle.std.proofs.lemmas.List.{drop-drop, drop_all, append-nil, take_at, drop_at}
use Rattle.std.proofs.lemmas.Bool.{cases_eq, eq-eqb, ne_eqb}
use Rattle.cal_keeper.specs.declared.record_reading.NoRecord.{NoRecord}
use Rattle.cal_keeper.specs.declared.record_reading.NoRecord.TheVariants.{Bad, Failed, NoMemory}
use Rattle.cal_keeper.specs.Disks.CrashModel.{Past, reading}
use Rattle.cal_keeper.specs.Files.RecordForm.{payload_limit, counted_payload}
use Rattle.cal_keeper.specs.Steps.RecordSteps.{Finds, IsFilledFrom, Gives}

-- A read

-- a read that fills the place, and one that does not
pub filled_by : (told : Option Past) (place count : ℕ) (old new : List ℕ) → length new ≡ length old
    → IfSome told (λ p. count ≡ min (length old) (length (reading p) - place)) → IfSome told (λ p. new ≡ take count (drop place (reading p)) ++ drop count old)
    → IsFilledFrom place (nat_eq count (length old)) new told
filled_by None place count old new same_size counted octets = tt
filled_by (Some past) place count old new same_size counted octets = elim (cases_eq count (length old)) [
  | inl all ↦ rw (eq-eqb count (length old) all) (full all)
  | inr short ↦ rw (ne_eqb count (length old) short) (few short)
]
  where
    rest : List ℕ
    rest = drop place (reading past)

    full : count ≡ length old → (more : List ℕ) × (drop place (reading past) ≡ new ++ more)
    full all =
        let none : drop count old ≡ [] = drop_all count old (omega (arith, all)) in
        let is : new ≡ take count (drop place (reading past)) = octets ∙ ap (λ (xs : List ℕ). take count (drop place (reading past)) ++ xs) none ∙ append-nil (take count (drop place (reading past))) in
        (drop count (drop place (reading past)), sym (ap (λ (xs : List ℕ). xs ++ drop count (drop place (reading past))) is ∙ take-append-drop count (drop place (reading past))))

    few : count ≢ length old → length (drop place (reading past)) < length new
    few short = omega (arith, short, counted, same_size, length-drop place (reading past))

-- Sizes

-- the four octets of a number are those that it is read from
pub size_octets : (octets : List ℕ) (size : ℕ) → length octets ≡ 4 → ((i : ℕ) → get_or octets i 0 < 256) → size ≡ from_be_bytes w32 octets → to_be_bytes w32 size ≡ octets
size_octets octets size four small is = be_bytes_4 octets size four small is

-- a size that stands there is that of a payload that does
size_there : (payload more octets rest : List ℕ) (size : ℕ) → length payload ≤ payload_limit → octets ++ rest ≡ counted_payload payload ++ more → length octets ≡ 4 → size ≡ from_be_bytes w32 octets
    → size ≡ length payload
size_there payload more octets rest size small same four is =
    let front : take 4 (octets ++ rest) ≡ to_be_bytes w32 (length payload) = ap (take 4) same in
    let own : take 4 (octets ++ rest) ≡ octets = take_front octets rest 4 four in
    is ∙ ap (from_be_bytes w32) (sym own ∙ front) ∙ from_be_bytes-to_be_bytes_4 (length payload) (omega (arith, small))
  where
    take_front : (xs ys : List ℕ) (n : ℕ) → length xs ≡ n → take n (xs ++ ys) ≡ xs
    take_front xs ys n len = take_at xs ys n len

-- Payloads

-- a place further on
pub further : (place count : ℕ) (octets front rest : List ℕ) → length front ≡ count → drop place octets ≡ front ++ rest → drop (place + count) octets ≡ rest
further place count octets front rest size is = sym (drop-drop count place octets) ∙ ap (drop count) is ∙ drop_at front rest count size

-- what the octets behind a size give
pub payload_given : (told : Option Past) (place size : ℕ) (octets : List ℕ) (given : Result (List ℕ) NoRecord) → length octets ≡ 4 → ((i : ℕ) → get_or octets i 0 < 256) → size ≡ from_be_bytes w32 octets
    → 1 ≤ size → size ≤ payload_limit → IsFilledFrom place true octets told
    → IfOk given (λ payload. IsFilledFrom (place + 4) true payload told) → IfOk given (λ payload. length payload ≡ size) → (IsErrOf given Bad → IfSome told (λ p. length (drop (place + 4) (reading p)) < size))
    → Gives place given told
payload_given None place size octets given four small is some limited filled there sized short = tt
payload_given (Some past) place size octets (Ok payload) four small is some limited filled there sized short =
    let behind = further place 4 (reading past) octets filled.0 four filled.1 in
    let be = size_octets octets size four small is in
    let front : to_be_bytes w32 (length payload) ≡ octets = ap (λ (n : ℕ). to_be_bytes w32 n) sized ∙ be in (
      (omega (arith, some, sized), omega (arith, limited, sized)),
      there.0,
      filled.1 ∙ ap (λ (xs : List ℕ). octets ++ xs) (sym behind ∙ there.1) ∙ sym (append_assoc octets payload there.0) ∙ ap (λ (xs : List ℕ). (xs ++ payload) ++ there.0) (sym front),
    )
payload_given (Some past) place size octets (Err Bad) four small is some limited filled there sized short = λ payload has.
    let behind = further place 4 (reading past) octets filled.0 four filled.1 in
    let same = size_there payload has.1 octets filled.0 size has.0.1 (sym filled.1 ∙ has.2) four is in
    let long : drop (place + 4) (reading past) ≡ payload ++ has.1 = further place 4 (reading past) (to_be_bytes w32 (length payload)) (payload ++ has.1) refl (has.2 ∙ append_assoc (to_be_bytes w32 (length payload)) payload has.1) in
    omega (arith, short refl, same, ap length long, length-append payload has.1)
payload_given (Some past) place size octets (Err Failed) four small is some limited filled there sized short = tt
payload_given (Some past) place size octets (Err NoMemory) four small is some limited filled there sized short = tt

-- Records

one_octet : (xs : List ℕ) (gate : ℕ) → length xs ≡ 1 → get_or xs 0 0 ≡ gate → xs ≡ gate ∷ []
one_octet [] gate one is = absurd (omega (arith, one))
one_octet (x ∷ []) gate one is = ap (λ (n : ℕ). n ∷ []) is
one_octet (x ∷ y ∷ xs) gate one is = absurd (omega (arith, one))

-- an open gate, and no payload behind it
pub record_missing : (told : Option Past) (place : ℕ) (gate : List ℕ) (none : NoRecord) → length gate ≡ 1 → get_or gate 0 0 ≡ 1 → IsFilledFrom place true gate told → Gives (place + 1) (Err none) told → Finds place (Err none) told
record_missing None place gate none one is filled gives = tt
record_missing (Some past) place gate Bad one is filled gives =
    let whole : drop place (reading past) ≡ 1 ∷ filled.0 = filled.1 ∙ ap (λ (xs : List ℕ). xs ++ filled.0) (one_octet gate 1 one is) in
    record {
      no_record = λ payload has. gives payload (has.0, has.1, further place 1 (reading past) (1 ∷ []) (counted_payload payload ++ has.1) refl has.2);
      no_gate = λ has. has.2 (ap (λ (xs : List ℕ). get_or xs 0 0) (sym has.3 ∙ whole));
    }
record_missing (Some past) place gate Failed one is filled gives = tt
record_missing (Some past) place gate NoMemory one is filled gives = tt
