-- What a reader finds next, by what stands at its place.
use Rattle.std.proofs.Common.{◌≡◌, ◌≢◌, ℕ, ◌+◌, List, [], ◌∷◌, ◌++◌, length, get_or, drop, map, Option, Some, None, Ok, Err, IfSome, sym, ◌∙◌, ap, subst, arith, length-append, append_assoc}
use Rattle.std.specs.List.{AllByRecursion}
use Rattle.std.proofs.lemmas.List.{append-nil, map-append}
use Rattle.cal_model.specs.declared.request.Event.{Event}
use Rattle.cal_model.specs.History.Journal.{Entry}
use Rattle.cal_model.specs.Users.UsersFile.{Users}
use Rattle.cal_keeper.specs.declared.record_reading.NoRecord.TheVariants.{Bad}
use Rattle.cal_keeper.specs.Disks.CrashModel.{Past, reading}
use Rattle.cal_keeper.specs.Steps.Decoding.{ReadsEvent, IsOutside}
use Rattle.cal_keeper.specs.Files.Headers.{header_of}
use Rattle.cal_keeper.specs.Files.Standing.{IsRead, IsRecorded}
use Rattle.cal_keeper.specs.Files.NextEntries.{GoesOn, Ends, IsBadAt, IsEventOf}
use Rattle.cal_keeper.specs.Files.Payloads.{payload_of}
use Rattle.cal_keeper.specs.Steps.RecordSteps.{Finds}
use Rattle.cal_keeper.specs.Files.RecordForm.{HasRecord, HasClosedGate, open_gate, open_record, front_of}
use Rattle.cal_keeper.proofs.Appending.{all_push}
use Rattle.cal_keeper.proofs.Commits.{front_longer}
use Rattle.cal_keeper.proofs.GatePlaces.{one_record, record_or_gate}
use Rattle.cal_keeper.proofs.NextLaws.{texts, entry_told, record_there, behind_place, left_there}
use Rattle.cal_keeper.specs.Principals.{counts_of, AreFew}

read_one : (users : Users) (entries : List Entry) (entry : Entry) (place : ℕ) (past : Past) → IsRecorded users entry → HasRecord (payload_of entry) (drop place (reading past)) → IsRead users entries place past
    → IsRead users (entries ++ entry ∷ []) (place + 5 + length (payload_of entry)) past
read_one users entries entry place past recorded there read =
    let longer : front_of (header_of users) (map payload_of (entries ++ entry ∷ [])) ≡ front_of (header_of users) (map payload_of entries) ++ open_record (payload_of entry) =
    ap (front_of (header_of users)) (map-append payload_of entries (entry ∷ [])) ∙ front_longer (header_of users) (map payload_of entries) (payload_of entry) in
    let rest_is : read.rest ≡ open_record (payload_of entry) ++ there.1 = sym (behind_place users entries place past read) ∙ there.2 in
    record {
      recorded = all_push (IsRecorded users) entries entry read.recorded recorded;
      place_is = longer_place (front_of (header_of users) (map payload_of entries)) (payload_of entry) (front_of (header_of users) (map payload_of (entries ++ entry ∷ []))) place read.place_is longer;
      rest = there.1;
      front =
          read.front
          ∙ ap (λ (xs : List ℕ). front_of (header_of users) (map payload_of entries) ++ xs) rest_is
          ∙ sym (append_assoc (front_of (header_of users) (map payload_of entries)) (open_record (payload_of entry)) there.1)
          ∙ ap (λ (xs : List ℕ). xs ++ there.1) (sym longer);
      settled = read.settled;
    }
  where
    longer_place : (front payload whole : List ℕ) (at : ℕ) → at ≡ length front → whole ≡ front ++ open_record payload → at + 5 + length payload ≡ length whole
    longer_place front payload whole at is whole_is = omega (arith, is, ap length whole_is, length-append front (open_record payload))

pub goes_on : (users : Users) → AreFew (counts_of users) → (entry : Entry) (place next : ℕ) (past : Past) → next ≡ place + 5 + length (payload_of entry) → IsRecorded users entry → HasRecord (payload_of entry) (drop place (reading past))
    → GoesOn users entry place next past
goes_on users few entry place next past next_is recorded there = record {
  there = there;
  read = λ entries read. subst (λ (n : ℕ). IsRead users (entries ++ entry ∷ []) n past) (sym next_is) (read_one users entries entry place past recorded there read);
  stands = λ entries all read stands.
      let left = left_there users few entries all place past read stands in
      by entries all left.more left.gate left.tail left.all_are left.recorded left.closed left.octets_are;
}
  where
    by : (entries all more : List Entry) (gate : ℕ) (tail : List ℕ) → all ≡ entries ++ more → AllByRecursion (IsRecorded users) more → gate ≢ open_gate → drop place (reading past) ≡ texts more ++ gate ∷ tail
        → (others : List Entry) × (all ≡ entries ++ entry ∷ others)
    by entries all [] gate tail all_are in_more closed is = absurd (closed (ap (λ (xs : List ℕ). get_or xs 0 0) (sym is ∙ there.2)))
    by entries all (e ∷ more) gate tail all_are in_more closed is =
        let has = record_there users e (drop place (reading past)) (texts more ++ gate ∷ tail) in_more.0 (is ∙ append_assoc (open_record (payload_of e)) (texts more) (gate ∷ tail)) in
        let same = entry_told users few e entry in_more.0 recorded (one_record (drop place (reading past)) (payload_of e) (payload_of entry) has there) in
        (more, all_are ∙ ap (λ (x : Entry). entries ++ x ∷ more) same)

pub ends : (users : Users) → AreFew (counts_of users) → (place : ℕ) (past : Past) → HasClosedGate (drop place (reading past)) → Ends users place past
ends users few place past gate = record {
  gate = gate;
  kept = λ entries read. record {
    recorded = read.recorded;
    kept = record {
      place_is = read.place_is;
      file = record {
        gate = gate.0;
        rest = gate.1;
        is_closed = gate.2;
        octets_are = read.front ∙ ap (λ (xs : List ℕ). front_of (header_of users) (map payload_of entries) ++ xs) (sym (behind_place users entries place past read) ∙ gate.3);
      };
      settled = read.settled;
    };
  };
  stands = λ entries all read stands.
      let left = left_there users few entries all place past read stands in
      by entries all left.more left.gate left.tail left.all_are left.recorded left.octets_are;
}
  where
    by : (entries all more : List Entry) (other : ℕ) (tail : List ℕ) → all ≡ entries ++ more → AllByRecursion (IsRecorded users) more → drop place (reading past) ≡ texts more ++ other ∷ tail → all ≡ entries
    by entries all [] other tail all_are in_more is = all_are ∙ append-nil entries
    by entries all (e ∷ more) other tail all_are in_more is =
        let has = record_there users e (drop place (reading past)) (texts more ++ other ∷ tail) in_more.0 (is ∙ append_assoc (open_record (payload_of e)) (texts more) (other ∷ tail)) in
        absurd (record_or_gate (drop place (reading past)) (payload_of e) has gate)

pub is_bad : (users : Users) → AreFew (counts_of users) → (place : ℕ) (past : Past) → ((entry : Entry) → IsRecorded users entry → HasRecord (payload_of entry) (drop place (reading past)) → ⊥)
    → (HasClosedGate (drop place (reading past)) → ⊥) → IsBadAt users place past
is_bad users few place past no_record no_gate = record {
  no_record = no_record;
  no_gate = no_gate;
  stands = λ entries all read stands.
      let left = left_there users few entries all place past read stands in
      by left.more left.gate left.tail left.recorded left.closed left.octets_are;
}
  where
    by : (more : List Entry) (gate : ℕ) (tail : List ℕ) → AllByRecursion (IsRecorded users) more → gate ≢ open_gate → drop place (reading past) ≡ texts more ++ gate ∷ tail → ⊥
    by [] gate tail in_more closed is = no_gate (gate, tail, closed, is)
    by (e ∷ more) gate tail in_more closed is =
        no_record e in_more.0 (record_there users e (drop place (reading past)) (texts more ++ gate ∷ tail) in_more.0 (is ∙ append_assoc (open_record (payload_of e)) (texts more) (gate ∷ tail)))

-- where the past is told

pub entry_found : (users : Users) → AreFew (counts_of users) → (told : Option Past) (place next : ℕ) (payload : List ℕ) (event : Event) (status : ℕ) → ReadsEvent users payload event status → next ≡ place + 5 + length payload
    → IfSome told (λ p. HasRecord payload (drop place (reading p))) → (entry : Entry) × IsEventOf users event status entry × (next ≡ place + 5 + length (payload_of entry)) × IfSome told (GoesOn users entry place next)
entry_found users few told place next payload event status reads next_is there = (
  reads.0,
  record { recorded = reads.1.recorded; event_is = reads.1.event_is; status_is = reads.1.status_is },
  is,
  by told there,
)
  where
    is : next ≡ place + 5 + length (payload_of reads.0)
    is = next_is ∙ ap (λ (xs : List ℕ). place + 5 + length xs) reads.1.payload_is

    by : (told : Option Past) → IfSome told (λ p. HasRecord payload (drop place (reading p))) → IfSome told (GoesOn users reads.0 place next)
    by None there = tt
    by (Some past) there = goes_on users few reads.0 place next past is reads.1.recorded (subst (λ (xs : List ℕ). HasRecord xs (drop place (reading past))) reads.1.payload_is there)

pub outside_found : (users : Users) → AreFew (counts_of users) → (told : Option Past) (place : ℕ) (payload : List ℕ) → IsOutside users payload → IfSome told (λ p. HasRecord payload (drop place (reading p))) → IfSome told (IsBadAt users place)
outside_found users few None place payload outside there = tt
outside_found users few (Some past) place payload outside there =
    is_bad users few place past (λ entry recorded has. outside entry recorded.form (one_record (drop place (reading past)) payload (payload_of entry) there has))
    (λ gate. record_or_gate (drop place (reading past)) payload there gate)

pub neither_found : (users : Users) → AreFew (counts_of users) → (told : Option Past) (place : ℕ) → Finds place (Err Bad) told → IfSome told (IsBadAt users place)
neither_found users few None place finds = tt
neither_found users few (Some past) place finds = is_bad users few place past (λ entry recorded has. finds.no_record (payload_of entry) has) finds.no_gate

pub end_found : (users : Users) → AreFew (counts_of users) → (told : Option Past) (place : ℕ) → Finds place (Ok None) told → IfSome told (Ends users place)
end_found users few None place finds = tt
end_found users few (Some past) place finds = ends users few place past finds
