-- A record that is brought to a kept file.
use Rattle.std.proofs.Common.{◌≡◌, ◌≢◌, ◌⊎◌, inl, inr, ⊎_elim, ℕ, ◌+◌, ◌<◌, ◌≤◌, Bool, true, false, IsTrue, List, [], ◌∷◌, ◌++◌, length, get_or, take, drop, Option, Some, None, refl, sym, ◌∙◌, ap, subst, arith, length-append, append_assoc}
use Rattle.std.specs.Int.{w32, to_be_bytes}
use Rattle.std.proofs.lemmas.Bool.{false≢true, cases_eq}
use Rattle.std.proofs.lemmas.List.{take_at, drop_at, flat_map_more}
use Rattle.cal_keeper.specs.Disks.CrashModel.{Past, found, wrote, synced, reading, IsTorn, MayLeave, moment, LeftSince, LeavesOnly, with_piece}
use Rattle.cal_keeper.specs.Steps.WriteRuns.{IsSpared, PutsText, Puts, ReplacesPiece, Replaces}
use Rattle.cal_keeper.specs.Files.RecordForm.{open_gate, counted_payload, open_record, front_of, IsFile, IsKept}
use Rattle.cal_keeper.specs.Steps.Committing.{IsWithOrWithout, Commits}
use Rattle.cal_keeper.proofs.Pieces.{piece_within}
use Rattle.cal_keeper.proofs.Gates.{spared_front, torn_gate}

-- since this moment there is no other
pub only_now : (past : Past) (image : List ℕ) → LeftSince (moment past) past image → MayLeave past image
only_now (found octets) image left = left
only_now (wrote before place count octets) image (inl may) = may
only_now (wrote before place count octets) image (inr was) = absurd (omega (arith, was.0))
only_now (synced before) image (inl may) = may
only_now (synced before) image (inr was) = absurd (omega (arith, was.0))

-- Files

-- a gate that stands with anything behind it, closed
closed_file : (header : List ℕ) (payloads : List (List ℕ)) (gate : ℕ) (rest image : List ℕ) → gate ≢ open_gate → image ≡ front_of header payloads ++ gate ∷ rest → IsFile header payloads image
closed_file header payloads gate rest image closed is = record { gate = gate; rest = rest; is_closed = closed; octets_are = is }

pub front_longer : (header : List ℕ) (payloads : List (List ℕ)) (payload : List ℕ) → front_of header (payloads ++ payload ∷ []) ≡ front_of header payloads ++ open_record payload
front_longer header payloads payload = sym (flat_map_more open_record header payloads payload)

-- an open gate with a whole record behind it, and a closed gate behind that
opened : (header : List ℕ) (payloads : List (List ℕ)) (payload rest : List ℕ)
    → front_of header payloads ++ open_gate ∷ ((counted_payload payload ++ 0 ∷ []) ++ rest) ≡ front_of header (payloads ++ payload ∷ []) ++ 0 ∷ rest
opened header payloads payload rest =
    ap (λ (xs : List ℕ). front_of header payloads ++ open_gate ∷ xs) (append_assoc (counted_payload payload) (0 ∷ []) rest)
    ∙ sym (append_assoc (front_of header payloads) (open_record payload) (0 ∷ rest))
    ∙ ap (λ (xs : List ℕ). xs ++ 0 ∷ rest) (sym (front_longer header payloads payload))

opened_file : (header : List ℕ) (payloads : List (List ℕ)) (payload rest image : List ℕ)
    → image ≡ front_of header payloads ++ open_gate ∷ ((counted_payload payload ++ 0 ∷ []) ++ rest) → IsFile header (payloads ++ payload ∷ []) image
opened_file header payloads payload rest image is =
    closed_file header (payloads ++ payload ∷ []) 0 rest image (λ same. absurd (omega (arith, same))) (is ∙ opened header payloads payload rest)

-- whichever octet stands in the gate's place, the record counts or it does not
either_file : (header : List ℕ) (payloads : List (List ℕ)) (payload : List ℕ) (gate : ℕ) (rest image : List ℕ)
    → image ≡ front_of header payloads ++ gate ∷ ((counted_payload payload ++ 0 ∷ []) ++ rest) → IsWithOrWithout header payloads payload image
either_file header payloads payload gate rest image is = elim (cases_eq gate open_gate) [
  | inl is_open ↦ inr (opened_file header payloads payload rest image (is ∙ ap (λ (g : ℕ). front_of header payloads ++ g ∷ ((counted_payload payload ++ 0 ∷ []) ++ rest)) is_open))
  | inr closed ↦ inl (closed_file header payloads gate ((counted_payload payload ++ 0 ∷ []) ++ rest) image closed is)
]

-- The writes behind a closed gate

-- a text that is put behind a gate
put_behind : (front : List ℕ) (gate : ℕ) (rest text : List ℕ) (place : ℕ) → place ≡ length front
    → with_piece (place + 1) text (front ++ gate ∷ rest) ≡ front ++ gate ∷ (text ++ drop (place + 1 + length text) (front ++ gate ∷ rest))
put_behind front gate rest text place place_is =
    let regrouped : front ++ gate ∷ rest ≡ (front ++ gate ∷ []) ++ rest = sym (append_assoc front (gate ∷ []) rest) in
    let short : length (front ++ gate ∷ []) ≡ place + 1 = omega (arith, length-append front (gate ∷ [])) in
    let size : place + 1 ≤ length (front ++ gate ∷ rest) = omega (arith, length-append front (gate ∷ rest)) in
    let kept : take (place + 1) (front ++ gate ∷ rest) ≡ front ++ gate ∷ [] = ap (λ (xs : List ℕ). take (place + 1) xs) regrouped ∙ take_at (front ++ gate ∷ []) rest (place + 1) short in
    piece_within (place + 1) text (front ++ gate ∷ rest) size
    ∙ ap (λ (xs : List ℕ). xs ++ (text ++ drop (place + 1 + length text) (front ++ gate ∷ rest))) kept
    ∙ append_assoc front (gate ∷ []) (text ++ drop (place + 1 + length text) (front ++ gate ∷ rest))

-- a gate that is put in the place of another
put_gate : (front : List ℕ) (gate new : ℕ) (rest : List ℕ) (place : ℕ) → place ≡ length front → with_piece place (new ∷ []) (front ++ gate ∷ rest) ≡ front ++ new ∷ rest
put_gate front gate new rest place place_is =
    let size : place ≤ length (front ++ gate ∷ rest) = omega (arith, length-append front (gate ∷ rest)) in
    let regrouped : front ++ gate ∷ rest ≡ (front ++ gate ∷ []) ++ rest = sym (append_assoc front (gate ∷ []) rest) in
    let short : length (front ++ gate ∷ []) ≡ place + 1 = omega (arith, length-append front (gate ∷ [])) in
    let kept : take place (front ++ gate ∷ rest) ≡ front = take_at front (gate ∷ rest) place (sym place_is) in
    let left : drop (place + 1) (front ++ gate ∷ rest) ≡ rest = ap (λ (xs : List ℕ). drop (place + 1) xs) regrouped ∙ drop_at (front ++ gate ∷ []) rest (place + 1) short in
    piece_within place (new ∷ []) (front ++ gate ∷ rest) size
    ∙ ap (λ (xs : List ℕ). xs ++ ((new ∷ []) ++ drop (place + 1) (front ++ gate ∷ rest))) kept
    ∙ ap (λ (xs : List ℕ). front ++ new ∷ xs) left

module _ (header : List ℕ) (payloads : List (List ℕ)) (payload : List ℕ) (place : ℕ) (old mid : Past) (ok : Bool) (kept : IsKept header payloads place old) (puts : PutsText (place + 1) (counted_payload payload ++ 0 ∷ []) ok old mid) where
  abbrev front : List ℕ
  front = front_of header payloads

  abbrev text : List ℕ
  text = counted_payload payload ++ 0 ∷ []

  -- an image in which all is spared up to the gate has the payloads before
  spared_file : (earlier image : List ℕ) → MayLeave old earlier → IsSpared (place + 1) earlier image → IsFile header payloads image
  spared_file earlier image may spared =
      let file = kept.file in
      let was : earlier ≡ front_of header payloads ++ file.gate ∷ file.rest = kept.settled earlier may ∙ file.octets_are in
      let spared : IsSpared (place + 1) (front_of header payloads ++ file.gate ∷ file.rest) image = subst (λ (xs : List ℕ). IsSpared (place + 1) xs image) was spared in
      closed_file header payloads file.gate _ image file.is_closed (spared_front (front_of header payloads) file.gate file.rest image place kept.place_is spared)

  pub staged_before : (start : ℕ) (image : List ℕ) → start ≤ moment old → LeftSince start mid image → LeftSince start old image ⊎ IsWithOrWithout header payloads payload image
  staged_before start image le left = ⊎_elim
      (λ was. inl was)
      (λ came. inr (inl (spared_file came.0 image came.1 came.2)))
      (puts.spares.since start image le left)

  pub at_start : (image : List ℕ) → LeftSince (moment old) old image → IsWithOrWithout header payloads payload image
  at_start image left =
      let file = kept.file in
      inl (closed_file header payloads file.gate file.rest image file.is_closed (kept.settled image (only_now old image left) ∙ file.octets_are))

  pub staged_leaves : LeavesOnly (IsWithOrWithout header payloads payload) old mid
  staged_leaves = record {
    later = puts.spares.later;
    each = λ image left. ⊎_elim (at_start image) (λ has. has) (staged_before (moment old) image (omega arith) left);
    before = staged_before;
  }

  pub staged_reading : IsTrue ok → reading mid ≡ front_of header payloads ++ kept.file.gate ∷ ((counted_payload payload ++ 0 ∷ []) ++ drop (place + 1 + length (counted_payload payload ++ 0 ∷ [])) (front_of header payloads ++ kept.file.gate ∷ kept.file.rest))
  staged_reading went =
      let file = kept.file in
      let place_is = kept.place_is in
      let size : place + 1 ≤ length (reading old) = omega (arith, ap length file.octets_are, length-append (front_of header payloads) (file.gate ∷ file.rest)) in
      puts.stands went size
      ∙ ap (λ (xs : List ℕ). with_piece (place + 1) (counted_payload payload ++ 0 ∷ []) xs) file.octets_are
      ∙ put_behind (front_of header payloads) file.gate file.rest (counted_payload payload ++ 0 ∷ []) place place_is

-- a record that was not put whole
pub commit_unstaged : (payload : List ℕ) (place : ℕ) (old new : Option Past) → Puts (place + 1) (counted_payload payload ++ 0 ∷ []) false old new → Commits place payload false old new
commit_unstaged payload place None new same = same
commit_unstaged payload place (Some old) new puts = (
  puts.0,
  puts.1,
  record {
    any_moment = λ header payloads kept. staged_leaves header payloads payload place old puts.0 false kept puts.2;
    acknowledged = λ ok. absurd (false≢true ok);
  },
)

-- The gate that is opened in front of it

module _ (header : List ℕ) (payloads : List (List ℕ)) (payload : List ℕ) (place : ℕ) (old mid new : Past) (ok : Bool) (kept : IsKept header payloads place old) (puts : PutsText (place + 1) (counted_payload payload ++ 0 ∷ []) true old mid) (opens : ReplacesPiece place (1 ∷ []) ok mid new) where
  abbrev rest : List ℕ
  rest = drop (place + 1 + length (counted_payload payload ++ 0 ∷ [])) (front_of header payloads ++ kept.file.gate ∷ kept.file.rest)

  mid_is : reading mid ≡ front_of header payloads ++ kept.file.gate ∷ ((counted_payload payload ++ 0 ∷ []) ++ rest)
  mid_is = staged_reading header payloads payload place old mid true kept puts refl

  some_text : 0 < length (counted_payload payload ++ 0 ∷ [])
  some_text = omega (arith, length-append (counted_payload payload) (0 ∷ []))

  torn_file : (image : List ℕ) → IsTorn place 1 (reading mid) image → IsWithOrWithout header payloads payload image
  torn_file image torn =
      let here : IsTorn place 1 (front_of header payloads ++ kept.file.gate ∷ ((counted_payload payload ++ 0 ∷ []) ++ rest)) image = subst (λ (xs : List ℕ). IsTorn place 1 xs image) mid_is torn in
      either_file header payloads payload (get_or image place 0) (drop (place + 1 + length (counted_payload payload ++ 0 ∷ [])) image) image
      (torn_gate (front_of header payloads) kept.file.gate (counted_payload payload ++ 0 ∷ []) rest image place kept.place_is some_text here)

  gate_before : (start : ℕ) (image : List ℕ) → start ≤ moment old → LeftSince start new image → LeftSince start old image ⊎ IsWithOrWithout header payloads payload image
  gate_before start image le left = ⊎_elim
      (λ was. staged_before header payloads payload place old mid true kept puts start image le was)
      (λ torn. inr (torn_file image torn))
      (opens.since start image (omega (arith, le, puts.spares.later)) left)

  pub gate_leaves : LeavesOnly (IsWithOrWithout header payloads payload) old new
  gate_leaves = record {
    later = omega (arith, puts.spares.later, opens.later);
    each = λ image left. ⊎_elim (at_start header payloads payload place old mid true kept puts image) (λ has. has) (gate_before (moment old) image (omega arith) left);
    before = gate_before;
  }

  new_is : IsTrue ok → reading new ≡ front_of header payloads ++ open_gate ∷ ((counted_payload payload ++ 0 ∷ []) ++ rest)
  new_is went =
      opens.stands went
      ∙ ap (λ (xs : List ℕ). with_piece place (1 ∷ []) xs) mid_is
      ∙ put_gate (front_of header payloads) kept.file.gate 1 ((counted_payload payload ++ 0 ∷ []) ++ rest) place kept.place_is

  counted_size : length (counted_payload payload) ≡ 4 + length payload
  counted_size = length-append (to_be_bytes w32 (length payload)) payload

  next_place : place + 5 + length payload ≡ length (front_of header (payloads ++ payload ∷ []))
  next_place =
      let place_is = kept.place_is in
      omega (arith, counted_size, ap length (front_longer header payloads payload), length-append (front_of header payloads) (open_record payload))

  pub gate_acknowledged : IsTrue ok → IsKept header (payloads ++ payload ∷ []) (place + 5 + length payload) new
  gate_acknowledged went = record {
    place_is = next_place;
    file = opened_file header payloads payload rest (reading new) (new_is went);
    settled = opens.settled went;
  }

-- a record that was put whole, and its gate
pub commit_staged : (payload : List ℕ) (place : ℕ) (ok : Bool) (old mid new : Option Past) → Puts (place + 1) (counted_payload payload ++ 0 ∷ []) true old mid → Replaces place (1 ∷ []) ok mid new → Commits place payload ok old new
commit_staged payload place ok None mid new puts opens = subst (λ (m : Option Past). Replaces place (1 ∷ []) ok m new) puts opens
commit_staged payload place ok (Some old) mid new puts opens =
    let opens = subst (λ (m : Option Past). Replaces place (1 ∷ []) ok m new) puts.1 opens in (
      opens.0,
      opens.1,
      record {
        any_moment = λ header payloads kept. gate_leaves header payloads payload place old puts.0 opens.0 ok kept puts.2 opens.2;
        acknowledged = λ went header payloads kept. gate_acknowledged header payloads payload place old puts.0 opens.0 ok kept puts.2 opens.2 went;
      },
    )
