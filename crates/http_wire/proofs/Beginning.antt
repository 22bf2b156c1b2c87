-- How a head is begun.
use Rattle.std.proofs.Common.{◌≡◌, ◌⊎◌, inl, inr, ℕ, ◌≤◌, ◌<◌, true, false, List, [], ◌++◌, length, take, drop, Some, None, Ok, Err, refl, sym, ap, ◌∙◌, arith, ⊎_elim}
use Rattle.std.specs.Prelude.{nat_le}
use Rattle.std.proofs.lemmas.Bool.Decides.{nat_tests}
use Rattle.std.proofs.lemmas.List.{take-append-le, drop-append-le}
use Rattle.httparse.specs.Grammar.{RequestHead}
use Rattle.cal_model.specs.Words.Lists.{is_empty}
use Rattle.cal_model.specs.declared.wire.WireFault.{WireFault}
use Rattle.cal_model.specs.declared.wire.WireFault.TheVariants.{HeadTooLong}
use Rattle.cal_model.specs.declared.wire.WireRequest.{WireRequest}
use Rattle.cal_model.specs.Streams.WireLimits.{head_limit}
use Rattle.cal_model.specs.Streams.Heads.{without_empty_lines, head_size}
use Rattle.cal_model.specs.Streams.HeadFields.{read_head, Framing, sized, chunked, framing_of, wire_request}
use Rattle.cal_model.specs.Streams.Chunks.{Chunked, whole, unfinished, faulty, with_front, chunked_body}
use Rattle.cal_model.specs.Streams.StreamRequests.{fault, idle, cut, with_length, with_chunks, with_body, with_head, without_head, at_head, front}
use Rattle.cal_model.proofs.Streams.StreamFronts.{bool_cases}
use Rattle.cal_model.proofs.Streams.StreamHeads.{head_size-append}
use Rattle.cal_model.proofs.Streams.FrontLaws.{faults_stay}
use Rattle.http_wire.specs.declared.part.Part.{Part}
use Rattle.http_wire.specs.BodyParts.{sized_reads, reads}
use Rattle.http_wire.specs.HeadReading.{first_part}
use Rattle.http_wire.specs.WireStates.{with_chunked}

pub front_some : (o : List ℕ) (n : ℕ) → head_size o ≡ Some n → front o ≡ at_head n o
unfolding front
front_some o n h = rw (h, front) refl

pub at_fits : (n : ℕ) (o : List ℕ) → n ≤ head_limit → at_head n o ≡ with_head (read_head (without_empty_lines (take n o))) (drop n o)
at_fits n o within =
    let yes : nat_le n head_limit ≡ true = Prim.grind (arith, nat_tests, within) in
    rw (yes, at_head) refl

pub front_none : (o : List ℕ) → head_size o ≡ None → front o ≡ without_head o
unfolding front
front_none o h = rw (h, front) refl

pub long_fault : (o more : List ℕ) → head_size o ≡ None → head_limit ≤ length o → front (o ++ more) ≡ fault HeadTooLong
long_fault o more h long =
    let yes : nat_le head_limit (length o) ≡ true = Prim.grind (arith, nat_tests, long) in
    faults_stay o more HeadTooLong (front_none o h ∙ rw yes refl)

pub over_fault : (o more : List ℕ) (n : ℕ) → head_size o ≡ Some n → head_limit < n → front (o ++ more) ≡ fault HeadTooLong
over_fault o more n h over =
    let no : nat_le n head_limit ≡ false = Prim.grind (arith, nat_tests, over) in
    faults_stay o more HeadTooLong (front_some o n h ∙ rw (no, at_head) refl)

pub bad_fault : (o more : List ℕ) (n : ℕ) (why : WireFault) → head_size o ≡ Some n → n ≤ head_limit → read_head (without_empty_lines (take n o)) ≡ Err why → front (o ++ more) ≡ fault why
bad_fault o more n why h within bad =
    faults_stay o more why (front_some o n h ∙ at_fits n o within ∙ ap (λ r. with_head r (drop n o)) bad)

pub nothing_yet : (o : List ℕ) → head_size o ≡ None → length o < head_limit → (front o ≡ idle) ⊎ (front o ≡ cut)
nothing_yet o h short =
    let no : nat_le head_limit (length o) ≡ false = Prim.grind (arith, nat_tests, short) in
    ⊎_elim (λ yes. inl (front_none o h ∙ rw no (rw yes refl))) (λ some. inr (front_none o h ∙ rw no (rw some refl))) (bool_cases (is_empty (without_empty_lines o)))

-- The body behind a head

chunked_as : (head : RequestHead) (c : Chunked) → with_chunks head c ≡ with_chunked (wire_request head []) (with_front [] c)
unfolding wire_request
chunked_as head (whole body rest) = refl
chunked_as head unfinished = refl
chunked_as head (faulty why) = refl

sized_as : (head : RequestHead) (size : ℕ) (o : List ℕ) → with_length head size o ≡ with_chunked (wire_request head []) (with_front [] (sized_reads size o))
unfolding wire_request
sized_as head size o = ⊎_elim (λ yes. rw yes refl) (λ no. rw no refl) (bool_cases (nat_le size (length o)))

body_by : (head : RequestHead) (framing : Framing) (o : List ℕ) → framing_of head ≡ framing → with_body head o ≡ with_chunked (wire_request head []) (reads (first_part framing) [] o)
body_by head (sized size) o e = rw (e, with_body) (sized_as head size o)
body_by head chunked o e = rw (e, with_body) (chunked_as head (chunked_body o))

empty_body : (h : RequestHead) → (wire_request h []).body ≡ []
unfolding wire_request
empty_body h = refl

pub body_begins : (o more : List ℕ) (n : ℕ) (head : RequestHead) (r : WireRequest) (part : Part) → head_size o ≡ Some n → n ≤ head_limit → n ≤ length o → read_head (without_empty_lines (take n o)) ≡ Ok head
    → r ≡ wire_request head [] → part ≡ first_part (framing_of head) → front (o ++ more) ≡ with_chunked r (reads part r.body (drop n o ++ more))
body_begins o more n head r part h within inside good same first =
    front_some (o ++ more) n (head_size-append o more n h)
    ∙ at_fits n (o ++ more) within
    ∙ ap (λ l. with_head (read_head (without_empty_lines l)) (drop n (o ++ more))) (take-append-le n o more inside)
    ∙ ap (λ x. with_head x (drop n (o ++ more))) good
    ∙ ap (with_body head) (drop-append-le n o more inside)
    ∙ body_by head (framing_of head) (drop n o ++ more) refl
    ∙ ap (λ b. with_chunked (wire_request head []) (reads (first_part (framing_of head)) b (drop n o ++ more))) (sym (empty_body head))
    ∙ ap (λ q. with_chunked q (reads (first_part (framing_of head)) q.body (drop n o ++ more))) (sym same)
    ∙ ap (λ p. with_chunked r (reads p r.body (drop n o ++ more))) (sym first)
