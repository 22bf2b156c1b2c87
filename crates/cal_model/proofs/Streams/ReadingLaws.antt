-- Each stream has one reading: some requests, and then an end.
use Rattle.std.proofs.Common.{◌≡◌, ℕ, zero, suc, ◌+◌, ◌-◌, ◌≤◌, ◌<◌, Bool, true, false, cond, ◌==◌, ◌&&◌, List, [], ◌∷◌, ◌++◌, length, take, drop, Result, Ok, Err, refl, sym, ap, subst, ◌∙◌, arith, ◌⊎◌, inl, inr, ⊎_elim}
use Rattle.std.specs.Prelude.{nat_le, nat_lt}
use Rattle.std.proofs.lemmas.List.{length-drop}
use Rattle.httparse.specs.Grammar.{RequestHead}
use Rattle.cal_base.specs.Texts.Octets.{line_feed, carriage_return}
use Rattle.cal_model.specs.Words.Lists.{is_empty}
use Rattle.cal_model.specs.declared.wire.WireFault.{WireFault}
use Rattle.cal_model.specs.declared.wire.WireFault.TheVariants.{HeadTooLong, BadChunk, BodyTooLong}
use Rattle.cal_model.specs.declared.wire.WireRequest.{WireRequest}
use Rattle.cal_model.specs.Streams.WireLimits.{head_limit, body_limit}
use Rattle.cal_model.specs.Streams.Heads.{head_end, without_empty_lines, head_size}
use Rattle.cal_model.specs.Streams.HeadFields.{read_head, Framing, sized, chunked, framing_of, wire_request}
use Rattle.cal_model.specs.Streams.Chunks.{is_broken, line_size, first_line_text, begins_trailer, chunk_size, trailer_size, Chunked, whole, unfinished, faulty, with_front, behind_last, behind_data, behind_line, at_size, at_line, at_chunk, chunks_behind, chunked_body}
use Rattle.cal_model.specs.Streams.StreamRequests.{Front, request, fault, idle, cut, with_length, with_chunks, with_body, with_head, without_head, at_head, front, Spells, Ending, ends_idle, ends_cut, ends_at, Ends, IsStream}
use Rattle.cal_model.specs.Streams.StreamLaws.{RequestsHaveOctets, StreamsAreRead, ReadingsAgree, StreamsGrow}
use Rattle.cal_model.proofs.Streams.StreamFronts.{bool_cases, option_cases}
use Rattle.cal_model.proofs.Streams.StreamHeads.{mapped, head_size-within}
use Rattle.cal_model.proofs.Streams.ChunkFronts.{head_end-least, trailer_ends, trailer_goes_on, at_line_none, at_line_some, at_chunk_broken, at_chunk_none, at_chunk_some}
use Rattle.cal_model.proofs.Streams.FrontLaws.{framed, headed, over_long, front_found, front_open, full, not_full, requests_stay}

-- What is left is no longer than what there was

abbrev Leaves : Chunked → ℕ → Type 0
Leaves (whole body rest) n = length rest ≤ n
Leaves unfinished n = Unit {0}
Leaves (faulty why) n = Unit {0}

leaves : (c d : Chunked) (n : ℕ) → c ≡ d → Leaves d n → Leaves c n
leaves c d n e h = subst (λ x. Leaves x n) (sym e) h

leaves_more : (c : Chunked) (n m : ℕ) → n ≤ m → Leaves c n → Leaves c m
leaves_more (whole body rest) n m le h = omega arith
leaves_more unfinished n m le h = tt
leaves_more (faulty why) n m le h = tt

cond_leaves : (b : Bool) (c d : Chunked) (n : ℕ) → Leaves c n → Leaves d n → Leaves (cond b c d) n
cond_leaves true c d n h k = h
cond_leaves false c d n h k = k

front_leaves : (front : List ℕ) (c : Chunked) (n : ℕ) → Leaves c n → Leaves (with_front front c) n
front_leaves front (whole body rest) n h = h
front_leaves front unfinished n h = tt
front_leaves front (faulty why) n h = tt

last_leaves : (octets : List ℕ) → Leaves (behind_last octets) (length octets)
last_leaves octets =
    ⊎_elim
    (λ none. leaves (behind_last octets) (cond (begins_trailer octets) unfinished (faulty BadChunk)) (length octets) (trailer_goes_on octets none)
    (cond_leaves (begins_trailer octets) unfinished (faulty BadChunk) (length octets) tt tt))
    (λ found.
    let d = length-drop found.0 octets in
    leaves (behind_last octets) (cond (nat_le found.0 head_limit) (whole [] (drop found.0 octets)) (faulty BadChunk)) (length octets) (trailer_ends octets found.0 found.1)
    (cond_leaves (nat_le found.0 head_limit) (whole [] (drop found.0 octets)) (faulty BadChunk) (length octets) (omega arith) tt))
    (option_cases (trailer_size octets))

data_leaves : (behind : List ℕ) (c : Chunked) (n : ℕ) → Leaves c n → Leaves (behind_data behind c) n
data_leaves [] c n h = tt
data_leaves (b ∷ []) c n h = cond_leaves (b == carriage_return) unfinished (faulty BadChunk) n tt tt
data_leaves (b ∷ d ∷ more) c n h = cond_leaves ((b == carriage_return) && (d == line_feed)) c (faulty BadChunk) n h tt

size_leaves : (before size : ℕ) (octets : List ℕ) (following : ℕ → Chunked) (n : ℕ) → length octets ≤ n → ((m : ℕ) → Leaves (following m) n) → Leaves (at_size before size octets following) n
size_leaves before size octets following n le h =
    cond_leaves (nat_lt body_limit (before + size)) (faulty BodyTooLong) (elim (size == 0) [ true ↦ behind_last octets | false ↦ behind_line size octets (following (before + size)) ]) n tt
    (by_size (size == 0))
  where
    by_size : (b : Bool) → Leaves (elim b [ true ↦ behind_last octets | false ↦ behind_line size octets (following (before + size)) ]) n
    by_size true = leaves_more (behind_last octets) (length octets) n le (last_leaves octets)
    by_size false = data_leaves (drop size octets) (with_front (take size octets) (following (before + size))) n (front_leaves (take size octets) (following (before + size)) n (h (before + size)))

line_leaves : (before n : ℕ) (octets : List ℕ) (following : ℕ → ℕ → Chunked) (k : ℕ) → length octets ≤ k → ((i m : ℕ) → Leaves (following i m) k) → Leaves (at_line before n octets following) k
line_leaves before n octets following k le h =
    let d = length-drop n octets in
    ⊎_elim
    (λ none. leaves (at_line before n octets following) (faulty BadChunk) k (at_line_none before n octets following none) tt)
    (λ found. leaves (at_line before n octets following) (at_size before found.0 (drop n octets) (following (n + found.0 + 2))) k (at_line_some before n found.0 octets following found.1)
    (size_leaves before found.0 (drop n octets) (following (n + found.0 + 2)) k (omega arith) (h (n + found.0 + 2))))
    (option_cases (chunk_size (take n octets)))

chunk_leaves : (before : ℕ) (octets : List ℕ) (following : ℕ → ℕ → Chunked) (k : ℕ) → length octets ≤ k → ((i m : ℕ) → Leaves (following i m) k) → Leaves (at_chunk before octets following) k
chunk_leaves before octets following k le h =
    ⊎_elim
    (λ broken. leaves (at_chunk before octets following) (faulty BadChunk) k (at_chunk_broken before octets following broken) tt)
    (λ sound. ⊎_elim
    (λ none. leaves (at_chunk before octets following) unfinished k (at_chunk_none before octets following sound none) tt)
    (λ found. leaves (at_chunk before octets following) (at_line before found.0 octets following) k (at_chunk_some before found.0 octets following sound found.1)
    (line_leaves before found.0 octets following k le h))
    (option_cases (line_size octets)))
    (bool_cases (is_broken (first_line_text octets)))

chunks_leave : (octets : List ℕ) (skipped before : ℕ) → Leaves (chunks_behind octets skipped before) (length octets)
unfolding chunks_behind
chunks_leave [] skipped before = tt
chunks_leave (b ∷ octets) zero before =
    chunk_leaves before (b ∷ octets) (λ n. chunks_behind octets (n - 1)) (length (b ∷ octets)) (omega arith)
    (λ n m. leaves_more (chunks_behind octets (n - 1) m) (length octets) (length (b ∷ octets)) (omega arith) (chunks_leave octets (n - 1) m))
chunks_leave (b ∷ octets) (suc skipped) before =
    leaves_more (chunks_behind octets skipped before) (length octets) (length (b ∷ octets)) (omega arith) (chunks_leave octets skipped before)

-- A request takes some octets

abbrev Takes : Front → ℕ → Type 0
Takes (request first rest) n = length rest ≤ n
Takes (fault why) n = Unit {0}
Takes idle n = Unit {0}
Takes cut n = Unit {0}

takes : (c d : Front) (n : ℕ) → c ≡ d → Takes d n → Takes c n
takes c d n e h = subst (λ x. Takes x n) (sym e) h

cond_takes : (b : Bool) (c d : Front) (n : ℕ) → Takes c n → Takes d n → Takes (cond b c d) n
cond_takes true c d n h k = h
cond_takes false c d n h k = k

chunks_take : (head : RequestHead) (c : Chunked) (n : ℕ) → Leaves c n → Takes (with_chunks head c) n
chunks_take head (whole body rest) n h = h
chunks_take head unfinished n h = tt
chunks_take head (faulty why) n h = tt

body_takes : (head : RequestHead) (framing : Framing) (octets : List ℕ) → framing_of head ≡ framing → Takes (with_body head octets) (length octets)
body_takes head (sized size) octets h =
    let d = length-drop size octets in
    takes (with_body head octets) (with_length head size octets) (length octets) (framed head (sized size) octets h)
    (cond_takes (nat_le size (length octets)) (request (wire_request head (take size octets)) (drop size octets)) cut (length octets) (omega arith) tt)
body_takes head chunked octets h =
    takes (with_body head octets) (with_chunks head (chunked_body octets)) (length octets) (framed head chunked octets h)
    (chunks_take head (chunked_body octets) (length octets) (chunks_leave octets 0 0))

head_takes : (read : Result RequestHead WireFault) (octets : List ℕ) → Takes (with_head read octets) (length octets)
head_takes (Err why) octets = tt
head_takes (Ok head) octets = body_takes head (framing_of head) octets refl

takes_more : (c : Front) (n m : ℕ) → n ≤ m → Takes c n → Takes c m
takes_more (request first rest) n m le h = omega arith
takes_more (fault why) n m le h = tt
takes_more idle n m le h = tt
takes_more cut n m le h = tt

-- a request leaves two octets less at least
front_takes : (octets : List ℕ) → Takes (front octets) (length octets - 1)
front_takes octets =
    ⊎_elim
    (λ none. takes (front octets) (without_head octets) (length octets - 1) (front_open octets none)
    (⊎_elim
    (λ many. takes (without_head octets) (fault HeadTooLong) (length octets - 1) (full octets many) tt)
    (λ few. takes (without_head octets) (cond (is_empty (without_empty_lines octets)) idle cut) (length octets - 1) (not_full octets few)
    (cond_takes (is_empty (without_empty_lines octets)) idle cut (length octets - 1) tt tt))
    (bool_cases (nat_le head_limit (length octets)))))
    (λ found. takes (front octets) (at_head found.0 octets) (length octets - 1) (front_found octets found.0 found.1)
    (⊎_elim
    (λ fits.
    let m = mapped (λ k. (length octets - length (without_empty_lines octets)) + k) (head_end (without_empty_lines octets)) found.0 found.1 in
    let least = head_end-least (without_empty_lines octets) m.0 m.1 in
    let s = m.2 in
    let w = head_size-within octets found.0 found.1 in
    let d = length-drop found.0 octets in
    takes (at_head found.0 octets) (with_head (read_head (without_empty_lines (take found.0 octets))) (drop found.0 octets)) (length octets - 1) (headed found.0 octets fits)
    (takes_more (with_head (read_head (without_empty_lines (take found.0 octets))) (drop found.0 octets)) (length (drop found.0 octets)) (length octets - 1) (omega arith)
    (head_takes (read_head (without_empty_lines (take found.0 octets))) (drop found.0 octets))))
    (λ over. takes (at_head found.0 octets) (fault HeadTooLong) (length octets - 1) (over_long found.0 octets over) tt)
    (bool_cases (nat_le found.0 head_limit))))
    (option_cases (head_size octets))

nothing_there : (first : WireRequest) (rest : List ℕ) → ¬ (front [] ≡ request first rest)
unfolding front head_end without_empty_lines
nothing_there first rest e = cc

pub requests_have_octets : RequestsHaveOctets
requests_have_octets [] first rest e = absurd (nothing_there first rest e)
requests_have_octets (b ∷ octets) first rest e =
    let left = subst (λ x. Takes x (length (b ∷ octets) - 1)) e (front_takes (b ∷ octets)) in
    omega arith

-- One reading

front_cases : (f : Front) → ((first : WireRequest) × (rest : List ℕ) × (f ≡ request first rest)) ⊎ ((why : WireFault) × (f ≡ fault why)) ⊎ (f ≡ idle) ⊎ (f ≡ cut)
front_cases (request first rest) = inl (first, rest, refl)
front_cases (fault why) = inr (inl (why, refl))
front_cases idle = inr (inr (inl refl))
front_cases cut = inr (inr (inr refl))

Reading : List ℕ → Type 0
Reading stream = (requests : List WireRequest) × (rest : List ℕ) × (ending : Ending) × IsStream stream requests rest ending

ended : (stream : List ℕ) (ending : Ending) → Ends stream ending → Reading stream
unfolding Reading
ended stream ending h = ([], stream, ending, record { spelled = refl; ended = h })

with_first : (stream : List ℕ) (first : WireRequest) (behind : List ℕ) → front stream ≡ request first behind → Reading behind → Reading stream
unfolding Reading
with_first stream first behind e r = (first ∷ r.0, r.1, r.2, record { spelled = (behind, e, r.3.spelled); ended = r.3.ended })

read_within : (n : ℕ) (stream : List ℕ) → length stream < n → Reading stream
read_within zero stream within = absurd (omega arith)
read_within (suc n) stream within =
    ⊎_elim
    (λ first.
    let shorter = requests_have_octets stream first.0 first.1 first.2 in
    with_first stream first.0 first.1 first.2 (read_within n first.1 (omega arith)))
    (⊎_elim (λ bad. ended stream (ends_at bad.0) bad.1) (⊎_elim (λ h. ended stream ends_idle h) (λ h. ended stream ends_cut h)))
    (front_cases (front stream))

pub streams_are_read : StreamsAreRead
unfolding Reading
streams_are_read stream = read_within (suc (length stream)) stream (omega arith)

-- what stands at the front is one thing
same_request : (a b : WireRequest) (r s : List ℕ) → request a r ≡ request b s → (a ≡ b) × (r ≡ s)
same_request a b r s e = (ap first_of e, ap rest_of e)
  where
    first_of : Front → WireRequest
    first_of (request first rest) = first
    first_of (fault why) = a
    first_of idle = a
    first_of cut = a

    rest_of : Front → List ℕ
    rest_of (request first rest) = rest
    rest_of (fault why) = r
    rest_of idle = r
    rest_of cut = r

no_request_ends : (octets : List ℕ) (first : WireRequest) (rest : List ℕ) (ending : Ending) → front octets ≡ request first rest → Ends octets ending → ⊥
no_request_ends octets first rest ends_idle e h = let x = sym e ∙ h in cc
no_request_ends octets first rest ends_cut e h = let x = sym e ∙ h in cc
no_request_ends octets first rest (ends_at why) e h = let x = sym e ∙ h in cc

same_fault : (a b : WireFault) → fault a ≡ fault b → a ≡ b
same_fault a b e = ap why_of e
  where
    why_of : Front → WireFault
    why_of (fault why) = why
    why_of (request first rest) = a
    why_of idle = a
    why_of cut = a

same_end : (octets : List ℕ) (a b : Ending) → Ends octets a → Ends octets b → a ≡ b
same_end octets ends_idle ends_idle h k = refl
same_end octets ends_cut ends_cut h k = refl
same_end octets (ends_at a) (ends_at b) h k = ap ends_at (same_fault a b (sym h ∙ k))
same_end octets ends_idle ends_cut h k = let x = sym h ∙ k in cc
same_end octets ends_idle (ends_at b) h k = let x = sym h ∙ k in cc
same_end octets ends_cut ends_idle h k = let x = sym h ∙ k in cc
same_end octets ends_cut (ends_at b) h k = let x = sym h ∙ k in cc
same_end octets (ends_at a) ends_idle h k = let x = sym h ∙ k in cc
same_end octets (ends_at a) ends_cut h k = let x = sym h ∙ k in cc

Agree : List WireRequest → List WireRequest → List ℕ → List ℕ → Ending → Ending → Type 0
Agree requests others rest behind ending end = (requests ≡ others) × (rest ≡ behind) × (ending ≡ end)

agree : (stream : List ℕ) (requests others : List WireRequest) (rest behind : List ℕ) (ending end : Ending) → Spells stream requests rest → Ends rest ending → Spells stream others behind → Ends behind end → Agree requests others rest behind ending end
unfolding Agree
agree stream [] [] rest behind ending end s h t k =
    let same : rest ≡ behind = sym s ∙ t in
    (refl, same, same_end behind ending end (subst (λ x. Ends x ending) same h) k)
agree stream [] (other ∷ others) rest behind ending end s h t k =
    absurd (no_request_ends stream other t.0 ending t.1 (subst (λ x. Ends x ending) (sym s) h))
agree stream (first ∷ requests) [] rest behind ending end s h t k =
    absurd (no_request_ends stream first s.0 end s.1 (subst (λ x. Ends x end) (sym t) k))
agree stream (first ∷ requests) (other ∷ others) rest behind ending end s h t k =
    let same = same_request first other s.0 t.0 (sym s.1 ∙ t.1) in
    let more = agree t.0 requests others rest behind ending end (subst (λ x. Spells x requests rest) same.1 s.2) h t.2 k in
    (ap (λ x. x ∷ requests) same.0 ∙ ap (λ xs. other ∷ xs) more.0, more.1, more.2)

pub readings_agree : ReadingsAgree
unfolding Agree
readings_agree stream requests others rest behind ending end s t = agree stream requests others rest behind ending end s.spelled s.ended t.spelled t.ended

pub streams_grow : StreamsGrow
streams_grow stream more [] later rest behind s t = subst (λ x. Spells (x ++ more) later behind) (sym s) t
streams_grow stream more (first ∷ requests) later rest behind s t =
    (s.0 ++ more, requests_stay stream more first s.0 s.1, streams_grow s.0 more requests later rest behind s.2 t)
