-- A request that stands at the front of some octets has a body within the limit.
use Rattle.std.proofs.Common.{◌≡◌, ℕ, ◌+◌, ◌≤◌, Bool, true, false, List, [], ◌∷◌, length, take, drop, refl, ap, subst, arith, length-append, length-take, Option, Some, None}
use Rattle.std.specs.Prelude.{Result, Ok, Err, nat_lt, nat_le, if◌then◌else◌}
use Rattle.std.proofs.lemmas.Bool.{ltb-false}
use Rattle.httparse.specs.Grammar.{RequestHead}
use Rattle.cal_model.specs.declared.wire.WireFault.{WireFault}
use Rattle.cal_model.specs.declared.wire.WireFault.TheVariants.{BadHead, HeadTooLong, BodyTooLong, Version}
use Rattle.cal_model.specs.declared.wire.WireRequest.{WireRequest}
use Rattle.cal_model.specs.Streams.ChunkGrammar.{AreChunks, WrittenChunk, chunks_octets}
use Rattle.cal_model.specs.Streams.Chunks.{Chunked, whole, unfinished, faulty, chunked_body}
use Rattle.cal_model.specs.Streams.HeadFields.{Framing, sized, chunked, framing_of, is_contradictory, is_too_long, field_lines, names_other_version, first_line, read_head, wire_request}
use Rattle.cal_model.specs.Streams.Heads.{head_of, head_size, without_empty_lines}
use Rattle.cal_model.specs.Streams.StreamRequests.{Front, request, fault, idle, cut, with_length, with_chunks, with_head, without_head, at_head, front}
use Rattle.cal_model.specs.Streams.WireLimits.{body_limit, head_limit, field_limit}
use Rattle.cal_model.proofs.Streams.ChunkReading.{bodies_are_the_grammar}

-- a body in chunks
chunks_within : (before : ℕ) (chunks : List WrittenChunk) → before ≤ body_limit → AreChunks before chunks → before + length (chunks_octets chunks) ≤ body_limit
chunks_within before [] h a = omega (arith, h)
chunks_within before (chunk ∷ chunks) h a =
    let more = chunks_within (before + length chunk.octets) chunks a.2 a.3 in
    omega (arith, more, length-append chunk.octets (chunks_octets chunks))

chunked_within : (octets body rest : List ℕ) → chunked_body octets ≡ whole body rest → length body ≤ body_limit
chunked_within octets body rest e =
    let found = bodies_are_the_grammar octets body rest e in
    omega (arith, chunks_within 0 found.0.chunks (omega arith) found.1.chunks, ap length found.3)

-- a front whose request, if there is one, has a short body
abbrev Short : Front → Type 0
Short (request first rest) = length first.body ≤ body_limit
Short (fault why) = Unit {0}
Short idle = Unit {0}
Short cut = Unit {0}

body_of : (head : RequestHead) (body : List ℕ) → (wire_request head body).body ≡ body
unfolding wire_request
body_of head body = refl

if_short : (b : Bool) (c d : Front) → Short c → Short d → Short (if b then c else d)
if_short true c d h k = h
if_short false c d h k = k

sized_short : (head : RequestHead) (size : ℕ) (octets : List ℕ) → size ≤ body_limit → Short (with_length head size octets)
sized_short head size octets h =
    if_short (nat_le size (length octets)) (request (wire_request head (take size octets)) (drop size octets)) cut
    (omega (arith, ap length (body_of head (take size octets)), length-take size octets)) tt

chunks_short : (head : RequestHead) (octets : List ℕ) (found : Chunked) → chunked_body octets ≡ found → Short (with_chunks head found)
chunks_short head octets (whole body rest) e = omega (arith, ap length (body_of head body), chunked_within octets body rest e)
chunks_short head octets unfinished e = tt
chunks_short head octets (faulty why) e = tt

framed_short : (head : RequestHead) (octets : List ℕ) (framing : Framing) → is_too_long framing ≡ false
    → Short (elim framing [ sized size ↦ with_length head size octets | chunked ↦ with_chunks head (chunked_body octets) ])
framed_short head octets (sized size) short = sized_short head size octets (ltb-false _ _ short)
framed_short head octets chunked short = chunks_short head octets (chunked_body octets) refl

-- a head that is read does not state a longer one
abbrev Fits : Result RequestHead WireFault → Type 0
Fits (Ok head) = is_too_long (framing_of head) ≡ false
Fits (Err why) = Unit {0}

if_fits : (b : Bool) (x y : Result RequestHead WireFault) → Fits x → Fits y → Fits (if b then x else y)
if_fits true x y h k = h
if_fits false x y h k = k

framed_fits : (head : RequestHead) (long : Bool) → is_too_long (framing_of head) ≡ long → Fits (if long then Err BodyTooLong else Ok head)
framed_fits head true e = tt
framed_fits head false e = e

found_fits : (found : Option RequestHead) → Fits (elim found [ None ↦ Err BadHead | Some head ↦ if is_contradictory head then Err BadHead else if is_too_long (framing_of head) then Err BodyTooLong else Ok head ])
found_fits None = tt
found_fits (Some head) =
    if_fits (is_contradictory head) (Err BadHead) (if is_too_long (framing_of head) then Err BodyTooLong else Ok head) tt (framed_fits head (is_too_long (framing_of head)) refl)

head_fits : (block : List ℕ) → Fits (read_head block)
unfolding read_head
head_fits block =
    if_fits (nat_lt field_limit (field_lines block)) (Err HeadTooLong) _ tt
    (if_fits (names_other_version (first_line block)) (Err Version) _ tt (found_fits (head_of block)))

read_short : (read : Result RequestHead WireFault) (octets : List ℕ) → Fits read → Short (with_head read octets)
read_short (Err why) octets h = tt
read_short (Ok head) octets h = framed_short head octets (framing_of head) h

at_head_short : (size : ℕ) (octets : List ℕ) (fits : Bool)
    → Short (elim fits [ true ↦ with_head (read_head (without_empty_lines (take size octets))) (drop size octets) | false ↦ fault HeadTooLong ])
at_head_short size octets true = read_short (read_head (without_empty_lines (take size octets))) (drop size octets) (head_fits (without_empty_lines (take size octets)))
at_head_short size octets false = tt

found_short : (octets : List ℕ) (found : Option ℕ) → head_size octets ≡ found → Short (elim found [ None ↦ without_head octets | Some size ↦ at_head size octets ])
found_short octets None e = if_short (nat_le head_limit (length octets)) (fault HeadTooLong) _ tt (if_short _ idle cut tt tt)
found_short octets (Some size) e = at_head_short size octets (nat_le size head_limit)

front_short : (octets : List ℕ) → Short (front octets)
unfolding front
front_short octets = found_short octets (head_size octets) refl

pub bodies-short : (octets : List ℕ) (first : WireRequest) (rest : List ℕ) → front octets ≡ request first rest → length first.body ≤ body_limit
bodies-short octets first rest e = subst Short e (front_short octets)
