-- What is read as a body in chunks is one of the grammar.
use Rattle.std.proofs.Common.{◌≡◌, ℕ, zero, suc, ◌+◌, ◌-◌, ◌≤◌, ◌<◌, Bool, true, false, cond, ◌==◌, ◌&&◌, List, [], ◌∷◌, ◌++◌, length, take, drop, Option, Some, refl, sym, ap, subst, ◌∙◌, arith, ⊎_elim, append_assoc}
use Rattle.std.specs.Prelude.{option_map, nat_le, nat_lt}
use Rattle.std.proofs.lemmas.Bool.Decides.{nat_tests}
use Rattle.std.proofs.lemmas.List.{take-append-drop, length-drop, length-take-le, drop-drop}
use Rattle.cal_base.specs.Texts.Octets.{line_feed, carriage_return}
use Rattle.cal_model.specs.declared.wire.WireFault.{WireFault}
use Rattle.cal_model.specs.declared.wire.WireFault.TheVariants.{BodyTooLong, BadChunk}
use Rattle.cal_model.specs.Streams.WireLimits.{head_limit, body_limit}
use Rattle.cal_model.specs.Streams.Heads.{head_end}
use Rattle.cal_model.specs.Streams.Chunks.{Chunked, whole, unfinished, faulty, with_front, line_size, first_line_text, is_broken, begins_trailer, chunk_size, trailer_size, behind_last, behind_data, at_size, at_chunk, chunks_behind, chunked_body}
use Rattle.cal_model.specs.Streams.ChunkGrammar.{WrittenLine, line_text, IsLineOf, WrittenChunk, chunk_text, AreChunks, chunks_text, chunks_octets, BodiesAreTheGrammar, FaultsCannotGoOn}
use Rattle.cal_model.proofs.Streams.StreamFronts.{bool_cases, option_cases, suc_some}
use Rattle.cal_model.proofs.Streams.ChunkFronts.{Stays, chunks_behind-stays, line_size-append, trailer_as_head, trailer_ends, trailer_goes_on, trailer_size-within, at_chunk_broken, at_chunk_none, at_chunk_some, at_line_none, at_line_some}
use Rattle.cal_model.proofs.Streams.FrontLaws.{head_end-front}
use Rattle.cal_model.proofs.Streams.HeadLaws.{both}
use Rattle.cal_model.proofs.Streams.ChunkLines.{lines_are_the_grammar}
use Rattle.cal_model.proofs.Streams.ChunkBodies.{begun, skipped, line_some, bodies_are_read}

-- some octets that are chunks, a last chunk, a trailer and then the rest
record Found (octets : List ℕ) (before : ℕ) (body rest : List ℕ) : Type 0 where
  chunks : List WrittenChunk
  last : WrittenLine
  trailer : List ℕ
  are : AreChunks before chunks
  ends : IsLineOf last 0
  sized : trailer_size trailer ≡ Some (length trailer)
  short : length trailer ≤ head_limit
  text : chunks_text chunks (line_text last ++ (trailer ++ rest)) ≡ octets
  octets_are : chunks_octets chunks ≡ body

-- what a value that is whole is
whole_is : (a b r s : List ℕ) → whole a r ≡ whole b s → (a ≡ b) × (r ≡ s)
whole_is a b r s e = (ap body_of e, ap rest_of e)
  where
    body_of : Chunked → List ℕ
    body_of (whole body rest) = body
    body_of unfinished = a
    body_of (faulty why) = a

    rest_of : Chunked → List ℕ
    rest_of (whole body rest) = rest
    rest_of unfinished = r
    rest_of (faulty why) = r

not_unfinished : {A : Type 0} (b r : List ℕ) → unfinished ≡ whole b r → A
not_unfinished b r e = cc

not_faulty : {A : Type 0} (why : WireFault) (b r : List ℕ) → faulty why ≡ whole b r → A
not_faulty why b r e = cc

front_is : (front : List ℕ) (c : Chunked) (body rest : List ℕ) → with_front front c ≡ whole body rest → (more : List ℕ) × (c ≡ whole more rest) × (body ≡ front ++ more)
front_is front (whole more r) body rest e = let same = whole_is (front ++ more) body r rest e in (more, ap (whole more) same.1, sym same.0)
front_is front unfinished body rest e = not_unfinished body rest e
front_is front (faulty why) body rest e = not_faulty why body rest e

-- a trailer is found in its own octets
trailer_front : (octets : List ℕ) (m : ℕ) → trailer_size octets ≡ Some m → trailer_size (take m octets) ≡ Some m
trailer_front octets m e =
    let within = trailer_size-within octets m e in
    let l = length-take-le m octets within in
    let whole_text : head_end_of octets ≡ Some (suc m) = trailer_as_head octets ∙ ap (option_map suc) e in
    let there = head_end-front (10 ∷ take m octets) (drop m octets) (suc m) (ap head_end_of (take-append-drop m octets) ∙ whole_text) (omega arith) in
    let some = suc_some (trailer_size (take m octets)) (suc m) (sym (trailer_as_head (take m octets)) ∙ there) in
    let k = some.2 in
    some.1 ∙ ap Some (omega arith)
  where
    head_end_of : List ℕ → Option ℕ
    head_end_of x = head_end (10 ∷ x)

last_found : (line : WrittenLine) (octets behind body rest : List ℕ) (before : ℕ) → IsLineOf line 0 → line_text line ++ behind ≡ octets → behind_last behind ≡ whole body rest → Found octets before body rest
last_found line octets behind body rest before is text e =
    ⊎_elim
    (λ none. by_begin (begins_trailer behind) (sym (trailer_goes_on behind none) ∙ e))
    (λ found. by_size found.0 found.1 (nat_le found.0 head_limit) refl (sym (trailer_ends behind found.0 found.1) ∙ e))
    (option_cases (trailer_size behind))
  where
    by_begin : (b : Bool) → cond b unfinished (faulty BadChunk) ≡ whole body rest → Found octets before body rest
    by_begin true k = not_unfinished body rest k
    by_begin false k = not_faulty BadChunk body rest k

    by_size : (m : ℕ) → trailer_size behind ≡ Some m → (b : Bool) → nat_le m head_limit ≡ b → cond b (whole [] (drop m behind)) (faulty BadChunk) ≡ whole body rest → Found octets before body rest
    by_size m found false h k = not_faulty BadChunk body rest k
    by_size m found true h k =
        let same = whole_is [] body (drop m behind) rest k in
        let within = trailer_size-within behind m found in
        let l = length-take-le m behind within in
        let bound : m ≤ head_limit = Prim.grind (arith, nat_tests) in
        record {
          chunks = [];
          last = line;
          trailer = take m behind;
          are = tt;
          ends = is;
          sized = trailer_front behind m found ∙ ap Some (sym l);
          short = omega arith;
          text = ap (λ r. line_text line ++ (take m behind ++ r)) (sym same.1) ∙ ap (λ x. line_text line ++ x) (take-append-drop m behind) ∙ text;
          octets_are = same.0;
        }

data_found : (behind : List ℕ) (c : Chunked) (body rest : List ℕ) → behind_data behind c ≡ whole body rest → (more : List ℕ) × (behind ≡ 13 ∷ 10 ∷ more) × (c ≡ whole body rest)
data_found [] c body rest e = not_unfinished body rest e
data_found (x ∷ []) c body rest e = by (x == carriage_return) e
  where
    by : (b : Bool) → cond b unfinished (faulty BadChunk) ≡ whole body rest → (more : List ℕ) × (x ∷ [] ≡ 13 ∷ 10 ∷ more) × (c ≡ whole body rest)
    by true k = not_unfinished body rest k
    by false k = not_faulty BadChunk body rest k
data_found (x ∷ y ∷ more) c body rest e = by ((x == carriage_return) && (y == line_feed)) refl e
  where
    number : (a n : ℕ) → (a == n) ≡ true → a ≡ n
    number a n h = Prim.grind (arith, nat_tests)

    by : (b : Bool) → ((x == carriage_return) && (y == line_feed)) ≡ b → cond b c (faulty BadChunk) ≡ whole body rest → (later : List ℕ) × (x ∷ y ∷ more ≡ 13 ∷ 10 ∷ later) × (c ≡ whole body rest)
    by false h k = not_faulty BadChunk body rest k
    by true h k =
        let each = both (x == carriage_return) (y == line_feed) h in
        (more, ap (λ a. a ∷ y ∷ more) (number x 13 each.0) ∙ ap (λ a. 13 ∷ a ∷ more) (number y 10 each.1), k)

-- one more chunk in front
with_chunk : (chunk : WrittenChunk) (octets behind body more rest : List ℕ) (before : ℕ) → IsLineOf chunk.line (length chunk.octets) → 0 < length chunk.octets → before + length chunk.octets ≤ body_limit → chunk_text chunk ++ behind ≡ octets → body ≡ chunk.octets ++ more → Found behind (before + length chunk.octets) more rest → Found octets before body rest
with_chunk chunk octets behind body more rest before is some within text body_is found = record {
  chunks = chunk ∷ found.chunks;
  last = found.last;
  trailer = found.trailer;
  are = (is, some, within, found.are);
  ends = found.ends;
  sized = found.sized;
  short = found.short;
  text = ap (λ x. chunk_text chunk ++ x) found.text ∙ text;
  octets_are = ap (λ x. chunk.octets ++ x) found.octets_are ∙ sym body_is;
}

found_within : (fuel : ℕ) (octets : List ℕ) (before : ℕ) (body rest : List ℕ) → length octets < fuel → chunks_behind octets 0 before ≡ whole body rest → Found octets before body rest
found_within zero octets before body rest short e = absurd (omega arith)
found_within (suc fuel) [] before body rest short e = nothing e
  where
    nothing : chunks_behind [] 0 before ≡ whole body rest → Found [] before body rest
    nothing k = not_unfinished body rest (sym (none_there before) ∙ k)
      where
        none_there : (b : ℕ) → chunks_behind [] 0 b ≡ unfinished
        none_there b = Rattle.cal_model.proofs.Streams.ChunkBodies.nothing_there b
found_within (suc fuel) (o ∷ os) before body rest short e =
    let octets = o ∷ os in
    let following : ℕ → ℕ → Chunked = λ n. chunks_behind (drop 1 octets) (n - 1) in
    let start : at_chunk before octets following ≡ whole body rest = sym (begun octets before (omega arith)) ∙ e in
    ⊎_elim
    (λ broken. not_faulty BadChunk body rest (sym (at_chunk_broken before octets following broken) ∙ start))
    (λ sound. ⊎_elim
    (λ none. not_unfinished body rest (sym (at_chunk_none before octets following sound none) ∙ start))
    (λ line. ⊎_elim
    (λ none. not_faulty BadChunk body rest (sym (at_line_none before line.0 octets following none) ∙ sym (at_chunk_some before line.0 octets following sound line.1) ∙ start))
    (λ size.
    let at : at_size before size.0 (drop line.0 octets) (following (line.0 + size.0 + 2)) ≡ whole body rest =
    sym (at_line_some before line.0 size.0 octets following size.1) ∙ (sym (at_chunk_some before line.0 octets following sound line.1) ∙ start) in
    by_size octets following line.0 size.0 short (lines_are_the_grammar (take line.0 octets) size.0).0 size.1 ((line_size-append octets [] line.0 line.1).2) (λ o' b' body' rest' s' e'. found_within fuel o' b' body' rest' s' e') at refl)
    (option_cases (chunk_size (take line.0 octets))))
    (option_cases (line_size octets)))
    (bool_cases (is_broken (first_line_text octets)))
  where
    by_size : (octets : List ℕ) (following : ℕ → ℕ → Chunked) (n size : ℕ) → length octets < suc fuel → (chunk_size (take n octets) ≡ Some size → (written : WrittenLine) × IsLineOf written size × (line_text written ≡ take n octets)) → chunk_size (take n octets) ≡ Some size → n ≤ length octets
        → ((o' : List ℕ) (b' : ℕ) (body' rest' : List ℕ) → length o' < fuel → chunks_behind o' 0 b' ≡ whole body' rest' → Found o' b' body' rest')
        → at_size before size (drop n octets) (following (n + size + 2)) ≡ whole body rest → following ≡ (λ k. chunks_behind (drop 1 octets) (k - 1)) → Found octets before body rest
    by_size octets following n size short written this within ih at same =
        let line = written this in
        let split : line_text line.0 ++ drop n octets ≡ octets = ap (λ x. x ++ drop n octets) line.2 ∙ take-append-drop n octets in
        ⊎_elim
        (λ over. not_faulty BodyTooLong body rest (rw over at at))
        (λ inside.
        let inner = rw inside at at in
        ⊎_elim
        (λ zero_size.
        let z : size ≡ 0 = Prim.grind (arith, nat_tests) in
        last_found line.0 octets (drop n octets) body rest before (subst (IsLineOf line.0) z line.1) split (rw zero_size at inner))
        (λ some_size.
        let data_ = data_found (drop size (drop n octets)) (with_front (take size (drop n octets)) (following (n + size + 2) (before + size))) body rest (rw some_size at inner) in
        let front = front_is (take size (drop n octets)) (following (n + size + 2) (before + size)) body rest data_.2 in
        let d = length-drop n octets in
        let s = length-drop size (drop n octets) in
        let b = ap length data_.1 in
        let t = length-take-le size (drop n octets) (omega arith) in
        let l = ap length line.2 in
        let ln = length-take-le n octets within in
        let two = line_some line.0 in
        let behind : drop (n + size + 2) octets ≡ data_.0 = sym (ap (λ k. drop k octets) (refl)) ∙ after octets n size data_.0 data_.1 in
        let later : chunks_behind data_.0 0 (before + size) ≡ whole front.0 rest =
        ap (λ x. chunks_behind x 0 (before + size)) (sym behind) ∙ sym (skipped octets (n + size + 2) (before + size) (omega arith)) ∙ sym (ap (λ f. f (n + size + 2) (before + size)) same) ∙ front.1 in
        let chunk : WrittenChunk = record { line = line.0; octets = take size (drop n octets) } in
        let whole_text : chunk_text chunk ++ data_.0 ≡ octets =
        append_assoc (line_text line.0) (take size (drop n octets) ++ 13 ∷ 10 ∷ []) data_.0
        ∙ ap (λ x. line_text line.0 ++ x) (append_assoc (take size (drop n octets)) (13 ∷ 10 ∷ []) data_.0 ∙ ap (λ x. take size (drop n octets) ++ x) (sym data_.1) ∙ take-append-drop size (drop n octets)) ∙ split in
        let limit : before + size ≤ body_limit = Prim.grind (arith, nat_tests) in
        let some : 0 < size = Prim.grind (arith, nat_tests) in
        with_chunk chunk octets data_.0 body front.0 rest before (subst (IsLineOf line.0) (sym t) line.1) (omega arith) (omega arith) whole_text front.2
        (subst (λ k. Found data_.0 (before + k) front.0 rest) (sym t) (ih data_.0 (before + size) front.0 rest (omega arith) later)))
        (bool_cases (size == 0)))
        (bool_cases (nat_lt body_limit (before + size)))
      where
        after : (octets : List ℕ) (n size : ℕ) (more : List ℕ) → drop size (drop n octets) ≡ 13 ∷ 10 ∷ more → drop (n + size + 2) octets ≡ more
        after octets n size more h = sym (drop-drop 2 (n + size) octets) ∙ ap (drop 2) (sym (drop-drop size n octets) ∙ h)

pub bodies_are_the_grammar : BodiesAreTheGrammar
bodies_are_the_grammar octets body rest e =
    let found = found_within (suc (length octets)) octets 0 body rest (omega arith) e in (
      record { chunks = found.chunks; last = found.last; trailer = found.trailer },
      record { chunks = found.are; last = found.ends; trailer = found.sized; short = found.short },
      found.text,
      found.octets_are,
    )

pub faults_cannot_go_on : FaultsCannotGoOn
faults_cannot_go_on octets more rest why written e is text =
    let stays : chunked_body (octets ++ more) ≡ faulty why = subst (λ c. Stays c more (chunked_body (octets ++ more))) e (chunks_behind-stays octets more 0 0) in
    not_faulty why (chunks_octets written.chunks) rest (sym stays ∙ ap chunked_body (sym text) ∙ bodies_are_read written rest is)
