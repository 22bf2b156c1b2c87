-- The steps at a chunk line, and in a trailer.
use Rattle.std.proofs.Common.{◌≡◌, ℕ, suc, ◌+◌, ◌-◌, ◌≤◌, ◌<◌, true, false, cond, ◌==◌, List, [], ◌∷◌, ◌++◌, length, drop, Option, Some, None, refl, sym, ap, subst, ◌∙◌, arith, ⊎_elim, append_assoc, length-append}
use Rattle.std.specs.Prelude.{option_map, nat_le, nat_lt}
use Rattle.std.proofs.lemmas.Bool.Decides.{nat_tests}
use Rattle.std.proofs.lemmas.List.{drop_at, drop-drop, drop-append-le}
use Rattle.cal_model.specs.declared.wire.WireFault.TheVariants.{BodyTooLong, BadChunk}
use Rattle.cal_model.specs.Streams.WireLimits.{head_limit, body_limit}
use Rattle.cal_model.specs.Streams.Heads.{head_end}
use Rattle.cal_model.specs.Streams.Chunks.{Chunked, whole, unfinished, faulty, with_front, begins_trailer, trailer_size, behind_last, behind_line, chunks_behind}
use Rattle.cal_model.specs.Streams.ChunkGrammar.{WrittenLine, line_text, IsLineOf}
use Rattle.cal_model.proofs.Streams.ChunkFronts.{le_cases, trailer_as_head, trailer_ends, trailer_goes_on, begins_within, begins_none}
use Rattle.cal_model.proofs.Streams.ChunkLines.{text_of}
use Rattle.cal_model.proofs.Streams.ChunkBodies.{begun, line_some, at_written, skipped}
use Rattle.cal_model.proofs.Streams.ChunkSteps.{chunk_over}
use Rattle.http_wire.specs.BodyParts.{data_reads, trailer_reads}

-- The line of a chunk that has octets

pub line_sized : (line : WrittenLine) (size before : ℕ) (rest : List ℕ) → IsLineOf line size → 0 < size → before + size ≤ body_limit → chunks_behind (line_text line ++ rest) 0 before ≡ data_reads size (before + size) rest
line_sized line size before rest is some within =
    let stream = line_text line ++ rest in
    let l = line_some line in
    let a = length-append (line_text line) rest in
    let following : ℕ → ℕ → Chunked = λ n. chunks_behind (drop 1 stream) (n - 1) in
    let inside : nat_lt body_limit (before + size) ≡ false = Prim.grind (arith, nat_tests, within) in
    let more : (size == 0) ≡ false = Prim.grind (arith, nat_tests, some) in
    let n = length (line_text line) + size + 2 in
    let behind : drop n stream ≡ drop (size + 2) rest = ap (λ k. drop k stream) (omega arith) ∙ sym (drop-drop (size + 2) (length (line_text line)) stream) ∙ ap (drop (size + 2)) (drop_at (line_text line) rest (length (line_text line)) refl) in
    begun stream before (omega arith) ∙ at_written line size before rest following is
    ∙ rw inside (rw more (ap (behind_line size rest) (skipped stream n (before + size) (omega arith) ∙ ap (λ l. chunks_behind l 0 (before + size)) behind)))

-- The line of the last chunk: its line feed is kept in front of the trailer

pub trailer_some : (seen n : ℕ) (o : List ℕ) → head_end o ≡ Some n → trailer_reads seen o ≡ cond (nat_le (seen + n) (head_limit + 1)) (whole [] (drop n o)) (faulty BadChunk)
trailer_some seen n o h = rw (h, trailer_reads) refl

pub trailer_open : (seen n : ℕ) (o : List ℕ) → head_end o ≡ None → head_end (o ++ 10 ∷ 10 ∷ []) ≡ Some n → trailer_reads seen o ≡ cond (nat_le (seen + n) (head_limit + 1)) unfinished (faulty BadChunk)
trailer_open seen n o h k = rw (h, trailer_reads) (rw k refl)

pub trailer_never : (seen : ℕ) (o : List ℕ) → head_end o ≡ None → head_end (o ++ 10 ∷ 10 ∷ []) ≡ None → trailer_reads seen o ≡ faulty BadChunk
trailer_never seen o h k = rw (h, trailer_reads) (rw k refl)

one_more : (n : ℕ) → nat_le n head_limit ≡ nat_le (0 + suc n) (head_limit + 1)
one_more n =
    ⊎_elim
    (λ fits. let more : nat_le (0 + suc n) (head_limit + 1) ≡ true = Prim.grind (arith, nat_tests, fits.1) in fits.0 ∙ sym more)
    (λ over. let more : nat_le (0 + suc n) (head_limit + 1) ≡ false = Prim.grind (arith, nat_tests, over.1) in over.0 ∙ sym more)
    (le_cases n head_limit)

as_trailer_by : (rest : List ℕ) (o : Option ℕ) → trailer_size rest ≡ o → behind_last rest ≡ trailer_reads 0 (10 ∷ rest)
as_trailer_by rest (Some n) e =
    let head : head_end (10 ∷ rest) ≡ Some (suc n) = trailer_as_head rest ∙ ap (option_map suc) e in
    trailer_ends rest n e
    ∙ ap (λ b. cond b (whole [] (drop n rest)) (faulty BadChunk)) (one_more n)
    ∙ sym (trailer_some 0 (suc n) (10 ∷ rest) head)
as_trailer_by rest None e = trailer_goes_on rest e ∙ by (trailer_size (rest ++ 10 ∷ 10 ∷ [])) refl
  where
    head : head_end (10 ∷ rest) ≡ None
    head = trailer_as_head rest ∙ ap (option_map suc) e

    by : (o : Option ℕ) → trailer_size (rest ++ 10 ∷ 10 ∷ []) ≡ o → cond (begins_trailer rest) unfinished (faulty BadChunk) ≡ trailer_reads 0 (10 ∷ rest)
    by (Some n) h =
        ap (λ b. cond b unfinished (faulty BadChunk)) (begins_within rest n h ∙ one_more n)
        ∙ sym (trailer_open 0 (suc n) (10 ∷ rest) head (trailer_as_head (rest ++ 10 ∷ 10 ∷ []) ∙ ap (option_map suc) h))
    by None h =
        ap (λ b. cond b unfinished (faulty BadChunk)) (begins_none rest h)
        ∙ sym (trailer_never 0 (10 ∷ rest) head (trailer_as_head (rest ++ 10 ∷ 10 ∷ []) ∙ ap (option_map suc) h))

pub as_trailer : (rest : List ℕ) → behind_last rest ≡ trailer_reads 0 (10 ∷ rest)
as_trailer rest = as_trailer_by rest (trailer_size rest) refl

pub line_last : (line : WrittenLine) (before : ℕ) (rest : List ℕ) → IsLineOf line 0 → before ≤ body_limit → chunks_behind (line_text line ++ rest) 0 before ≡ trailer_reads 0 (10 ∷ rest)
line_last line before rest is within =
    let stream = line_text line ++ rest in
    let l = line_some line in
    let a = length-append (line_text line) rest in
    let following : ℕ → ℕ → Chunked = λ n. chunks_behind (drop 1 stream) (n - 1) in
    let inside : nat_lt body_limit (before + 0) ≡ false = Prim.grind (arith, nat_tests, within) in
    begun stream before (omega arith)
    ∙ at_written line 0 before rest following is
    ∙ ap (λ b. cond b (faulty BodyTooLong) (behind_last rest)) inside
    ∙ as_trailer rest

-- what stands from the line feed of a line on
pub from_feed : (line : WrittenLine) (rest : List ℕ) → drop (length (line_text line) - 1) (line_text line ++ rest) ≡ 10 ∷ rest
from_feed line rest =
    let front = text_of line ++ 13 ∷ [] in
    let cut : line_text line ++ rest ≡ front ++ 10 ∷ rest = append_assoc (text_of line) (13 ∷ 10 ∷ []) rest ∙ sym (append_assoc (text_of line) (13 ∷ []) (10 ∷ rest)) in
    let size : length front ≡ length (line_text line) - 1 = omega (arith, length-append (text_of line) (13 ∷ 10 ∷ []), length-append (text_of line) (13 ∷ [])) in
    ap (drop (length (line_text line) - 1)) cut ∙ drop_at front (10 ∷ rest) (length (line_text line) - 1) size

-- The three ends of a step at a line

abbrev pub LineFound : List ℕ → ℕ → ℕ → Type 0
LineFound octets len size = (line : WrittenLine) × IsLineOf line size × (len ≡ length (line_text line)) × (octets ≡ line_text line ++ drop len octets)

again : (octets more : List ℕ) (len size : ℕ) (found : LineFound octets len size) → octets ++ more ≡ line_text found.0 ++ (drop len octets ++ more)
again octets more len size found = ap (λ l. l ++ more) found.3 ∙ append_assoc (line_text found.0) (drop len octets) more

pub found_within : (octets : List ℕ) (len size : ℕ) → LineFound octets len size → (2 ≤ len) × (len ≤ length octets)
found_within octets len size found =
    let two = line_some found.0 in
    let all = ap length found.3 in
    (omega (arith, two, found.2), omega (arith, all, found.2, length-append (line_text found.0) (drop len octets)))

pub found_over : (octets more body : List ℕ) (len size : ℕ) → LineFound octets len size → body_limit < length body + size → with_front body (chunks_behind (octets ++ more) 0 (length body)) ≡ faulty BodyTooLong
found_over octets more body len size found over =
    ap (λ l. with_front body (chunks_behind l 0 (length body))) (again octets more len size found)
    ∙ ap (with_front body) (chunk_over found.0 size (length body) (drop len octets ++ more) found.1 over)

pub found_sized : (octets more body : List ℕ) (len size : ℕ) → LineFound octets len size → 0 < size → length body + size ≤ body_limit → with_front body (chunks_behind (octets ++ more) 0 (length body)) ≡ with_front body (data_reads size (length body + size) (drop len octets ++ more))
found_sized octets more body len size found some within =
    ap (λ l. with_front body (chunks_behind l 0 (length body))) (again octets more len size found)
    ∙ ap (with_front body) (line_sized found.0 size (length body) (drop len octets ++ more) found.1 some within)

pub found_last : (octets more body : List ℕ) (len size : ℕ) → LineFound octets len size → size ≡ 0 → length body ≤ body_limit → with_front body (chunks_behind (octets ++ more) 0 (length body)) ≡ with_front body (trailer_reads 0 (drop (len - 1) octets ++ more))
found_last octets more body len size found none within =
    let is : IsLineOf found.0 0 = subst (IsLineOf found.0) none found.1 in
    let two = found_within octets len size found in
    let feed : drop (len - 1) octets ++ more ≡ 10 ∷ (drop len octets ++ more) =
    sym (drop-append-le (len - 1) octets more (omega (arith, two.1)))
    ∙ ap (drop (len - 1)) (again octets more len size found)
    ∙ ap (λ k. drop (k - 1) (line_text found.0 ++ (drop len octets ++ more))) found.2
    ∙ from_feed found.0 (drop len octets ++ more) in
    ap (λ l. with_front body (chunks_behind l 0 (length body))) (again octets more len size found)
    ∙ ap (with_front body) (line_last found.0 (length body) (drop len octets ++ more) is within)
    ∙ ap (λ l. with_front body (trailer_reads 0 l)) (sym feed)
