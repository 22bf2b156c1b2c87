-- A body in chunks of the grammar is read, whatever follows.
use Rattle.std.proofs.Common.{◌≡◌, ℕ, zero, suc, ◌+◌, ◌-◌, ◌≤◌, ◌<◌, true, false, cond, ◌==◌, List, [], ◌∷◌, ◌++◌, length, take, drop, Option, Some, None, refl, sym, ap, ◌∙◌, arith, append_assoc, length-append}
use Rattle.std.specs.Prelude.{option_map, nat_le, nat_lt}
use Rattle.std.proofs.lemmas.Bool.Decides.{nat_tests}
use Rattle.std.proofs.lemmas.List.{take_at, drop_at, drop-drop}
use Rattle.std.proofs.lemmas.List.Sums.{list_all-from_AllPass}
use Rattle.httparse.specs.Grammar.{is_extension_byte, print_extension, IsExtension}
use Rattle.cal_model.specs.declared.wire.WireFault.TheVariants.{BodyTooLong, BadChunk}
use Rattle.cal_model.specs.Streams.WireLimits.{head_limit, body_limit}
use Rattle.cal_model.specs.Streams.Chunks.{Chunked, whole, unfinished, faulty, with_front, line_size, first_line_text, is_broken, chunk_size, trailer_size, behind_last, behind_data, at_size, at_chunk, chunks_behind}
use Rattle.cal_model.specs.Streams.ChunkGrammar.{WrittenLine, line_text, IsLineOf, WrittenChunk, chunk_text, AreChunks, chunks_text, chunks_octets, BodiesAreRead}
use Rattle.cal_model.proofs.Streams.ChunkFronts.{line_size_here, line_size_later, line_text_here, line_text_later, trailer_size-append, trailer_ends, at_chunk_some, at_line_some}
use Rattle.cal_model.proofs.Streams.HeadLaws.{Free, free-append, free_passing, other}
use Rattle.cal_model.proofs.Streams.ChunkLines.{digits_there, digits_apart, text_of, chunk_size_of, not_broken}

-- behind so many octets there is what stands behind them
pub skips : (octets : List ℕ) (n before : ℕ) → chunks_behind octets n before ≡ chunks_behind (drop n octets) 0 before
unfolding chunks_behind
skips [] zero before = refl
skips [] (suc n) before = refl
skips (b ∷ octets) zero before = refl
skips (b ∷ octets) (suc n) before = skips octets n before

-- the first line
line_of : (text rest : List ℕ) → Free 10 text → (line_size (text ++ 10 ∷ rest) ≡ Some (length text + 1)) × (first_line_text (text ++ 10 ∷ rest) ≡ text)
unfolding Free
line_of [] rest free = (line_size_here 10 rest refl, line_text_here 10 rest refl)
line_of (c ∷ text) rest free =
    let more = line_of text rest free.1 in (
      line_size_later c (text ++ 10 ∷ rest) free.0 ∙ ap (option_map suc) more.0 ∙ ap Some (omega arith),
      line_text_later c (text ++ 10 ∷ rest) free.0 ∙ ap (λ l. c ∷ l) more.1,
    )

free_cons : (s c : ℕ) (text : List ℕ) → (c == s) ≡ false → Free s text → Free s (c ∷ text)
unfolding Free
free_cons s c text h k = (h, k)

free_nil : (s : ℕ) → Free s []
unfolding Free
free_nil s = tt

extension_apart : (c : ℕ) → is_extension_byte c ≡ true → (c == 10) ≡ false
extension_apart c h = other c 10 (λ e. let x : is_extension_byte 10 ≡ true = ap is_extension_byte (sym e) ∙ h in cc)

free_line : (line : WrittenLine) (size : ℕ) → IsLineOf line size → Free 10 (text_of line ++ 13 ∷ [])
free_line line size is =
    let there = digits_there line.digits size is.value in
    free-append 10 (text_of line) (13 ∷ []) (free-append 10 line.digits (print_extension line.extension) (digits_apart 10 refl line.digits there.0 there.1) (by line.extension is.extension)) (free_cons 10 13 [] refl (free_nil 10))
  where
    by : (x : Option (List ℕ)) → IsExtension x → Free 10 (print_extension x)
    by None h = free_nil 10
    by (Some x) h = free_cons 10 59 x refl (free_passing is_extension_byte 10 extension_apart x (list_all-from_AllPass is_extension_byte x h))

-- some octets that are a line of the grammar and then a rest, read as a chunk
pub at_written : (line : WrittenLine) (size before : ℕ) (rest : List ℕ) (following : ℕ → ℕ → Chunked) → IsLineOf line size → at_chunk before (line_text line ++ rest) following ≡ at_size before size rest (following (length (line_text line) + size + 2))
at_written line size before rest following is =
    let text = text_of line ++ 13 ∷ [] in
    let cut : line_text line ++ rest ≡ text ++ 10 ∷ rest = append_assoc (text_of line) (13 ∷ 10 ∷ []) rest ∙ sym (append_assoc (text_of line) (13 ∷ []) (10 ∷ rest)) in
    let free = free_line line size is in
    let first = line_of text rest free in
    let a = length-append (text_of line) (13 ∷ 10 ∷ []) in
    let b = length-append (text_of line) (13 ∷ []) in
    let n : length text + 1 ≡ length (line_text line) = omega arith in
    let size_is : line_size (line_text line ++ rest) ≡ Some (length (line_text line)) = ap line_size cut ∙ first.0 ∙ ap Some n in
    let sound : is_broken (first_line_text (line_text line ++ rest)) ≡ false = ap (λ l. is_broken (first_line_text l)) cut ∙ ap is_broken first.1 ∙ not_broken line size is in
    let this : chunk_size (take (length (line_text line)) (line_text line ++ rest)) ≡ Some size = ap chunk_size (take_at (line_text line) rest (length (line_text line)) refl) ∙ chunk_size_of line size is in
    at_chunk_some before (length (line_text line)) (line_text line ++ rest) following sound size_is
    ∙ at_line_some before (length (line_text line)) size (line_text line ++ rest) following this
    ∙ ap (λ l. at_size before size l (following (length (line_text line) + size + 2))) (drop_at (line_text line) rest (length (line_text line)) refl)

-- a chunk, and the chunks behind it
sized_chunk : (before : ℕ) (data_ rest : List ℕ) (following : ℕ → Chunked) → 0 < length data_ → before + length data_ ≤ body_limit → at_size before (length data_) (data_ ++ 13 ∷ 10 ∷ rest) following ≡ with_front data_ (following (before + length data_))
sized_chunk before data_ rest following some within =
    let inside : nat_lt body_limit (before + length data_) ≡ false = Prim.grind (arith, nat_tests) in
    let more : (length data_ == 0) ≡ false = Prim.grind (arith, nat_tests) in
    rw inside (rw more
    (ap (λ l. behind_data l (with_front (take (length data_) (data_ ++ 13 ∷ 10 ∷ rest)) (following (before + length data_)))) (drop_at data_ (13 ∷ 10 ∷ rest) (length data_) refl)
    ∙ ap (λ l. with_front l (following (before + length data_))) (take_at data_ (13 ∷ 10 ∷ rest) (length data_) refl)))

-- the first octet of a list that has some
pub begun : (octets : List ℕ) (before : ℕ) → 0 < length octets → chunks_behind octets 0 before ≡ at_chunk before octets (λ n. chunks_behind (drop 1 octets) (n - 1))
unfolding chunks_behind
begun [] before some = absurd (omega arith)
begun (b ∷ octets) before some = refl

pub line_some : (line : WrittenLine) → 2 ≤ length (line_text line)
line_some line = let a = length-append (text_of line) (13 ∷ 10 ∷ []) in omega arith

pub skipped : (octets : List ℕ) (n before : ℕ) → 1 ≤ n → chunks_behind (drop 1 octets) (n - 1) before ≡ chunks_behind (drop n octets) 0 before
skipped octets n before some =
    let m : 1 + (n - 1) ≡ n = omega arith in
    skips (drop 1 octets) (n - 1) before ∙ ap (λ l. chunks_behind l 0 before) (drop-drop (n - 1) 1 octets ∙ ap (λ k. drop k octets) m)

pub chunk_step : (chunk : WrittenChunk) (before : ℕ) (rest : List ℕ) → IsLineOf chunk.line (length chunk.octets) → 0 < length chunk.octets → before + length chunk.octets ≤ body_limit → chunks_behind (chunk_text chunk ++ rest) 0 before ≡ with_front chunk.octets (chunks_behind rest 0 (before + length chunk.octets))
chunk_step chunk before rest is some within =
    let line = line_text chunk.line in
    let octets = chunk.octets in
    let stream = chunk_text chunk ++ rest in
    let split : stream ≡ line ++ (octets ++ 13 ∷ 10 ∷ rest) = append_assoc line (octets ++ 13 ∷ 10 ∷ []) rest ∙ ap (λ l. line ++ l) (append_assoc octets (13 ∷ 10 ∷ []) rest) in
    let l = line_some chunk.line in
    let a = ap length split ∙ length-append line (octets ++ 13 ∷ 10 ∷ rest) in
    let following : ℕ → ℕ → Chunked = λ n. chunks_behind (drop 1 stream) (n - 1) in
    let b = length-append line (octets ++ 13 ∷ 10 ∷ []) in
    let c = length-append octets (13 ∷ 10 ∷ []) in
    let n : length (chunk_text chunk) ≡ length line + length octets + 2 = omega arith in
    begun stream before (omega arith)
    ∙ ap (λ x. at_chunk before x following) split
    ∙ at_written chunk.line (length octets) before (octets ++ 13 ∷ 10 ∷ rest) following is
    ∙ sized_chunk before octets rest (following (length line + length octets + 2)) some within
    ∙ ap (with_front octets) (skipped stream (length line + length octets + 2) (before + length octets) (omega arith)
    ∙ ap (λ x. chunks_behind x 0 (before + length octets)) (drop_at (chunk_text chunk) rest (length line + length octets + 2) n))

-- the last chunk
pub last_step : (line : WrittenLine) (trailer rest : List ℕ) (before : ℕ) → IsLineOf line 0 → trailer_size trailer ≡ Some (length trailer) → length trailer ≤ head_limit → before ≤ body_limit → chunks_behind (line_text line ++ (trailer ++ rest)) 0 before ≡ whole [] rest
last_step line trailer rest before is ends short within =
    let stream = line_text line ++ (trailer ++ rest) in
    let l = line_some line in
    let a = length-append (line_text line) (trailer ++ rest) in
    let following : ℕ → ℕ → Chunked = λ n. chunks_behind (drop 1 stream) (n - 1) in
    let inside : nat_lt body_limit (before + 0) ≡ false = Prim.grind (arith, nat_tests) in
    let fits : nat_le (length trailer) head_limit ≡ true = Prim.grind (arith, nat_tests) in
    begun stream before (omega arith)
    ∙ at_written line 0 before (trailer ++ rest) following is
    ∙ ap (λ b. cond b (faulty BodyTooLong) (behind_last (trailer ++ rest))) inside
    ∙ trailer_ends (trailer ++ rest) (length trailer) (trailer_size-append trailer rest (length trailer) ends)
    ∙ ap (λ b. cond b (whole [] (drop (length trailer) (trailer ++ rest))) (faulty BadChunk)) fits
    ∙ ap (whole []) (drop_at trailer rest (length trailer) refl)

chunks_read : (chunks : List WrittenChunk) (line : WrittenLine) (trailer rest : List ℕ) (before : ℕ) → AreChunks before chunks → IsLineOf line 0 → trailer_size trailer ≡ Some (length trailer) → length trailer ≤ head_limit → before ≤ body_limit
    → chunks_behind (chunks_text chunks (line_text line ++ (trailer ++ rest))) 0 before ≡ whole (chunks_octets chunks) rest
chunks_read [] line trailer rest before are is ends short within = last_step line trailer rest before is ends short within
chunks_read (chunk ∷ chunks) line trailer rest before are is ends short within =
    chunk_step chunk before (chunks_text chunks (line_text line ++ (trailer ++ rest))) are.0 are.1 are.2
    ∙ ap (with_front chunk.octets) (chunks_read chunks line trailer rest (before + length chunk.octets) are.3 is ends short are.2)

pub bodies_are_read : BodiesAreRead
bodies_are_read body rest is = chunks_read body.chunks body.last body.trailer rest 0 is.chunks is.last is.trailer is.short (omega arith)

pub nothing_there : (before : ℕ) → chunks_behind [] 0 before ≡ unfinished
unfolding chunks_behind
nothing_there before = refl
