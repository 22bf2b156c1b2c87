-- What a body that is fed pieces needs: where a search goes on, and what each state of a chunk says.
use Rattle.std.proofs.Common.{◌≡◌, ℕ, zero, suc, ◌+◌, ◌-◌, ◌≤◌, ◌<◌, Bool, true, false, not, List, [], ◌∷◌, ◌++◌, length, take, drop, Option, Some, None, refl, sym, ap, ◌∙◌, arith, ⊎_elim, append_assoc, append-nil, length-append}
use Rattle.std.specs.Prelude.{option_map, codes, nat_lt, is_some}
use Rattle.std.proofs.lemmas.Bool.{false≢true}
use Rattle.std.proofs.lemmas.Bool.Decides.{nat_tests}
use Rattle.std.proofs.lemmas.List.{take_all}
use Rattle.cal_model.specs.declared.wire.WireFault.TheVariants.{BodyTooLong}
use Rattle.cal_model.specs.Streams.WireLimits.{body_limit}
use Rattle.cal_model.specs.Streams.Heads.{ends_here, head_end}
use Rattle.cal_model.specs.Streams.Chunks.{Chunked, faulty, has_front, begins_chunk_line, is_broken, chunk_size, chunks_behind}
use Rattle.cal_model.specs.Streams.WireLimits.{chunk_line_limit}
use Rattle.cal_model.specs.Streams.ChunkGrammar.{WrittenLine, line_text, IsLineOf}
use Rattle.cal_model.proofs.Streams.StreamFronts.{option_cases, none_some, head_end_later, head_end_found}
use Rattle.cal_model.proofs.Streams.ChunkFronts.{or_true, right_or, has_front-append, take-longer}
use Rattle.cal_model.proofs.Streams.ChunkLines.{text_of, not_broken, lines_are_the_grammar}
use Rattle.cal_model.proofs.Streams.ChunkBodies.{begun, at_written, line_some}

-- The end of a head: where none is in some octets, the search goes on two octets before their end

mapped_twice : (k : ℕ) (o : Option ℕ) → option_map suc (option_map (λ n. k + n) o) ≡ option_map (λ n. suc k + n) o
mapped_twice k None = refl
mapped_twice k (Some n) = ap Some (omega arith)

mapped_none : (o : Option ℕ) → o ≡ option_map (λ n. 0 + n) o
mapped_none None = refl
mapped_none (Some n) = ap Some (omega arith)

none_below : (o : Option ℕ) → option_map suc o ≡ None → o ≡ None
none_below None e = refl
none_below (Some n) e = none_some (suc n) (sym e)

pub head_end-resume : (k : ℕ) (xs ys : List ℕ) → k + 2 ≤ length xs → head_end xs ≡ None → head_end (xs ++ ys) ≡ option_map (λ n. k + n) (head_end (drop k xs ++ ys))
head_end-resume zero xs ys long none = mapped_none (head_end (xs ++ ys))
head_end-resume (suc k) [] ys long none = absurd (omega arith)
head_end-resume (suc k) (b ∷ []) ys long none = absurd (omega arith)
head_end-resume (suc k) (b ∷ c ∷ []) ys long none = absurd (omega arith)
head_end-resume (suc k) (b ∷ c ∷ d ∷ xs) ys long none =
    ⊎_elim
    (λ later.
    let more : head_end (c ∷ d ∷ xs) ≡ None = none_below (head_end (c ∷ d ∷ xs)) (sym (head_end_later b (c ∷ d ∷ xs) later) ∙ none) in
    head_end_later b (c ∷ d ∷ xs ++ ys) later ∙ ap (option_map suc) (head_end-resume k (c ∷ d ∷ xs) ys (omega arith) more) ∙ mapped_twice k (head_end (drop k (c ∷ d ∷ xs) ++ ys)))
    (λ found. none_some found.0 (sym none ∙ head_end_found b (c ∷ d ∷ xs) found.0 found.1))
    (option_cases (ends_here b (c ∷ d ∷ xs)))

-- The line of a chunk, as far as it is there

-- what begins a chunk line is a front of one of the grammar
pub begins_is : (front : List ℕ) → begins_chunk_line front ≡ true → (line : WrittenLine) × (size : ℕ) × (more : List ℕ) × IsLineOf line size × (front ++ more ≡ line_text line)
begins_is front e =
    ⊎_elim (λ one. of_ending (codes "0\r\n") one)
    (λ others. ⊎_elim (λ two. of_ending (codes "\r\n") two)
    (λ last. ⊎_elim (λ three. of_ending (codes "\n") three) (λ none. absurd (false≢true none)) (or_true (is_some (chunk_size (front ++ codes "\n"))) false last))
    (or_true (is_some (chunk_size (front ++ codes "\r\n"))) _ others))
    (or_true (is_some (chunk_size (front ++ codes "0\r\n"))) _ e)
  where
    of_size : (ending : List ℕ) (o : Option ℕ) → ((size : ℕ) → o ≡ Some size → (line : WrittenLine) × IsLineOf line size × (line_text line ≡ front ++ ending)) → is_some o ≡ true → (line : WrittenLine) × (size : ℕ) × (more : List ℕ) × IsLineOf line size × (front ++ more ≡ line_text line)
    of_size ending None h k = absurd (false≢true k)
    of_size ending (Some size) h k = let w = h size refl in (w.0, size, ending, w.1, sym w.2)

    of_ending : (ending : List ℕ) → is_some (chunk_size (front ++ ending)) ≡ true → (line : WrittenLine) × (size : ℕ) × (more : List ℕ) × IsLineOf line size × (front ++ more ≡ line_text line)
    of_ending ending k = of_size ending (chunk_size (front ++ ending)) (λ size h. (lines_are_the_grammar (front ++ ending) size).0 h) k

-- a front of a line of the grammar is not broken
pub front_not_broken : (line : WrittenLine) (size : ℕ) (front more : List ℕ) → IsLineOf line size → front ++ more ≡ text_of line ++ 13 ∷ [] → is_broken front ≡ false
unfolding is_broken
front_not_broken line size front more is e = by (is_broken front) refl
  where
    test : List ℕ → Bool
    test f = not (begins_chunk_line f)

    by : (b : Bool) → has_front test [] (take chunk_line_limit front) ≡ b → b ≡ false
    by false h = refl
    by true h =
        let longer = take-longer chunk_line_limit front more in
        let still : has_front test [] (take chunk_line_limit (front ++ more)) ≡ true = ap (has_front test []) longer.1 ∙ has_front-append test [] (take chunk_line_limit front) longer.0 h in
        absurd (false≢true (sym (not_broken line size is) ∙ ap (λ l. has_front test [] (take chunk_line_limit l)) (sym e) ∙ still))

pub whole_front : (test : List ℕ → Bool) (done xs : List ℕ) → test (done ++ xs) ≡ true → has_front test done xs ≡ true
whole_front test done [] h = ap test (sym (append-nil done)) ∙ h
whole_front test done (x ∷ xs) h = right_or (test done) _ (whole_front test (done ++ x ∷ []) xs (ap test (append_assoc done (x ∷ []) xs) ∙ h))

-- a front with which no line begins breaks it, whatever follows
pub broken_at : (front more : List ℕ) → length front ≤ chunk_line_limit → begins_chunk_line front ≡ false → is_broken (front ++ more) ≡ true
unfolding is_broken
broken_at front more within fails =
    let longer = take-longer chunk_line_limit front more in
    ap (has_front test []) (longer.1 ∙ ap (λ l. l ++ longer.0) (take_all chunk_line_limit front within))
    ∙ has_front-append test [] front longer.0 (whole_front test [] front (ap not fails))
  where
    test : List ℕ → Bool
    test f = not (begins_chunk_line f)

-- Behind the line of a chunk

-- too many octets in all
pub chunk_over : (line : WrittenLine) (size before : ℕ) (rest : List ℕ) → IsLineOf line size → body_limit < before + size → chunks_behind (line_text line ++ rest) 0 before ≡ faulty BodyTooLong
chunk_over line size before rest is over =
    let stream = line_text line ++ rest in
    let l = line_some line in
    let a = length-append (line_text line) rest in
    let following : ℕ → ℕ → Chunked = λ n. chunks_behind (drop 1 stream) (n - 1) in
    let past : nat_lt body_limit (before + size) ≡ true = Prim.grind (arith, nat_tests) in
    begun stream before (omega arith) ∙ at_written line size before rest following is ∙ rw past refl
