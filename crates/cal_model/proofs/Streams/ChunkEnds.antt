-- A body in chunks that is cut can go on: some octets make it a body, or its chunks too long.
use Rattle.std.proofs.Common.{◌≡◌, ℕ, zero, suc, ◌+◌, ◌-◌, ◌≤◌, ◌<◌, Bool, true, false, cond, not, ◌==◌, ◌&&◌, List, [], ◌∷◌, ◌++◌, length, take, drop, Option, Some, None, refl, sym, ap, subst, ◌∙◌, arith, ◌⊎◌, inl, inr, ⊎_elim, append_assoc, append-nil, length-append}
use Rattle.std.specs.Prelude.{option_map, codes, nat_le, nat_lt, replicate}
use Rattle.std.proofs.lemmas.Bool.{false≢true}
use Rattle.std.proofs.lemmas.Bool.Decides.{nat_tests}
use Rattle.std.proofs.lemmas.List.{take-append-drop, length-drop, length-take-le, length-replicate, drop-drop, take_all, nil_from_length}
use Rattle.cal_base.specs.Texts.Octets.{line_feed, carriage_return}
use Rattle.cal_model.specs.declared.wire.WireFault.{WireFault}
use Rattle.cal_model.specs.declared.wire.WireFault.TheVariants.{BodyTooLong, BadChunk}
use Rattle.cal_model.specs.Streams.WireLimits.{head_limit, body_limit}
use Rattle.cal_model.specs.Streams.Chunks.{Chunked, whole, unfinished, faulty, with_front, line_size, first_line_text, begins_chunk_line, is_broken, begins_trailer, chunk_size, trailer_size, behind_last, behind_data, at_size, at_line, at_chunk, chunks_behind}
use Rattle.cal_model.specs.Streams.WireLimits.{chunk_line_limit}
use Rattle.cal_model.specs.Streams.ChunkGrammar.{WrittenLine, line_text, IsLineOf, WrittenChunk, chunk_text, CutsCanGoOn}
use Rattle.cal_model.proofs.Streams.StreamFronts.{bool_cases, option_cases, none_some}
use Rattle.cal_model.proofs.Streams.ChunkFronts.{le_cases, line_size_later, line_size_here, line_text_later, line_size-append, trailer_ends, trailer_goes_on, begins_within, begins_none, at_chunk_broken, at_chunk_some, at_line_none, at_line_some}
use Rattle.cal_model.proofs.Streams.HeadLaws.{both}
use Rattle.cal_model.proofs.Streams.ChunkLines.{text_of, lines_are_the_grammar}
use Rattle.cal_model.proofs.Streams.ChunkBodies.{begun, skipped, line_some, at_written, chunk_step, last_step}
use Rattle.cal_model.proofs.Streams.ChunkSteps.{begins_is, chunk_over, whole_front}

-- it can go on
GoesOn : List ℕ → ℕ → Type 0
GoesOn octets before =
    (more : List ℕ) × (((body : List ℕ) × (rest : List ℕ) × (chunks_behind (octets ++ more) 0 before ≡ whole body rest)) ⊎ (chunks_behind (octets ++ more) 0 before ≡ faulty BodyTooLong))

not_whole : {A : Type 0} (why : WireFault) → faulty why ≡ unfinished → A
not_whole why e = cc

whole_not : {A : Type 0} (body rest : List ℕ) → whole body rest ≡ unfinished → A
whole_not body rest e = cc

-- the line of the last chunk
last_line : WrittenLine
last_line = record { digits = codes "0"; extension = None }

is_last : IsLineOf last_line 0
unfolding last_line
is_last = record { value = refl; most = omega arith; extension = tt; within = omega arith }

an_end : (before : ℕ) → before ≤ body_limit → chunks_behind (codes "0\r\n\r\n") 0 before ≡ whole [] []
unfolding last_line
an_end before within = last_step last_line (codes "\r\n") [] before is_last refl (omega arith) within

-- behind a line of the grammar
line_goes_on : (line : WrittenLine) (size before : ℕ) (octets more : List ℕ) → IsLineOf line size → before ≤ body_limit → octets ++ more ≡ line_text line → GoesOn octets before
unfolding GoesOn
line_goes_on line size before octets more is within text =
    ⊎_elim
    (λ fits. ⊎_elim
    (λ none.
    let z : size ≡ 0 = Prim.grind (arith, nat_tests) in (
      more ++ codes "\r\n",
      inl (
        [],
        [],
        ap (λ l. chunks_behind l 0 before) (sym (append_assoc octets more (codes "\r\n")) ∙ ap (λ l. l ++ codes "\r\n") text)
            ∙ last_step line (codes "\r\n") [] before (subst (IsLineOf line) z is) refl (omega arith) within,
      ),
    ))
    (λ some.
    let chunk : WrittenChunk = record { line = line; octets = replicate size 0 } in
    let long = length-replicate size 0 in
    let positive : 0 < size = Prim.grind (arith, nat_tests) in
    let bound = fits.1 in
    let tail = (replicate size 0 ++ 13 ∷ 10 ∷ []) ++ codes "0\r\n\r\n" in (
      more ++ tail,
      inl (
        replicate size 0 ++ [],
        [],
        ap (λ l. chunks_behind l 0 before) (sym (append_assoc octets more tail) ∙ ap (λ l. l ++ tail) text ∙ sym (append_assoc (line_text line) (replicate size 0 ++ 13 ∷ 10 ∷ []) (codes "0\r\n\r\n")))
            ∙ chunk_step chunk before (codes "0\r\n\r\n") (subst (IsLineOf line) (sym long) is) (omega arith) (omega arith)
            ∙ ap (with_front (replicate size 0)) (an_end (before + length (replicate size 0)) (omega arith)),
      ),
    ))
    (bool_cases (size == 0)))
    (λ over.
    (more, inr (ap (λ l. chunks_behind l 0 before) (text ∙ sym (append-nil (line_text line))) ∙ chunk_over line size before [] is (over.1))))
    (le_cases (before + size) body_limit)

-- a text without a line feed is the text of its line
some_mapped : (o : Option ℕ) → option_map suc o ≡ None → o ≡ None
some_mapped None e = refl
some_mapped (Some n) e = none_some (suc n) (sym e)

pub no_feed : (octets : List ℕ) → line_size octets ≡ None → first_line_text octets ≡ octets
unfolding first_line_text
no_feed [] e = refl
no_feed (c ∷ octets) e =
    ⊎_elim
    (λ here. none_some 1 (sym e ∙ line_size_here c octets here))
    (λ later. line_text_later c octets later ∙ ap (λ l. c ∷ l) (no_feed octets (some_mapped (line_size octets) (sym (line_size_later c octets later) ∙ e))))
    (bool_cases (c == line_feed))

-- a front of a text without a line feed has none
no_feed_front : (octets more : List ℕ) → line_size (octets ++ more) ≡ None → line_size octets ≡ None
no_feed_front octets more e = ⊎_elim (λ none. none) (λ found. none_some found.0 (sym e ∙ (line_size-append octets more found.0 found.1).0)) (option_cases (line_size octets))

-- but a line has one
pub line_feeds : (text : List ℕ) → (n : ℕ) × (line_size (text ++ 10 ∷ []) ≡ Some n)
line_feeds [] = (1, line_size_here 10 [] refl)
line_feeds (c ∷ text) =
    ⊎_elim
    (λ here. (1, line_size_here c (text ++ 10 ∷ []) here))
    (λ later. let more = line_feeds text in (suc more.0, line_size_later c (text ++ 10 ∷ []) later ∙ ap (option_map suc) more.1))
    (bool_cases (c == line_feed))

-- the start of a line that is not broken begins one
sound_begins : (text : List ℕ) → is_broken text ≡ false → begins_chunk_line (take chunk_line_limit text) ≡ true
unfolding is_broken
sound_begins text e = by (begins_chunk_line (take chunk_line_limit text)) refl
  where
    test : List ℕ → Bool
    test f = not (begins_chunk_line f)

    by : (b : Bool) → begins_chunk_line (take chunk_line_limit text) ≡ b → b ≡ true
    by true h = refl
    by false h = absurd (false≢true (sym e ∙ whole_front test [] (take chunk_line_limit text) (ap not h)))

-- a line that is cut
partial_goes_on : (octets : List ℕ) (before : ℕ) → before ≤ body_limit → is_broken (first_line_text octets) ≡ false → line_size octets ≡ None → GoesOn octets before
partial_goes_on octets before within sound none =
    let begins = begins_is (take chunk_line_limit octets) (sound_begins octets (ap is_broken (sym (no_feed octets none)) ∙ sound)) in
    let short = begins.3.within in
    let whole_length = ap length begins.4 in
    let parts = length-append (take chunk_line_limit octets) begins.2 in
    ⊎_elim
    (λ few.
    let same = take_all chunk_line_limit octets few.1 in
    line_goes_on begins.0 begins.1 before octets begins.2 begins.3 within (ap (λ l. l ++ begins.2) (sym same) ∙ begins.4))
    (λ many.
    let bound = many.1 in
    let taken = length-take-le chunk_line_limit octets (omega arith) in
    let nothing : begins.2 ≡ [] = nil_from_length begins.2 (omega arith) in
    let front : take chunk_line_limit octets ≡ (text_of begins.0 ++ 13 ∷ []) ++ 10 ∷ [] =
    sym (append-nil (take chunk_line_limit octets)) ∙ ap (λ l. take chunk_line_limit octets ++ l) (sym nothing) ∙ begins.4 ∙ sym (append_assoc (text_of begins.0) (13 ∷ []) (10 ∷ [])) in
    let feed = line_feeds (text_of begins.0 ++ 13 ∷ []) in
    let open_line = no_feed_front (take chunk_line_limit octets) (drop chunk_line_limit octets) (ap line_size (take-append-drop chunk_line_limit octets) ∙ none) in
    none_some feed.0 (sym open_line ∙ ap line_size front ∙ feed.1))
    (le_cases (length octets) chunk_line_limit)

-- a trailer that is cut
trailer_goes : (line : WrittenLine) (octets behind : List ℕ) (before : ℕ) → IsLineOf line 0 → before ≤ body_limit → line_text line ++ behind ≡ octets → behind_last behind ≡ unfinished → GoesOn octets before
unfolding GoesOn
trailer_goes line octets behind before is within text e =
    ⊎_elim
    (λ none. by_begin (begins_trailer behind) refl (sym (trailer_goes_on behind none) ∙ e))
    (λ found. by_size found.0 (nat_le found.0 head_limit) (sym (trailer_ends behind found.0 found.1) ∙ e))
    (option_cases (trailer_size behind))
  where
    by_size : (m : ℕ) (b : Bool) → cond b (whole [] (drop m behind)) (faulty BadChunk) ≡ unfinished → GoesOn octets before
    by_size m true k = whole_not [] (drop m behind) k
    by_size m false k = not_whole BadChunk k

    by_end : (o : Option ℕ) → trailer_size (behind ++ 10 ∷ 10 ∷ []) ≡ o → begins_trailer behind ≡ true → GoesOn octets before
    by_end None h k = absurd (false≢true (sym (begins_none behind h) ∙ k))
    by_end (Some m) h k =
        let fits : nat_le m head_limit ≡ true = sym (begins_within behind m h) ∙ k in
        let stream = octets ++ 10 ∷ 10 ∷ [] in
        let split : stream ≡ line_text line ++ (behind ++ 10 ∷ 10 ∷ []) = ap (λ l. l ++ 10 ∷ 10 ∷ []) (sym text) ∙ append_assoc (line_text line) behind (10 ∷ 10 ∷ []) in
        let following : ℕ → ℕ → Chunked = λ n. chunks_behind (drop 1 stream) (n - 1) in
        let a = ap length split ∙ length-append (line_text line) (behind ++ 10 ∷ 10 ∷ []) in
        let l = line_some line in
        let inside : nat_lt body_limit (before + 0) ≡ false = Prim.grind (arith, nat_tests) in (
          10 ∷ 10 ∷ [],
          inl (
            [],
            drop m (behind ++ 10 ∷ 10 ∷ []),
            begun stream before (omega arith)
                ∙ ap (λ x. at_chunk before x following) split
                ∙ at_written line 0 before (behind ++ 10 ∷ 10 ∷ []) following is
                ∙ ap (λ b. cond b (faulty BodyTooLong) (behind_last (behind ++ 10 ∷ 10 ∷ []))) inside
                ∙ trailer_ends (behind ++ 10 ∷ 10 ∷ []) m h
                ∙ ap (λ b. cond b (whole [] (drop m (behind ++ 10 ∷ 10 ∷ []))) (faulty BadChunk)) fits,
          ),
        )

    by_begin : (b : Bool) → begins_trailer behind ≡ b → cond b unfinished (faulty BadChunk) ≡ unfinished → GoesOn octets before
    by_begin true h k = by_end (trailer_size (behind ++ 10 ∷ 10 ∷ [])) refl h
    by_begin false h k = not_whole BadChunk k

-- a whole chunk in front of what goes on
chunk_goes : (chunk : WrittenChunk) (octets behind : List ℕ) (before : ℕ) → IsLineOf chunk.line (length chunk.octets) → 0 < length chunk.octets → before + length chunk.octets ≤ body_limit → chunk_text chunk ++ behind ≡ octets → GoesOn behind (before + length chunk.octets) → GoesOn octets before
unfolding GoesOn
chunk_goes chunk octets behind before is some within text goes =
    let start : chunks_behind (octets ++ goes.0) 0 before ≡ with_front chunk.octets (chunks_behind (behind ++ goes.0) 0 (before + length chunk.octets)) =
    ap (λ l. chunks_behind l 0 before) (ap (λ l. l ++ goes.0) (sym text) ∙ append_assoc (chunk_text chunk) behind goes.0)
    ∙ chunk_step chunk before (behind ++ goes.0) is some within in (
      goes.0,
      ⊎_elim
          (λ body. inl (chunk.octets ++ body.0, body.1, start ∙ ap (with_front chunk.octets) body.2))
          (λ long. inr (start ∙ ap (with_front chunk.octets) long))
          goes.1,
    )

-- the octets of a chunk that are cut, or its CRLF
data_goes : (line : WrittenLine) (size before : ℕ) (octets behind ending : List ℕ) (filled : List ℕ) → IsLineOf line size → 0 < size → before + size ≤ body_limit → line_text line ++ behind ≡ octets → length filled ≡ size → behind ++ ending ≡ filled ++ 13 ∷ 10 ∷ [] → GoesOn octets before
unfolding GoesOn
data_goes line size before octets behind ending filled is some within text long ends =
    let chunk : WrittenChunk = record { line = line; octets = filled } in (
      ending ++ codes "0\r\n\r\n",
      inl (
        filled ++ [],
        [],
        ap (λ l. chunks_behind l 0 before)
            (ap (λ l. l ++ (ending ++ codes "0\r\n\r\n")) (sym text) ∙ append_assoc (line_text line) behind (ending ++ codes "0\r\n\r\n")
            ∙ ap (λ l. line_text line ++ l) (sym (append_assoc behind ending (codes "0\r\n\r\n")) ∙ ap (λ l. l ++ codes "0\r\n\r\n") ends)
            ∙ sym (append_assoc (line_text line) (filled ++ 13 ∷ 10 ∷ []) (codes "0\r\n\r\n")))
            ∙ chunk_step chunk before (codes "0\r\n\r\n") (subst (IsLineOf line) (sym long) is) (omega arith) (omega arith)
            ∙ ap (with_front filled) (an_end (before + length filled) (omega arith)),
      ),
    )

front_open : (front : List ℕ) (c : Chunked) → with_front front c ≡ unfinished → c ≡ unfinished
front_open front (whole body rest) e = whole_not (front ++ body) rest e
front_open front unfinished e = refl
front_open front (faulty why) e = not_whole why e

-- what stands behind a chunk's octets where that is cut
pub data Behind (behind : List ℕ) (c : Chunked) : Type 0 where
  nothing : behind ≡ [] → Behind behind c
  return : behind ≡ 13 ∷ [] → Behind behind c
  more_chunks : (more : List ℕ) → behind ≡ 13 ∷ 10 ∷ more → c ≡ unfinished → Behind behind c

behind_is : (behind : List ℕ) (c : Chunked) → behind_data behind c ≡ unfinished → Behind behind c
behind_is [] c e = nothing refl
behind_is (x ∷ []) c e = by (x == carriage_return) refl e
  where
    by : (b : Bool) → (x == carriage_return) ≡ b → cond b unfinished (faulty BadChunk) ≡ unfinished → Behind (x ∷ []) c
    by true h k = let n : x ≡ 13 = Prim.grind (arith, nat_tests) in return (ap (λ y. y ∷ []) n)
    by false h k = not_whole BadChunk k
behind_is (x ∷ y ∷ more) c e = by ((x == carriage_return) && (y == line_feed)) refl e
  where
    number : (a n : ℕ) → (a == n) ≡ true → a ≡ n
    number a n h = Prim.grind (arith, nat_tests)

    by : (b : Bool) → ((x == carriage_return) && (y == line_feed)) ≡ b → cond b c (faulty BadChunk) ≡ unfinished → Behind (x ∷ y ∷ more) c
    by false h k = not_whole BadChunk k
    by true h k =
        let each = both (x == carriage_return) (y == line_feed) h in
        more_chunks more (ap (λ a. a ∷ y ∷ more) (number x 13 each.0) ∙ ap (λ a. 13 ∷ a ∷ more) (number y 10 each.1)) k

-- behind a line that states a size
sized_goes : (fuel : ℕ) (octets : List ℕ) (n size before : ℕ) (line : WrittenLine) → IsLineOf line size → line_text line ≡ take n octets → n ≤ length octets → length octets < suc fuel → before ≤ body_limit
    → ((o : List ℕ) (b : ℕ) → length o < fuel → b ≤ body_limit → chunks_behind o 0 b ≡ unfinished → GoesOn o b)
    → at_size before size (drop n octets) (λ k. chunks_behind (drop 1 octets) (n + size + 2 - 1) k) ≡ unfinished → GoesOn octets before
sized_goes fuel octets n size before line is text within short low ih e =
    let split : line_text line ++ drop n octets ≡ octets = ap (λ x. x ++ drop n octets) text ∙ take-append-drop n octets in
    ⊎_elim
    (λ over. not_whole BodyTooLong (rw over at e))
    (λ inside.
    let inner = rw inside at e in
    let limit : before + size ≤ body_limit = Prim.grind (arith, nat_tests) in
    ⊎_elim
    (λ none.
    let z : size ≡ 0 = Prim.grind (arith, nat_tests) in
    trailer_goes line octets (drop n octets) before (subst (IsLineOf line) z is) low split (rw none at inner))
    (λ some.
    let positive : 0 < size = Prim.grind (arith, nat_tests) in
    by_behind split limit positive (behind_is (drop size (drop n octets)) (with_front (take size (drop n octets)) (chunks_behind (drop 1 octets) (n + size + 2 - 1) (before + size))) (rw some at inner)))
    (bool_cases (size == 0)))
    (bool_cases (nat_lt body_limit (before + size)))
  where
    data_ : List ℕ
    data_ = drop n octets

    by_behind : line_text line ++ data_ ≡ octets → before + size ≤ body_limit → 0 < size → Behind (drop size data_) (with_front (take size data_) (chunks_behind (drop 1 octets) (n + size + 2 - 1) (before + size))) → GoesOn octets before
    by_behind split limit positive (nothing h) =
        let d = length-drop size data_ in
        let z = ap length h in
        let fill : List ℕ = replicate (size - length data_) 0 in
        let r : length fill ≡ size - length data_ = length-replicate (size - length data_) 0 in
        let a : length (data_ ++ fill) ≡ length data_ + length fill = length-append data_ fill in
        data_goes line size before octets data_ (fill ++ 13 ∷ 10 ∷ []) (data_ ++ fill) is positive limit split (omega (arith, r, a, z, d)) (sym (append_assoc data_ fill (13 ∷ 10 ∷ [])))
    by_behind split limit positive (return h) =
        let d = length-drop size data_ in
        let z = ap length h in
        let t = length-take-le size data_ (omega arith) in
        data_goes line size before octets data_ (10 ∷ []) (take size data_) is positive limit split (omega arith)
        (ap (λ l. l ++ 10 ∷ []) (sym (take-append-drop size data_) ∙ ap (λ l. take size data_ ++ l) h) ∙ append_assoc (take size data_) (13 ∷ []) (10 ∷ []))
    by_behind split limit positive (more_chunks more h c) =
        let d = length-drop size data_ in
        let m = length-drop n octets in
        let z = ap length h in
        let t = length-take-le size data_ (omega arith) in
        let chunk : WrittenChunk = record { line = line; octets = take size data_ } in
        let l = ap length text in
        let ln = length-take-le n octets within in
        let two = line_some line in
        let behind : drop (n + size + 2) octets ≡ more = sym (drop-drop 2 (n + size) octets) ∙ ap (drop 2) (sym (drop-drop size n octets) ∙ h) in
        let later : chunks_behind more 0 (before + size) ≡ unfinished =
        ap (λ x. chunks_behind x 0 (before + size)) (sym behind) ∙ sym (skipped octets (n + size + 2) (before + size) (omega arith)) ∙ front_open (take size data_) (chunks_behind (drop 1 octets) (n + size + 2 - 1) (before + size)) c in
        let whole_text : chunk_text chunk ++ more ≡ octets =
        append_assoc (line_text line) (take size data_ ++ 13 ∷ 10 ∷ []) more
        ∙ ap (λ x. line_text line ++ x) (append_assoc (take size data_) (13 ∷ 10 ∷ []) more ∙ ap (λ x. take size data_ ++ x) (sym h) ∙ take-append-drop size data_) ∙ split in
        chunk_goes chunk octets more before (subst (IsLineOf line) (sym t) is) (omega arith) (omega arith) whole_text
        (subst (λ k. GoesOn more (before + k)) (sym t) (ih more (before + size) (omega arith) (omega arith) later))

goes_on : (fuel : ℕ) (octets : List ℕ) (before : ℕ) → length octets < fuel → before ≤ body_limit → chunks_behind octets 0 before ≡ unfinished → GoesOn octets before
unfolding GoesOn
goes_on zero octets before short low e = absurd (omega arith)
goes_on (suc fuel) [] before short low e = (codes "0\r\n\r\n", inl ([], [], an_end before low))
goes_on (suc fuel) (o ∷ os) before short low e =
    let octets = o ∷ os in
    let following : ℕ → ℕ → Chunked = λ n. chunks_behind (drop 1 octets) (n - 1) in
    let start : at_chunk before octets following ≡ unfinished = sym (begun octets before (omega arith)) ∙ e in
    ⊎_elim
    (λ broken. not_whole BadChunk (sym (at_chunk_broken before octets following broken) ∙ start))
    (λ sound. ⊎_elim
    (λ none. partial_goes_on octets before low sound none)
    (λ line.
    let at : at_line before line.0 octets following ≡ unfinished = sym (at_chunk_some before line.0 octets following sound line.1) ∙ start in
    ⊎_elim
    (λ none. not_whole BadChunk (sym (at_line_none before line.0 octets following none) ∙ at))
    (λ size.
    let written = (lines_are_the_grammar (take line.0 octets) size.0).0 size.1 in
    sized_goes fuel octets line.0 size.0 before written.0 written.1 written.2 ((line_size-append octets [] line.0 line.1).2) short low (λ o' b' s' l' e'. goes_on fuel o' b' s' l' e')
    (sym (at_line_some before line.0 size.0 octets following size.1) ∙ at))
    (option_cases (chunk_size (take line.0 octets))))
    (option_cases (line_size octets)))
    (bool_cases (is_broken (first_line_text octets)))

pub cuts_can_go_on : CutsCanGoOn
unfolding GoesOn
cuts_can_go_on octets e = goes_on (suc (length octets)) octets 0 (omega arith) (omega arith) e
