-- What the octets at a chunk line are, by those of them that a line can have.
use Rattle.std.proofs.Common.{◌≡◌, ◌≢◌, ℕ, suc, ◌-◌, ◌≤◌, ◌<◌, Bool, true, false, cond, ◌==◌, ◌&&◌, List, [], ◌∷◌, ◌++◌, length, take, drop, Option, Some, None, refl, sym, ap, ◌∙◌, arith, ⊎_elim, append_assoc, length-append}
use Rattle.std.specs.Prelude.{nat_le, is_some, option_map, option_and_then, MatchOption}
use Rattle.std.specs.List.{list_all}
use Rattle.std.proofs.lemmas.Bool.{false≢true, and_from}
use Rattle.std.proofs.lemmas.Bool.Decides.{nat_tests}
use Rattle.std.specs.Borrow.{Bor}
use Rattle.std.proofs.Math.Seq.{take-append_seam}
use Rattle.std.proofs.lemmas.List.{take_all, take-append-le, take-append-drop, length-take, length-take-le}
use Rattle.std.proofs.lemmas.List.Folds.{list_all-append}
use Rattle.httparse.specs.Grammar.{is_extension_byte}
use Rattle.cal_base.specs.Texts.Octets.{line_feed}
use Rattle.cal_model.specs.declared.wire.WireFault.TheVariants.{BadChunk}
use Rattle.cal_model.specs.Streams.WireLimits.{chunk_line_limit}
use Rattle.cal_model.specs.Streams.Chunks.{Chunked, unfinished, faulty, before_break, before_extension, begins_chunk_line, chunk_size, size_of, text_size, is_broken, line_size, first_line_text, chunks_behind}
use Rattle.cal_model.specs.Streams.ChunkGrammar.{WrittenLine, line_text}
use Rattle.cal_model.proofs.Streams.StreamFronts.{bool_cases, option_cases, none_some}
use Rattle.cal_model.proofs.Streams.ChunkFronts.{line_size-append, line_text_later, line_size_here, line_size_later, at_line_none, at_chunk_broken, at_chunk_none, at_chunk_some}
use Rattle.cal_model.proofs.Streams.ChunkLines.{text_of, break_back, break_is, split_at, text_front, whole_text, line_sized, begins_empty, begins_text, begins_return, lines_are_the_grammar}
use Rattle.cal_model.proofs.Streams.ChunkBodies.{begun, nothing_there}
use Rattle.cal_model.proofs.Streams.ChunkEnds.{no_feed, line_feeds}
use Rattle.cal_model.proofs.Streams.ChunkSteps.{begins_is, front_not_broken, broken_at}
use Rattle.cal_model.proofs.Streams.HeadLaws.{both}
use Rattle.http_wire.specs.BodyParts.{LineReads}
use Rattle.http_wire.specs.Parts.{text_there}
use Rattle.http_wire.specs.declared.chunk_line.ChunkLine.TheVariants.{Whole, Cut, Bad}

take-take : (a b : List ℕ) (n : ℕ) → n ≤ length a → take n (a ++ b) ≡ take n a
take-take a b n within = take-append-le n a b within

-- Where a line ends near

-- a line that ends near is the first one
line_near : (octets : List ℕ) (n : ℕ) → line_size (take chunk_line_limit octets) ≡ Some n → (line_size octets ≡ Some n) × (n ≤ length (take chunk_line_limit octets)) × (take n (take chunk_line_limit octets) ≡ take n octets)
line_near octets n e =
    let cut = take-append-drop chunk_line_limit octets in
    let more = line_size-append (take chunk_line_limit octets) (drop chunk_line_limit octets) n e in
    (sym (ap line_size cut) ∙ more.0, more.2, sym (take-take (take chunk_line_limit octets) (drop chunk_line_limit octets) n more.2) ∙ ap (take n) cut)

pub whole_line : (octets : List ℕ) (n size : ℕ) → line_size (take chunk_line_limit octets) ≡ Some n → chunk_size (take n (take chunk_line_limit octets)) ≡ Some size → LineReads (Whole n size) octets
whole_line octets n size e h =
    let here = line_near octets n e in
    let line = (lines_are_the_grammar (take n octets) size).0 (ap chunk_size (sym here.2) ∙ h) in
    let within = (line_size-append octets [] n here.0).2 in
    (line.0, line.1, sym (length-take-le n octets within) ∙ ap length (sym line.2), sym (take-append-drop n octets) ∙ ap (λ l. l ++ drop n octets) (sym line.2))

-- what stands at a chunk, where a line that is none ends
no_line : (o : List ℕ) (before n : ℕ) → line_size o ≡ Some n → chunk_size (take n o) ≡ None → 0 < length o → chunks_behind o 0 before ≡ faulty BadChunk
no_line o before n e h some =
    let following : ℕ → ℕ → Chunked = λ m. chunks_behind (drop 1 o) (m - 1) in
    begun o before some ∙
    ⊎_elim
    (λ broken. at_chunk_broken before o following broken)
    (λ sound. at_chunk_some before n o following sound e ∙ at_line_none before n o following h)
    (bool_cases (is_broken (first_line_text o)))

some_line : (o : List ℕ) (n : ℕ) → line_size o ≡ Some n → 0 < length o
unfolding line_size
some_line [] n e = none_some n e
some_line (x ∷ o) n e = omega arith

pub bad_line : (octets : List ℕ) (n : ℕ) → line_size (take chunk_line_limit octets) ≡ Some n → chunk_size (take n (take chunk_line_limit octets)) ≡ None → LineReads Bad octets
bad_line octets n e h before more =
    let here = line_near octets n e in
    let later = line_size-append octets more n here.0 in
    no_line (octets ++ more) before n later.0 (ap chunk_size (take-take octets more n later.2 ∙ sym here.2) ∙ h) (some_line (octets ++ more) n later.0)

-- where no line ends near
text_goes_on : (a b : List ℕ) → line_size a ≡ None → first_line_text (a ++ b) ≡ a ++ first_line_text b
unfolding line_size
text_goes_on [] b e = refl
text_goes_on (x ∷ a) b e =
    ⊎_elim
    (λ here. none_some 1 (sym e ∙ line_size_here x a here))
    (λ later. line_text_later x (a ++ b) later ∙ ap (λ l. x ∷ l) (text_goes_on a b (below (line_size a) (sym (line_size_later x a later) ∙ e))))
    (bool_cases (x == line_feed))
  where
    below : (o : Option ℕ) → option_map (λ n. suc n) o ≡ None → o ≡ None
    below None h = refl
    below (Some n) h = none_some (suc n) (sym h)

pub bad_front : (octets : List ℕ) → line_size (take chunk_line_limit octets) ≡ None → begins_chunk_line (take chunk_line_limit octets) ≡ false → LineReads Bad octets
bad_front octets e h before more =
    let near = take chunk_line_limit octets in
    let cut : octets ++ more ≡ near ++ (drop chunk_line_limit octets ++ more) = ap (λ l. l ++ more) (sym (take-append-drop chunk_line_limit octets)) ∙ append_assoc near (drop chunk_line_limit octets) more in
    let following : ℕ → ℕ → Chunked = λ m. chunks_behind (drop 1 (octets ++ more)) (m - 1) in
    let broken : is_broken (first_line_text (octets ++ more)) ≡ true = ap (λ l. is_broken (first_line_text l)) cut ∙ ap is_broken (text_goes_on near (drop chunk_line_limit octets ++ more) e) ∙ broken_at near (first_line_text (drop chunk_line_limit octets ++ more)) (length-take-most chunk_line_limit octets) h in
    begun (octets ++ more) before (some octets h) ∙ at_chunk_broken before (octets ++ more) following broken
  where
    some : (o : List ℕ) → begins_chunk_line (take chunk_line_limit o) ≡ false → 0 < length (o ++ more)
    some [] k = absurd (false≢true (sym k ∙ begins_empty))
    some (x ∷ o) k = omega arith

    length-take-most : (n : ℕ) (xs : List ℕ) → length (take n xs) ≤ n
    length-take-most n xs = omega (arith, length-take n xs)

-- a front of a line before its line feed
before_its_feed : (line : WrittenLine) (front more : List ℕ) → front ++ more ≡ line_text line → line_size front ≡ None → (rest : List ℕ) × (front ++ rest ≡ text_of line ++ 13 ∷ [])
before_its_feed line front more e none =
    let split = split_at front more (text_of line ++ 13 ∷ []) 10 [] (e ∙ sym (append_assoc (text_of line) (13 ∷ []) (10 ∷ []))) in
    ⊎_elim
    (λ within. (within.0, sym within.1))
    (λ beyond.
    let feed = line_feeds (text_of line ++ 13 ∷ []) in
    let found = line_size-append ((text_of line ++ 13 ∷ []) ++ 10 ∷ []) beyond.0 feed.0 feed.1 in
    none_some feed.0 (sym none ∙ ap line_size (beyond.1 ∙ sym (append_assoc (text_of line ++ 13 ∷ []) (10 ∷ []) beyond.0)) ∙ found.0))
    split

pub cut_front : (octets : List ℕ) → line_size (take chunk_line_limit octets) ≡ None → begins_chunk_line (take chunk_line_limit octets) ≡ true → LineReads Cut octets
cut_front octets e h before =
    let line = begins_is (take chunk_line_limit octets) h in
    let rest = before_its_feed line.0 (take chunk_line_limit octets) line.2 line.4 e in
    let within = line.3.within in
    let a = ap length rest.1 in
    let b = length-append (take chunk_line_limit octets) rest.0 in
    let c = length-append (text_of line.0) (13 ∷ []) in
    let d = length-append (text_of line.0) (13 ∷ 10 ∷ []) in
    let taken = length-take chunk_line_limit octets in
    let whole : take chunk_line_limit octets ≡ octets = take_all chunk_line_limit octets (omega (arith, within, a, b, c, d, taken)) in
    let none : line_size octets ≡ None = ap line_size (sym whole) ∙ e in
    let sound : is_broken (first_line_text octets) ≡ false = ap is_broken (no_feed octets none) ∙ front_not_broken line.0 line.1 octets rest.0 line.3 (ap (λ l. l ++ rest.0) (sym whole) ∙ rest.1) in
    by octets none sound
  where
    by : (o : List ℕ) → line_size o ≡ None → is_broken (first_line_text o) ≡ false → chunks_behind o 0 before ≡ unfinished
    by [] none sound = nothing_there before
    by (x ∷ o) none sound =
        begun (x ∷ o) before (omega arith) ∙ at_chunk_none before (x ∷ o) (λ m. chunks_behind (drop 1 (x ∷ o)) (m - 1)) sound none

-- What begins a line

same_front : (xs ys : List ℕ) (a : ℕ) → xs ++ a ∷ [] ≡ ys ++ a ∷ [] → xs ≡ ys
same_front xs ys a e =
    let l = ap length e in
    let m = length-append xs (a ∷ []) in
    let n = length-append ys (a ∷ []) in
    let same : length xs ≡ length ys = omega (arith, l, m, n) in
    sym (take-append_seam xs (a ∷ [])) ∙ ap (take (length xs)) e ∙ ap (λ k. take k (ys ++ a ∷ [])) same ∙ take-append_seam ys (a ∷ [])

nothing_before : (y z : List ℕ) → [] ≡ y ++ z → y ≡ []
nothing_before [] z h = refl
nothing_before (c ∷ y) z h = cc

some_size : (o : Option ℕ) → is_some o ≡ true → (w : ℕ) × (o ≡ Some w)
some_size None h = absurd (false≢true h)
some_size (Some w) h = (w, refl)

-- with a CR in it a text states no size
no_return : (text : List ℕ) (w : ℕ) → text_size (text ++ 13 ∷ []) ≡ Some w → ⊥
no_return text w e =
    let all : list_all is_extension_byte (text ++ 13 ∷ []) ≡ false = list_all-append is_extension_byte text (13 ∷ []) ∙ fails (list_all is_extension_byte text) in
    none_some w (sym (ap (λ b. cond b (size_of (before_extension (text ++ 13 ∷ []))) None) all) ∙ e)
  where
    fails : (b : Bool) → (b && false) ≡ false
    fails true = refl
    fails false = refl

pub begins_none : (near : List ℕ) → length near ≡ 0 → true ≡ begins_chunk_line near
begins_none [] e = sym begins_empty
begins_none (x ∷ near) e = absurd (omega arith)

-- either test decides the other
agree : (a b : Bool) → (a ≡ true → b ≡ true) → (b ≡ true → a ≡ true) → a ≡ b
agree true true f g = refl
agree false false f g = refl
agree true false f g = sym (f refl)
agree false true f g = g refl

states : (text : List ℕ) (w : ℕ) → text_size text ≡ Some w → length text ≤ 254 → (nat_le (length text) 254 && is_some (text_size text)) ≡ true
states text w e few =
    let fits : nat_le (length text) 254 ≡ true = Prim.grind (arith, nat_tests, few) in
    and_from (nat_le (length text) 254) (is_some (text_size text)) fits (ap is_some e)

stated : (text : List ℕ) → (nat_le (length text) 254 && is_some (text_size text)) ≡ true → (w : ℕ) × (text_size text ≡ Some w) × (length (text ++ 13 ∷ 10 ∷ []) ≤ chunk_line_limit)
stated text h =
    let each = both (nat_le (length text) 254) (is_some (text_size text)) h in
    let size = some_size (text_size text) each.1 in
    let few : length text ≤ 254 = Prim.grind (arith, nat_tests, each.0) in
    let l = length-append text (13 ∷ 10 ∷ []) in
    (size.0, size.1, omega (arith, few, l))

pub begins_by_text : (near : List ℕ) → 0 < length near → ((text : List ℕ) → near ≢ text ++ 13 ∷ []) → line_size near ≡ None → (nat_le (length near) 254 && is_some (text_size near)) ≡ begins_chunk_line near
begins_by_text near some other none =
    agree (nat_le (length near) 254 && is_some (text_size near)) (begins_chunk_line near)
    (λ h. let size = stated near h in begins_text near size.0 size.1 size.2)
    (λ h.
    let line = begins_is near h in
    let rest = before_its_feed line.0 near line.2 line.4 none in
    let within = line.3.within in
    let d = length-append (text_of line.0) (13 ∷ 10 ∷ []) in
    ⊎_elim
    (λ inside.
    let l = ap length inside.1 in
    let m = length-append near inside.0 in
    let size = text_front line.0 line.1 line.3 near inside.0 (omega (arith, some)) (sym inside.1) in
    states near size.0 size.1 (omega (arith, within, d, l, m)))
    (λ beyond. absurd (other (text_of line.0) (beyond.1 ∙ ap (λ y. text_of line.0 ++ 13 ∷ y) (nothing_before beyond.0 rest.0 beyond.2))))
    (split_at near rest.0 (text_of line.0) 13 [] rest.1))

pub begins_by_return : (near text : List ℕ) → near ≡ text ++ 13 ∷ [] → line_size near ≡ None → (nat_le (length text) 254 && is_some (text_size text)) ≡ begins_chunk_line near
begins_by_return near text same none =
    agree (nat_le (length text) 254 && is_some (text_size text)) (begins_chunk_line near)
    (λ h. let size = stated text h in ap begins_chunk_line same ∙ begins_return text size.0 (line_sized text size.0 size.2 size.1))
    (λ h.
    let line = begins_is near h in
    let rest = before_its_feed line.0 near line.2 line.4 none in
    let within = line.3.within in
    let d = length-append (text_of line.0) (13 ∷ 10 ∷ []) in
    ⊎_elim
    (λ inside.
    let l = ap length same in
    let m = length-append text (13 ∷ []) in
    let size = text_front line.0 line.1 line.3 near inside.0 (omega (arith, l, m)) (sym inside.1) in
    absurd (no_return text size.0 (ap text_size (sym same) ∙ size.1)))
    (λ beyond.
    let is : text ≡ text_of line.0 = same_front text (text_of line.0) 13 (sym same ∙ beyond.1 ∙ ap (λ y. text_of line.0 ++ 13 ∷ y) (nothing_before beyond.0 rest.0 beyond.2)) in
    let l = ap length is in
    states text line.1 (ap text_size is ∙ whole_text line.0 line.1 line.3) (omega (arith, within, d, l)))
    (split_at near rest.0 (text_of line.0) 13 [] rest.1))

-- A line without its CRLF

pub break_of : (line text : List ℕ) (o : Option (Bor (List ℕ))) → line ≡ text ++ 10 ∷ [] → MatchOption o ((before : List ℕ) → text ≢ before ++ 13 ∷ []) (λ before. text ≡ before.now ++ 13 ∷ []) → option_map text_there o ≡ before_break line
break_of line text (Some before) e h =
    sym (ap before_break (e ∙ ap (λ l. l ++ 10 ∷ []) h ∙ append_assoc before.now (13 ∷ []) (10 ∷ [])) ∙ break_back before.now)
break_of line text None e h =
    ⊎_elim (λ none. sym none)
    (λ found.
    absurd (h found.0 (same_front text (found.0 ++ 13 ∷ []) 10 (sym e ∙ break_is line found.0 found.1 ∙ sym (append_assoc found.0 (13 ∷ []) (10 ∷ []))))))
    (option_cases (before_break line))

pub no_break : (line : List ℕ) → ((before : List ℕ) → line ≢ before ++ 10 ∷ []) → None ≡ before_break line
no_break line h =
    ⊎_elim (λ none. sym none)
    (λ found. absurd (h (found.0 ++ 13 ∷ []) (break_is line found.0 found.1 ∙ sym (append_assoc found.0 (13 ∷ []) (10 ∷ [])))))
    (option_cases (before_break line))

pub size_by_text : (line : List ℕ) (o : Option (List ℕ)) → length line ≤ 256 → o ≡ before_break line → option_and_then text_size o ≡ chunk_size line
unfolding chunk_size
size_by_text line o few e =
    let fits : nat_le (length line) chunk_line_limit ≡ true = Prim.grind (arith, nat_tests, few) in
    ap (option_and_then text_size) e ∙ sym (ap (λ b. cond b (option_and_then text_size (before_break line)) None) fits)
