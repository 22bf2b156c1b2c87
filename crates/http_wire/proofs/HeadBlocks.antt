-- Which blocks are heads, by what the library finds in them.
use Rattle.std.proofs.Common.{◌≡◌, ◌≢◌, ℕ, ◌+◌, ◌≤◌, ◌<◌, true, false, cond, ◌==◌, List, [], ◌∷◌, ◌++◌, length, length-drop, Option, Some, None, Result, Err, refl, sym, ap, ◌∙◌, arith, ⊎_elim, append_assoc, append-nil}
use Rattle.std.specs.Prelude.{count_by, nat_lt}
use Rattle.std.specs.List.{flat_map}
use Rattle.std.proofs.lemmas.Bool.Decides.{nat_tests}
use Rattle.std.proofs.lemmas.List.Sums.{sum_by-append}
use Rattle.httparse.specs.Grammar.{LineEnd, crlf, lf, print_end, print_blank, print_version, Field, print_field, RequestHead, ReadsRequest, print_request}
use Rattle.httparse.specs.declared.spans.HeaderSpan.{HeaderSpan}
use Rattle.httparse.specs.declared.spans.RequestSpans.{RequestSpans}
use Rattle.httparse.specs.Spans.{IsRequestOf, IsRequestWithin}
use Rattle.httparse.proofs.GrammarLemmas.{request_unique}
use Rattle.cal_base.specs.Lines.ContentLines.{without_return}
use Rattle.cal_base.specs.Texts.Octets.{carriage_return}
use Rattle.cal_model.specs.declared.wire.WireFault.{WireFault}
use Rattle.cal_model.specs.declared.wire.WireFault.TheVariants.{BadHead, HeadTooLong, Version}
use Rattle.cal_model.specs.Streams.WireLimits.{field_limit}
use Rattle.cal_model.specs.Streams.Heads.{without_empty_lines, head_of}
use Rattle.cal_model.specs.Streams.HeadFields.{field_lines, first_line, names_other_version, read_head}
use Rattle.cal_model.proofs.Streams.StreamFronts.{bool_cases, option_cases, skips_lf, skips_crlf}
use Rattle.cal_model.proofs.Streams.StreamHeads.{without_empty_lines-within}
use Rattle.cal_model.proofs.Streams.HeadLaws.{heads_are_the_grammar, length-pieces, return_end}
use Rattle.http_wire.specs.declared.head.HeadRead.{HeadRead}
use Rattle.http_wire.specs.declared.head.HeadRead.TheVariants.{Head, Fault, NoMemory}
use Rattle.http_wire.specs.HeadReading.{judged, IsNoHead, Judges, HeadReads}

-- How many line feeds a head has

feeds : List ℕ → ℕ
feeds block = count_by (λ octet. octet == 10) block

feeds-append : (xs ys : List ℕ) → feeds (xs ++ ys) ≡ feeds xs + feeds ys
unfolding feeds
feeds-append xs ys = sum_by-append _ xs ys

feeds_end : (e : LineEnd) → feeds (print_end e) ≡ 1
unfolding feeds
feeds_end crlf = refl
feeds_end lf = refl

feeds_field : (name raw : List ℕ) (e : LineEnd) → 1 ≤ feeds (name ++ 58 ∷ raw ++ print_end e)
feeds_field name raw e = omega (arith, feeds-append (name ++ 58 ∷ raw) (print_end e), feeds_end e)

feeds_fields : (fields : List Field) → length fields ≤ feeds (flat_map print_field fields)
feeds_fields [] = omega arith
feeds_fields (f ∷ fields) = omega (arith, feeds-append (print_field f) (flat_map print_field fields), feeds_field f.name f.raw f.end, feeds_fields fields)

parts : (a b c d e f g : List ℕ) → feeds e + feeds f + feeds g ≤ feeds (a ++ b ++ 32 ∷ c ++ 32 ∷ d ++ e ++ (f ++ g))
parts a b c d e f g =
    omega (arith, feeds-append (a ++ b ++ 32 ∷ c ++ 32 ∷ d ++ e) (f ++ g), feeds-append (a ++ b ++ 32 ∷ c ++ 32 ∷ d) e, feeds-append f g)

-- each field has a line, the request line is one, and the empty line ends the head
fields_within_feeds : (h : RequestHead) → length h.fields + 2 ≤ feeds (print_request h)
unfolding print_request
fields_within_feeds h =
    omega (arith, parts (print_blank h.blank) h.method h.target (print_version h.minor) (print_end h.line_end) (flat_map print_field h.fields) (print_end h.last), feeds_end h.line_end, feeds_end h.last, feeds_fields h.fields)

-- the fields of a head fit the room
pub fields_fit : (block : List ℕ) (room : ℕ) (h : RequestHead) → count_by (λ octet. octet == 10) block ≤ room + 2 → ReadsRequest block h [] → length h.fields ≤ room
unfolding feeds
fields_fit block room h few reads =
    let whole : block ≡ print_request h = reads.1 ∙ append-nil (print_request h) in
    let same : count_by (λ octet. octet == 10) block ≡ count_by (λ octet. octet == 10) (print_request h) = ap (count_by (λ octet. octet == 10)) whole in
    omega (arith, same, fields_within_feeds h, few)

-- where the block is a head, what the library found ends at its end
pub found_whole : (block : List ℕ) (headers : List HeaderSpan) (spans : RequestSpans) (h : RequestHead) → IsRequestOf block headers spans → IsRequestWithin block headers spans → ReadsRequest block h [] → spans.len ≡ length block
found_whole block headers spans h at within reads =
    let same = request_unique _ _ _ _ _ reads at.1.reads in
    omega (arith, ap length same.1, length-drop spans.len block, within.section.len_fits)

-- Empty lines in front

front_of_head : (b m t v e s : List ℕ) → b ++ m ++ t ++ v ++ e ++ s ≡ b ++ (m ++ (t ++ (v ++ (e ++ s))))
front_of_head b m t v e s = simp append_assoc

skipped_line : (e : LineEnd) (xs : List ℕ) → length (without_empty_lines (print_end e ++ xs)) ≤ length xs
unfolding without_empty_lines
skipped_line lf [] = omega arith
skipped_line lf (y ∷ xs) = omega (arith, ap length (skips_lf 10 y xs refl), without_empty_lines-within (y ∷ xs))
skipped_line crlf xs = omega (arith, ap length (skips_crlf 13 10 xs refl refl), without_empty_lines-within xs)

end_length : (e : LineEnd) (xs : List ℕ) → length xs < length (print_end e ++ xs)
end_length lf xs = omega arith
end_length crlf xs = omega arith

-- a block that begins with no empty line is a head without any
no_blank : (block : List ℕ) (h : RequestHead) → without_empty_lines block ≡ block → ReadsRequest block h [] → h.blank ≡ []
unfolding print_request
no_blank block h same reads = by h.blank refl
  where
    rest : List ℕ
    rest = h.method ++ ((32 ∷ h.target) ++ ((32 ∷ print_version h.minor) ++ (print_end h.line_end ++ (flat_map print_field h.fields ++ print_end h.last))))

    by : (blank : List LineEnd) → h.blank ≡ blank → h.blank ≡ []
    by [] e = e
    by (first ∷ blank) e =
        let whole : block ≡ print_request h = reads.1 ∙ append-nil (print_request h) in
        let split : print_request h ≡ print_blank h.blank ++ rest = front_of_head (print_blank h.blank) h.method (32 ∷ h.target) (32 ∷ print_version h.minor) (print_end h.line_end) (flat_map print_field h.fields ++ print_end h.last) in
        let text : block ≡ print_end first ++ (print_blank blank ++ rest) = whole ∙ split ∙ ap (λ b. print_blank b ++ rest) e ∙ append_assoc (print_end first) (print_blank blank) rest in
        let short = skipped_line first (print_blank blank ++ rest) in
        let long = end_length first (print_blank blank ++ rest) in
        let kept = ap length (ap without_empty_lines (sym text) ∙ same ∙ text) in
        absurd (omega (arith, short, long, kept))

-- What is read of a block

pub few_fields : (block : List ℕ) → count_by (λ octet. octet == 10) block ≤ 102 → nat_lt field_limit (field_lines block) ≡ false
few_fields block few =
    let lines = length-pieces 10 block in
    Prim.grind (arith, nat_tests, lines, few)

pub many_fields : (block : List ℕ) → 102 < count_by (λ octet. octet == 10) block → read_head block ≡ Err HeadTooLong
unfolding read_head
many_fields block many =
    let lines = length-pieces 10 block in
    let over : nat_lt field_limit (field_lines block) ≡ true = Prim.grind (arith, nat_tests, lines, many) in
    rw over refl

pub another_version : (block : List ℕ) → count_by (λ octet. octet == 10) block ≤ 102 → names_other_version (first_line block) ≡ true → read_head block ≡ Err Version
unfolding read_head
another_version block few other = rw (few_fields block few) (ap (λ b. cond b (Err Version) (by_head block)) other)
  where
    by_head : List ℕ → Result RequestHead WireFault
    by_head b = elim (head_of b) [ None ↦ Err BadHead | Some head ↦ judged head ]

by_block : Option RequestHead → Result RequestHead WireFault
by_block None = Err BadHead
by_block (Some head) = judged head

read_by : (block : List ℕ) → count_by (λ octet. octet == 10) block ≤ 102 → names_other_version (first_line block) ≡ false → (o : Option RequestHead) → head_of block ≡ o → read_head block ≡ by_block o
unfolding read_head by_block
read_by block few known None e = rw (few_fields block few) (rw known (rw e refl))
read_by block few known (Some head) e = rw (few_fields block few) (rw known (rw e refl))

pub no_head : (block : List ℕ) → count_by (λ octet. octet == 10) block ≤ 102 → names_other_version (first_line block) ≡ false → IsNoHead block → read_head block ≡ Err BadHead
unfolding by_block
no_head block few known none =
    read_by block few known None (⊎_elim (λ e. e) (λ found. absurd (none found.0 ((heads_are_the_grammar block found.0).0 found.1).0)) (option_cases (head_of block)))

pub a_head : (block : List ℕ) (head : RequestHead) → count_by (λ octet. octet == 10) block ≤ 102 → names_other_version (first_line block) ≡ false → without_empty_lines block ≡ block → ReadsRequest block head [] → read_head block ≡ judged head
unfolding by_block
a_head block head few known same reads = read_by block few known (Some head) ((heads_are_the_grammar block head).1 (reads, no_blank block head same reads))

-- A line without its CR

pub without_its_return : (line text : List ℕ) → line ≡ text ++ 13 ∷ [] → text ≡ without_return line
without_its_return line text e = sym (ap without_return e ∙ (return_end text).0)

pub without_return_other : (line : List ℕ) → ((before : List ℕ) → line ≢ before ++ 13 ∷ []) → line ≡ without_return line
without_return_other [] h = refl
without_return_other (c ∷ []) h =
    ⊎_elim
    (λ cr. let is : c ≡ 13 = Prim.grind (arith, nat_tests, cr) in absurd (h [] (ap (λ x. x ∷ []) is)))
    (λ none. rw none refl)
    (bool_cases (c == carriage_return))
without_return_other (c ∷ d ∷ line) h = ap (λ l. c ∷ l) (without_return_other (d ∷ line) (λ before e. h (c ∷ before) (ap (λ l. c ∷ l) e)))

-- What the fields of a head say is what is read of its block

pub reads_head : (block : List ℕ) (head : RequestHead) (read : HeadRead) → count_by (λ octet. octet == 10) block ≤ 102 → names_other_version (first_line block) ≡ false → without_empty_lines block ≡ block → ReadsRequest block head [] → Judges read head → HeadReads read block
reads_head block head (Head request part) few known same reads judges = (head, a_head block head few known same reads ∙ judges.0, judges.1, judges.2)
reads_head block head (Fault why) few known same reads judges = a_head block head few known same reads ∙ judges
reads_head block head NoMemory few known same reads judges = tt
