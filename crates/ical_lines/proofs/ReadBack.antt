-- What is written behind text that ends its last line is read as one line more.
use Rattle.std.proofs.Common.{◌≡◌, ℕ, ◌+◌, ◌-◌, ◌<◌, ◌≤◌, Bool, true, false, cond, not, ◌&&◌, ◌||◌, ◌==◌, leb, ltb, nat_lt, nat_eq, flat_map, List, [], ◌∷◌, ◌++◌, length, take, Option, Some, None, Result, Ok, refl, sym, ap, ap₂, subst, ◌∙◌, ⊎_elim, arith, append-nil, append_assoc, lt-ltb}
use Rattle.std.specs.List.{list_any, AllByRecursion, ends_with}
use Rattle.std.specs.Option.{option_to_list}
use Rattle.std.specs.Str.{is_utf8, chars}
use lib.Utf8.{encode, encodes, scalar, scalars}
use borrow.Author.Tests.{eqb-true, ne_eqb, leb-true, leb-false}
use Rattle.std.proofs.lemmas.Bool.{and_parts, or_parts, and_right, cond-true, cond-false, cond_both, cases_Bool, or_cases, false≢true}
use Rattle.std.proofs.lemmas.Str.{chars-encodes, encodes-chars, scalars-chars, encodes-append, encode_ascii, IsUtf8-from_is_utf8, is_utf8-from_IsUtf8, length-encode, len_utf8_bounds}
use Rattle.std.proofs.lemmas.List.{nil_from_length}
use Rattle.cal_base.specs.declared.line.Line.{Line}
use Rattle.cal_base.specs.Texts.Octets.{line_feed, carriage_return, space, tab, colon}
use Rattle.cal_base.specs.Lines.ContentLines.{pieces, onto_first, Physical, without_return, physical_from, physical_lines, is_refused_character, begins_with_blank, continues, joined, groups, unfolded, place_of, is_name_octet, is_name, line_of, read_lines}
use Rattle.cal_base.specs.Lines.WrittenLines.{folded, written}
use Rattle.cal_base.specs.Lines.LineGrammar.{IsReadLine, EndsLine, param_text}
use Rattle.ical_lines.specs.GroupReading.{refused_place, first_refused, text_fault, text_lines, read_groups, read_text, read_open}
use Rattle.ical_lines.proofs.Folding.{length-encode_le, folded_fits, folded_over}
use Rattle.ical_lines.proofs.GrammarLaw.{line_written, differs, end_octet}
use Rattle.ical_lines.proofs.LineTexts.{IsOneLine, read_line_is_one}
use Rattle.ical_lines.proofs.OpenLines.{open_at_first, open_at_fold}
use Rattle.ical_lines.proofs.PhysicalLines.{pieces-some, physical_front, continues-physical}
use Rattle.ical_lines.proofs.Pieces.{IsInOneLine, all_append, pieces_at}
use Rattle.ical_lines.proofs.ReadingInOrder.{go_on, read_groups-all}

-- Behind text that ends its last line

join_step : (test : Bool) (octet : ℕ) (here back whole : List (List ℕ)) → 0 < length here → whole ≡ here ++ back → cond test ([] ∷ whole) (onto_first octet whole) ≡ cond test ([] ∷ here) (onto_first octet here) ++ back
join_step true octet here back whole some same = ap (λ them. [] ∷ them) same
join_step false octet [] back whole some same = absurd (omega arith)
join_step false octet (piece ∷ here) back whole some same = ap (onto_first octet) same

pieces_join : (front back : List ℕ) → pieces line_feed (front ++ line_feed ∷ back) ≡ pieces line_feed front ++ pieces line_feed back
pieces_join [] back = refl
pieces_join (octet ∷ front) back =
    join_step (octet == line_feed) octet (pieces line_feed front) (pieces line_feed back) _ (pieces-some front) (pieces_join front back)

-- pieces that line feeds end, and the place behind them
abbrev ended : ℕ → List (List ℕ) → List Physical
ended place [] = []
ended place (piece ∷ them) = record { place = place; text = without_return piece } ∷ ended (place + length piece + 1) them

abbrev place_behind : ℕ → List (List ℕ) → ℕ
place_behind place [] = place
place_behind place (piece ∷ them) = place_behind (place + length piece + 1) them

physical-append : (place : ℕ) (them more : List (List ℕ)) → 0 < length more → physical_from place (them ++ more) ≡ ended place them ++ physical_from (place_behind place them) more
physical-append place [] more some = refl
physical-append place (first ∷ []) [] some = absurd (omega arith)
physical-append place (first ∷ []) (piece ∷ more) some = refl
physical-append place (first ∷ next ∷ them) more some =
    ap (λ rest. record { place = place; text = without_return first } ∷ rest) (physical-append (place + length first + 1) (next ∷ them) more some)

-- the physical lines of a text that ends its last line stay, whatever is written behind it
pub record IsKept (text : List ℕ) : Type 0 where
  lines : List Physical
  place : ℕ
  own : physical_lines text ≡ lines
  more : (back : List ℕ) → physical_lines (text ++ back) ≡ lines ++ physical_from place (pieces line_feed back)

kept-nil : IsKept []
kept-nil = record { lines = []; place = 0; own = refl; more = λ back. refl }

kept-end : (front : List ℕ) → IsKept (front ++ line_feed ∷ [])
kept-end front =
    let before = ended 0 (pieces line_feed front) in
    let place = place_behind 0 (pieces line_feed front) in
    record {
      lines = before;
      place = place;
      own = ap (physical_from 0) (pieces_join front []) ∙ physical-append 0 (pieces line_feed front) ([] ∷ []) (omega arith) ∙ append-nil before;
      more = λ back.
          ap physical_lines (append_assoc front (line_feed ∷ []) back)
          ∙ ap (physical_from 0) (pieces_join front back)
          ∙ physical-append 0 (pieces line_feed front) (pieces line_feed back) (pieces-some back);
    }

kept : (text : List ℕ) → EndsLine text → IsKept text
kept text ends =
    ⊎_elim
    (λ (empty : (length text == 0) ≡ true). subst IsKept (sym (nil_from_length text (eqb-true (length text) 0 empty))) kept-nil)
    (λ (end : ends_with nat_eq text (line_feed ∷ []) ≡ true). subst IsKept (end_octet line_feed text end) (kept-end (take (length text - 1) text)))
    (or_cases (length text == 0) _ ends)

-- whether the first of these logical lines would continue one before it
abbrev first_continues : List (List Physical) → Bool
first_continues [] = false
first_continues (group ∷ groups) = continues group

joined-continues : (physical : Physical) (them : List (List Physical)) → first_continues (joined physical them) ≡ begins_with_blank physical.text
joined-continues physical [] = refl
joined-continues physical (group ∷ them) = cond_both (continues group) _ _ (λ those. first_continues those ≡ begins_with_blank physical.text) (λ _. refl) (λ _. refl)

groups-continues : (them : List Physical) → first_continues (groups them) ≡ continues them
groups-continues [] = refl
groups-continues (physical ∷ more) = joined-continues physical (groups more)

append_step : (test : Bool) (physical : Physical) (group : List Physical) (them back : List (List Physical)) → cond test ((physical ∷ group) ∷ (them ++ back)) ((physical ∷ []) ∷ group ∷ (them ++ back)) ≡ cond test ((physical ∷ group) ∷ them) ((physical ∷ []) ∷ group ∷ them) ++ back
append_step true physical group them back = refl
append_step false physical group them back = refl

joined-append : (physical : Physical) (them back : List (List Physical)) → first_continues back ≡ false → joined physical (them ++ back) ≡ joined physical them ++ back
joined-append physical [] [] other = refl
joined-append physical [] (group ∷ back) other = cond-false _ _ _ other
joined-append physical (group ∷ them) back other = append_step (continues group) physical group them back

groups-append : (front back : List Physical) → continues back ≡ false → groups (front ++ back) ≡ groups front ++ groups back
groups-append [] back other = refl
groups-append (physical ∷ front) back other =
    ap (joined physical) (groups-append front back other) ∙ joined-append physical (groups front) (groups back) (groups-continues back ∙ other)

go_on-append : (fault : Option ℕ) (done before : List Line) (front back : List (List Physical)) → (read_groups done front ≡ Ok before → read_groups done (front ++ back) ≡ read_groups before back) → go_on fault (read_groups done front) ≡ Ok before → go_on fault (read_groups done (front ++ back)) ≡ read_groups before back
go_on-append None done before front back those is = those is
go_on-append (Some place) done before front back those is = absurd (cc)

read_groups-append : (done before : List Line) (front back : List (List Physical)) → read_groups done front ≡ Ok before → read_groups done (front ++ back) ≡ read_groups before back
read_groups-append done before [] back is = let same : done ≡ before = cc in ap (λ lines. read_groups lines back) same
read_groups-append done before (group ∷ front) back is =
    let next = done ++ text_lines (unfolded group) in
    go_on-append (text_fault (place_of group) (unfolded group) (first_refused group)) next before front back (read_groups-append next before front back) is

-- The physical lines of a written line

-- a character that may stand in a physical line
abbrev IsAllowed : ℕ → Type 0
IsAllowed character = (scalar character ≡ true) × (is_refused_character character ≡ false)

allowed_scalars : (characters : List ℕ) → AllByRecursion IsAllowed characters → scalars characters ≡ true
allowed_scalars [] all = refl
allowed_scalars (character ∷ more) all = ap₂ (λ a b. a && b) all.0.0 (allowed_scalars more all.1)

allowed_any : (characters : List ℕ) → AllByRecursion IsAllowed characters → list_any is_refused_character characters ≡ false
allowed_any [] all = refl
allowed_any (character ∷ more) all = ap₂ (λ a b. a || b) all.0.1 (allowed_any more all.1)

allowed_from : (characters : List ℕ) → scalars characters ≡ true → list_any is_refused_character characters ≡ false → AllByRecursion IsAllowed characters
allowed_from [] good none = tt
allowed_from (character ∷ more) good none =
    let one = and_parts (scalar character) _ good in
    let other = or_parts (is_refused_character character) _ none in
    ((one.0, other.0), allowed_from more one.1 other.1)

high_octet : (n : ℕ) → 128 ≤ n → (n == line_feed) ≡ false
high_octet n high = ne_eqb n line_feed (λ (same : n ≡ line_feed). omega arith)

encode-one_line : (character : ℕ) → is_refused_character character ≡ false → IsInOneLine (encode character)
unfolding encode
encode-one_line character allowed =
    let other : (character == line_feed) ≡ false = ne_eqb character line_feed (λ (same : character ≡ line_feed). false≢true (sym allowed ∙ ap is_refused_character same)) in
    cond_both (ltb character 128) _ _ IsInOneLine (λ _. (other, tt))
    (λ _. cond_both (ltb character 2048) _ _ IsInOneLine (λ _. (high_octet _ (omega arith), (high_octet _ (omega arith), tt)))
    (λ _. cond_both (ltb character 65536) _ _ IsInOneLine (λ _. (high_octet _ (omega arith), (high_octet _ (omega arith), (high_octet _ (omega arith), tt))))
    (λ _. (high_octet _ (omega arith), (high_octet _ (omega arith), (high_octet _ (omega arith), (high_octet _ (omega arith), tt)))))))

encodes-one_line : (characters : List ℕ) → AllByRecursion IsAllowed characters → IsInOneLine (encodes characters)
encodes-one_line [] all = tt
encodes-one_line (character ∷ more) all = all_append _ (encode character) _ (encode-one_line character all.0.1) (encodes-one_line more all.1)

-- characters that are allowed are not refused
not_refused : (place : ℕ) (characters : List ℕ) → AllByRecursion IsAllowed characters → refused_place (record { place = place; text = encodes characters }) ≡ None
not_refused place characters all =
    let good = allowed_scalars characters all in
    let utf8 : is_utf8 (encodes characters) ≡ true = is_utf8-from_IsUtf8 _ (characters, (good, refl)) in
    cond-false _ _ _ (ap₂ (λ test others. not test || list_any is_refused_character others) utf8 (chars-encodes characters good) ∙ allowed_any characters all)

without_return-end : (front : List ℕ) → without_return (front ++ carriage_return ∷ []) ≡ front
without_return-end [] = refl
without_return-end (octet ∷ []) = refl
without_return-end (octet ∷ next ∷ front) = ap (λ rest. octet ∷ rest) (without_return-end (next ∷ front))

-- a physical line with its CRLF
physical_written : (place : ℕ) (front back : List ℕ) → IsInOneLine front → (next : ℕ) × (physical_from place (pieces line_feed (front ++ carriage_return ∷ line_feed ∷ back)) ≡ record { place = place; text = front } ∷ physical_from next (pieces line_feed back))
physical_written place front back one =
    let line = front ++ carriage_return ∷ [] in (
      place + length line + 1,
      ap (λ text. physical_from place (pieces line_feed text)) (sym (append_assoc front (carriage_return ∷ []) (line_feed ∷ back)))
          ∙ ap (physical_from place) (pieces_at line back (all_append _ front _ one (refl, tt)))
          ∙ physical_front place line back
          ∙ ap (λ text. record { place = place; text = text } ∷ physical_from (place + length line + 1) (pieces line_feed back)) (without_return-end front),
    )

-- what is read of a physical line's characters, whichever they are
abbrev Takes : (List Physical → Result (List Line) ℕ) → ℕ → List ℕ → List Line → ℕ → List ℕ → Type 0
Takes whole at front done place text = (characters : List ℕ) (more : List Physical) → AllByRecursion IsAllowed characters → whole (record { place = at; text = front ++ encodes characters } ∷ more) ≡ read_open done place (text ++ encodes characters) None (groups more)

takes_fold : (done : List Line) (place at : ℕ) (text : List ℕ) → Takes (λ them. read_open done place text None (groups them)) at (space ∷ []) done place text
takes_fold done place at text characters more all =
    let line : Physical = record { place = at; text = space ∷ encodes characters } in
    let spaced : encodes (space ∷ characters) ≡ space ∷ encodes characters = ap (λ octets. octets ++ encodes characters) (encode_ascii space (omega arith)) in
    let good = ap (λ octets. refused_place (record { place = at; text = octets })) (sym spaced) ∙ not_refused at (space ∷ characters) ((refl, refl), all) in
    open_at_fold done place text None line more refl ∙ ap (λ refused. read_open done place (text ++ encodes characters) refused (groups more)) good

takes_first : (done : List Line) (at : ℕ) → Takes (λ them. read_groups done (groups them)) at [] done at []
takes_first done at characters more all =
    open_at_first done (record { place = at; text = encodes characters }) more ∙ ap (λ refused. read_open done at (encodes characters) refused (groups more)) (not_refused at characters all)

-- the physical lines that characters are folded to, behind those that stand in the physical line
written_lines : (characters here : List ℕ) (room at : ℕ) (front text : List ℕ) (done : List Line) (place : ℕ) (whole : List Physical → Result (List Line) ℕ) → Takes whole at front done place text → IsInOneLine front → AllByRecursion IsAllowed here → AllByRecursion IsAllowed characters → whole (physical_from at (pieces line_feed ((front ++ encodes here) ++ folded room characters))) ≡ read_text done place (text ++ encodes here ++ encodes characters) None []
written_lines [] here room at front text done place whole takes one all_here all =
    let line = physical_written at (front ++ encodes here) [] (all_append _ front _ one (encodes-one_line here all_here)) in
    ap whole line.1 ∙ takes here [] all_here ∙ ap (λ read. read_text done place read None []) (sym (append-nil (text ++ encodes here)))
written_lines (character ∷ more) here room at front text done place whole takes one all_here all =
    ⊎_elim
    (λ (fits : leb (length (encode character)) room ≡ true).
    let longer = here ++ character ∷ [] in
    let written_longer : encodes longer ≡ encodes here ++ encode character = encodes-append here (character ∷ []) ∙ ap (λ octets. encodes here ++ octets) (append-nil (encode character)) in
    let behind = folded (room - length (encode character)) more in
    ap (λ octets. whole (physical_from at (pieces line_feed octets)))
    (ap (λ octets. (front ++ encodes here) ++ octets) (folded_fits character more room (leb-true _ _ fits))
    ∙ sym (append_assoc (front ++ encodes here) (encode character) behind)
    ∙ ap (λ octets. octets ++ behind) (append_assoc front (encodes here) (encode character) ∙ ap (λ octets. front ++ octets) (sym written_longer)))
    ∙ written_lines more longer (room - length (encode character)) at front text done place whole takes one (all_append _ here _ all_here (all.0, tt)) all.1
    ∙ ap (λ read. read_text done place read None [])
    (ap (λ octets. text ++ octets ++ encodes more) written_longer
    ∙ ap (λ octets. octets ++ encodes more) (sym (append_assoc text (encodes here) (encode character)))
    ∙ append_assoc (text ++ encodes here) (encode character) (encodes more)))
    (λ (over : leb (length (encode character)) room ≡ false).
    let size = length-encode_le character in
    let behind = folded (74 - length (encode character)) more in
    let alone : encodes (character ∷ []) ≡ encode character = append-nil (encode character) in
    let line = physical_written at (front ++ encodes here) (space ∷ folded 74 (character ∷ more)) (all_append _ front _ one (encodes-one_line here all_here)) in
    ap (λ octets. whole (physical_from at (pieces line_feed ((front ++ encodes here) ++ octets)))) (folded_over character more room (leb-false _ _ over))
    ∙ ap whole line.1
    ∙ takes here _ all_here
    ∙ ap (λ octets. read_open done place (text ++ encodes here) None (groups (physical_from line.0 (pieces line_feed (space ∷ octets)))))
    (folded_fits character more 74 (omega arith) ∙ ap (λ octets. octets ++ behind) (sym alone))
    ∙ written_lines more (character ∷ []) (74 - length (encode character)) line.0 (space ∷ []) (text ++ encodes here) done place (λ them. read_open done place (text ++ encodes here) None (groups them)) (takes_fold done place line.0 (text ++ encodes here)) (refl, tt) (all.0, tt) all.1
    ∙ ap (λ read. read_text done place read None [])
    (ap (λ octets. (text ++ encodes here) ++ octets ++ encodes more) alone ∙ append_assoc (text ++ encodes here) (encode character) (encodes more)))
    (cases_Bool (leb (length (encode character)) room))

abbrev outside : Option Line → Bool
outside line = elim line [ None ↦ true | Some there ↦ false ]

-- a line that is read behind others
pub read_behind : (before : List Line) (line : Line) (place : ℕ) → IsOneLine line → read_text before place line.raw None [] ≡ Ok (before ++ line ∷ [])
read_behind before line place is =
    ap (λ fault. go_on fault (Ok (before ++ text_lines line.raw))) (cond-false _ _ _ (and_right (nat_lt 0 (length line.raw)) _ (ap outside is.read)))
    ∙ ap (λ lines. Ok (before ++ lines)) (cond-true _ _ _ (lt-ltb 0 (length line.raw) is.some) ∙ ap option_to_list is.read)

blank_front : (front a b : List ℕ) → 0 < length front → begins_with_blank (front ++ a) ≡ begins_with_blank (front ++ b)
blank_front [] a b some = absurd (omega arith)
blank_front (octet ∷ front) a b some = refl

folded-blank : (characters : List ℕ) → begins_with_blank (folded 75 characters) ≡ begins_with_blank (encodes characters)
folded-blank [] = refl
folded-blank (character ∷ more) =
    let small = length-encode_le character in
    let some = len_utf8_bounds character in
    ap begins_with_blank (folded_fits character more 75 (omega arith)) ∙ blank_front (encode character) _ _ (omega (arith, length-encode character))

name_begins : (name rest : List ℕ) → is_name name ≡ true → begins_with_blank (name ++ rest) ≡ false
name_begins [] rest is = absurd (false≢true is)
name_begins (octet ∷ name) rest is =
    let first = (and_parts (is_name_octet octet) _ (and_parts (nat_lt 0 (length (octet ∷ name))) _ is).1).0 in
    ap₂ (λ a b. a || b) (differs is_name_octet octet space first refl) (differs is_name_octet octet tab first refl)

-- a line begins with its name
line_begins : (raw : List ℕ) (line : Line) → line_of raw ≡ Some line → begins_with_blank raw ≡ false
line_begins raw line is =
    let w = line_written raw line is in
    ap begins_with_blank (sym w.2 ∙ append_assoc w.0.name (flat_map param_text w.0.params) (colon ∷ w.0.value)) ∙ name_begins w.0.name _ w.1.0

one_more : (old : List ℕ) (before : List Line) (line : Line) → IsKept old → read_lines old ≡ Ok before → IsOneLine line → read_lines (old ++ written line.raw) ≡ Ok (before ++ line ∷ [])
one_more old before line keeps known is =
    let characters = chars line.raw in
    let utf8 = IsUtf8-from_is_utf8 line.raw is.utf8 in
    let spelt : encodes characters ≡ line.raw = encodes-chars line.raw utf8 in
    let allowed = allowed_from characters (scalars-chars line.raw utf8) is.allowed in
    let behind = physical_from keeps.place (pieces line_feed (folded 75 characters)) in
    let begins = continues-physical (folded 75 characters) keeps.place ∙ folded-blank characters ∙ ap begins_with_blank spelt ∙ line_begins line.raw line is.read in
    let front = ap (λ them. read_groups [] (groups them)) (sym keeps.own) ∙ read_groups-all old ∙ known in
    sym (read_groups-all (old ++ folded 75 characters))
    ∙ ap (read_groups []) (ap groups (keeps.more (folded 75 characters)) ∙ groups-append keeps.lines behind begins)
    ∙ read_groups-append [] before (groups keeps.lines) (groups behind) front
    ∙ written_lines characters [] 75 keeps.place [] [] before keeps.place (λ them. read_groups before (groups them)) (takes_first before keeps.place) tt tt allowed
    ∙ ap (λ text. read_text before keeps.place text None []) spelt
    ∙ read_behind before line keeps.place is

pub written_is_read : (old raw : List ℕ) (before : List Line) (line : Line) → EndsLine old → read_lines old ≡ Ok before → line.raw ≡ raw → IsReadLine line → read_lines (old ++ written raw) ≡ Ok (before ++ line ∷ [])
written_is_read old raw before line ends known same is =
    ap (λ text. read_lines (old ++ written text)) (sym same) ∙ one_more old before line (kept old ends) known (read_line_is_one line is)
