-- Each line that is read from a text is one that is read from its own text.
use Rattle.std.proofs.Common.{◌≡◌, ℕ, ◌<◌, true, false, not, ◌||◌, ◌==◌, List, [], ◌∷◌, ◌++◌, map, flat_map, filter, drop, All, None, Ok, sym, ap, subst, ◌∙◌, ⊎_elim, arith}
use Rattle.std.specs.List.{list_any, AllByRecursion}
use Rattle.std.specs.Str.{is_utf8, chars, IsUtf8}
use borrow.Author.Tests.{not-false, eqb-true}
use Rattle.std.proofs.lemmas.Bool.{or_parts, or_cases, or_from, cond-true, cond-false, cond_both, cases_Bool, false≢true}
use Rattle.std.proofs.lemmas.List.Elements.{All-nil, All-cons}
use Rattle.std.proofs.lemmas.List.Folds.{list_any-append}
use Rattle.std.proofs.lemmas.Str.{IsUtf8-append, IsUtf8-drop, IsUtf8-nil, IsCharBoundary-after_ascii, chars-append, chars-nil, chars_past_char, encode_ascii, IsUtf8-from_is_utf8, is_utf8-from_IsUtf8}
use Rattle.cal_base.specs.declared.line.Line.{Line}
use Rattle.cal_base.specs.Texts.Octets.{space, tab}
use Rattle.cal_base.specs.Lines.ContentLines.{Physical, physical_lines, is_refused_character, is_refused, begins_with_blank, continues, joined, groups, unfolded, place_of, least, is_outside_grammar, logical_lines, line_fault, lines_of, read_lines}
use Rattle.cal_base.specs.Lines.LineGrammar.{IsReadLine}
use Rattle.ical_lines.specs.GroupReading.{refused_place, read_groups, read_text}
use Rattle.ical_lines.proofs.LineTexts.{IsOfItsText, lines_of-text, read_without_fault, one_physical, lesser_some, no_line-nil, IsOneLine}
use Rattle.ical_lines.proofs.OpenLines.{open_at_first}
use Rattle.ical_lines.proofs.Pieces.{IsInOneLine, all_unfolded}
use Rattle.ical_lines.proofs.ReadBack.{read_behind}
use Rattle.ical_lines.proofs.ReadingInOrder.{read_groups-all}

-- UTF-8 without refused characters
abbrev IsAllowedText : List ℕ → Type 0
IsAllowedText text = IsUtf8 text × (list_any is_refused_character (chars text) ≡ false)

allowed_append : (front back : List ℕ) → IsAllowedText front → IsAllowedText back → IsAllowedText (front ++ back)
allowed_append front back good more = (
  IsUtf8-append front back good.0 more.0,
  ap (list_any is_refused_character) (chars-append front back good.0) ∙ list_any-append is_refused_character (chars front) (chars back) ∙ or_from _ _ good.1 more.1,
)

blank_ascii : (octet : ℕ) → ((octet == space) || (octet == tab)) ≡ true → octet < 128
blank_ascii octet is =
    ⊎_elim (λ (same : (octet == space) ≡ true). let at = eqb-true octet space same in omega arith)
    (λ (same : (octet == tab) ≡ true). let at = eqb-true octet tab same in omega arith) (or_cases (octet == space) _ is)

allowed_behind : (text : List ℕ) → IsAllowedText text → begins_with_blank text ≡ true → IsAllowedText (drop 1 text)
allowed_behind [] good blank = absurd (false≢true blank)
allowed_behind (octet ∷ text) good blank =
    let ascii = blank_ascii octet blank in
    let read : chars (octet ∷ text) ≡ octet ∷ chars text = chars_past_char (octet ∷ text) text octet good.0 (ap (λ front. front ++ text) (sym (encode_ascii octet ascii))) in (
      IsUtf8-drop (octet ∷ text) 1 good.0 (IsCharBoundary-after_ascii (octet ∷ text) 0 good.0 (omega arith) ascii),
      (or_parts (is_refused_character octet) _ (ap (list_any is_refused_character) (sym read) ∙ good.1)).1,
    )

abbrev IsGoodPhysical : Physical → Type 0
IsGoodPhysical physical = is_refused physical ≡ false

good_text : (physical : Physical) → IsGoodPhysical physical → IsAllowedText physical.text
good_text physical good =
    let parts = or_parts (not (is_utf8 physical.text)) _ good in
    (IsUtf8-from_is_utf8 physical.text (not-false _ parts.0), parts.1)

-- physical lines of which each but the first continues the one before it
abbrev IsGoodFold : Physical → Type 0
IsGoodFold fold = IsGoodPhysical fold × (begins_with_blank fold.text ≡ true)

abbrev IsGoodGroup : List Physical → Type 0
IsGoodGroup [] = Unit {0}
IsGoodGroup (physical ∷ folds) = IsGoodPhysical physical × AllByRecursion IsGoodFold folds

good_folds : (group : List Physical) → IsGoodGroup group → continues group ≡ true → AllByRecursion IsGoodFold group
good_folds [] good blank = tt
good_folds (physical ∷ folds) good blank = ((good.0, blank), good.1)

joined-good : (physical : Physical) (them : List (List Physical)) → IsGoodPhysical physical → AllByRecursion IsGoodGroup them → AllByRecursion IsGoodGroup (joined physical them)
joined-good physical [] good all = ((good, tt), tt)
joined-good physical (group ∷ them) good all =
    cond_both (continues group) _ _ (AllByRecursion IsGoodGroup) (λ blank. ((good, good_folds group all.0 blank), all.1)) (λ _. ((good, tt), all))

groups-good : (them : List Physical) → AllByRecursion IsGoodPhysical them → AllByRecursion IsGoodGroup (groups them)
groups-good [] all = tt
groups-good (physical ∷ more) all = joined-good physical (groups more) all.0 (groups-good more all.1)

folds-allowed : (folds : List Physical) → AllByRecursion IsGoodFold folds → IsAllowedText (flat_map (λ (fold : Physical). drop 1 fold.text) folds)
folds-allowed [] all = (IsUtf8-nil, ap (list_any is_refused_character) chars-nil)
folds-allowed (fold ∷ folds) all = allowed_append (drop 1 fold.text) _ (allowed_behind fold.text (good_text fold all.0.0) all.0.1) (folds-allowed folds all.1)

unfolded-allowed : (group : List Physical) → IsGoodGroup group → IsAllowedText (unfolded group)
unfolded-allowed [] good = (IsUtf8-nil, ap (list_any is_refused_character) chars-nil)
unfolded-allowed (physical ∷ folds) good = allowed_append physical.text _ (good_text physical good.0) (folds-allowed folds good.1)

-- without a fault no physical line is refused
all_good : (them : List Physical) (others : List ℕ) → least (map (λ (physical : Physical). physical.place) (filter is_refused them) ++ others) ≡ None → AllByRecursion IsGoodPhysical them
all_good [] others none = tt
all_good (physical ∷ more) others none =
    ⊎_elim
    (λ (refused : is_refused physical ≡ true). absurd (lesser_some _ _ (ap (λ kept. least (map (λ (p : Physical). p.place) kept ++ others)) (sym (cond-true _ _ _ refused)) ∙ none)))
    (λ (good : is_refused physical ≡ false). (good, all_good more others (ap (λ kept. least (map (λ (p : Physical). p.place) kept ++ others)) (sym (cond-false _ _ _ good)) ∙ none)))
    (cases_Bool (is_refused physical))

abbrev IsOwnText : List ℕ → Type 0
IsOwnText text = IsInOneLine text × IsAllowedText text

own_texts : (them : List (List Physical)) → AllByRecursion (λ group. IsInOneLine (unfolded group)) them → AllByRecursion IsGoodGroup them → AllByRecursion (λ group. IsOwnText (unfolded group)) them
own_texts [] one good = tt
own_texts (group ∷ them) one good = ((one.0, unfolded-allowed group good.0), own_texts them one.1 good.1)

-- a line of an allowed text is read from it
own_line : (line : Line) → IsOfItsText IsOwnText line → IsReadLine line
own_line line own =
    let some = no_line-nil line line.raw own.0 in
    let utf8 = is_utf8-from_IsUtf8 line.raw own.1.1.0 in
    let is : IsOneLine line = record { some = some; one = own.1.0; read = own.0; utf8 = utf8; allowed = own.1.1.1 } in
    let physical : Physical = record { place = 0; text = line.raw } in
    let good : refused_place physical ≡ None = cond-false _ _ _ (or_from (not (is_utf8 line.raw)) _ (ap not utf8) own.1.1.1) in
    sym (read_groups-all line.raw)
    ∙ ap (λ them. read_groups [] (groups them)) (one_physical line.raw 0 some own.1.0)
    ∙ open_at_first [] physical []
    ∙ ap (λ refused. read_text [] 0 line.raw refused []) good
    ∙ read_behind [] line 0 is

all_own : (lines : List Line) → AllByRecursion (IsOfItsText IsOwnText) lines → All IsReadLine lines
all_own [] all = All-nil IsReadLine
all_own (line ∷ lines) all = All-cons IsReadLine line lines (own_line line all.0) (all_own lines all.1)

pub lines_are_read : (octets : List ℕ) (lines : List Line) → read_lines octets ≡ Ok lines → All IsReadLine lines
lines_are_read octets lines is =
    let whole = read_without_fault (line_fault octets) (lines_of octets) lines is in
    let physical = physical_lines octets in
    let good = groups-good physical (all_good physical (map place_of (filter is_outside_grammar (logical_lines octets))) whole.0) in
    all_own lines (subst (AllByRecursion (IsOfItsText IsOwnText)) whole.1 (lines_of-text IsOwnText octets (own_texts (groups physical) (all_unfolded octets) good)))
