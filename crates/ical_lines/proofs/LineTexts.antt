-- A text that is one line of the grammar: what that says of its octets.
use Rattle.std.proofs.Common.{◌≡◌, ℕ, ◌<◌, Bool, true, false, cond, not, nat_lt, List, [], ◌∷◌, ◌++◌, map, length, filter, filter_map, Option, Some, None, Result, Ok, Err, option_map, option_and_then, refl, sym, ap, subst, ◌∙◌, ⊎_elim, arith}
use borrow.Author.Tests.{ne_eqb, not-false}
use Rattle.std.specs.List.{list_any, AllByRecursion, cons_option}
use Rattle.std.specs.Str.{is_utf8, chars}
use Rattle.std.proofs.lemmas.Bool.{cond-true, cond-false, cond_both, or_parts, cases_Bool}
use Rattle.cal_base.specs.declared.line.Line.{Line}
use Rattle.cal_base.specs.Texts.Octets.{line_feed, colon, semicolon}
use Rattle.cal_base.specs.Lines.ContentLines.{pieces, Physical, physical_from, physical_lines, groups, unfolded, place_of, least, lesser, is_refused, is_refused_character, Placed, placed_line, first_unquoted, unquoted_pieces, line_of_pieces, line_of_parts, line_of, line_fault, lines_of, logical_lines, is_outside_grammar}
use Rattle.cal_base.specs.Lines.LineGrammar.{IsReadLine}
use Rattle.ical_lines.proofs.Pieces.{IsInOneLine, pieces_one_line, all_unfolded}

-- an answer behind a test, and through a map
pub map_behind_test : {X Y : Type 0} (test : Bool) (f : X → Y) (o : Option X) (y : Y) → cond test (option_map f o) None ≡ Some y → (test ≡ true) × ((x : X) × ((o ≡ Some x) × (f x ≡ y)))
map_behind_test true f None y is = absurd (cc)
map_behind_test true f (Some x) y is = (refl, (x, (refl, cc)))
map_behind_test false f o y is = absurd (cc)

line_of_pieces-raw : (raw value : List ℕ) (them : List (List ℕ)) (line : Line) → line_of_pieces raw value them ≡ Some line → line.raw ≡ raw
line_of_pieces-raw raw value [] line is = absurd (cc)
line_of_pieces-raw raw value (name ∷ params) line is = ap (λ (l : Line). l.raw) (sym (map_behind_test _ _ _ line is).1.1.1)

line_of_some-raw : (raw : List ℕ) (parts : Option (List ℕ × List ℕ)) (line : Line) → option_and_then (line_of_parts raw) parts ≡ Some line → line.raw ≡ raw
line_of_some-raw raw None line is = absurd (cc)
line_of_some-raw raw (Some (before, behind)) line is = line_of_pieces-raw raw behind (unquoted_pieces semicolon false before) line is

-- a line keeps the text that it was read from
pub line_of-raw : (raw : List ℕ) (line : Line) → line_of raw ≡ Some line → line.raw ≡ raw
line_of-raw raw line is = line_of_some-raw raw (first_unquoted colon false raw) line is

-- a line that is read from its own text, of which something holds
abbrev pub IsOfItsText : (List ℕ → Type 0) → Line → Type 0
IsOfItsText P line = (line_of line.raw ≡ Some line) × P line.raw

cons_line : (P : List ℕ → Type 0) (group : List Physical) (o : Option Line) (lines : List Placed) → line_of (unfolded group) ≡ o → P (unfolded group) → AllByRecursion (IsOfItsText P) (map (λ (placed : Placed). placed.line) lines) → AllByRecursion (IsOfItsText P) (map (λ (placed : Placed). placed.line) (cons_option (option_map (λ line. record { place = place_of group; line = line }) o) lines))
cons_line P group None lines is one all = all
cons_line P group (Some line) lines is one all =
    let same = line_of-raw (unfolded group) line is in
    ((ap line_of same ∙ is, subst P (sym same) one), all)

-- what holds of each logical line's text holds of each line's
all_lines : (P : List ℕ → Type 0) (them : List (List Physical)) → AllByRecursion (λ group. P (unfolded group)) them → AllByRecursion (IsOfItsText P) (map (λ (placed : Placed). placed.line) (filter_map placed_line (filter (λ group. nat_lt 0 (length (unfolded group))) them)))
all_lines P [] all = tt
all_lines P (group ∷ them) all =
    let behind = all_lines P them all.1 in
    cond_both
    (nat_lt 0 (length (unfolded group)))
    _
    _
    (λ kept. AllByRecursion (IsOfItsText P) (map (λ (placed : Placed). placed.line) (filter_map placed_line kept)))
    (λ _. cons_line P group (line_of (unfolded group)) _ refl all.0 behind)
    (λ _. behind)

pub lines_of-text : (P : List ℕ → Type 0) (octets : List ℕ) → AllByRecursion (λ group. P (unfolded group)) (groups (physical_lines octets)) → AllByRecursion (IsOfItsText P) (lines_of octets)
lines_of-text P octets all = all_lines P (groups (physical_lines octets)) all

abbrev pub read_as : Option ℕ → List Line → Result (List Line) ℕ
read_as fault lines = elim fault [ None ↦ Ok lines | Some place ↦ Err place ]

pub read_without_fault : (fault : Option ℕ) (lines them : List Line) → read_as fault lines ≡ Ok them → (fault ≡ None) × (lines ≡ them)
read_without_fault None lines them is = (refl, cc)
read_without_fault (Some place) lines them is = absurd (cc)

-- a text without a line feed is one physical line
pub one_physical : (text : List ℕ) (place : ℕ) → 0 < length text → IsInOneLine text → physical_from place (pieces line_feed text) ≡ record { place = place; text = text } ∷ []
one_physical text place some one = ap (physical_from place) (pieces_one_line text one) ∙ cond-false _ _ _ (ne_eqb (length text) 0 (λ (none : length text ≡ 0). omega arith))

pub lesser_some : (n : ℕ) (o : Option ℕ) → lesser n o ≡ None → ⊥
lesser_some n None is = cc
lesser_some n (Some m) is = cc

first_not_refused : (physical : Physical) (others : List ℕ) → least (map (λ (p : Physical). p.place) (filter is_refused (physical ∷ [])) ++ others) ≡ None → is_refused physical ≡ false
first_not_refused physical others none =
    ⊎_elim (λ (refused : is_refused physical ≡ true). absurd (lesser_some _ _ (ap (λ kept. least (map (λ (p : Physical). p.place) kept ++ others)) (sym (cond-true _ _ _ refused)) ∙ none)))
    (λ (good : is_refused physical ≡ false). good) (cases_Bool (is_refused physical))

pub no_line-nil : (line : Line) (text : List ℕ) → line_of text ≡ Some line → 0 < length text
no_line-nil line [] is = absurd (cc)
no_line-nil line (octet ∷ text) is = omega arith

pub record IsOneLine (line : Line) : Type 0 where
  pub some : 0 < length line.raw
  pub one : IsInOneLine line.raw
  pub read : line_of line.raw ≡ Some line
  pub utf8 : is_utf8 line.raw ≡ true
  pub allowed : list_any is_refused_character (chars line.raw) ≡ false

pub read_line_is_one : (line : Line) → IsReadLine line → IsOneLine line
read_line_is_one line is =
    let whole = read_without_fault (line_fault line.raw) (lines_of line.raw) (line ∷ []) is in
    let own : IsOfItsText IsInOneLine line = (subst (AllByRecursion (IsOfItsText IsInOneLine)) whole.1 (lines_of-text IsInOneLine line.raw (all_unfolded line.raw))).0 in
    let some = no_line-nil line line.raw own.0 in
    let physical : Physical = record { place = 0; text = line.raw } in
    let alone : physical_lines line.raw ≡ physical ∷ [] = one_physical line.raw 0 some own.1 in
    let good = first_not_refused physical (map place_of (filter is_outside_grammar (logical_lines line.raw)))
    (ap (λ them. least (map (λ (p : Physical). p.place) (filter is_refused them) ++ map place_of (filter is_outside_grammar (logical_lines line.raw)))) (sym alone) ∙ whole.0) in
    let parts = or_parts (not (is_utf8 line.raw)) _ good in
    record { some = some; one = own.1; read = own.0; utf8 = not-false _ parts.0; allowed = parts.1 }
