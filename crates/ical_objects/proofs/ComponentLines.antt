-- The BEGIN and END lines of a component's name are read from their own texts, where that name stood as the value of such a line.
use Rattle.std.proofs.Common.{◌≡◌, ℕ, ◌<◌, zero, suc, Bool, true, false, not, List, [], ◌∷◌, ◌++◌, map, length, drop, Option, Some, None, Result, Ok, Err, refl, sym, ap, ◌∙◌, subst, arith, inl, inr, ◌⊎◌, append-nil}
use Rattle.std.specs.Prelude.{All, nat_lt, if◌then◌else◌, ◌&&◌, ◌==◌, codes, filter, filter_map, flat_map, option_map, option_and_then}
use Rattle.std.specs.List.{AllByRecursion, list_any, cons_option}
use Rattle.std.specs.Str.{is_utf8, chars}
use Rattle.std.proofs.Math.Utf8.{encode}
use Rattle.std.proofs.lemmas.Bool.{cases_Bool, or_parts, or_from, not-false, eqb-true, lt-ltb, ne_eqb, or_cases, and_parts}
use Rattle.cal_base.specs.declared.line.Line.{Line}
use Rattle.cal_base.specs.declared.line.Param.{Param}
use Rattle.cal_base.specs.Texts.Text.{raised_all}
use Rattle.cal_base.specs.Texts.Octets.{colon, semicolon, space, tab}
use Rattle.cal_base.specs.Lines.ContentLines.{Physical, physical_from, physical_lines, is_refused, is_refused_character, is_outside_grammar, groups, joined, begins_with_blank, unfolded, place_of, logical_lines, quoted_after, first_unquoted, unquoted_pieces, every, param_of, is_name, line_of_pieces, line_of_parts, line_of, lesser, least, Placed, placed_line, line_fault, lines_of, read_lines}
use Rattle.cal_base.specs.Lines.ComponentTrees.{component_name}
use Rattle.cal_base.specs.Lines.LineGrammar.{IsReadLine}
use Rattle.ical_objects.specs.Printing.{begin_line, end_line}
use Rattle.ical_objects.proofs.CleanTexts.{IsClean, IsClean-nil, IsClean-from_tests, is_utf8-IsClean, allowed-IsClean, IsClean-append, IsClean-behind, IsClean-raised_all, pieces-IsClean}

-- What is known of the text of a line that is read

some_of_option_map : {X Y : Type 0} (f : X → Y) (option : Option X) (y : Y) → option_map f option ≡ Some y → (x : X) × (option ≡ Some x) × (f x ≡ y)
some_of_option_map f None y some = cc
some_of_option_map f (Some x) y some = (x, refl, cc)

some_of_and_then : {X Y : Type 0} (f : X → Option Y) (option : Option X) (y : Y) → option_and_then f option ≡ Some y → (x : X) × (option ≡ Some x) × (f x ≡ Some y)
some_of_and_then f None y some = cc
some_of_and_then f (Some x) y some = (x, refl, some)

option_cases : {X : Type 0} (option : Option X) → (option ≡ None) ⊎ ((x : X) × (option ≡ Some x))
option_cases None = inl refl
option_cases (Some x) = inr (x, refl)

-- the value stands behind a colon in the text
text_of_first_unquoted : (separator : ℕ) (quoted : Bool) (text : List ℕ) (parts : List ℕ × List ℕ) → first_unquoted separator quoted text ≡ Some parts → text ≡ parts.0 ++ separator ∷ parts.1
text_of_first_unquoted separator quoted [] parts found = cc
text_of_first_unquoted separator quoted (octet ∷ text) parts found =
    let later : Option (List ℕ × List ℕ) = option_map (λ (these : List ℕ × List ℕ). (octet ∷ these.0, these.1)) (first_unquoted separator (quoted_after quoted octet) text) in
    elim (cases_Bool ((octet == separator) && not quoted)) [
      | inl here ↦
          let same : octet ≡ separator = eqb-true octet separator (and_parts (octet == separator) (not quoted) here).0 in
          let now : Some ([], text) ≡ Some parts = subst (λ b. (elim b [ true ↦ Some ([], text) | false ↦ later ]) ≡ Some parts) here found in
          let are : ([], text) ≡ parts = cc now in
          subst (λ (these : List ℕ × List ℕ). octet ∷ text ≡ these.0 ++ separator ∷ these.1) are (ap (λ first. first ∷ text) same)
      | inr further ↦
          let now : later ≡ Some parts = subst (λ b. (elim b [ true ↦ Some ([], text) | false ↦ later ]) ≡ Some parts) further found in
          let behind = some_of_option_map (λ (these : List ℕ × List ℕ). (octet ∷ these.0, these.1)) (first_unquoted separator (quoted_after quoted octet) text) parts now in
          let rest : text ≡ behind.0.0 ++ separator ∷ behind.0.1 = text_of_first_unquoted separator (quoted_after quoted octet) text behind.0 behind.1 in
          subst (λ (these : List ℕ × List ℕ). octet ∷ text ≡ these.0 ++ separator ∷ these.1) behind.2 (ap (λ more. octet ∷ more) rest)
    ]

-- what a line of some pieces has
record IsMadeOf (raw value : List ℕ) (line : Line) : Type 0 where
  raw_is : line.raw ≡ raw
  value_is : line.value ≡ value

made_of_pieces : (raw value : List ℕ) (parts : List (List ℕ)) (line : Line) → line_of_pieces raw value parts ≡ Some line → IsMadeOf raw value line
made_of_pieces raw value [] line found = cc
made_of_pieces raw value (name ∷ params) line found =
    let made : List Param → Line = λ those. record { name = raised_all name; params = those; value = value; raw = raw } in
    elim (cases_Bool (is_name name)) [
      | inl named ↦ let now : option_map made (every (map param_of params)) ≡ Some line = subst (λ b. (if b then option_map made (every (map param_of params)) else None) ≡ Some line) named found in
          let same : line ≡ made (some_of_option_map made (every (map param_of params)) line now).0 = sym (some_of_option_map made (every (map param_of params)) line now).2 in
          record { raw_is = ap (λ (one : Line). one.raw) same; value_is = ap (λ (one : Line). one.value) same }
      | inr unnamed ↦ let now : ◌≡◌ {A = Option Line} None (Some line) = subst (λ b. (if b then option_map made (every (map param_of params)) else None) ≡ Some line) unnamed found in cc now
    ]

-- the value of a line of a clean text is clean
IsClean-value : (raw : List ℕ) (line : Line) → IsClean raw → line_of raw ≡ Some line → IsClean line.value
IsClean-value raw line clean found =
    let parts = some_of_and_then (line_of_parts raw) (first_unquoted colon false raw) line found in
    let made = made_of_pieces raw parts.0.1 (unquoted_pieces semicolon false parts.0.0) line parts.2 in
    subst IsClean (sym made.value_is) (IsClean-behind parts.0.0 parts.0.1 colon (omega arith) (subst IsClean (text_of_first_unquoted colon false raw parts.0 parts.1) clean))

raw_of_line : (raw : List ℕ) (line : Line) → line_of raw ≡ Some line → line.raw ≡ raw
raw_of_line raw line found =
    let parts = some_of_and_then (line_of_parts raw) (first_unquoted colon false raw) line found in
    (made_of_pieces raw parts.0.1 (unquoted_pieces semicolon false parts.0.0) line parts.2).raw_is

-- Physical lines that are each clean, and all but the first of which begin with a blank
abbrev IsCleanGroup : List Physical → Type 0
IsCleanGroup [] = Unit {0}
IsCleanGroup (physical ∷ folds) = (is_refused physical ≡ false) × AllByRecursion (λ (fold : Physical). (is_refused fold ≡ false) × (begins_with_blank fold.text ≡ true)) folds

IsCleanGroup-joined : (physical : Physical) (groups' : List (List Physical)) → is_refused physical ≡ false → AllByRecursion IsCleanGroup groups' → AllByRecursion IsCleanGroup (joined physical groups')
IsCleanGroup-joined physical [] clean all = ((clean, tt), tt)
IsCleanGroup-joined physical ([] ∷ groups') clean all = ((clean, tt), all)
IsCleanGroup-joined physical ((first ∷ folds) ∷ groups') clean all =
    let with_fold = (physical ∷ first ∷ folds) ∷ groups' in
    let without_fold = (physical ∷ []) ∷ (first ∷ folds) ∷ groups' in
    elim (cases_Bool (begins_with_blank first.text)) [
      | inl blank ↦ subst (λ b. AllByRecursion IsCleanGroup (if b then with_fold else without_fold)) (sym blank) ((clean, ((all.0.0, blank), all.0.1)), all.1)
      | inr other ↦ subst (λ b. AllByRecursion IsCleanGroup (if b then with_fold else without_fold)) (sym other) ((clean, tt), all)
    ]

IsCleanGroup-groups : (physicals : List Physical) → AllByRecursion (λ physical. is_refused physical ≡ false) physicals → AllByRecursion IsCleanGroup (groups physicals)
IsCleanGroup-groups [] clean = tt
IsCleanGroup-groups (physical ∷ more) clean = IsCleanGroup-joined physical (groups more) clean.0 (IsCleanGroup-groups more clean.1)

IsClean-physical : (physical : Physical) → is_refused physical ≡ false → IsClean physical.text
IsClean-physical physical clean =
    let parts = or_parts (not (is_utf8 physical.text)) (list_any is_refused_character (chars physical.text)) clean in
    IsClean-from_tests physical.text (not-false (is_utf8 physical.text) parts.0) parts.1

IsClean-unblanked : (text : List ℕ) → IsClean text → begins_with_blank text ≡ true → IsClean (drop 1 text)
IsClean-unblanked [] clean blank = cc
IsClean-unblanked (octet ∷ text) clean blank =
    let ascii : octet < 128 = elim (or_cases (octet == space) (octet == tab) blank) [ inl is_space ↦ omega (arith, eqb-true octet space is_space) | inr is_tab ↦ omega (arith, eqb-true octet tab is_tab) ] in
    IsClean-behind [] text octet ascii clean

IsClean-folds : (folds : List Physical) → AllByRecursion (λ (fold : Physical). (is_refused fold ≡ false) × (begins_with_blank fold.text ≡ true)) folds → IsClean (flat_map (λ (fold : Physical). drop 1 fold.text) folds)
IsClean-folds [] clean = IsClean-nil
IsClean-folds (fold ∷ folds) clean =
    IsClean-append (drop 1 fold.text) (flat_map (λ (one : Physical). drop 1 one.text) folds) (IsClean-unblanked fold.text (IsClean-physical fold clean.0.0) clean.0.1) (IsClean-folds folds clean.1)

IsClean-unfolded : (group : List Physical) → IsCleanGroup group → IsClean (unfolded group)
IsClean-unfolded [] clean = IsClean-nil
IsClean-unfolded (physical ∷ folds) clean =
    IsClean-append physical.text (flat_map (λ (fold : Physical). drop 1 fold.text) folds) (IsClean-physical physical clean.0) (IsClean-folds folds clean.1)

some-lesser : (place : ℕ) (other : Option ℕ) → lesser place other ≡ None → ⊥
some-lesser place None none = cc
some-lesser place (Some other) none = cc

-- the physical lines before the first fault
clean_physicals : (physicals : List Physical) (others : List ℕ) → least (map (λ (physical : Physical). physical.place) (filter is_refused physicals) ++ others) ≡ None → AllByRecursion (λ physical. is_refused physical ≡ false) physicals
clean_physicals [] others none = tt
clean_physicals (physical ∷ more) others none =
    let places : Bool → List ℕ = λ b. map (λ (one : Physical). one.place) (if b then physical ∷ filter is_refused more else filter is_refused more) ++ others in
    elim (cases_Bool (is_refused physical)) [
      | inl refused ↦ absurd (some-lesser physical.place (least (map (λ (one : Physical). one.place) (filter is_refused more) ++ others)) (subst (λ b. least (places b) ≡ None) refused none))
      | inr clean ↦ (clean, clean_physicals more others (subst (λ b. least (places b) ≡ None) clean none))
    ]

-- the group of the first line that is read
group_of_line : (P : List Physical → Type 0) (many : List (List Physical)) (line : Line) (rest : List Line) → AllByRecursion P many → map (λ (placed : Placed). placed.line) (filter_map placed_line many) ≡ line ∷ rest
    → (group : List Physical) × P group × (line_of (unfolded group) ≡ Some line)
group_of_line P [] line rest all found = cc
group_of_line P (group ∷ many) line rest all found =
    let shown : Option Line → List Line = λ option.
    map (λ (placed : Placed). placed.line) (cons_option (option_map (λ one. record { place = place_of group; line = one }) option) (filter_map placed_line many)) in
    elim (option_cases (line_of (unfolded group))) [
      | inl none ↦ group_of_line P many line rest all.1 (subst (λ option. shown option ≡ line ∷ rest) none found)
      | inr some ↦
          let now : shown (Some some.0) ≡ line ∷ rest = subst (λ option. shown option ≡ line ∷ rest) some.1 found in
          let same : some.0 ≡ line = cc now in
          (group, all.0, some.1 ∙ ap Some same)
    ]

AllByRecursion-filter : {X : Type 0} (P : X → Type 0) (test : X → Bool) (xs : List X) → AllByRecursion P xs → AllByRecursion P (filter test xs)
AllByRecursion-filter P test [] all = tt
AllByRecursion-filter P test (x ∷ xs) all = elim (test x) as (λ b. AllByRecursion P (if b then x ∷ filter test xs else filter test xs)) [ true ↦ (all.0, AllByRecursion-filter P test xs all.1) | false ↦ AllByRecursion-filter P test xs all.1 ]

-- a text that is read as lines
read_parts : (fault : Option ℕ) (lines read : List Line) → ◌≡◌ {A = Result (List Line) ℕ} (elim fault [ None ↦ Ok lines | Some place ↦ Err place ]) (Ok read) → (fault ≡ None) × (lines ≡ read)
read_parts None lines read is_read = (refl, cc)
read_parts (Some place) lines read is_read = cc

clean_groups : (octets : List ℕ) → line_fault octets ≡ None → AllByRecursion IsCleanGroup (logical_lines octets)
clean_groups octets none =
    AllByRecursion-filter IsCleanGroup (λ group. nat_lt 0 (length (unfolded group))) (groups (physical_lines octets))
    (IsCleanGroup-groups (physical_lines octets) (clean_physicals (physical_lines octets) (map place_of (filter is_outside_grammar (logical_lines octets))) none))

IsClean-read : (line : Line) → IsReadLine line → IsClean line.value
IsClean-read line read =
    let parts = read_parts (line_fault line.raw) (lines_of line.raw) (line ∷ []) read in
    let group = group_of_line IsCleanGroup (logical_lines line.raw) line [] (clean_groups line.raw parts.0) parts.1 in
    IsClean-value (unfolded group.0) line (IsClean-unfolded group.0 group.1) group.2

-- A clean text of a line is read as that line

abbrev sole : List ℕ → Physical
sole text = record { place = 0; text = text }

physical_lines-one : (text : List ℕ) → IsClean text → 0 < length text → physical_lines text ≡ sole text ∷ []
physical_lines-one text clean some =
    ap (physical_from 0) (pieces-IsClean text clean) ∙ ap (λ b. if b then [] else sole text ∷ []) (ne_eqb (length text) 0 (λ none. absurd (omega (arith, none, some))))

logical_lines-one : (text : List ℕ) → IsClean text → 0 < length text → logical_lines text ≡ (sole text ∷ []) ∷ []
logical_lines-one text clean some =
    ap (λ physicals. filter (λ group. nat_lt 0 (length (unfolded group))) (groups physicals)) (physical_lines-one text clean some)
    ∙ ap (λ b. if b then (sole text ∷ []) ∷ [] else []) (ap (λ these. nat_lt 0 (length these)) (append-nil text) ∙ lt-ltb 0 (length text) some)

is_refused-sole : (text : List ℕ) → IsClean text → is_refused (sole text) ≡ false
is_refused-sole text clean = or_from (not (is_utf8 text)) (list_any is_refused_character (chars text)) (ap not (is_utf8-IsClean text clean)) (allowed-IsClean text clean)

line_fault-one : (text : List ℕ) (line : Line) → IsClean text → 0 < length text → line_of text ≡ Some line → line_fault text ≡ None
line_fault-one text line clean some found =
    ap (λ physicals. least (map (λ (physical : Physical). physical.place) (filter is_refused physicals) ++ map place_of (filter is_outside_grammar (logical_lines text)))) (physical_lines-one text clean some)
    ∙ (ap (λ b. least (map (λ (physical : Physical). physical.place) (if b then sole text ∷ [] else []) ++ map place_of (filter is_outside_grammar (logical_lines text)))) (is_refused-sole text clean)
    ∙ (ap (λ these. least (map place_of (filter is_outside_grammar these))) (logical_lines-one text clean some)
    ∙ ap (λ option. least (map place_of (if elim option [ None ↦ true | Some one ↦ false ] then (sole text ∷ []) ∷ [] else []))) (ap line_of (append-nil text) ∙ found)))

lines_of-one : (text : List ℕ) (line : Line) → IsClean text → 0 < length text → line_of text ≡ Some line → lines_of text ≡ line ∷ []
lines_of-one text line clean some found =
    ap (λ these. map (λ (placed : Placed). placed.line) (filter_map placed_line these)) (logical_lines-one text clean some)
    ∙ ap (λ option. map (λ (placed : Placed). placed.line) (cons_option (option_map (λ one. record { place = 0; line = one }) option) [])) (ap line_of (append-nil text) ∙ found)

read_lines-one : (text : List ℕ) (line : Line) → IsClean text → 0 < length text → line_of text ≡ Some line → read_lines text ≡ Ok (line ∷ [])
read_lines-one text line clean some found =
    ap (λ fault. elim fault [ None ↦ Ok (lines_of text) | Some place ↦ Err place ]) (line_fault-one text line clean some found) ∙ ap Ok (lines_of-one text line clean some found)

IsClean-begin : IsClean (codes "BEGIN:")
unfolding encode
IsClean-begin = record { characters = codes "BEGIN:"; scalar_ones = refl; spelled = refl; allowed = refl }

IsClean-end : IsClean (codes "END:")
unfolding encode
IsClean-end = record { characters = codes "END:"; scalar_ones = refl; spelled = refl; allowed = refl }

pub IsReadLine-begin_line : (line : Line) → IsReadLine line → IsReadLine (begin_line (component_name line))
IsReadLine-begin_line line read =
    read_lines-one (codes "BEGIN:" ++ component_name line) (begin_line (component_name line)) (IsClean-append (codes "BEGIN:") (component_name line) IsClean-begin (IsClean-raised_all line.value (IsClean-read line read))) (omega arith) refl

pub IsReadLine-end_line : (line : Line) → IsReadLine line → IsReadLine (end_line (component_name line))
IsReadLine-end_line line read =
    read_lines-one (codes "END:" ++ component_name line) (end_line (component_name line)) (IsClean-append (codes "END:") (component_name line) IsClean-end (IsClean-raised_all line.value (IsClean-read line read))) (omega arith) refl

-- Each line that is read is the one that is read from its own text

some_of_line : (raw : List ℕ) (line : Line) → line_of raw ≡ Some line → 0 < length raw
some_of_line [] line found = cc
some_of_line (octet ∷ raw) line found = omega arith

read_groups : (many : List (List Physical)) → AllByRecursion IsCleanGroup many → AllByRecursion IsReadLine (map (λ (placed : Placed). placed.line) (filter_map placed_line many))
read_groups [] clean = tt
read_groups (group ∷ many) clean =
    let shown : Option Line → List Line = λ option.
    map (λ (placed : Placed). placed.line) (cons_option (option_map (λ one. record { place = place_of group; line = one }) option) (filter_map placed_line many)) in
    elim (option_cases (line_of (unfolded group))) [
      | inl none ↦ subst (λ option. AllByRecursion IsReadLine (shown option)) (sym none) (read_groups many clean.1)
      | inr some ↦
          let read : read_lines (unfolded group) ≡ Ok (some.0 ∷ []) = read_lines-one (unfolded group) some.0 (IsClean-unfolded group clean.0) (some_of_line (unfolded group) some.0 some.1) some.1 in
          let is_read : IsReadLine some.0 = subst (λ raw. read_lines raw ≡ Ok (some.0 ∷ [])) (sym (raw_of_line (unfolded group) some.0 some.1)) read in
          subst (λ option. AllByRecursion IsReadLine (shown option)) (sym some.1) (is_read, read_groups many clean.1)
    ]

All-AllByRecursion : {X : Type 0} (P : X → Type 0) (xs : List X) → AllByRecursion P xs → All P xs
All-AllByRecursion P [] all k d within = absurd (omega (arith, within))
All-AllByRecursion P (x ∷ xs) all zero d within = all.0
All-AllByRecursion P (x ∷ xs) all (suc k) d within = All-AllByRecursion P xs all.1 k d (omega (arith, within))

pub IsReadLine-read_lines : (octets : List ℕ) (lines : List Line) → read_lines octets ≡ Ok lines → All IsReadLine lines
IsReadLine-read_lines octets lines read =
    let parts = read_parts (line_fault octets) (lines_of octets) lines read in
    subst (All IsReadLine) parts.1 (All-AllByRecursion IsReadLine (lines_of octets) (read_groups (logical_lines octets) (clean_groups octets parts.0)))
