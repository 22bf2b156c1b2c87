-- The first fault of all lines is the one that is met from the front with the open components.
use Rattle.std.proofs.Common.{◌≡◌, ℕ, ◌+◌, ◌<◌, ◌≤◌, suc, zero, Bool, true, false, List, [], ◌∷◌, ◌++◌, length, take, get_or, Option, Some, None, refl, sym, ap, ◌∙◌, subst, arith, inl, inr, add-one, append_assoc, append-nil, length-append}
use Rattle.std.specs.Prelude.{count_by, filter_map, slice_get, nat_lt, if◌then◌else◌}
use Rattle.std.specs.List.{range_with_len, last_or, cons_option}
use Rattle.std.proofs.lemmas.Bool.{lt-ltb, le-ltb, cases_lt, cases_eq, ne_eqb}
use Rattle.std.proofs.lemmas.Option.{slice_get_within, get_or_from_slice_get}
use Rattle.std.proofs.lemmas.List.Sums.{count_by_more_no, count_by_more_yes}
use Rattle.cal_base.specs.declared.line.Line.{Line}
use Rattle.cal_base.specs.Lines.ComponentTrees.{is_begin, is_end, component_name, depth, innermost, name_at, fault_at, fault_of_line, fault_of_end, nesting_fault, first, or_else, NestingFault, unclosed}
use Rattle.cal_base.proofs.Lines.NestingSteps.{Kind, begins, ends, neither, kind_of, open_behind_begin, open_behind_end, open_behind_own, fault_of_stray}
use Rattle.cal_base.specs.Lines.Nesting.{Opening, fault_of_next, open_behind, fault_from, fault_of_last, innermost_name}

-- a search that finds nothing in a range
filter_map_none : (find : ℕ → Option ℕ) (from many : ℕ) → ((place : ℕ) → from ≤ place → place < from + many → find place ≡ None) → filter_map find (range_with_len from many) ≡ []
filter_map_none find from zero none = refl
filter_map_none find from (suc many) none =
    let here : find from ≡ None = none from (omega arith) (omega arith) in
    rw here (filter_map_none find (from + 1) many (λ place low high. none place (omega arith) (omega arith)))

-- the last place of a range at which a search finds something
last_found : (find : ℕ → Option ℕ) (from many place : ℕ) (before : Option ℕ) → from ≤ place → place < from + many → find place ≡ Some place
    → ((behind : ℕ) → place < behind → behind < from + many → find behind ≡ None) → last_or before (filter_map find (range_with_len from many)) ≡ Some place
last_found find from zero place before low high here none = absurd (omega arith)
last_found find from (suc many) place before low high here none =
    elim (cases_eq from place) [
      | inl same ↦
          let found : find from ≡ Some place = ap find same ∙ here in
          let rest = filter_map_none find (from + 1) many (λ behind after within. none behind (omega arith) (omega arith)) in
          rw (found, rest)
      | inr other ↦
          let further : (before' : Option ℕ) → last_or before' (filter_map find (range_with_len (from + 1) many)) ≡ Some place = λ before'. last_found find (from + 1) many place before' (omega arith) (omega arith) here (λ behind after within. none behind after (omega arith)) in
          elim (find from) as (λ found. last_or before (cons_option found (filter_map find (range_with_len (from + 1) many))) ≡ Some place) [ None ↦ further before | Some x ↦ further (Some x) ]
    ]

-- the last place at which fewer components are open
innermost_is : (lines : List Line) (place number : ℕ) → place < number → depth lines place < depth lines number
    → ((between : ℕ) → place < between → between < number → depth lines number ≤ depth lines between) → innermost lines number ≡ Some place
innermost_is lines place number below fewer least =
    let here : nat_lt (depth lines place) (depth lines number) ≡ true = lt-ltb (depth lines place) (depth lines number) fewer in
    last_found (λ before. if nat_lt (depth lines before) (depth lines number) then Some before else None) 0 number place None (omega arith) (omega arith)
    (ap (λ b. if b then Some place else None) here)
    (λ behind after within. ap (λ b. if b then Some behind else None) (le-ltb (depth lines behind) (depth lines number) (least behind after (omega arith))))

-- nothing is open around a place at which no component is open
innermost_none : (lines : List Line) (number : ℕ) → depth lines number ≡ 0 → innermost lines number ≡ None
innermost_none lines number none =
    ap (last_or None) (filter_map_none (λ before. if nat_lt (depth lines before) (depth lines number) then Some before else None) 0 number
    (λ place low high. ap (λ b. if b then Some place else None) (le-ltb (depth lines place) (depth lines number) (omega arith))))

-- What is open before a line

abbrev begins_before : List Line → ℕ → ℕ
begins_before lines number = count_by is_begin (take number lines)

abbrev ends_before : List Line → ℕ → ℕ
ends_before lines number = count_by is_end (take number lines)

-- These components are open before the line of a number: each begins at its line, and behind that line fewer were never open.
abbrev pub AreOpen : List Line → ℕ → List Opening → Type 0
AreOpen lines number [] = begins_before lines number ≡ ends_before lines number
AreOpen lines number (opening ∷ around) =
    (opening.line < number) × (name_at lines (Some opening.line) ≡ opening.name) × (begins_before lines number ≡ suc (length around) + ends_before lines number)
    × ((between : ℕ) → opening.line < between → between ≤ number → length around < depth lines between) × AreOpen lines opening.line around

counts : (lines : List Line) (number : ℕ) (open_ones : List Opening) → AreOpen lines number open_ones → begins_before lines number ≡ length open_ones + ends_before lines number
counts lines number [] are = omega (arith, are)
counts lines number (opening ∷ around) are = are.2

pub depth_is : (lines : List Line) (number : ℕ) (open_ones : List Opening) → AreOpen lines number open_ones → depth lines number ≡ length open_ones
depth_is lines number open_ones are = omega (arith, counts lines number open_ones are)

pub innermost_line_is : (lines : List Line) (number : ℕ) (opening : Opening) (around : List Opening) → AreOpen lines number (opening ∷ around) → innermost lines number ≡ Some opening.line
innermost_line_is lines number opening around are =
    let outside : depth lines opening.line ≡ length around = depth_is lines opening.line around are.4 in
    let inside : depth lines number ≡ suc (length around) = depth_is lines number (opening ∷ around) are in
    innermost_is lines opening.line number are.0 (omega arith) (λ between after before. let deep : length around < depth lines between = are.3 between after (omega arith) in omega arith)

innermost_name_is : (lines : List Line) (number : ℕ) (open_ones : List Opening) → AreOpen lines number open_ones → name_at lines (innermost lines number) ≡ innermost_name open_ones
innermost_name_is lines number [] are = ap (name_at lines) (innermost_none lines number (depth_is lines number [] are))
innermost_name_is lines number (opening ∷ around) are = ap (name_at lines) (innermost_line_is lines number opening around are) ∙ are.1

-- the fault of a line
fault_is : (lines : List Line) (number : ℕ) (open_ones : List Opening) (line : Line) → AreOpen lines number open_ones → fault_of_line lines number line ≡ fault_of_next number open_ones line
fault_is lines number open_ones line are = rw (innermost_name_is lines number open_ones are, depth_is lines number open_ones are)

-- One line more

count_yes : (test : Line → Bool) (lines : List Line) (number : ℕ) (line : Line) → slice_get lines number ≡ Some line → test line ≡ true → count_by test (take (suc number) lines) ≡ suc (count_by test (take number lines))
count_yes test lines number line here is_so =
    let within : number < length lines = slice_get_within lines number line here in
    let same : get_or lines number line ≡ line = get_or_from_slice_get lines number line line here in
    let more : count_by test (take (number + 1) lines) ≡ count_by test (take number lines) + 1 = count_by_more_yes test lines number line within (ap test same ∙ is_so) in
    simp add-one at more

count_no : (test : Line → Bool) (lines : List Line) (number : ℕ) (line : Line) → slice_get lines number ≡ Some line → test line ≡ false → count_by test (take (suc number) lines) ≡ count_by test (take number lines)
count_no test lines number line here is_not =
    let within : number < length lines = slice_get_within lines number line here in
    let same : get_or lines number line ≡ line = get_or_from_slice_get lines number line line here in
    let more : count_by test (take (number + 1) lines) ≡ count_by test (take number lines) = count_by_more_no test lines number line within (ap test same ∙ is_not) in
    simp add-one at more

-- behind a BEGIN its component is open as well
open_begin : (lines : List Line) (number : ℕ) (open_ones : List Opening) (line : Line) → AreOpen lines number open_ones → slice_get lines number ≡ Some line → is_begin line ≡ true → is_end line ≡ false
    → AreOpen lines (suc number) (record { line = number; name = component_name line } ∷ open_ones)
open_begin lines number open_ones line are here begin no_end =
    let more : begins_before lines (suc number) ≡ suc (begins_before lines number) = count_yes is_begin lines number line here begin in
    let same : ends_before lines (suc number) ≡ ends_before lines number = count_no is_end lines number line here no_end in
    let had : begins_before lines number ≡ length open_ones + ends_before lines number = counts lines number open_ones are in (
      omega arith,
      ap (λ found. elim found [ None ↦ [] | Some begun ↦ component_name begun ]) here,
      omega arith,
      λ between after before. let last : between ≡ suc number = omega arith in subst (λ place. length open_ones < depth lines place) (sym last) (omega arith),
      are,
    )

-- behind a line of its own the same components are open
open_own : (lines : List Line) (number : ℕ) (opening : Opening) (around : List Opening) (line : Line) → AreOpen lines number (opening ∷ around) → slice_get lines number ≡ Some line → is_begin line ≡ false → is_end line ≡ false
    → AreOpen lines (suc number) (opening ∷ around)
open_own lines number opening around line are here no_begin no_end =
    let same_begins : begins_before lines (suc number) ≡ begins_before lines number = count_no is_begin lines number line here no_begin in
    let same_ends : ends_before lines (suc number) ≡ ends_before lines number = count_no is_end lines number line here no_end in
    let had : begins_before lines number ≡ suc (length around) + ends_before lines number = are.2 in (
      omega (arith, are.0),
      are.1,
      omega arith,
      λ between after before. elim (cases_lt between (suc number)) [
        | inl within ↦ are.3 between after (omega arith)
        | inr past ↦ let last : between ≡ suc number = omega arith in subst (λ place. length around < depth lines place) (sym last) (omega arith)
      ],
      are.4,
    )

-- behind the END of the innermost component the others are open
open_end : (lines : List Line) (number : ℕ) (opening : Opening) (around : List Opening) (line : Line) → AreOpen lines number (opening ∷ around) → slice_get lines number ≡ Some line → is_begin line ≡ false → is_end line ≡ true
    → AreOpen lines (suc number) around
open_end lines number opening [] line are here no_begin end =
    let same_begins : begins_before lines (suc number) ≡ begins_before lines number = count_no is_begin lines number line here no_begin in
    let more_ends : ends_before lines (suc number) ≡ suc (ends_before lines number) = count_yes is_end lines number line here end in
    omega (arith, are.2)
open_end lines number opening (outer ∷ around) line are here no_begin end =
    let same_begins : begins_before lines (suc number) ≡ begins_before lines number = count_no is_begin lines number line here no_begin in
    let more_ends : ends_before lines (suc number) ≡ suc (ends_before lines number) = count_yes is_end lines number line here end in
    let had : begins_before lines number ≡ suc (suc (length around)) + ends_before lines number = are.2 in (
      omega (arith, are.0, are.4.0),
      are.4.1,
      omega arith,
      λ between after before. elim (cases_lt opening.line between) [
        | inl inside ↦ elim (cases_lt between (suc number)) [
          | inl within ↦ let deep : suc (length around) < depth lines between = are.3 between inside (omega arith) in omega arith
          | inr past ↦ let last : between ≡ suc number = omega arith in subst (λ place. length around < depth lines place) (sym last) (omega arith)
        ]
        | inr outside ↦ are.4.3 between after outside
      ],
      are.4.4,
    )

-- the faults from a line on, and that of the end
abbrev faults_behind : List Line → ℕ → ℕ → Option NestingFault
faults_behind lines number many = or_else (first (filter_map (fault_at lines) (range_with_len number many))) (fault_of_end lines)

or_else_first : (found : Option NestingFault) (rest : List NestingFault) (last : Option NestingFault) → or_else (first (cons_option found rest)) last ≡ or_else found (or_else (first rest) last)
or_else_first None rest last = refl
or_else_first (Some fault) rest last = refl

-- one fault before the others
faults_behind_one : (lines : List Line) (number many : ℕ) → faults_behind lines number (suc many) ≡ or_else (fault_at lines number) (faults_behind lines (suc number) many)
faults_behind_one lines number many =
    or_else_first (fault_at lines number) (filter_map (fault_at lines) (range_with_len (number + 1) many)) (fault_of_end lines)
    ∙ ap (λ next. or_else (fault_at lines number) (faults_behind lines next many)) (add-one number)

-- behind a line without fault
pub open_on : (lines : List Line) (number : ℕ) (open_ones : List Opening) (line : Line) → AreOpen lines number open_ones → slice_get lines number ≡ Some line → fault_of_next number open_ones line ≡ None → Kind line
    → AreOpen lines (suc number) (open_behind number open_ones line)
open_on lines number open_ones line are here none (begins begin no_end) =
    subst (AreOpen lines (suc number)) (sym (open_behind_begin number open_ones line begin)) (open_begin lines number open_ones line are here begin no_end)
open_on lines number [] line are here none (ends no_begin end) = cc (fault_of_stray number line no_begin)
open_on lines number (opening ∷ around) line are here none (ends no_begin end) =
    subst (AreOpen lines (suc number)) (sym (open_behind_end number (opening ∷ around) line no_begin end)) (open_end lines number opening around line are here no_begin end)
open_on lines number [] line are here none (neither no_begin no_end) = cc (fault_of_stray number line no_begin)
open_on lines number (opening ∷ around) line are here none (neither no_begin no_end) =
    subst (AreOpen lines (suc number)) (sym (open_behind_own number (opening ∷ around) line no_begin no_end)) (open_own lines number opening around line are here no_begin no_end)

or_else_on : (fault one other : Option NestingFault) → (fault ≡ None → one ≡ other) → or_else fault one ≡ or_else fault other
or_else_on None one other same = same refl
or_else_on (Some fault) one other same = refl

pub slice_get_seam : (front rest : List Line) (line : Line) → slice_get (front ++ line ∷ rest) (length front) ≡ Some line
slice_get_seam [] rest line = refl
slice_get_seam (one ∷ front) rest line = slice_get_seam front rest line

-- at the end
end_is : (lines : List Line) (number : ℕ) (open_ones : List Opening) → number ≡ length lines → AreOpen lines number open_ones → fault_of_end lines ≡ fault_of_last number open_ones
end_is [] number [] so_many are = rw so_many
end_is [] number (opening ∷ around) so_many are = let none : number ≡ 0 = so_many in absurd (omega (arith, are.0))
end_is (line ∷ lines) number [] so_many are =
    ap (λ found. elim found [ None ↦ None | Some place ↦ Some (unclosed place) ]) (ap (innermost (line ∷ lines)) (sym so_many) ∙ innermost_none (line ∷ lines) number (depth_is (line ∷ lines) number [] are))
    ∙ ap (λ b. if b then Some (unclosed 0) else None) (sym (ne_eqb number 0 (λ none. absurd (omega (arith, so_many, none)))))
end_is (line ∷ lines) number (opening ∷ around) so_many are =
    ap (λ found. elim found [ None ↦ None | Some place ↦ Some (unclosed place) ]) (ap (innermost (line ∷ lines)) (sym so_many) ∙ innermost_line_is (line ∷ lines) number opening around are)

pub so_many_on : (front : List Line) (line : Line) (number : ℕ) → number ≡ length front → suc number ≡ length (front ++ line ∷ [])
so_many_on front line number so_many = simp length-append (omega (arith, so_many))

faults_from_front : (rest front lines : List Line) (number : ℕ) (open_ones : List Opening) → lines ≡ front ++ rest → number ≡ length front → AreOpen lines number open_ones
    → faults_behind lines number (length rest) ≡ fault_from number open_ones rest
faults_from_front [] front lines number open_ones all so_many are =
    end_is lines number open_ones (so_many ∙ ap length (sym (all ∙ append-nil front))) are
faults_from_front (line ∷ rest) front lines number open_ones all so_many are =
    let here : slice_get lines number ≡ Some line = rw (all, so_many) (slice_get_seam front rest line) in
    let now : fault_at lines number ≡ fault_of_next number open_ones line = ap (λ found. elim found [ None ↦ None | Some one ↦ fault_of_line lines number one ]) here ∙ fault_is lines number open_ones line are in
    let on : fault_of_next number open_ones line ≡ None → faults_behind lines (suc number) (length rest) ≡ fault_from (suc number) (open_behind number open_ones line) rest =
    λ none. faults_from_front rest (front ++ line ∷ []) lines (suc number) (open_behind number open_ones line) (all ∙ sym (append_assoc front (line ∷ []) rest)) (so_many_on front line number so_many)
    (open_on lines number open_ones line are here none (kind_of line)) in
    faults_behind_one lines number (length rest) ∙ (ap (λ fault. or_else fault (faults_behind lines (suc number) (length rest))) now
    ∙ or_else_on (fault_of_next number open_ones line) (faults_behind lines (suc number) (length rest)) (fault_from (suc number) (open_behind number open_ones line) rest) on)

-- the first fault of all lines
pub nesting_fault-from_front : (lines : List Line) → nesting_fault lines ≡ fault_from 0 [] lines
nesting_fault-from_front lines = faults_from_front lines [] lines 0 [] refl refl refl
