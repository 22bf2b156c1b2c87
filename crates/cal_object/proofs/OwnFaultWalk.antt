-- The walk that keeps which properties have come finds the first line that cannot stand, where the lines are nested.
use Rattle.std.proofs.Common.{◌≡◌, ℕ, zero, suc, ◌+◌, ◌<◌, ◌≤◌, Bool, true, false, List, [], ◌∷◌, ◌++◌, length, take, refl, sym, ap, ap₂, ◌∙◌, subst, arith, eq-eqb}
use Rattle.std.specs.Prelude.{not, ◌&&◌, ◌||◌, nat_lt, if◌then◌else◌, find, filter_map, Option, Some, None, option_map, slice_get, codes, bytes_eq}
use Rattle.std.specs.List.{list_any, enumerate_from, range_with_len, last_or, cons_option, AllByRecursion as Each}
use Rattle.std.proofs.lemmas.Bool.{false≢true, ne_eqb}
use Rattle.std.proofs.lemmas.List.{take_more}
use Rattle.std.proofs.lemmas.List.Folds.{list_any-append}
use Rattle.std.proofs.lemmas.Option.{none-some, slice_get_within, get_or_from_slice_get}
use Rattle.std.proofs.lemmas.Slice.Eq.{bytes_eq-Decides}
use Rattle.cal_base.specs.declared.line.Line.{Line}
use Rattle.cal_base.specs.Lines.ComponentTrees.{is_begin, is_end, component_name, depth, innermost, wrong_end}
use Rattle.cal_base.specs.Lines.Nesting.{Opening, open_behind, without_innermost}
use Rattle.cal_base.proofs.Lines.NestingSteps.{Kind, begins, ends, neither, kind_of, open_behind_begin, open_behind_end, open_behind_own, fault_of_stray}
use Rattle.cal_base.proofs.Lines.FaultsFromFront.{AreOpen, innermost_line_is}
use Rattle.cal_model.proofs.Words.EachLemmas.{each-weaker}
use Rattle.cal_model.proofs.Words.ListTests.{any_filter}
use Rattle.cal_model.specs.Objects.ComponentLines.{has_name}
use Rattle.cal_model.specs.Objects.LineValues.{same_number, same_component, is_second, cannot_stand, has_own_fault}
use Rattle.cal_object.specs.declared.property.Property.{Property}
use Rattle.cal_object.specs.declared.seen_names.SeenNames.{SeenNames}
use Rattle.cal_object.specs.Properties.{property_named, test_of, number_of}
use Rattle.cal_object.specs.Seen.{none_seen, has_seen}
use Rattle.cal_object.specs.OwnFaults.{without_first, property_of, fails_as, fails, come_with, come_behind, fails_from}
use Rattle.cal_object.specs.Scan.{own_number}
use Rattle.cal_object.proofs.NestedLines.{Stands, AreNested}
use Rattle.cal_object.proofs.PropertyTable.{is_property, is_of, has_name-is_of, has_own_fault-by_property, fault_by_property, may_repeat}
use Rattle.cal_object.proofs.SeenBits.{seen_none, seen_more}

-- What a component's lines have come with

-- a line of a property stands before the line of a number, in the component that begins at another
abbrev stands_in : List Line → ℕ → Property → ℕ × Line → Bool
stands_in lines begin property earlier = is_of property earlier.1 && same_number (innermost lines earlier.0) (Some begin)

abbrev has_stood : List Line → ℕ → ℕ → Property → Bool
has_stood lines number begin property = list_any (stands_in lines begin property) (enumerate_from 0 (take number lines))

-- the sets say of each open component which properties have stood in it
abbrev Marks : List Line → ℕ → List Opening → List SeenNames → Type 0
Marks lines number [] [] = Unit {0}
Marks lines number [] (seen ∷ come) = ⊥
Marks lines number (opening ∷ around) [] = ⊥
Marks lines number (opening ∷ around) (seen ∷ come) =
    ((property : Property) → has_seen seen property ≡ has_stood lines number opening.line property) × Marks lines number around come

-- One line more

enumerate_more : {X : Type 0} (from : ℕ) (xs : List X) (x : X) (number : ℕ) → from + length xs ≡ number → enumerate_from from (xs ++ x ∷ []) ≡ enumerate_from from xs ++ (number, x) ∷ []
enumerate_more from [] x number count = ap (λ n. (n, x) ∷ []) (let e : from ≡ number = omega (arith, count) in e)
enumerate_more from (y ∷ xs) x number count = ap (λ ones. (from, y) ∷ ones) (enumerate_more (from + 1) xs x number (omega (arith, count)))

taken_more : (lines : List Line) (number : ℕ) (line : Line) → slice_get lines number ≡ Some line → take (number + 1) lines ≡ take number lines ++ line ∷ []
taken_more lines number line here =
    take_more lines number line (slice_get_within lines number line here) ∙ ap (λ one. take number lines ++ one ∷ []) (get_or_from_slice_get lines number line line here)

taken_length : {X : Type 0} (number : ℕ) (xs : List X) → number ≤ length xs → length (take number xs) ≡ number
taken_length zero xs within = refl
taken_length (suc number) [] within = absurd (omega (arith, within))
taken_length (suc number) (x ∷ xs) within = ap suc (taken_length number xs (omega (arith, within)))

or_none : (a b : Bool) → (a || (b || false)) ≡ (a || b)
or_none true b = refl
or_none false true = refl
or_none false false = refl

stood_on : (lines : List Line) (number begin : ℕ) (line : Line) (property : Property) → slice_get lines number ≡ Some line →
    has_stood lines (number + 1) begin property ≡ (has_stood lines number begin property || stands_in lines begin property (number, line))
stood_on lines number begin line property here =
    let within : number < length lines = slice_get_within lines number line here in
    ap (λ front. list_any (stands_in lines begin property) (enumerate_from 0 front)) (taken_more lines number line here)
    ∙ (ap (list_any (stands_in lines begin property)) (enumerate_more 0 (take number lines) line number (let so_many = taken_length number lines (omega (arith, within)) in omega (arith, so_many)))
    ∙ (list_any-append (stands_in lines begin property) (enumerate_from 0 (take number lines)) ((number, line) ∷ [])
    ∙ or_none (has_stood lines number begin property) (stands_in lines begin property (number, line))))

or_false : (a b c : Bool) → a ≡ b → c ≡ false → a ≡ (b || c)
or_false a true c same none = same
or_false a false c same none = same ∙ sym none

and_false : (a b : Bool) → b ≡ false → (a && b) ≡ false
and_false true b none = none
and_false false b none = refl

and_true : (a b : Bool) → b ≡ true → (a && b) ≡ a
and_true true b holds = holds
and_true false b holds = refl

-- A component that begins

abbrev IsBelow : Option ℕ → ℕ → Type 0
IsBelow None bound = Unit {0}
IsBelow (Some place) bound = place < bound

below_further : (found : Option ℕ) (a b : ℕ) → a ≤ b → IsBelow found a → IsBelow found b
below_further None a b le below = tt
below_further (Some place) a b le below = omega (arith, le, below)

last_below : (search_at : ℕ → Option ℕ) → ((place : ℕ) → IsBelow (search_at place) (place + 1)) → (from many : ℕ) (before : Option ℕ) → IsBelow before (from + many) →
    IsBelow (last_or before (filter_map search_at (range_with_len from many))) (from + many)
last_below search_at each from zero before below = below
last_below search_at each from (suc many) before below =
    last_step (search_at from) (each from)
    (λ found ok. below_further (last_or found (filter_map search_at (range_with_len (from + 1) many))) (from + 1 + many) (from + suc many) (omega arith) (last_below search_at each (from + 1) many found ok))
  where
    last_step : (found : Option ℕ) → IsBelow found (from + 1) → ((one : Option ℕ) → IsBelow one (from + 1 + many) → IsBelow (last_or one (filter_map search_at (range_with_len (from + 1) many))) (from + suc many)) →
        IsBelow (last_or before (cons_option found (filter_map search_at (range_with_len (from + 1) many)))) (from + suc many)
    last_step None ok on = on before (below_further before (from + suc many) (from + 1 + many) (omega arith) below)
    last_step (Some place) ok on = on (Some place) (below_further (Some place) (from + 1) (from + 1 + many) (omega arith) ok)

innermost_below : (lines : List Line) (number : ℕ) → IsBelow (innermost lines number) number
innermost_below lines number =
    below_further (innermost lines number) (0 + number) number (omega arith)
    (last_below (λ before. if nat_lt (depth lines before) (depth lines number) then Some before else None) (λ place. at_place (nat_lt (depth lines place) (depth lines number)) place) 0 number None tt)
  where
    at_place : (b : Bool) (place : ℕ) → IsBelow (if b then Some place else None) (place + 1)
    at_place true place = omega arith
    at_place false place = tt

not_same : (found : Option ℕ) (bound number : ℕ) → IsBelow found bound → bound ≤ number → same_number found (Some number) ≡ false
not_same None bound number below le = refl
not_same (Some place) bound number below le = ne_eqb place number (λ same. absurd (omega (arith, below, le, same)))

-- no line stands in a component that begins behind it
none_stood : (lines : List Line) (property : Property) (number from : ℕ) (front : List Line) → from + length front ≤ number →
    list_any (stands_in lines number property) (enumerate_from from front) ≡ false
none_stood lines property number from [] within = refl
none_stood lines property number from (one ∷ front) within =
    ap₂ (λ a b. a || b) (and_false (is_of property one) (same_number (innermost lines from) (Some number)) (not_same (innermost lines from) from number (innermost_below lines from) (omega (arith, within))))
    (none_stood lines property number (from + 1) front (omega (arith, within)))

-- Lines that are no property

no_property : (line : Line) (name : List ℕ) (property : Property) → bytes_eq line.name name ≡ true → property_named name ≡ None → is_of property line ≡ false
no_property line name property same none = ap (is_property property) (ap property_named ((bytes_eq-Decides line.name name).0 same) ∙ none)

begin_none : (line : Line) → is_begin line ≡ true → (property : Property) → is_of property line ≡ false
begin_none line begin property = no_property line (codes "BEGIN") property begin refl

end_none : (line : Line) → is_end line ≡ true → (property : Property) → is_of property line ≡ false
end_none line end property = no_property line (codes "END") property end refl

-- Marks behind a line

each_all : {X : Type 0} {P : X → Type 0} → ((x : X) → P x) → (xs : List X) → Each P xs
each_all fact [] = tt
each_all fact (x ∷ xs) = (fact x, each_all fact xs)

-- a line that stands in none of these components leaves them as they are
abbrev IsElsewhere : List Line → ℕ → Line → Opening → Type 0
IsElsewhere lines number line opening = (property : Property) → stands_in lines opening.line property (number, line) ≡ false

marks_stay : (lines : List Line) (number : ℕ) (line : Line) (open_ones : List Opening) (come : List SeenNames) → slice_get lines number ≡ Some line →
    Each (IsElsewhere lines number line) open_ones → Marks lines number open_ones come → Marks lines (number + 1) open_ones come
marks_stay lines number line [] [] here elsewhere marks = tt
marks_stay lines number line [] (seen ∷ come) here elsewhere marks = absurd marks
marks_stay lines number line (opening ∷ around) [] here elsewhere marks = absurd marks
marks_stay lines number line (opening ∷ around) (seen ∷ come) here elsewhere marks = (
  λ property. or_false (has_seen seen property) (has_stood lines number opening.line property) (stands_in lines opening.line property (number, line)) (marks.0 property) (elsewhere.0 property)
      ∙ sym (stood_on lines number opening.line line property here),
  marks_stay lines number line around come here elsewhere.1 marks.1,
)

marks_without : (lines : List Line) (number : ℕ) (open_ones : List Opening) (come : List SeenNames) → Marks lines number open_ones come → Marks lines number (without_innermost open_ones) (without_first come)
marks_without lines number [] [] marks = tt
marks_without lines number [] (seen ∷ come) marks = absurd marks
marks_without lines number (opening ∷ around) [] marks = absurd marks
marks_without lines number (opening ∷ around) (seen ∷ come) marks = marks.1

lines_below : (lines : List Line) (number : ℕ) (open_ones : List Opening) → AreOpen lines number open_ones → Each (λ (opening : Opening). opening.line < number) open_ones
lines_below lines number [] are = tt
lines_below lines number (opening ∷ around) are =
    (are.0, each-weaker (λ other below. omega (arith, below, are.0)) around (lines_below lines opening.line around are.4))

-- of the components around the innermost one no line of it is
around_elsewhere : (lines : List Line) (number : ℕ) (line : Line) (opening : Opening) (around : List Opening) → AreOpen lines number (opening ∷ around) → Each (IsElsewhere lines number line) around
around_elsewhere lines number line opening around are =
    each-weaker
    (λ other below property. and_false (is_of property line) (same_number (innermost lines number) (Some other.line))
    (ap (λ found. same_number found (Some other.line)) (innermost_line_is lines number opening around are) ∙ ne_eqb opening.line other.line (λ same. absurd (omega (arith, same, below)))))
    around (lines_below lines opening.line around are.4)

-- the innermost component with the property of its line
own_mark : (lines : List Line) (number : ℕ) (line : Line) (opening : Opening) (around : List Opening) (seen : SeenNames) (come : List SeenNames) (found : Option Property) →
    slice_get lines number ≡ Some line → AreOpen lines number (opening ∷ around) → property_of line ≡ found → Marks lines number (opening ∷ around) (seen ∷ come) →
    Marks lines (number + 1) (opening ∷ around) (come_with (seen ∷ come) found)
own_mark lines number line opening around seen come None here are is marks =
    marks_stay lines number line (opening ∷ around) (seen ∷ come) here
    (λ property. ap (λ one. is_property property one && same_number (innermost lines number) (Some opening.line)) is, around_elsewhere lines number line opening around are) marks
own_mark lines number line opening around seen come (Some one) here are is marks = (
  λ property. seen_more seen one property
      ∙ (ap₂ (λ a b. a || b) (marks.0 property)
      (sym (and_true (is_of property line) (same_number (innermost lines number) (Some opening.line))
      (ap (λ inside. same_number inside (Some opening.line)) (innermost_line_is lines number opening around are) ∙ eq-eqb opening.line opening.line refl)
      ∙ ap (is_property property) is))
      ∙ sym (stood_on lines number opening.line line property here)),
  marks_stay lines number line around come here (around_elsewhere lines number line opening around are) marks.1,
)

come_behind_begin : (come : List SeenNames) (line : Line) → is_begin line ≡ true → come_behind come line ≡ none_seen ∷ come
come_behind_begin come line begin = ap (λ b. if b then none_seen ∷ come else (if is_end line then without_first come else come_with come (property_of line))) begin

come_behind_end : (come : List SeenNames) (line : Line) → is_begin line ≡ false → is_end line ≡ true → come_behind come line ≡ without_first come
come_behind_end come line no_begin end =
    ap (λ b. if b then none_seen ∷ come else (if is_end line then without_first come else come_with come (property_of line))) no_begin
    ∙ ap (λ b. if b then without_first come else come_with come (property_of line)) end

come_behind_own : (come : List SeenNames) (line : Line) → is_begin line ≡ false → is_end line ≡ false → come_behind come line ≡ come_with come (property_of line)
come_behind_own come line no_begin no_end =
    ap (λ b. if b then none_seen ∷ come else (if is_end line then without_first come else come_with come (property_of line))) no_begin
    ∙ ap (λ b. if b then without_first come else come_with come (property_of line)) no_end

behind_own : (lines : List Line) (number : ℕ) (line : Line) (open_ones : List Opening) (come : List SeenNames) → Stands lines number open_ones line → Marks lines number open_ones come →
    Marks lines (number + 1) open_ones (come_with come (property_of line))
behind_own lines number line [] [] stands marks = tt
behind_own lines number line [] (seen ∷ come) stands marks = absurd marks
behind_own lines number line (opening ∷ around) [] stands marks = absurd marks
behind_own lines number line (opening ∷ around) (seen ∷ come) stands marks = own_mark lines number line opening around seen come (property_of line) stands.here stands.are refl marks

marks_on : (lines : List Line) (number : ℕ) (line : Line) (open_ones : List Opening) (come : List SeenNames) → Stands lines number open_ones line → Marks lines number open_ones come → Kind line →
    Marks lines (number + 1) (open_behind number open_ones line) (come_behind come line)
marks_on lines number line open_ones come stands marks (begins begin no_end) =
    subst (λ ones. Marks lines (number + 1) ones (come_behind come line)) (sym (open_behind_begin number open_ones line begin))
    (subst (Marks lines (number + 1) (record { line = number; name = component_name line } ∷ open_ones)) (sym (come_behind_begin come line begin)) (
      λ property. seen_none property
          ∙ sym (stood_on lines number number line property stands.here
          ∙ ap₂ (λ a b. a || b) (none_stood lines property number 0 (take number lines) (let within = slice_get_within lines number line stands.here in let so_many = taken_length number lines (omega (arith, within)) in omega (arith, so_many)))
          (ap (λ b. b && same_number (innermost lines number) (Some number)) (begin_none line begin property))),
      marks_stay lines number line open_ones come stands.here (each_all (λ opening property. ap (λ b. b && same_number (innermost lines number) (Some opening.line)) (begin_none line begin property)) open_ones) marks,
    ))
marks_on lines number line open_ones come stands marks (ends no_begin end) =
    subst (λ ones. Marks lines (number + 1) ones (come_behind come line)) (sym (open_behind_end number open_ones line no_begin end))
    (subst (Marks lines (number + 1) (without_innermost open_ones)) (sym (come_behind_end come line no_begin end))
    (marks_without lines (number + 1) open_ones come
    (marks_stay lines number line open_ones come stands.here (each_all (λ opening property. ap (λ b. b && same_number (innermost lines number) (Some opening.line)) (end_none line end property)) open_ones) marks)))
marks_on lines number line open_ones come stands marks (neither no_begin no_end) =
    subst (λ ones. Marks lines (number + 1) ones (come_behind come line)) (sym (open_behind_own number open_ones line no_begin no_end))
    (subst (Marks lines (number + 1) open_ones) (sym (come_behind_own come line no_begin no_end)) (behind_own lines number line open_ones come stands marks))

-- The test of a line

any_alike : {X : Type 0} (p q : X → Bool) → ((x : X) → p x ≡ q x) → (xs : List X) → list_any p xs ≡ list_any q xs
any_alike p q same [] = refl
any_alike p q same (x ∷ xs) = ap₂ (λ a b. a || b) (same x) (any_alike p q same xs)

second_is : (lines : List Line) (number : ℕ) (line : Line) (opening : Opening) (around : List Opening) (property : Property) → AreOpen lines number (opening ∷ around) → property_of line ≡ Some property →
    is_second lines number line ≡ has_stood lines number opening.line property
second_is lines number line opening around property are is =
    any_filter (λ (earlier : ℕ × Line). same_component lines earlier.0 number) (λ (earlier : ℕ × Line). has_name line.name earlier.1) (enumerate_from 0 (take number lines))
    ∙ any_alike (λ (earlier : ℕ × Line). has_name line.name earlier.1 && same_component lines earlier.0 number) (stands_in lines opening.line property)
    (λ earlier. ap₂ (λ a b. a && b) (has_name-is_of line earlier.1 property is) (ap (same_number (innermost lines earlier.0)) (innermost_line_is lines number opening around are)))
    (enumerate_from 0 (take number lines))

test_as : (lines : List Line) (number : ℕ) (line : Line) (open_ones : List Opening) (come : List SeenNames) (property : Property) → Stands lines number open_ones line → Marks lines number open_ones come →
    property_of line ≡ Some property → cannot_stand lines number line (test_of property) ≡ fails_as come line property
test_as lines number line [] come property stands marks is = absurd (outside (kind_of line))
  where
    outside : Kind line → ⊥
    outside (begins begin no_end) = false≢true (sym (begin_none line begin property) ∙ (ap (is_property property) is ∙ eq-eqb (number_of property) (number_of property) refl))
    outside (ends no_begin end) = none-some (wrong_end number) (sym stands.sound ∙ fault_of_stray number line no_begin)
    outside (neither no_begin no_end) = none-some (wrong_end number) (sym stands.sound ∙ fault_of_stray number line no_begin)
test_as lines number line (opening ∷ around) [] property stands marks is = absurd marks
test_as lines number line (opening ∷ around) (seen ∷ come) property stands marks is =
    ap₂ (λ a b. not (test_of property line) || (not a && b)) (may_repeat line property is)
    (second_is lines number line opening around property stands.are is ∙ sym (marks.0 property))

abbrev fails_by : List SeenNames → Line → Option Property → Bool
fails_by come line property = elim property [ None ↦ false | Some found ↦ fails_as come line found ]

test_is : (lines : List Line) (number : ℕ) (line : Line) (open_ones : List Opening) (come : List SeenNames) (found : Option Property) → Stands lines number open_ones line → Marks lines number open_ones come →
    property_of line ≡ found → fault_by_property lines number line found ≡ fails_by come line found
test_is lines number line open_ones come None stands marks is = refl
test_is lines number line open_ones come (Some property) stands marks is = test_as lines number line open_ones come property stands marks is

-- The walk

found_step : (a b : Bool) (number : ℕ) (line : Line) (found : Option (ℕ × Line)) (rest : Option ℕ) → a ≡ b → option_map (λ (one : ℕ × Line). one.0) found ≡ rest →
    option_map (λ (one : ℕ × Line). one.0) (if a then Some (number, line) else found) ≡ (if b then Some number else rest)
found_step true true number line found rest same on = refl
found_step false false number line found rest same on = on
found_step true false number line found rest same on = cc
found_step false true number line found rest same on = cc

own_from : (lines rest : List Line) (number : ℕ) (open_ones : List Opening) (come : List SeenNames) → AreNested lines number open_ones rest → Marks lines number open_ones come →
    option_map (λ (one : ℕ × Line). one.0) (find (λ (one : ℕ × Line). has_own_fault lines one.0 one.1) (enumerate_from number rest)) ≡ fails_from number come rest
own_from lines [] number open_ones come are marks = refl
own_from lines (line ∷ rest) number open_ones come are marks =
    found_step (has_own_fault lines number line) (fails come line) number line (find (λ (one : ℕ × Line). has_own_fault lines one.0 one.1) (enumerate_from (number + 1) rest)) (fails_from (number + 1) (come_behind come line) rest)
    (has_own_fault-by_property lines number line ∙ test_is lines number line open_ones come (property_of line) are.0 marks refl)
    (own_from lines rest (number + 1) (open_behind number open_ones line) (come_behind come line) are.1 (marks_on lines number line open_ones come are.0 marks (kind_of line)))

pub own_number-from_front : (lines : List Line) → AreNested lines 0 [] lines → own_number lines ≡ fails_from 0 [] lines
own_number-from_front lines are = own_from lines lines 0 [] [] are tt
