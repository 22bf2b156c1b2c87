-- What one line more does to what `build` keeps.
use Rattle.std.proofs.Common.{◌≡◌, ℕ, ◌<◌, ◌≤◌, suc, true, false, not, List, [], ◌∷◌, ◌++◌, map, length, Some, None, refl, sym, ap, ◌∙◌, arith, append_assoc}
use Rattle.std.specs.Prelude.{if◌then◌else◌}
use Rattle.std.specs.Str.{bytes_eq}
use Rattle.std.proofs.lemmas.Bool.{le-leb, lt-leb}
use Rattle.std.proofs.lemmas.List.{length-map}
use Rattle.cal_base.specs.declared.line.Line.{Line}
use Rattle.cal_base.specs.declared.line.Node.{Node}
use Rattle.cal_base.specs.Lines.ComponentTrees.{is_begin, is_end, component_name, NestingFault, wrong_end, too_deep, or_else, Level, component, with_line, with_begin, levels_before, outermost}
use Rattle.ical_objects.specs.declared.fault.TreeFault.TheVariants.{WrongEnd, TooDeep}
use Rattle.ical_objects.specs.declared.open_component.OpenComponent.{OpenComponent}
use Rattle.ical_objects.specs.declared.from_lines.Progress.TheVariants.{Nothing, Within, Whole}
use Rattle.cal_base.specs.Lines.Nesting.{Opening, fault_of_next, open_behind, fault_from}
use Rattle.ical_objects.specs.Building.{IsBehind, IsStep, IsStop, opening_of, openings, with_so_far, closed, tree_with, whole_node, ended}
use Rattle.cal_base.proofs.Lines.NestingSteps.{begins, ends, neither, kind_of, open_behind_begin, open_behind_end, open_behind_own, fault_of_first, fault_of_stray, fault_of_later, fault_of_begin, fault_of_end, fault_of_own, before_begin, before_end, before_own}
use Rattle.ical_objects.proofs.PrintedTrees.{IsSome_level, some_level, with_child, level_alone, with_begin-with_child}

-- Faults

stops : (number : ℕ) (open_ones : List Opening) (line : Line) (fault : NestingFault) → fault_of_next number open_ones line ≡ Some fault → (rest : List Line) → fault_from number open_ones (line ∷ rest) ≡ Some fault
stops number open_ones line fault now rest = ap (λ found. or_else found (fault_from (suc number) (open_behind number open_ones line) rest)) now

goes_on : (number : ℕ) (open_ones after : List Opening) (line : Line) → fault_of_next number open_ones line ≡ None → open_behind number open_ones line ≡ after
    → (rest : List Line) → fault_from number open_ones (line ∷ rest) ≡ fault_from (suc number) after rest
goes_on number open_ones after line none now rest =
    ap (λ found. or_else found (fault_from (suc number) (open_behind number open_ones line) rest)) none ∙ ap (λ ones. fault_from (suc number) ones rest) now

no_end : (line : Line) → is_begin line ≡ true → is_end line ≡ false
no_end line begin = elim (kind_of line) [ begins yes_begin none ↦ none | ends none yes_end ↦ cc | neither none other ↦ other ]

pub stop_first : (line : Line) → is_begin line ≡ false → IsStop 0 Nothing line (WrongEnd 0)
stop_first line no_begin = stops 0 [] line (wrong_end 0) (fault_of_stray 0 line no_begin)

pub stop_whole : (number : ℕ) (node : Node) (line : Line) → 0 < number → IsStop number (Whole node) line (WrongEnd number)
stop_whole number node line later = stops number [] line (wrong_end number) (fault_of_later number line later)

pub stop_begin : (number : ℕ) (inner : OpenComponent) (around : List OpenComponent) (line : Line) → is_begin line ≡ true → 3 ≤ length around → IsStop number (Within inner around) line (TooDeep number)
stop_begin number inner around line begin deep =
    let four : 4 ≤ length (openings (Within inner around)) = simp length-map (omega (arith, deep)) in
    stops number (openings (Within inner around)) line (too_deep number)
    (fault_of_begin number (opening_of inner) (map opening_of around) line begin (no_end line begin) ∙ ap (λ b. if b then Some (too_deep number) else None) (le-leb 4 (length (openings (Within inner around))) four))

pub stop_end : (number : ℕ) (inner : OpenComponent) (around : List OpenComponent) (line : Line) → is_begin line ≡ false → is_end line ≡ true → bytes_eq (component_name line) inner.name ≡ false → IsStop number (Within inner around) line (WrongEnd number)
stop_end number inner around line no_begin end other =
    stops number (openings (Within inner around)) line (wrong_end number)
    (fault_of_end number (opening_of inner) (map opening_of around) line no_begin end ∙ ap (λ b. if not b then Some (wrong_end number) else None) other)

-- Steps

with_so_far-nothing : (component : OpenComponent) (levels : List Level) → component.lines ≡ [] → component.children ≡ [] → with_so_far component levels ≡ levels
with_so_far-nothing component [] no_lines no_children = refl
with_so_far-nothing component (level ∷ levels) no_lines no_children =
    ap (λ lines. record { lines = lines ++ level.lines; children = component.children ++ level.children } ∷ levels) no_lines
    ∙ ap (λ children. record { lines = level.lines; children = children ++ level.children } ∷ levels) no_children

with_so_far-own : (component : OpenComponent) (line : Line) (levels : List Level) → with_so_far component (with_line line levels) ≡ with_so_far (record component { lines = component.lines ++ line ∷ [] }) levels
with_so_far-own component line [] = refl
with_so_far-own component line (level ∷ levels) = ap (λ lines. record { lines = lines; children = component.children ++ level.children } ∷ levels) (sym (append_assoc component.lines (line ∷ []) level.lines))

-- what a BEGIN opens
abbrev pub new_component : ℕ → Line → OpenComponent
new_component number line = record { begin = number; name = component_name line; lines = []; children = [] }

pub step_first : (line : Line) → is_begin line ≡ true → IsStep 0 Nothing line (Within (new_component 0 line) [])
step_first line begin = record {
  behind = omega arith;
  faults = goes_on 0 [] (opening_of (new_component 0 line) ∷ []) line (fault_of_first line begin (no_end line begin)) (open_behind_begin 0 [] line begin);
  trees = λ rest. ap outermost (before_begin line (levels_before rest) begin ∙ ap (with_begin (component_name line)) (sym (with_so_far-nothing (new_component 0 line) (levels_before rest) refl refl)));
}

pub step_begin : (number : ℕ) (inner : OpenComponent) (around : List OpenComponent) (line : Line) → is_begin line ≡ true → length around < 3 → IsStep number (Within inner around) line (Within (new_component number line) (inner ∷ around))
step_begin number inner around line begin few =
    let shallow : length (openings (Within inner around)) < 4 = simp length-map (omega (arith, few)) in
    record {
      behind = omega arith;
      faults = goes_on number (openings (Within inner around)) (openings (Within (new_component number line) (inner ∷ around))) line
          (fault_of_begin number (opening_of inner) (map opening_of around) line begin (no_end line begin) ∙ ap (λ b. if b then Some (too_deep number) else None) (lt-leb 4 (length (openings (Within inner around))) shallow))
          (open_behind_begin number (openings (Within inner around)) line begin);
      trees = λ rest. ap (λ levels. outermost (closed (inner ∷ around) levels))
          (before_begin line (levels_before rest) begin ∙ ap (with_begin (component_name line)) (sym (with_so_far-nothing (new_component number line) (levels_before rest) refl refl)));
    }

pub step_own : (number : ℕ) (inner : OpenComponent) (around : List OpenComponent) (line : Line) → is_begin line ≡ false → is_end line ≡ false → IsStep number (Within inner around) line (Within (record inner { lines = inner.lines ++ line ∷ [] }) around)
step_own number inner around line no_begin no_end = record {
  behind = omega arith;
  faults = goes_on number (openings (Within inner around)) (openings (Within inner around)) line (fault_of_own number (opening_of inner) (map opening_of around) line no_begin no_end) (open_behind_own number (openings (Within inner around)) line no_begin no_end);
  trees = λ rest. ap (λ levels. outermost (closed (inner ∷ around) levels)) (before_own line (levels_before rest) no_begin no_end)
      ∙ ap (λ levels. outermost (closed around (with_begin inner.name levels))) (with_so_far-own inner line (levels_before rest));
}

outermost-with_child : (node : Node) (levels : List Level) → IsSome_level levels → outermost (with_child node levels) ≡ Some node
outermost-with_child node levels some = ap (λ these. outermost (with_child node these)) some.2

with_so_far-with_child : (component : OpenComponent) (node : Node) (levels : List Level) → with_so_far component (with_child node levels) ≡ with_so_far (record component { children = component.children ++ node ∷ [] }) levels
with_so_far-with_child component node [] = refl
with_so_far-with_child component node (level ∷ levels) = ap (λ children. record { lines = component.lines ++ level.lines; children = children } ∷ levels) (sym (append_assoc component.children (node ∷ []) level.children))

-- the END of the innermost component puts it before what follows around it
levels_of_end : (inner : OpenComponent) (line : Line) (rest : List Line) → is_begin line ≡ false → is_end line ≡ true
    → with_begin inner.name (with_so_far inner (levels_before (line ∷ rest))) ≡ with_child (whole_node inner) (levels_before rest)
levels_of_end inner line rest no_begin end =
    ap (λ levels. with_begin inner.name (with_so_far inner levels)) (before_end line (levels_before rest) no_begin end)
    ∙ ap (λ level. with_begin inner.name (level ∷ levels_before rest)) (level_alone (record { lines = inner.lines; children = inner.children }))
    ∙ with_begin-with_child inner.name (record { lines = inner.lines; children = inner.children }) (levels_before rest) (some_level rest)

ended_trees : (inner : OpenComponent) (around : List OpenComponent) (line : Line) → is_begin line ≡ false → is_end line ≡ true → (rest : List Line) → tree_with (Within inner around) (line ∷ rest) ≡ tree_with (ended inner around) rest
ended_trees inner [] line no_begin end rest = ap outermost (levels_of_end inner line rest no_begin end) ∙ outermost-with_child (whole_node inner) (levels_before rest) (some_level rest)
ended_trees inner (outer ∷ around) line no_begin end rest =
    ap (λ levels. outermost (closed (outer ∷ around) levels)) (levels_of_end inner line rest no_begin end)
    ∙ ap (λ levels. outermost (closed around (with_begin outer.name levels))) (with_so_far-with_child outer (whole_node inner) (levels_before rest))

ended_openings : (inner : OpenComponent) (around : List OpenComponent) → map opening_of around ≡ openings (ended inner around)
ended_openings inner [] = refl
ended_openings inner (outer ∷ around) = refl

ended_behind : (number : ℕ) (inner : OpenComponent) (around : List OpenComponent) → 0 < number → IsBehind number (ended inner around)
ended_behind number inner [] later = later
ended_behind number inner (outer ∷ around) later = later

pub step_end : (number : ℕ) (inner : OpenComponent) (around : List OpenComponent) (line : Line) → is_begin line ≡ false → is_end line ≡ true → bytes_eq (component_name line) inner.name ≡ true → IsStep number (Within inner around) line (ended inner around)
step_end number inner around line no_begin end same = record {
  behind = ended_behind (suc number) inner around (omega arith);
  faults = goes_on number (openings (Within inner around)) (openings (ended inner around)) line
      (fault_of_end number (opening_of inner) (map opening_of around) line no_begin end ∙ ap (λ b. if not b then Some (wrong_end number) else None) same)
      (open_behind_end number (openings (Within inner around)) line no_begin end ∙ ended_openings inner around);
  trees = ended_trees inner around line no_begin end;
}
