-- The lines of a printed tree have no fault, and make up that tree again.
use Rattle.std.proofs.Common.{◌≡◌, ℕ, ◌+◌, ◌<◌, ◌≤◌, suc, true, false, not, List, [], ◌∷◌, ◌++◌, map, length, Some, None, refl, sym, ap, ◌∙◌, subst, arith, append_assoc, append-nil}
use Rattle.std.specs.Prelude.{if◌then◌else◌, flat_map}
use Rattle.std.specs.List.{AllByRecursion}
use Rattle.std.proofs.lemmas.Bool.{lt-leb, ne_eqb}
use Rattle.std.proofs.lemmas.Slice.Eq.{bytes_eq-Decides}
use Rattle.cal_base.specs.declared.line.Line.{Line}
use Rattle.cal_base.specs.declared.line.Node.{Node}
use Rattle.cal_base.specs.declared.line.Node.TheFolds.{fold-roll-Node}
use Rattle.cal_base.specs.Texts.Text.{raised_all}
use Rattle.cal_base.specs.Lines.ComponentTrees.{is_begin, is_end, component_name, wrong_end, too_deep, unclosed, or_else, nesting_fault, tree_of, Level, nothing_more, component, with_line, with_begin, levels_before, outermost}
use Rattle.cal_base.specs.Lines.Nesting.{Opening, fault_of_next, open_behind, fault_from}
use Rattle.ical_objects.specs.Printing.{begin_line, end_line, lines_step, lines_of_tree, IsPrintable, printable, ArePrintable, no_more, one_more, IsOwnLine}
use Rattle.cal_base.proofs.Lines.NestingSteps.{open_behind_own, fault_of_first, fault_of_begin, fault_of_end, fault_of_own, before_own}
use Rattle.cal_base.proofs.Lines.FaultsFromFront.{nesting_fault-from_front}

-- the lines of the components of a list
abbrev pub lines_of_trees : List Node → List Line
lines_of_trees nodes = flat_map (λ lines. lines) (map lines_of_tree nodes)

pub lines_of_tree-component : (name : List ℕ) (level : Level) → lines_of_tree (component name level) ≡ begin_line name ∷ level.lines ++ lines_of_trees level.children ++ end_line name ∷ []
lines_of_tree-component name level = fold-roll-Node (List Line) lines_step (record { name = name; lines = level.lines; children = level.children })

-- the lines of a component before some others
lines_then : (name : List ℕ) (level : Level) (behind : List Line) → lines_of_tree (component name level) ++ behind ≡ begin_line name ∷ (level.lines ++ (lines_of_trees level.children ++ end_line name ∷ behind))
lines_then name level behind =
    ap (λ lines. lines ++ behind) (lines_of_tree-component name level)
    ∙ append_assoc ((begin_line name ∷ level.lines) ++ lines_of_trees level.children) (end_line name ∷ []) behind
    ∙ append_assoc (begin_line name ∷ level.lines) (lines_of_trees level.children) (end_line name ∷ behind)

lines_of_tree-in_parts : (name : List ℕ) (level : Level) → lines_of_tree (component name level) ≡ begin_line name ∷ (level.lines ++ (lines_of_trees level.children ++ end_line name ∷ []))
lines_of_tree-in_parts name level = sym (append-nil (lines_of_tree (component name level))) ∙ lines_then name level []

-- Faults

-- lines that have no fault behind others, where these components are open
abbrev Passes : List Opening → List Line → Type 0
Passes open_ones lines = (number : ℕ) → 0 < number → fault_from number open_ones lines ≡ None

-- one line without a fault
passes_one : (number : ℕ) (open_ones after : List Opening) (line : Line) (lines : List Line) → fault_of_next number open_ones line ≡ None → open_behind number open_ones line ≡ after → fault_from (suc number) after lines ≡ None
    → fault_from number open_ones (line ∷ lines) ≡ None
passes_one number open_ones after line lines none now behind =
    ap (λ fault. or_else fault (fault_from (suc number) (open_behind number open_ones line) lines)) none ∙ ap (λ ones. fault_from (suc number) ones lines) now ∙ behind

passes_own : (own : List Line) (opening : Opening) (around : List Opening) (behind : List Line) → AllByRecursion IsOwnLine own → Passes (opening ∷ around) behind → Passes (opening ∷ around) (own ++ behind)
passes_own [] opening around behind are passes = passes
passes_own (line ∷ own) opening around behind are passes = λ number later.
    passes_one number (opening ∷ around) (opening ∷ around) line (own ++ behind) (fault_of_own number opening around line are.0.1 are.0.2)
    (open_behind_own number (opening ∷ around) line are.0.1 are.0.2) (passes_own own opening around behind are.1 passes (suc number) (omega arith))

passes_end : (name : List ℕ) (opening : Opening) (around : List Opening) (behind : List Line) → opening.name ≡ raised_all name → Passes around behind → Passes (opening ∷ around) (end_line name ∷ behind)
passes_end name opening around behind same passes = λ number later.
    passes_one number (opening ∷ around) around (end_line name) behind
    (fault_of_end number opening around (end_line name) refl refl
    ∙ ap (λ b. if not b then Some (wrong_end number) else None) ((bytes_eq-Decides (raised_all name) opening.name).1 (sym same)))
    refl (passes (suc number) (omega arith))

mutual
  passes_tree : (levels : ℕ) (node : Node) (opening : Opening) (around : List Opening) (behind : List Line) → IsPrintable levels node → levels + length (opening ∷ around) ≤ 4 → Passes (opening ∷ around) behind
      → Passes (opening ∷ around) (lines_of_tree node ++ behind)
  passes_tree levels node opening around behind (printable room name level is_raised read_begin read_end own fit) few passes = λ number later.
      let new : Opening = record { line = number; name = component_name (begin_line name) } in
      let deeper : length (opening ∷ around) < 4 = omega (arith, few) in
      subst (λ lines. fault_from number (opening ∷ around) lines ≡ None) (sym (lines_then name level behind))
      (passes_one number (opening ∷ around) (new ∷ opening ∷ around) (begin_line name) (level.lines ++ (lines_of_trees level.children ++ end_line name ∷ behind))
      (fault_of_begin number opening around (begin_line name) refl refl ∙ ap (λ b. if b then Some (too_deep number) else None) (lt-leb 4 (length (opening ∷ around)) deeper))
      refl
      (passes_own level.lines new (opening ∷ around) (lines_of_trees level.children ++ end_line name ∷ behind) own
      (passes_trees room level.children new (opening ∷ around) (end_line name ∷ behind) fit (omega (arith, few)) (passes_end name new (opening ∷ around) behind refl passes))
      (suc number) (omega arith)))

  passes_trees : (levels : ℕ) (nodes : List Node) (opening : Opening) (around : List Opening) (behind : List Line) → ArePrintable levels nodes → levels + length (opening ∷ around) ≤ 4 → Passes (opening ∷ around) behind
      → Passes (opening ∷ around) (lines_of_trees nodes ++ behind)
  passes_trees levels nodes opening around behind (no_more room) few passes = passes
  passes_trees levels nodes opening around behind (one_more room child children fits fit) few passes =
      subst (Passes (opening ∷ around)) (sym (append_assoc (lines_of_tree child) (lines_of_trees children) behind))
      (passes_tree room child opening around (lines_of_trees children ++ behind) fits few (passes_trees room children opening around behind fit few passes))

-- the lines of a tree have no fault
pub nesting_fault-lines_of_tree : (node : Node) → IsPrintable 4 node → nesting_fault (lines_of_tree node) ≡ None
nesting_fault-lines_of_tree node (printable room name level is_raised read_begin read_end own fit) =
    let new : Opening = record { line = 0; name = component_name (begin_line name) } in
    let rest = level.lines ++ (lines_of_trees level.children ++ end_line name ∷ []) in
    nesting_fault-from_front (lines_of_tree node)
    ∙ ap (fault_from 0 []) (lines_of_tree-in_parts name level)
    ∙ passes_one 0 [] (new ∷ []) (begin_line name) rest (fault_of_first (begin_line name) refl refl) refl
    (passes_own level.lines new [] (lines_of_trees level.children ++ end_line name ∷ []) own
    (passes_trees 3 level.children new [] (end_line name ∷ []) fit (omega arith)
    (passes_end name new [] [] refl (λ number later. ap (λ b. if b then Some (unclosed 0) else None) (ne_eqb number 0 (λ none. absurd (omega (arith, later, none)))))))
    1 (omega arith))

-- Levels

-- a component before what follows it
abbrev pub with_child : Node → List Level → List Level
with_child node [] = []
with_child node (level ∷ levels) = record level { children = node ∷ level.children } ∷ levels

-- there is always a level
abbrev pub IsSome_level : List Level → Type 0
IsSome_level levels = (level : Level) × (outer : List Level) × (levels ≡ level ∷ outer)

some_level-with_begin : (name : List ℕ) (level : Level) (outer : List Level) → IsSome_level (with_begin name (level ∷ outer))
some_level-with_begin name level [] = (level, [], refl)
some_level-with_begin name level (around ∷ outer) = (record around { children = component name level ∷ around.children }, outer, refl)

pub some_level : (lines : List Line) → IsSome_level (levels_before lines)
some_level [] = (nothing_more, [], refl)
some_level (line ∷ lines) =
    let had = some_level lines in
    elim (is_begin line) as (λ begin. IsSome_level (if begin then with_begin (component_name line) (levels_before lines) else (if is_end line then nothing_more ∷ levels_before lines else with_line line (levels_before lines)))) [
      | true ↦ subst (λ levels. IsSome_level (with_begin (component_name line) levels)) (sym had.2) (some_level-with_begin (component_name line) had.0 had.1)
      | false ↦ elim (is_end line) as (λ end. IsSome_level (if end then nothing_more ∷ levels_before lines else with_line line (levels_before lines))) [
        | true ↦ (nothing_more, levels_before lines, refl)
        | false ↦ subst (λ levels. IsSome_level (with_line line levels)) (sym had.2) (record had.0 { lines = line ∷ had.0.lines }, had.1, refl)
      ]
    ]

-- lines of its own before what follows them at a level
levels_own : (own behind : List Line) (level : Level) (levels : List Level) → AllByRecursion IsOwnLine own → levels_before behind ≡ level ∷ levels
    → levels_before (own ++ behind) ≡ record level { lines = own ++ level.lines } ∷ levels
levels_own [] behind level levels are known = known
levels_own (line ∷ own) behind level levels are known =
    before_own line (levels_before (own ++ behind)) are.0.1 are.0.2 ∙ ap (with_line line) (levels_own own behind level levels are.1 known)

pub level_alone : (level : Level) → record { lines = level.lines ++ []; children = level.children ++ [] } ≡ level
level_alone level = ap (λ lines. record { lines = lines; children = level.children ++ [] }) (append-nil level.lines) ∙ ap (λ children. record { lines = level.lines; children = children }) (append-nil level.children)

pub with_begin-with_child : (name : List ℕ) (level : Level) (levels : List Level) → IsSome_level levels → with_begin name (level ∷ levels) ≡ with_child (component name level) levels
with_begin-with_child name level levels some = subst (λ these. with_begin name (level ∷ these) ≡ with_child (component name level) these) (sym some.2) refl

mutual
  levels_tree : (room : ℕ) (node : Node) (behind : List Line) → IsPrintable room node → levels_before (lines_of_tree node ++ behind) ≡ with_child node (levels_before behind)
  levels_tree levels node behind (printable room name level is_raised read_begin read_end own fit) =
      ap levels_before (lines_then name level behind)
      ∙ ap (with_begin (raised_all name)) (levels_own level.lines (lines_of_trees level.children ++ end_line name ∷ behind) (record { lines = []; children = level.children ++ [] }) (levels_before behind) own
      (levels_trees room level.children (end_line name ∷ behind) nothing_more (levels_before behind) fit refl))
      ∙ ap (λ known. with_begin known (record { lines = level.lines ++ []; children = level.children ++ [] } ∷ levels_before behind)) is_raised
      ∙ ap (λ level'. with_begin name (level' ∷ levels_before behind)) (level_alone level)
      ∙ with_begin-with_child name level (levels_before behind) (some_level behind)

  levels_trees : (room : ℕ) (nodes : List Node) (behind : List Line) (level : Level) (levels : List Level) → ArePrintable room nodes → levels_before behind ≡ level ∷ levels
      → levels_before (lines_of_trees nodes ++ behind) ≡ record level { children = nodes ++ level.children } ∷ levels
  levels_trees room nodes behind level levels (no_more room') known = known
  levels_trees room nodes behind level levels (one_more room' child children fits fit) known =
      ap levels_before (append_assoc (lines_of_tree child) (lines_of_trees children) behind)
      ∙ (levels_tree room' child (lines_of_trees children ++ behind) fits
      ∙ ap (with_child child) (levels_trees room' children behind level levels fit known))

-- the lines of a tree make up that tree
pub tree_of-lines_of_tree : (levels : ℕ) (node : Node) → IsPrintable levels node → tree_of (lines_of_tree node) ≡ Some node
tree_of-lines_of_tree levels node fits = ap outermost (ap levels_before (sym (append-nil (lines_of_tree node))) ∙ levels_tree levels node [] fits)
