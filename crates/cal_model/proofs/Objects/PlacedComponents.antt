-- Where the lines of a tree's components stand among all lines.
use Rattle.std.proofs.Common.{◌≡◌, ℕ, zero, suc, List, [], ◌∷◌, ◌++◌, length, refl, sym, ap, ◌∙◌, subst, append_assoc}
use Rattle.std.specs.Prelude.{Option, Some, None, slice_get, unwrap_or}
use Rattle.std.specs.List.{AllByRecursion as Each}
use Rattle.cal_model.proofs.Words.EachLemmas.{each-weaker}
use Rattle.std.proofs.lemmas.Option.{none-some}
use Rattle.cal_base.specs.declared.line.Line.{Line}
use Rattle.cal_base.specs.declared.line.Node.{Node}
use Rattle.cal_base.specs.declared.line.Node.TheOpen.{Node-F}
use Rattle.cal_base.specs.declared.line.Node.TheViews.{out-roll-Node}
use Rattle.cal_base.specs.Lines.ComponentTrees.{component_name, depth, innermost, name_at, NestingFault, nesting_fault, Level, nothing_more, component, with_line, with_begin, with_before, levels_before, outermost, tree_of, first, or_else}
use Rattle.cal_model.specs.Objects.ComponentLines.{lines_of, name_of, children_of}
use Rattle.cal_base.specs.Lines.Nesting.{Opening, fault_of_next, open_behind, fault_from, fault_of_last}
use Rattle.cal_base.proofs.Lines.NestingSteps.{Kind, begins, ends, neither, kind_of, open_behind_begin, open_behind_end, open_behind_own, fault_of_stray, before_begin, before_end, before_own}
use Rattle.cal_base.proofs.Lines.FaultsFromFront.{AreOpen, depth_is, innermost_line_is, open_on, slice_get_seam, so_many_on, nesting_fault-from_front}

-- a line stands directly in the component that begins at a number
abbrev pub LineIn : List Line → ℕ → Line → Type 0
LineIn lines begin line = (k : ℕ) × (slice_get lines k ≡ Some line) × (innermost lines k ≡ Some begin)

-- a node is the component that begins at a number, down to some level: its name, its lines and its components are those that stand in it
abbrev pub NodeAt : ℕ → List Line → ℕ → Node → Type 0
NodeAt zero lines begin node = Unit {0}
NodeAt (suc levels) lines begin node =
    (name_at lines (Some begin) ≡ name_of node) × Each (LineIn lines begin) (lines_of node)
    × Each (λ child. (b : ℕ) × (depth lines b ≡ suc (depth lines begin)) × (innermost lines b ≡ Some begin) × NodeAt levels lines b child) (children_of node)

-- a component of the outermost level, and one within the component that begins at a number
abbrev pub OuterAt : List Line → Node → Type 0
OuterAt lines child = (b : ℕ) × (depth lines b ≡ 0) × ((levels : ℕ) → NodeAt levels lines b child)

abbrev InnerAt : List Line → ℕ → ℕ → Node → Type 0
InnerAt lines begin deep child = (b : ℕ) × (depth lines b ≡ deep) × (innermost lines b ≡ Some begin) × ((levels : ℕ) → NodeAt levels lines b child)

-- what stands behind a place belongs to the components that are open there
abbrev Fits : List Line → List Opening → List Level → Type 0
Fits lines [] [] = ⊥
Fits lines [] (level ∷ []) = Each (OuterAt lines) level.children
Fits lines [] (level ∷ next ∷ levels) = ⊥
Fits lines (opening ∷ around) [] = ⊥
Fits lines (opening ∷ around) (level ∷ levels) =
    Each (LineIn lines opening.line) level.lines × Each (InnerAt lines opening.line (suc (length around))) level.children × Fits lines around levels

-- the facts of a node by its parts
abbrev PartsAt : ℕ → List Line → ℕ → Node-F Node → Type 0
PartsAt levels lines begin parts =
    (name_at lines (Some begin) ≡ parts.name) × Each (LineIn lines begin) parts.lines
    × Each (λ child. (b : ℕ) × (depth lines b ≡ suc (depth lines begin)) × (innermost lines b ≡ Some begin) × NodeAt levels lines b child) parts.children

-- a component whose level is whole stands where it begins
new_node : (lines : List Line) (number : ℕ) (open_ones : List Opening) (line : Line) (level : Level) → AreOpen lines number open_ones → slice_get lines number ≡ Some line →
    Each (LineIn lines number) level.lines → Each (InnerAt lines number (suc (length open_ones))) level.children →
    (levels : ℕ) → NodeAt levels lines number (component (component_name line) level)
new_node lines number open_ones line level are here own children zero = tt
new_node lines number open_ones line level are here own children (suc levels) =
    let parts : Node-F Node = record { name = component_name line; lines = level.lines; children = level.children } in
    subst (PartsAt levels lines number) (sym (out-roll-Node parts)) (
      ap (λ found. elim found [ None ↦ [] | Some begun ↦ component_name begun ]) here,
      own,
      each-weaker (λ child facts. (facts.0, facts.1 ∙ sym (ap suc (depth_is lines number open_ones are)), facts.2, facts.3 levels)) level.children children,
    )

fits_begin : (lines : List Line) (number : ℕ) (open_ones : List Opening) (line : Line) (levels : List Level) → AreOpen lines number open_ones → slice_get lines number ≡ Some line →
    Fits lines (record { line = number; name = component_name line } ∷ open_ones) levels → Fits lines open_ones (with_begin (component_name line) levels)
fits_begin lines number open_ones line [] are here fits = absurd fits
fits_begin lines number [] line (level ∷ []) are here fits = absurd fits.2
fits_begin lines number (opening ∷ outer) line (level ∷ []) are here fits = absurd fits.2
fits_begin lines number [] line (level ∷ around ∷ []) are here fits =
    ((number, depth_is lines number [] are, new_node lines number [] line level are here fits.0 fits.1), fits.2)
fits_begin lines number [] line (level ∷ around ∷ next ∷ levels) are here fits = absurd fits.2
fits_begin lines number (opening ∷ outer) line (level ∷ around ∷ levels) are here fits = (
  fits.2.0,
  ((number, depth_is lines number (opening ∷ outer) are, innermost_line_is lines number opening outer are, new_node lines number (opening ∷ outer) line level are here fits.0 fits.1), fits.2.1),
  fits.2.2,
)

fits_own : (lines : List Line) (number : ℕ) (opening : Opening) (around : List Opening) (line : Line) (levels : List Level) → AreOpen lines number (opening ∷ around) → slice_get lines number ≡ Some line →
    Fits lines (opening ∷ around) levels → Fits lines (opening ∷ around) (with_line line levels)
fits_own lines number opening around line [] are here fits = absurd fits
fits_own lines number opening around line (level ∷ levels) are here fits =
    (((number, here, innermost_line_is lines number opening around are), fits.0), fits.1, fits.2)

-- one line before what fits
fits_step : (lines : List Line) (number : ℕ) (open_ones : List Opening) (line : Line) (levels : List Level) → AreOpen lines number open_ones → slice_get lines number ≡ Some line →
    fault_of_next number open_ones line ≡ None → Kind line → Fits lines (open_behind number open_ones line) levels → Fits lines open_ones (with_before line levels)
fits_step lines number open_ones line levels are here none (begins begin no_end) fits =
    subst (Fits lines open_ones) (sym (before_begin line levels begin))
    (fits_begin lines number open_ones line levels are here (subst (λ open_ones'. Fits lines open_ones' levels) (open_behind_begin number open_ones line begin) fits))
fits_step lines number [] line levels are here none (ends no_begin end) fits = absurd (none-some _ (sym none ∙ fault_of_stray number line no_begin))
fits_step lines number (opening ∷ around) line levels are here none (ends no_begin end) fits =
    subst (Fits lines (opening ∷ around)) (sym (before_end line levels no_begin end))
    (tt, tt, subst (λ open_ones'. Fits lines open_ones' levels) (open_behind_end number (opening ∷ around) line no_begin end) fits)
fits_step lines number [] line levels are here none (neither no_begin no_end) fits = absurd (none-some _ (sym none ∙ fault_of_stray number line no_begin))
fits_step lines number (opening ∷ around) line levels are here none (neither no_begin no_end) fits =
    subst (Fits lines (opening ∷ around)) (sym (before_own line levels no_begin no_end))
    (fits_own lines number opening around line levels are here (subst (λ open_ones'. Fits lines open_ones' levels) (open_behind_own number (opening ∷ around) line no_begin no_end) fits))

or_else_none : (fault other : Option NestingFault) → or_else fault other ≡ None → (fault ≡ None) × (other ≡ None)
or_else_none None other none = (refl, none)
or_else_none (Some fault) other none = absurd (none-some fault (sym none))

fits_end : (lines : List Line) (number : ℕ) (open_ones : List Opening) → fault_of_last number open_ones ≡ None → Fits lines open_ones (nothing_more ∷ [])
fits_end lines number [] none = tt
fits_end lines number (opening ∷ around) none = absurd (none-some _ (sym none))

fits_from : (rest front lines : List Line) (number : ℕ) (open_ones : List Opening) → lines ≡ front ++ rest → number ≡ length front → AreOpen lines number open_ones →
    fault_from number open_ones rest ≡ None → Fits lines open_ones (levels_before rest)
fits_from [] front lines number open_ones all so_many are none = fits_end lines number open_ones none
fits_from (line ∷ rest) front lines number open_ones all so_many are none =
    let here : slice_get lines number ≡ Some line = rw (all, so_many) (slice_get_seam front rest line) in
    let both = or_else_none (fault_of_next number open_ones line) (fault_from (suc number) (open_behind number open_ones line) rest) none in
    fits_step lines number open_ones line (levels_before rest) are here both.0 (kind_of line)
    (fits_from rest (front ++ line ∷ []) lines (suc number) (open_behind number open_ones line) (all ∙ sym (append_assoc front (line ∷ []) rest)) (so_many_on front line number so_many)
    (open_on lines number open_ones line are here both.0 (kind_of line)) both.1)

outermost_at : (lines : List Line) (levels : List Level) (tree : Node) → Fits lines [] levels → outermost levels ≡ Some tree → OuterAt lines tree
outermost_at lines [] tree fits is = absurd fits
outermost_at lines (level ∷ next ∷ levels) tree fits is = absurd fits
outermost_at lines (level ∷ []) tree fits is = first_at level.children fits is
  where
    first_at : (children : List Node) → Each (OuterAt lines) children → first children ≡ Some tree → OuterAt lines tree
    first_at [] fits is = absurd (none-some tree is)
    first_at (child ∷ children) fits is = subst (OuterAt lines) (ap (λ found. unwrap_or found child) is) fits.0

-- the tree of lines without fault: it begins within nothing, and each of its components stands where it begins
pub tree_at : (lines : List Line) (tree : Node) → nesting_fault lines ≡ None → tree_of lines ≡ Some tree → OuterAt lines tree
tree_at lines tree none is =
    outermost_at lines (levels_before lines) tree (fits_from lines [] lines 0 [] refl refl refl (sym (nesting_fault-from_front lines) ∙ none)) is
