-- The component tree of a list of lines (RFC 5545, 3.4 and 3.6), its faults, and the printed text of a tree. What is open at a
-- line is a count of the lines before it, and the tree is read from its end; no stack goes from the front.
use Rattle.std.specs.Prelude.{ℕ, ◌-◌, Bool, not, ◌&&◌, ◌||◌, ◌==◌, nat_lt, nat_le, if◌then◌else◌, List, [], ◌∷◌, ◌++◌, length, take, filter_map, flat_map, count_by, Option, Some, None, slice_get, codes}
use Rattle.std.specs.List.{range_with_len, last_or, concat}
use Rattle.std.specs.Str.{bytes_eq}
use Rattle.cal_base.specs.declared.line.Line.{Line}
use Rattle.cal_base.specs.declared.line.Node.{Node}
use Rattle.cal_base.specs.declared.line.Node.TheOpen.{Node-F}
use Rattle.cal_base.specs.declared.line.Node.TheViews.{roll-Node}
use Rattle.cal_base.specs.declared.line.Node.TheFolds.{fold-Node}
use Rattle.cal_base.specs.Texts.Text.{raised_all}
use Rattle.cal_base.specs.Lines.WrittenLines.{written, written_line}

abbrev pub is_begin : Line → Bool
is_begin line = bytes_eq line.name (codes "BEGIN")

abbrev pub is_end : Line → Bool
is_end line = bytes_eq line.name (codes "END")

-- the name of the component that a BEGIN or END line names, compared without ASCII case
abbrev pub component_name : Line → List ℕ
component_name line = raised_all line.value

-- What is open at a line

-- how many components are open before the line of a number
abbrev pub depth : List Line → ℕ → ℕ
depth lines number = count_by is_begin (take number lines) - count_by is_end (take number lines)

-- the innermost component open before a line, by the number of its BEGIN: the last line before which fewer are open
abbrev pub innermost : List Line → ℕ → Option ℕ
innermost lines number =
    last_or None (filter_map (λ before. if nat_lt (depth lines before) (depth lines number) then Some before else None) (range_with_len 0 number))

-- the name of the component that begins at a line
abbrev pub name_at : List Line → Option ℕ → List ℕ
name_at lines None = []
name_at lines (Some number) = elim (slice_get lines number) [ None ↦ [] | Some line ↦ component_name line ]

-- Faults

-- a fault of nesting, with the number of its line, counted from 0
pub data NestingFault : Type 0 where
  unclosed : ℕ → NestingFault
  wrong_end : ℕ → NestingFault
  too_deep : ℕ → NestingFault

-- where nothing is open only the first line can stand, and it is a BEGIN
abbrev pub is_stray : List Line → ℕ → Line → Bool
is_stray lines number line = (depth lines number == 0) && (nat_lt 0 number || not (is_begin line))

-- an END of another name than that of the innermost open component
abbrev pub is_other_end : List Line → ℕ → Line → Bool
is_other_end lines number line = is_end line && not (bytes_eq (component_name line) (name_at lines (innermost lines number)))

-- a BEGIN within four open components
abbrev pub is_fifth : List Line → ℕ → Line → Bool
is_fifth lines number line = is_begin line && nat_le 4 (depth lines number)

abbrev pub fault_of_line : List Line → ℕ → Line → Option NestingFault
fault_of_line lines number line =
    if is_stray lines number line || is_other_end lines number line then Some (wrong_end number)
    else (if is_fifth lines number line then Some (too_deep number) else None)

abbrev pub fault_at : List Line → ℕ → Option NestingFault
fault_at lines number = elim (slice_get lines number) [ None ↦ None | Some line ↦ fault_of_line lines number line ]

-- the fault of the end: a component that is still open, or no line at all
abbrev pub fault_of_end : List Line → Option NestingFault
fault_of_end [] = Some (unclosed 0)
fault_of_end (line ∷ lines) =
    elim (innermost (line ∷ lines) (length (line ∷ lines))) [ None ↦ None | Some number ↦ Some (unclosed number) ]

abbrev pub first : {X : Type 0} → List X → Option X
first [] = None
first (x ∷ xs) = Some x

abbrev pub or_else : {X : Type 0} → Option X → Option X → Option X
or_else None other = other
or_else (Some x) other = Some x

-- the first fault of the nesting: that of the first line which has one, or else of the end
abbrev pub nesting_fault : List Line → Option NestingFault
nesting_fault lines = or_else (first (filter_map (fault_at lines) (range_with_len 0 (length lines)))) (fault_of_end lines)

-- The tree

-- what stands behind a place at one level: the lines and the components up to the END of the level
pub record Level : Type 0 where
  pub lines : List Line
  pub children : List Node

abbrev pub nothing_more : Level
nothing_more = record { lines = []; children = [] }

-- a component of its name and of what stands in it
abbrev pub component : List ℕ → Level → Node
component name level = roll-Node (record { name = name; lines = level.lines; children = level.children })

-- a line that is neither BEGIN nor END, before what follows at its level
abbrev pub with_line : Line → List Level → List Level
with_line line [] = []
with_line line (level ∷ levels) = record level { lines = line ∷ level.lines } ∷ levels

-- the BEGIN of a component: its level is whole, and is the first component of the level around it
abbrev pub with_begin : List ℕ → List Level → List Level
with_begin name [] = []
with_begin name (level ∷ []) = level ∷ []
with_begin name (level ∷ around ∷ levels) = record around { children = component name level ∷ around.children } ∷ levels

-- one more line before what follows it
abbrev pub with_before : Line → List Level → List Level
with_before line levels =
    if is_begin line then with_begin (component_name line) levels
    else (if is_end line then nothing_more ∷ levels else with_line line levels)

-- the levels that are open before some lines, the innermost first
abbrev pub levels_before : List Line → List Level
levels_before [] = nothing_more ∷ []
levels_before (line ∷ lines) = with_before line (levels_before lines)

abbrev pub outermost : List Level → Option Node
outermost [] = None
outermost (level ∷ levels) = first level.children

-- the tree of a list of lines that has no fault
abbrev pub tree_of : List Line → Option Node
tree_of lines = outermost (levels_before lines)

-- The printed text: BEGIN, the lines, the components, END

abbrev pub print_step : Node-F (List ℕ) → List ℕ
print_step node =
    written (codes "BEGIN:" ++ node.name) ++ flat_map written_line node.lines ++ concat node.children ++ written (codes "END:" ++ node.name)

abbrev pub printed : Node → List ℕ
printed = fold-Node (List ℕ) print_step
