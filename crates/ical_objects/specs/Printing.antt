-- The lines of a tree's printed text, and the trees that can be printed.
use Rattle.std.specs.Prelude.{◌≡◌, ℕ, suc, List, [], ◌∷◌, ◌++◌, codes, flat_map, IsFalse, Ok}
use Rattle.std.specs.List.{AllByRecursion}
use Rattle.cal_base.specs.declared.line.Line.{Line}
use Rattle.cal_base.specs.declared.line.Node.{Node}
use Rattle.cal_base.specs.declared.line.Node.TheOpen.{Node-F}
use Rattle.cal_base.specs.declared.line.Node.TheFolds.{fold-Node}
use Rattle.cal_base.specs.Texts.Text.{IsRaised}
use Rattle.cal_base.specs.Lines.ComponentTrees.{is_begin, is_end, Level, component}
use Rattle.cal_base.specs.Lines.LineGrammar.{IsReadLine, EndsLine}
use Rattle.cal_base.specs.Lines.ContentLines.{read_lines}

abbrev pub begin_line : List ℕ → Line
begin_line name = record { name = codes "BEGIN"; params = []; value = name; raw = codes "BEGIN:" ++ name }

abbrev pub end_line : List ℕ → Line
end_line name = record { name = codes "END"; params = []; value = name; raw = codes "END:" ++ name }

-- BEGIN, the lines, those of the components, END
abbrev pub lines_step : Node-F (List Line) → List Line
lines_step node = begin_line node.name ∷ node.lines ++ flat_map (λ lines. lines) node.children ++ end_line node.name ∷ []

abbrev pub lines_of_tree : Node → List Line
lines_of_tree = fold-Node (List Line) lines_step

-- Text that goes on so has these lines more: where what stood before ends its last line and is read as some lines, so is the whole.
abbrev pub AddsLines : List ℕ → List Line → List ℕ → Type 0
AddsLines old lines new = (before : List Line) → EndsLine old → read_lines old ≡ Ok before → EndsLine new × (read_lines new ≡ Ok (before ++ lines))

-- a line that is read from its own text, and is neither BEGIN nor END
abbrev pub IsOwnLine : Line → Type 0
IsOwnLine line = IsReadLine line × IsFalse (is_begin line) × IsFalse (is_end line)

-- a tree of at most so many levels, each of whose printed lines is read from its own text
mutual
  pub data IsPrintable : ℕ → Node → Type 0 where
    printable : (levels : ℕ) (name : List ℕ) (level : Level) → IsRaised name → IsReadLine (begin_line name) → IsReadLine (end_line name) → AllByRecursion IsOwnLine level.lines → ArePrintable levels level.children → IsPrintable (suc levels) (component name level)

  pub data ArePrintable : ℕ → List Node → Type 0 where
    no_more : (levels : ℕ) → ArePrintable levels []
    one_more : (levels : ℕ) (child : Node) (children : List Node) → IsPrintable levels child → ArePrintable levels children → ArePrintable levels (child ∷ children)
