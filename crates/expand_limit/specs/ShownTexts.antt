-- The text that is written of lines and of components, once options and picks have left what they leave.
use Rattle.std.specs.Prelude.{ℕ, Bool, if◌then◌else◌, List, [], ◌∷◌, ◌++◌, flat_map, codes, Option, Some, None}
use Rattle.cal_base.specs.declared.line.Line.{Line}
use Rattle.cal_base.specs.declared.line.Node.{Node}
use Rattle.cal_base.specs.Lines.ComponentTrees.{printed}
use Rattle.cal_base.specs.Lines.WrittenLines.{written, written_line}
use Rattle.cal_model.specs.declared.row.Range.{Range}
use Rattle.cal_model.specs.declared.selection.CompPick.{CompPick}
use Rattle.cal_model.specs.Selections.Expansion.{plain, plain_lines}
use Rattle.cal_model.specs.Selections.LimitedSets.{busy_line}
use Rattle.cal_model.specs.Selections.Picks.{picked, picked_child, picked_line}
use Rattle.cal_model.specs.Selections.ShownData.{busy_shown}

-- what limit-freebusy-set leaves of a line
abbrev pub limited_line : Option Range → Line → List Line
limited_line None line = line ∷ []
limited_line (Some range) line = busy_line range line

-- the text of a line in a component that is kept by these picks
abbrev pub line_text : List CompPick → Option Range → Line → List ℕ
line_text picks busy line = flat_map written_line (flat_map (picked_line picks) (limited_line busy line))

-- the text of a component in such a component
abbrev pub node_text : List CompPick → Option Range → Node → List ℕ
node_text picks busy node = flat_map printed (picked_child picks (picked (busy_shown busy node)))

-- a component that is kept by these picks, with these lines and these components
abbrev pub body_text : List CompPick → Option Range → List ℕ → List Line → List Node → List ℕ
body_text picks busy name lines children =
    ((written (codes "BEGIN:" ++ name) ++ flat_map (line_text picks busy) lines) ++ flat_map (node_text picks busy) children)
    ++ written (codes "END:" ++ name)

-- lines and components without recurrence, where that goes
abbrev pub seen_lines : Bool → List Line → List Line
seen_lines without lines = if without then plain_lines lines else lines

abbrev pub seen_nodes : Bool → List Node → List Node
seen_nodes without nodes = if without then flat_map plain nodes else nodes
