-- The parts of a component tree that a selection keeps: comp, allcomp, prop, allprop and novalue (RFC 4791, 9.6.1 to 9.6.4).
-- A fold over the tree, in which all picks of a component are taken together: what one of them keeps is kept, whatever the others leave out.
use Rattle.std.specs.Prelude.{ℕ, ◌-◌, true, false, not, if◌then◌else◌, List, [], ◌∷◌, length, take, filter, flat_map, bytes_eq, Option, Some, None}
use Rattle.std.specs.List.{list_any}
use Rattle.cal_base.specs.declared.line.Line.{Line}
use Rattle.cal_base.specs.declared.line.Node.{Node}
use Rattle.cal_base.specs.declared.line.Node.TheOpen.{Node-F}
use Rattle.cal_base.specs.declared.line.Node.TheFolds.{fold-Node}
use Rattle.cal_base.specs.Lines.ComponentTrees.{component, printed}
use Rattle.cal_model.specs.declared.selection.PropPick.{PropPick}
use Rattle.cal_model.specs.declared.selection.CompPick.{CompPick}
use Rattle.cal_model.specs.declared.selection.CompPick.TheViews.{out-CompPick, roll-CompPick}
use Rattle.cal_model.specs.Objects.ComponentLines.{name_of}
use Rattle.cal_model.specs.Words.Lists.{is_empty}

-- a line's text up to its colon, the colon included
abbrev pub header : Line → List ℕ
header line = take (length line.raw - length line.value) line.raw

-- a line without its value
abbrev pub without_value : Line → Line
without_value line = record line { value = []; raw = header line }

-- the pick that keeps all of a component, and the one that keeps a property whole
abbrev pub everything : CompPick
everything = roll-CompPick (record { name = []; all_props = true; props = []; all_comps = true; comps = [] })

abbrev pub whole_line : List ℕ → PropPick
whole_line name = record { name = name; no_value = false }

-- what one pick of a component says of a property of that name in it: allprop keeps each whole
abbrev pub prop_picks : List ℕ → CompPick → List PropPick
prop_picks name pick =
    if (out-CompPick pick).all_props then whole_line name ∷ []
    else filter (λ (prop : PropPick). bytes_eq prop.name name) (out-CompPick pick).props

-- what it says of a component of that name in it: allcomp keeps all of each
abbrev pub comp_picks : List ℕ → CompPick → List CompPick
comp_picks name pick =
    if (out-CompPick pick).all_comps then everything ∷ []
    else filter (λ comp. bytes_eq (out-CompPick comp).name name) (out-CompPick pick).comps

-- Several picks keep together what each keeps: a line that none names goes, and one that some pick keeps whole is whole.
abbrev pub line_by : List PropPick → Line → List Line
line_by picks line =
    if is_empty picks then []
    else (if list_any (λ (prop : PropPick). not prop.no_value) picks then line ∷ [] else without_value line ∷ [])

abbrev pub picked_line : List CompPick → Line → List Line
picked_line picks line = line_by (flat_map (prop_picks line.name) picks) line

-- a component's name, and what some picks keep of it
pub record Picked : Type 0 where
  pub name : List ℕ
  pub kept : List CompPick → Node

-- a component that no pick names goes
abbrev pub child_by : List CompPick → Picked → List Node
child_by picks child = elim (is_empty picks) [ true ↦ [] | false ↦ child.kept picks ∷ [] ]

abbrev pub picked_child : List CompPick → Picked → List Node
picked_child picks child = child_by (flat_map (comp_picks child.name) picks) child

abbrev pub pick_step : Node-F Picked → Picked
pick_step node = record {
  name = node.name;
  kept = λ picks. component node.name (record { lines = flat_map (picked_line picks) node.lines; children = flat_map (picked_child picks) node.children });
}

abbrev pub picked : Node → Picked
picked = fold-Node Picked pick_step

-- the text of what one pick keeps of a tree: nothing where it names another component than the outermost
abbrev pub text_by : CompPick → Node → List ℕ
text_by pick tree = if bytes_eq (out-CompPick pick).name (name_of tree) then printed ((picked tree).kept (pick ∷ [])) else []

-- the text of a tree, or of what is picked of it
abbrev pub picked_text : Option CompPick → Node → List ℕ
picked_text None tree = printed tree
picked_text (Some pick) tree = text_by pick tree
