-- What `build` keeps between two lines, and what it stands for: the components that are open, and the tree that they make up with the
-- lines to come.
use Rattle.std.specs.Prelude.{◌≡◌, ℕ, ◌<◌, suc, List, [], ◌∷◌, ◌++◌, map, Option, Some}
use Rattle.cal_base.specs.declared.line.Line.{Line}
use Rattle.cal_base.specs.declared.line.Node.{Node}
use Rattle.cal_base.specs.Lines.ComponentTrees.{Level, with_begin, levels_before, outermost, tree_of, component}
use Rattle.ical_objects.specs.declared.fault.TreeFault.{TreeFault}
use Rattle.ical_objects.specs.declared.open_component.OpenComponent.{OpenComponent}
use Rattle.ical_objects.specs.declared.from_lines.Progress.{Progress}
use Rattle.ical_objects.specs.declared.from_lines.Progress.TheVariants.{Nothing, Within, Whole}
use Rattle.ical_objects.specs.Faults.{IsFaultOf}
use Rattle.cal_base.specs.Lines.Nesting.{Opening, fault_from}

abbrev pub opening_of : OpenComponent → Opening
opening_of component = record { line = component.begin; name = component.name }

-- the components that are open, the innermost first
abbrev pub openings : Progress → List Opening
openings Nothing = []
openings (Within inner around) = opening_of inner ∷ map opening_of around
openings (Whole node) = []

-- what stands in an open component so far, before the rest of its level
abbrev pub with_so_far : OpenComponent → List Level → List Level
with_so_far component [] = []
with_so_far component (level ∷ levels) = record { lines = component.lines ++ level.lines; children = component.children ++ level.children } ∷ levels

-- the levels before all lines, from those before the lines to come
abbrev pub closed : List OpenComponent → List Level → List Level
closed [] levels = levels
closed (component ∷ around) levels = closed around (with_begin component.name (with_so_far component levels))

-- the tree of all lines, from the lines to come
abbrev pub tree_with : Progress → List Line → Option Node
tree_with Nothing lines = tree_of lines
tree_with (Within inner around) lines = outermost (closed (inner ∷ around) (levels_before lines))
tree_with (Whole node) lines = Some node

-- behind so many lines
abbrev pub IsBehind : ℕ → Progress → Type 0
IsBehind number Nothing = number ≡ 0
IsBehind number (Within inner around) = 0 < number
IsBehind number (Whole node) = 0 < number

-- A line more that has no fault. What stays to be shown of the lines to come is the same.
pub record IsStep (number : ℕ) (before : Progress) (line : Line) (after : Progress) : Type 0 where
  pub behind : IsBehind (suc number) after
  pub faults : (rest : List Line) → fault_from number (openings before) (line ∷ rest) ≡ fault_from (suc number) (openings after) rest
  pub trees : (rest : List Line) → tree_with before (line ∷ rest) ≡ tree_with after rest

-- a line more at which that fault stands
abbrev pub IsStop : ℕ → Progress → Line → TreeFault → Type 0
IsStop number before line fault = (rest : List Line) → IsFaultOf (fault_from number (openings before) (line ∷ rest)) fault

-- a component as it stands at its END
abbrev pub whole_node : OpenComponent → Node
whole_node inner = component inner.name (record { lines = inner.lines; children = inner.children })

-- what is open behind the END of the innermost component
abbrev pub ended : OpenComponent → List OpenComponent → Progress
ended inner [] = Whole (whole_node inner)
ended inner (outer ∷ around) = Within (record outer { children = outer.children ++ whole_node inner ∷ [] }) around
