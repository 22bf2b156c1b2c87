-- The lines and components of a component tree by name (RFC 5545, 3.4 and 3.6), and which of them are the four kinds that a calendar stores.
-- A name is looked for in the whole list of the lines, or of the children, of one component.
use Rattle.std.specs.Prelude.{ℕ, Bool, List, [], ◌∷◌, filter, find, Option, option_map, codes}
use Rattle.std.specs.List.{list_any}
use Rattle.std.specs.Str.{bytes_eq}
use Rattle.cal_base.specs.declared.line.Line.{Line}
use Rattle.cal_base.specs.declared.line.Node.{Node}
use Rattle.cal_base.specs.declared.line.Node.TheViews.{out-Node}
use Rattle.cal_model.specs.declared.object.Kind.{Kind}
use Rattle.cal_model.specs.declared.object.Kind.TheVariants.{Event, Todo, Journal, FreeBusy}

-- whether a line has this name, which is in upper case
abbrev pub has_name : List ℕ → Line → Bool
has_name name line = bytes_eq line.name name

-- all lines of a name
abbrev pub all_of : List ℕ → List Line → List Line
all_of name lines = filter (has_name name) lines

-- the first line of a name: where a line may stand once, the one that counts
abbrev pub one_of : List ℕ → List Line → Option Line
one_of name lines = find (has_name name) lines

-- some line has this name
abbrev pub has : List ℕ → List Line → Bool
has name lines = list_any (has_name name) lines

-- what stands in a component
abbrev pub lines_of : Node → List Line
lines_of node = (out-Node node).lines

abbrev pub name_of : Node → List ℕ
name_of node = (out-Node node).name

abbrev pub children_of : Node → List Node
children_of node = (out-Node node).children

-- whether a component has this name, which is in upper case
abbrev pub is_named : List ℕ → Node → Bool
is_named name node = bytes_eq (name_of node) name

-- the four kinds of components that a calendar stores, by their names
abbrev pub kinds : List (List ℕ × Kind)
kinds = (codes "VEVENT", Event) ∷ (codes "VTODO", Todo) ∷ (codes "VJOURNAL", Journal) ∷ (codes "VFREEBUSY", FreeBusy) ∷ []

-- the kind of a component of that name, if it is one of the four
abbrev pub kind_named : List ℕ → Option Kind
kind_named name = option_map (λ (row : List ℕ × Kind). row.1) (find (λ (row : List ℕ × Kind). bytes_eq row.0 name) kinds)

abbrev pub component_kind : Node → Option Kind
component_kind node = kind_named (name_of node)
