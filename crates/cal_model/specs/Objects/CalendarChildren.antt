-- The children of a calendar, each with its place in the text, and the object that they make, faults aside.
use Rattle.std.specs.Prelude.{ℕ, Bool, ◌&&◌, ◌==◌, List, [], map, get_or, filter, filter_map, Option, Some, is_some, option_map, unwrap_or, codes}
use Rattle.std.specs.List.{enumerate_from}
use Rattle.cal_base.specs.declared.line.Line.{Line}
use Rattle.cal_base.specs.declared.line.Node.{Node}
use Rattle.cal_base.specs.Lines.ContentLines.{Placed}
use Rattle.cal_base.specs.Lines.ComponentTrees.{is_begin, depth, first}
use Rattle.cal_model.specs.declared.object.Component.{Component}
use Rattle.cal_model.specs.declared.object.Kind.TheVariants.{Event}
use Rattle.cal_model.specs.declared.object.Object.{Object}
use Rattle.cal_model.specs.declared.zone.ZoneTable.{ZoneTable}
use Rattle.cal_model.specs.Objects.ComponentLines.{lines_of, children_of, component_kind}
use Rattle.cal_model.specs.Objects.LineValues.{value_at, lines_in}
use Rattle.cal_model.specs.Objects.ZoneReading.{is_zone, zone_names}
use Rattle.cal_model.specs.Objects.ComponentReading.{component_of}

-- The children of a calendar

-- a child: the place of its BEGIN in the text, its number among the children, from 0, and its tree
pub record Child : Type 0 where
  pub place : ℕ
  pub number : ℕ
  pub tree : Node

-- the places of the components that begin directly within the outermost one
abbrev pub begins_child : List Line → ℕ → Line → Bool
begins_child lines number line = is_begin line && (depth lines number == 1)

abbrev pub child_places : List Placed → List ℕ
child_places placed =
    map (λ (found : ℕ × Placed). found.1.place)
    (filter (λ (found : ℕ × Placed). begins_child (lines_in placed) found.0 found.1.line) (enumerate_from 0 placed))

abbrev pub child_at : List ℕ → ℕ × Node → Child
child_at places (number, tree) = record { place = get_or places number 0; number = number; tree = tree }

-- the child of a number begins at the place of that number
abbrev pub children_in : List Placed → Node → List Child
children_in placed calendar = map (child_at (child_places placed)) (enumerate_from 0 (children_of calendar))

-- those that define zones, and those of the four kinds; others are stored and do not count
abbrev pub zones_among : List Child → List Child
zones_among children = filter (λ (child : Child). is_zone child.tree) children

abbrev pub kinds_among : List Child → List Child
kinds_among children = filter (λ (child : Child). is_some (component_kind child.tree)) children

-- The object that a tree is, faults aside

abbrev pub component_of_child : List (List ℕ) → Child → Option Component
component_of_child zones child = option_map (λ kind. component_of zones child.number kind child.tree) (component_kind child.tree)

-- the first UID of each component
abbrev pub uids_of : List Child → List (List ℕ)
uids_of children = filter_map (λ (child : Child). value_at Some (codes "UID") (lines_of child.tree)) children

-- Its kind and UID are those of the first component. Where there is none they say nothing, and the tree has a fault.
abbrev pub object_of : List ZoneTable → Node → List Child → Object
object_of zones calendar children =
    let components = filter_map (component_of_child (zone_names zones)) children in
    record {
      kind = unwrap_or (option_map (λ (component : Component). component.kind) (first components)) Event;
      uid = unwrap_or (first (uids_of children)) [];
      tree = calendar;
      zones = zones;
      components = components;
    }
