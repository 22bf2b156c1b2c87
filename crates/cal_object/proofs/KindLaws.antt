-- Where the children of a calendar stand in the text does not matter to the object that they make up, nor to what is not stored; and the place of a child that cannot
-- stand is that of its number.
use Rattle.std.proofs.Common.{◌≡◌, ℕ, suc, ◌+◌, tests, rules, List, [], ◌∷◌, ◌++◌, refl, ap, ◌∙◌, map, length, Bool, true, false, inl, inr}
use Rattle.std.specs.Prelude.{not, ◌||◌, filter_map, filter, find, option_to_list, Option, Some, None, is_some, option_map, get_or, if◌then◌else◌, codes}
use Rattle.std.specs.List.{list_any, enumerate_from}
use Rattle.std.proofs.lemmas.Bool.{cases_Bool}
use Rattle.cal_base.specs.declared.line.Line.{Line}
use Rattle.cal_base.specs.declared.line.Node.{Node}
use Rattle.cal_base.specs.Lines.ComponentTrees.{or_else}
use Rattle.cal_base.specs.Lines.ContentLines.{Placed}
use Rattle.cal_model.specs.declared.object.Component.{Component}
use Rattle.cal_model.specs.declared.object.Kind.{Kind}
use Rattle.cal_model.specs.declared.object.NotResource.{NotResource}
use Rattle.cal_model.specs.declared.object.Object.{Object}
use Rattle.cal_model.specs.declared.zone.ZoneTable.{ZoneTable}
use Rattle.cal_model.specs.Words.Lists.{is_empty}
use Rattle.cal_model.specs.Instances.Rows.{Numbered, numbered_from, has_id}
use Rattle.cal_model.specs.Objects.ComponentLines.{has, lines_of, name_of, children_of, component_kind}
use Rattle.cal_model.specs.Objects.ComponentReading.{component_of}
use Rattle.cal_model.specs.Objects.CalendarChildren as spec
use Rattle.cal_model.specs.Objects.ResourceFaults.{are_different, some_has, lacks_zone, resource_faults, resource_fault}
use Rattle.cal_model.specs.Objects.ComponentFaults.{has_component_fault, component_fault}
use Rattle.cal_model.specs.Objects.CalendarChildren.{Child, child_at, child_places, children_in, kinds_among, component_of_child, object_of}
use Rattle.cal_model.specs.Objects.ZoneReading.{zone_names}
use Rattle.cal_object.specs.KindNodes.{is_kind, some_kind, lacks_uid, names_of, uids_of, component_at, components_from, object_with, first_bad_component, masters_among, row_that_holds, plain_rows, other_rows, resource_rows}

module _ (places : List ℕ) where
  -- the children from a number on that are of the four kinds
  abbrev kids : ℕ → List Node → List Child
  kids number nodes = kinds_among (map (child_at places) (enumerate_from number nodes))

  -- Tests of all of them

  none_is : (number : ℕ) (nodes : List Node) → is_empty (kids number nodes) ≡ not (list_any is_kind nodes)
  none_is number [] = refl
  none_is number (node ∷ nodes) = elim (cases_Bool (is_kind node)) [
    | inl w ↦ rw w (search (tests, rules))
    | inr w ↦ rw w (none_is (number + 1) nodes)
  ]

  any_is : (test : List Line → Bool) (number : ℕ) (nodes : List Node) → some_has test (kids number nodes) ≡ some_kind test nodes
  any_is test number [] = refl
  any_is test number (node ∷ nodes) = elim (cases_Bool (is_kind node)) [
    | inl w ↦ rw w (ap (λ others. test (lines_of node) || others) (any_is test (number + 1) nodes))
    | inr w ↦ rw w (any_is test (number + 1) nodes)
  ]

  names_are : (number : ℕ) (nodes : List Node) → map (λ (child : Child). name_of child.tree) (kids number nodes) ≡ names_of nodes
  names_are number [] = refl
  names_are number (node ∷ nodes) = elim (cases_Bool (is_kind node)) [
    | inl w ↦ rw w (ap (λ names. name_of node ∷ names) (names_are (number + 1) nodes))
    | inr w ↦ rw w (names_are (number + 1) nodes)
  ]

  uids_are : (number : ℕ) (nodes : List Node) → spec.uids_of (kids number nodes) ≡ uids_of nodes
  uids_are number [] = refl
  uids_are number (node ∷ nodes) = elim (cases_Bool (is_kind node)) [
    | inl w ↦ rw (w, uids_are (number + 1) nodes) refl
    | inr w ↦ rw w (uids_are (number + 1) nodes)
  ]

  -- The object

  -- a child is put before others where its kind is one of the four
  put_child : (made : Child → Option Component) (child : Child) (kind : Option Kind) (component : Kind → Component) (children : List Child) → made child ≡ option_map component kind →
      filter_map made (if is_some kind then child ∷ children else children) ≡ option_to_list (option_map component kind) ++ filter_map made children
  put_child made child None component children e = refl
  put_child made child (Some kind) component children e = rw e refl

  components_are : (names : List (List ℕ)) (number : ℕ) (nodes : List Node) → filter_map (component_of_child names) (kids number nodes) ≡ components_from names number nodes
  components_are names number [] = refl
  components_are names number (node ∷ nodes) =
      put_child (component_of_child names) (child_at places (number, node)) (component_kind node) (λ kind. component_of names number kind node) (kids (number + 1) nodes) refl
      ∙ ap (λ more. component_at names number node ++ more) (components_are names (number + 1) nodes)

  -- Components that cannot stand

  bad_is : (zones : List ZoneTable) (number : ℕ) (nodes : List Node) →
      component_fault zones (kids number nodes) ≡ option_map (λ found. get_or places found 0) (first_bad_component zones number nodes)
  bad_is zones number [] = refl
  bad_is zones number (node ∷ nodes) = elim (cases_Bool (is_kind node)) [
    | inr w ↦ rw w (bad_is zones (number + 1) nodes)
    | inl w ↦ rw w (elim (cases_Bool (has_component_fault zones (lines_of node))) [
      | inl v ↦ rw v refl
      | inr v ↦ rw v (bad_is zones (number + 1) nodes)
    ])
  ]

-- the object of a tree is that of its children, wherever these stand
pub object_of-children : (zones : List ZoneTable) (placed : List Placed) (calendar : Node) → object_with zones calendar ≡ object_of zones calendar (kinds_among (children_in placed calendar))
object_of-children zones placed calendar =
    let names = zone_names zones in
    let nodes = children_of calendar in
    let components = components_are (child_places placed) names 0 nodes in
    let uids = uids_are (child_places placed) 0 nodes in
    rw (components, uids) refl

pub component_fault-children : (zones : List ZoneTable) (placed : List Placed) (calendar : Node) →
    component_fault zones (kinds_among (children_in placed calendar)) ≡ option_map (λ found. get_or (child_places placed) found 0) (first_bad_component zones 0 (children_of calendar))
component_fault-children zones placed calendar = bad_is (child_places placed) zones 0 (children_of calendar)

-- Rows

pub found_row : (rows : List (Bool × NotResource)) → option_map (λ (row : Bool × NotResource). row.1) (find (λ (row : Bool × NotResource). row.0) rows) ≡ row_that_holds rows
found_row [] = refl
found_row ((true, why) ∷ rows) = refl
found_row ((false, why) ∷ rows) = found_row rows

pub row_that_holds-append : (rows more : List (Bool × NotResource)) → row_that_holds (rows ++ more) ≡ or_else (row_that_holds rows) (row_that_holds more)
row_that_holds-append [] more = refl
row_that_holds-append ((true, why) ∷ rows) more = refl
row_that_holds-append ((false, why) ∷ rows) more = row_that_holds-append rows more

masters_are : (number : ℕ) (components : List Component) → length (filter (λ (n : Numbered). not (has_id n)) (numbered_from number components)) ≡ length (masters_among components)
masters_are number [] = refl
masters_are number (component ∷ components) = elim (cases_Bool (is_some component.recurrence_id)) [
  | inl w ↦ rw w (masters_are (number + 1) components)
  | inr w ↦ rw w (ap suc (masters_are (number + 1) components))
]

-- the table of what is not stored, wherever the children stand
rows_are : (object : Object) (placed : List Placed) → resource_faults object (kinds_among (children_in placed object.tree)) ≡ resource_rows object (children_of object.tree)
rows_are object placed =
    let places = child_places placed in
    let nodes = children_of object.tree in
    let zones = zone_names object.zones in
    rw (
      none_is places 0 nodes,
      names_are places 0 nodes,
      any_is places lacks_uid 0 nodes,
      uids_are places 0 nodes,
      masters_are 0 object.components,
      any_is places (lacks_zone zones) 0 nodes,
      any_is places (has (codes "EXRULE")) 0 nodes,
    ) refl

pub resource_fault-children : (object : Object) (placed : List Placed) →
    resource_fault object (kinds_among (children_in placed object.tree)) ≡ or_else (row_that_holds (plain_rows object (children_of object.tree))) (row_that_holds (other_rows object (children_of object.tree)))
resource_fault-children object placed =
    found_row (resource_faults object (kinds_among (children_in placed object.tree))) ∙ ap row_that_holds (rows_are object placed)
    ∙ row_that_holds-append (plain_rows object (children_of object.tree)) (other_rows object (children_of object.tree))
