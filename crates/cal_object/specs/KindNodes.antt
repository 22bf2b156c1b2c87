-- The components of the four kinds among those of a calendar, and what is asked of all of them together. Where they stand in the text does not matter here.
use Rattle.std.specs.Prelude.{ℕ, ◌+◌, Bool, false, not, ◌&&◌, nat_lt, if◌then◌else◌, List, [], ◌∷◌, ◌++◌, map, filter, filter_map, length, option_to_list, bytes_eq, Option, Some, None, is_some, option_map, unwrap_or, codes}
use Rattle.std.specs.List.{list_any}
use Rattle.cal_base.specs.declared.line.Line.{Line}
use Rattle.cal_base.specs.declared.line.Node.{Node}
use Rattle.cal_base.specs.Lines.ComponentTrees.{first}
use Rattle.cal_base.specs.Texts.Text.{raised_all}
use Rattle.cal_model.specs.declared.object.Component.{Component}
use Rattle.cal_model.specs.declared.object.Kind.{Kind}
use Rattle.cal_model.specs.declared.object.Kind.TheVariants.{Event}
use Rattle.cal_model.specs.declared.object.NotResource.{NotResource}
use Rattle.cal_model.specs.declared.object.NotResource.TheVariants.{Method, NoComponent, MixedKinds, NoUid, MixedUids, TwoMasters, SameRecurrenceId, ZoneMissing, ExRule}
use Rattle.cal_model.specs.declared.object.Object.{Object}
use Rattle.cal_model.specs.declared.zone.ZoneTable.{ZoneTable}
use Rattle.cal_model.specs.Objects.ComponentLines.{has, lines_of, name_of, children_of, component_kind}
use Rattle.cal_model.specs.Objects.ComponentReading.{component_of}
use Rattle.cal_model.specs.Objects.LineValues.{value_at}
use Rattle.cal_model.specs.Objects.ResourceFaults.{are_different, has_repeat, aligned_ids, lacks_zone}
use Rattle.cal_model.specs.Objects.ComponentFaults.{has_component_fault}
use Rattle.cal_model.specs.Objects.ZoneReading.{zone_names}

abbrev pub is_kind : Node → Bool
is_kind node = is_some (component_kind node)

abbrev pub kind_nodes : List Node → List Node
kind_nodes nodes = filter is_kind nodes

-- a component is of the four kinds and has this of its lines
abbrev pub kind_has : (List Line → Bool) → Node → Bool
kind_has test node = is_kind node && test (lines_of node)

abbrev pub some_kind : (List Line → Bool) → List Node → Bool
some_kind test nodes = list_any (kind_has test) nodes

abbrev pub lacks_uid : List Line → Bool
lacks_uid lines = not (has (codes "UID") lines)

abbrev pub uid_of : Node → Option (List ℕ)
uid_of node = value_at Some (codes "UID") (lines_of node)

-- the names, and the UIDs, of the components of the four kinds
abbrev pub names_of : List Node → List (List ℕ)
names_of nodes = map name_of (kind_nodes nodes)

abbrev pub kind_uid : Node → Option (List ℕ)
kind_uid node = if is_kind node then uid_of node else None

abbrev pub uids_of : List Node → List (List ℕ)
uids_of nodes = filter_map kind_uid nodes

-- some text differs from the first one, where that has come already
abbrev pub differ_from : Option (List ℕ) → List (List ℕ) → Bool
differ_from None texts = are_different texts
differ_from (Some text) texts = list_any (λ other. not (bytes_eq text other)) texts

-- one of some values is a word, without ASCII case
abbrev pub has_word : List ℕ → List (List ℕ) → Bool
has_word word values = list_any (λ value. bytes_eq (raised_all value) word) values

abbrev pub is_other : Option (List ℕ) → List ℕ → Bool
is_other None text = false
is_other (Some first) text = not (bytes_eq first text)

-- The object

-- the component that the child of a number is
abbrev pub component_at : List (List ℕ) → ℕ → Node → List Component
component_at zones number node = option_to_list (option_map (λ kind. component_of zones number kind node) (component_kind node))

-- those of the children from a number on
abbrev pub components_from : List (List ℕ) → ℕ → List Node → List Component
components_from zones number [] = []
components_from zones number (node ∷ nodes) = component_at zones number node ++ components_from zones (number + 1) nodes

-- the kind of the first component
abbrev pub first_kind : List Component → Kind
first_kind components = unwrap_or (option_map (λ (component : Component). component.kind) (first components)) Event

-- the object of a calendar and its zones, faults aside
abbrev pub object_with : List ZoneTable → Node → Object
object_with zones calendar =
    let components = components_from (zone_names zones) 0 (children_of calendar) in
    record {
      kind = first_kind components;
      uid = unwrap_or (first (uids_of (children_of calendar))) [];
      tree = calendar;
      zones = zones;
      components = components;
    }

-- Its faults

-- the first child of the four kinds that cannot stand, of those from a number on
abbrev pub first_bad_component : List ZoneTable → ℕ → List Node → Option ℕ
first_bad_component zones number [] = None
first_bad_component zones number (node ∷ nodes) =
    if kind_has (has_component_fault zones) node then Some number else first_bad_component zones (number + 1) nodes

-- the components without RECURRENCE-ID
abbrev pub is_master : Component → Bool
is_master component = not (is_some component.recurrence_id)

abbrev pub masters_among : List Component → List Component
masters_among components = filter is_master components

-- the first row of a table that holds
abbrev pub row_that_holds : List (Bool × NotResource) → Option NotResource
row_that_holds [] = None
row_that_holds ((holds, why) ∷ rows) = if holds then Some why else row_that_holds rows

-- the table of what is not stored, by the children of a calendar: the rows that ask no memory, and the others
abbrev pub plain_rows : Object → List Node → List (Bool × NotResource)
plain_rows object nodes =
    (has (codes "METHOD") (lines_of object.tree), Method)
    ∷ (not (list_any is_kind nodes), NoComponent)
    ∷ (are_different (names_of nodes), MixedKinds)
    ∷ (some_kind lacks_uid nodes, NoUid)
    ∷ (are_different (uids_of nodes), MixedUids)
    ∷ (nat_lt 1 (length (masters_among object.components)), TwoMasters)
    ∷ []

abbrev pub other_rows : Object → List Node → List (Bool × NotResource)
other_rows object nodes =
    (has_repeat (aligned_ids object), SameRecurrenceId)
    ∷ (some_kind (lacks_zone (zone_names object.zones)) nodes, ZoneMissing)
    ∷ (some_kind (has (codes "EXRULE")) nodes, ExRule)
    ∷ []

abbrev pub resource_rows : Object → List Node → List (Bool × NotResource)
resource_rows object nodes = plain_rows object nodes ++ other_rows object nodes
