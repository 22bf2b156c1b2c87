-- The calendar object that octets are, or the first fault (RFC 5545, 3.4 to 3.6; RFC 4791, 4.1), and the zone that a text is.
-- One table of faults, read from its top. As with zones, each definition takes the list of moments over which rules are taken; the reading itself is over `every_moment`.
use Rattle.std.specs.Prelude.{ℕ, Bool, false, ◌&&◌, if◌then◌else◌, List, [], ◌∷◌, ◌++◌, map, filter_map, Option, Some, None, Result, Ok, Err, option_map, slice_get, codes}
use Rattle.cal_base.specs.declared.line.Node.{Node}
use Rattle.cal_base.specs.Lines.ContentLines.{Placed, placed_lines, line_fault}
use Rattle.cal_base.specs.Lines.ComponentTrees.{NestingFault, unclosed, wrong_end, too_deep, nesting_fault, tree_of, first}
use Rattle.cal_moment.specs.declared.stamp.Stamp.{Stamp}
use Rattle.cal_model.specs.declared.object.Component.{Component}
use Rattle.cal_model.specs.declared.object.Kind.{Kind}
use Rattle.cal_model.specs.declared.object.NotResource.{NotResource}
use Rattle.cal_model.specs.declared.object.NotResource.TheVariants.{ZoneMissing}
use Rattle.cal_model.specs.declared.object.Object.{Object}
use Rattle.cal_model.specs.declared.zone.ZoneTable.{ZoneTable}
use Rattle.cal_model.specs.Recurrence.RecurrenceSet.{every_moment}
use Rattle.cal_model.specs.Instances.Alignment.{kind_of}
use Rattle.cal_model.specs.Instances.Rows.{ids_start}
use Rattle.cal_model.specs.Objects.ComponentLines.{is_named}
use Rattle.cal_model.specs.Objects.LineValues.{lines_in, own_fault}
use Rattle.cal_model.specs.Objects.ZoneReading.{zones_of, zone_names}
use Rattle.cal_model.specs.Objects.DateFaults.{stamp_outside}
use Rattle.cal_model.specs.Objects.ResourceFaults.{resource_fault}
use Rattle.cal_model.specs.Objects.ComponentFaults.{same_kind, component_fault}
use Rattle.cal_model.specs.Objects.ZoneFaults.{zone_fault}
use Rattle.cal_model.specs.Objects.CalendarChildren.{children_in, zones_among, kinds_among, object_of}

-- why octets are not read: they are no calendar, by the place of the fault; it cannot be stored; or a date of an object of a kind lies outside
pub data Unread : Type 0 where
  not_calendar : ℕ → Unread
  not_resource : NotResource → Unread
  date_outside : Kind → Stamp → Unread

-- the place of the line of a number, or 0 where there is no line
abbrev pub place_at : List Placed → ℕ → ℕ
place_at placed number = elim (slice_get placed number) [ None ↦ 0 | Some found ↦ found.place ]

abbrev pub line_of_fault : NestingFault → ℕ
line_of_fault (unclosed number) = number
line_of_fault (wrong_end number) = number
line_of_fault (too_deep number) = number

-- the first of several that is there
abbrev pub first_there : {X : Type 0} → List (Option X) → Option X
first_there options = first (filter_map (λ option. option) options)

-- The tables

-- what keeps a tree from being a calendar, components of the four kinds aside
abbrev pub calendar_faults : List ℕ → List Placed → Node → List (Option Unread)
calendar_faults moments placed calendar =
    (if is_named (codes "VCALENDAR") calendar then None else Some (not_calendar (place_at placed 0)))
    ∷ option_map not_calendar (own_fault placed)
    ∷ option_map not_calendar (zone_fault moments (zones_among (children_in placed calendar)))
    ∷ []

-- the object of a tree, faults aside
abbrev pub object_in : List ℕ → List Placed → Node → Object
object_in moments placed calendar = object_of (zones_of moments calendar) calendar (kinds_among (children_in placed calendar))

-- A component moves all later instances where its RECURRENCE-ID says so and its DTSTART is there, of the kind of the ids.
abbrev pub is_like : Option Stamp → Option Stamp → Bool
is_like (Some ids) (Some start) = same_kind (kind_of start) (kind_of ids)
is_like ids start = false

abbrev pub settled_component : Option Stamp → Component → Component
settled_component ids c = record c { future = c.future && is_like ids c.start }

abbrev pub settled : Object → Object
settled object = record object { components = map (settled_component (ids_start object)) object.components }

-- what keeps a calendar from being an object
abbrev pub object_faults : List Placed → Node → Object → List (Option Unread)
object_faults placed calendar object =
    let children = kinds_among (children_in placed calendar) in
    option_map not_calendar (component_fault object.zones children)
    ∷ option_map not_resource (resource_fault object children)
    ∷ option_map (date_outside object.kind) (stamp_outside (zone_names object.zones) (lines_in placed))
    ∷ []

-- What a tree is

abbrev pub read_tree : List ℕ → List Placed → Node → Result Object Unread
read_tree moments placed calendar =
    let object = object_in moments placed calendar in
    elim (first_there (calendar_faults moments placed calendar ++ object_faults placed calendar object)) [
      | Some fault ↦ Err fault
      | None ↦ Ok (settled object)
    ]

-- the first zone
abbrev pub read_zone_tree : List ℕ → List Placed → Node → Result ZoneTable Unread
read_zone_tree moments placed calendar = elim (first_there (calendar_faults moments placed calendar)) [
  | Some fault ↦ Err fault
  | None ↦ elim (first (zones_of moments calendar)) [ None ↦ Err (not_resource ZoneMissing) | Some zone ↦ Ok zone ]
]

-- What octets are

-- the reading of the tree that some lines are, where their nesting has no fault
abbrev pub read_lines_by : {X : Type 0} → (List Placed → Node → Result X Unread) → List Placed → Result X Unread
read_lines_by read placed = elim (nesting_fault (lines_in placed)) [
  | Some fault ↦ Err (not_calendar (place_at placed (line_of_fault fault)))
  | None ↦ elim (tree_of (lines_in placed)) [ None ↦ Err (not_calendar 0) | Some tree ↦ read placed tree ]
]

-- the same of octets, where their lines have no fault
abbrev pub read_by : {X : Type 0} → (List Placed → Node → Result X Unread) → List ℕ → Result X Unread
read_by read octets = elim (line_fault octets) [
  | Some place ↦ Err (not_calendar place)
  | None ↦ read_lines_by read (placed_lines octets)
]

abbrev pub read_object_over : List ℕ → List ℕ → Result Object Unread
read_object_over moments octets = read_by (read_tree moments) octets

abbrev pub read_zone_over : List ℕ → List ℕ → Result ZoneTable Unread
read_zone_over moments octets = read_by (read_zone_tree moments) octets

-- the object that octets are, or the first fault
abbrev pub read_object : List ℕ → Result Object Unread
read_object = read_object_over every_moment

-- the zone that octets are, or the first fault
abbrev pub read_zone : List ℕ → Result ZoneTable Unread
read_zone = read_zone_over every_moment
