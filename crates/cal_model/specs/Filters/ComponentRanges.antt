-- Whether a component of an object's tree passes a range (RFC 4791, 9.7.1 and 9.9): which component of the object stands at a place of the tree, which alarm, and what their rows and triggers say.
-- Each test asks by itself for some row of all that are given: an alarm that meets an inner range may belong to another row than the one that met the outer range.
use Rattle.std.specs.Prelude.{ℕ, ◌==◌, Bool, true, false, ◌&&◌, ◌||◌, if◌then◌else◌, List, [], ◌∷◌, map, take, filter, count_by, option_to_list, slice_get, codes, ℤ, Option, Some, None}
use Rattle.std.specs.List.{list_any, enumerate_from}
use Rattle.cal_base.specs.declared.line.Node.{Node}
use Rattle.cal_model.specs.declared.object.Alarm.{Alarm}
use Rattle.cal_model.specs.declared.object.Object.{Object}
use Rattle.cal_model.specs.declared.object.Trigger.{Trigger}
use Rattle.cal_model.specs.declared.object.Trigger.TheVariants.{At, From}
use Rattle.cal_model.specs.declared.row.Fixed.{Fixed}
use Rattle.cal_model.specs.declared.row.Range.{Range}
use Rattle.cal_model.specs.declared.row.Row.{Row}
use Rattle.cal_model.specs.declared.zone.ZoneTable.{ZoneTable}
use Rattle.cal_model.specs.Objects.ComponentLines.{has, lines_of, children_of, is_named}
use Rattle.cal_model.specs.Objects.ComponentReading.{alarm_of, is_alarm}
use Rattle.cal_model.specs.Ranges.Overlap.{row_overlaps, alarm_overlaps, some_trigger, dated_fixed}
use Rattle.cal_model.specs.Instances.Rows.{Numbered, numbered}

-- What is matched: an object, rows of it, and the zone in which floating times are read.
pub record Matched : Type 0 where
  pub object : Object
  pub rows : List Row
  pub zone : ZoneTable

-- A component of the tree: the places that lead to it from the outermost one, the innermost first; whether it is a VTIMEZONE or stands in one; and what it holds.
pub record Site : Type 0 where
  pub path : List ℕ
  pub in_timezone : Bool
  pub node : Node

abbrev pub site_in : Site → ℕ × Node → Site
site_in site child = record {
  path = child.0 ∷ site.path;
  in_timezone = site.in_timezone || is_named (codes "VTIMEZONE") child.1;
  node = child.1;
}

-- the components in a component
abbrev pub sites_in : Site → List Site
sites_in site = map (site_in site) (enumerate_from 0 (children_of site.node))

-- the outermost component
abbrev pub whole_site : Object → Site
whole_site object = record { path = []; in_timezone = false; node = object.tree }

-- Ranges of components (RFC 4791, 9.9)

-- the component of the four kinds that is the child of that place
abbrev pub component_at : Object → ℕ → List Numbered
component_at object child = filter (λ (n : Numbered). n.component.child == child) (numbered object)

-- the component that stands at a path; only children of the outermost component are components of an object
abbrev pub component_at_path : Object → List ℕ → List Numbered
component_at_path object (child ∷ []) = component_at object child
component_at_path object other = []

abbrev pub rows_of_number : Matched → ℕ → List Row
rows_of_number matched number = filter (λ (row : Row). row.component == number) matched.rows

-- a component passes a range by some row of it
abbrev pub component_passes : Matched → Range → Numbered → Bool
component_passes matched range n = list_any (λ row. row_overlaps n.component row range matched.zone) (rows_of_number matched n.number)

-- Ranges of alarms (RFC 4791, 9.9; RFC 5545, 3.6.6)

-- a VALARM that has a TRIGGER
abbrev pub has_trigger : Node → Bool
has_trigger node = is_alarm node && has (codes "TRIGGER") (lines_of node)

-- the component of the four kinds in which a path's last component stands directly
abbrev pub holder_of : Object → List ℕ → List Numbered
holder_of object (place ∷ child ∷ []) = component_at object child
holder_of object other = []

-- how many alarms with a TRIGGER stand before a place in a child of the outermost component
abbrev pub alarms_before : Object → ℕ → ℕ → ℕ
alarms_before object place child = elim (slice_get (children_of object.tree) child) [
  | None ↦ 0
  | Some node ↦ count_by has_trigger (take place (children_of node))
]

-- the alarm at a path in its component, which numbers those that have a TRIGGER
abbrev pub alarm_at : Object → List ℕ → Numbered → Option Alarm
alarm_at object (place ∷ child ∷ []) n = slice_get n.component.alarms (alarms_before object place child)
alarm_at object other n = None

-- the moments of a component from which an alarm may count: those of its rows, and none, which is enough for an absolute trigger
abbrev pub moments_of_number : Matched → ℕ → List (Option Fixed)
moments_of_number matched number = None ∷ map (λ row. dated_fixed row matched.zone) (rows_of_number matched number)

-- some trigger of an alarm of a component lies in the range
abbrev pub alarm_passes : Matched → Range → Numbered → Alarm → Bool
alarm_passes matched range n alarm = list_any (λ at. alarm_overlaps alarm n.component at range) (moments_of_number matched n.number)

-- an alarm that stands elsewhere has its absolute trigger alone
abbrev pub absolute_moment : Trigger → Option ℤ
absolute_moment (At u) = Some u.0
absolute_moment (From related length) = None

abbrev pub lone_alarm_passes : Range → Alarm → Bool
lone_alarm_passes range alarm = list_any (some_trigger alarm range) (option_to_list (absolute_moment alarm.trigger))

-- a VALARM that stands directly in a component of the four kinds, and one that stands elsewhere
abbrev pub valarm_passes : Matched → Range → Site → List Numbered → Bool
valarm_passes matched range site [] = list_any (lone_alarm_passes range) (option_to_list (alarm_of site.node))
valarm_passes matched range site (n ∷ more) =
    has_trigger site.node && list_any (alarm_passes matched range n) (option_to_list (alarm_at matched.object site.path n))

-- a range that is asked of a component: a VALARM passes by some trigger, a component of the four kinds by some row, and no other does
abbrev pub range_passes : Matched → Range → Site → Bool
range_passes matched range site =
    if is_alarm site.node then valarm_passes matched range site (holder_of matched.object site.path)
    else list_any (component_passes matched range) (component_at_path matched.object site.path)

abbrev pub time_range_passes : Matched → Option Range → Site → Bool
time_range_passes matched None site = true
time_range_passes matched (Some range) site = range_passes matched range site
