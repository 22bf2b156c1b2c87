-- What holds of each calendar object that was read (RFC 5545, 3.6; RFC 4791, 4.1), and what the crates above rest on. How an object is read stands in `ObjectReading`.
use Rattle.std.specs.Prelude.{◌≡◌, ℕ, ◌<◌, ◌≤◌, true, List, [], ◌∷◌, ◌++◌, flat_map, length, option_to_list, slice_get, Option, Some, Ok, All, pos, ◌≤ℤ◌}
use Rattle.cal_base.specs.declared.line.Node.{Node}
use Rattle.cal_base.specs.Lines.LineGrammar.{IsReadAs}
use Rattle.cal_moment.specs.declared.stamp.Stamp.{Stamp}
use Rattle.cal_moment.specs.declared.stamp.Stamp.TheVariants.{Utc}
use Rattle.cal_moment.specs.declared.stamp.Length.{Length}
use Rattle.cal_moment.specs.declared.stamp.Period.{Period}
use Rattle.cal_model.specs.declared.object.Alarm.{Alarm}
use Rattle.cal_model.specs.declared.object.Class.{Class}
use Rattle.cal_model.specs.declared.object.Component.{Component}
use Rattle.cal_model.specs.declared.object.Extent.{Extent}
use Rattle.cal_model.specs.declared.object.Extent.TheVariants as extent
use Rattle.cal_model.specs.declared.object.Object.{Object}
use Rattle.cal_model.specs.declared.object.Trigger.{Trigger}
use Rattle.cal_model.specs.declared.object.Trigger.TheVariants.{At, From}
use Rattle.cal_model.specs.declared.zone.ZonePart.{ZonePart}
use Rattle.cal_model.specs.declared.zone.ZoneTable.{ZoneTable}
use Rattle.cal_model.specs.Words.Limits.{first_date, last_date}
use Rattle.cal_model.specs.Instances.Alignment.{written_value}
use Rattle.cal_model.specs.Ranges.Nearness.{IsTimed}
use Rattle.cal_model.specs.Ranges.Overlap.{seconds_of}
use Rattle.cal_model.specs.Recurrence.RuleBounds.{IsUsable}
use Rattle.cal_model.specs.Values.StampTexts.{is_known}
use Rattle.cal_model.specs.TimeZones.TableBounds.{IsPart}
use Rattle.cal_model.specs.TimeZones.ZoneOnsets.{table_of}
use Rattle.cal_model.specs.Instances.Rows.{masters}
use Rattle.cal_model.specs.Objects.ComponentLines.{children_of, component_kind}
use Rattle.cal_model.specs.Objects.LineValues.{is_short, is_short_end}
use Rattle.cal_model.specs.Objects.ZoneReading.{zone_names}
use Rattle.cal_model.specs.Objects.DatedLines.{stamps_of_period}
use Rattle.cal_model.specs.Objects.ObjectReading.{read_object}

-- some octets are read as this object
pub record IsRead (object : Object) : Type 0 where
  pub octets : List ℕ
  pub reading : read_object octets ≡ Ok object

-- a component is a child of a tree, and of the kind that it says
pub record IsChild (tree : Node) (component : Component) : Type 0 where
  pub node : Node
  pub found : slice_get (children_of tree) component.child ≡ Some node
  pub of_kind : component_kind node ≡ Some component.kind

-- the stamps of a component: those of its dates, of its end and of its periods
abbrev pub stamps_of_extent : Extent → List Stamp
stamps_of_extent (extent.End end) = end ∷ []
stamps_of_extent (extent.Due end) = end ∷ []
stamps_of_extent other = []

abbrev pub component_stamps : Component → List Stamp
component_stamps component =
    option_to_list component.start ++ stamps_of_extent component.extent ++ option_to_list component.recurrence_id
    ++ component.dates ++ flat_map stamps_of_period component.periods ++ component.except
    ++ flat_map (λ (entry : Option Class × Period). stamps_of_period entry.1) component.stored_busy

-- a stamp in a zone names one of these
abbrev pub IsKnown : List ZoneTable → Stamp → Type 0
IsKnown zones stamp = is_known (zone_names zones) stamp ≡ true

-- a stamp, as it is written, is a date that is served
pub record IsServed (stamp : Stamp) : Type 0 where
  pub from_first : first_date ≤ℤ written_value stamp
  pub to_last : written_value stamp ≤ℤ last_date

-- at most 200,000 days, forward or back
abbrev pub IsShort : Length → Type 0
IsShort length = is_short length ≡ true

-- not backwards
abbrev pub IsForward : Length → Type 0
IsForward length = pos 0 ≤ℤ seconds_of length

abbrev pub HasShortEnd : Period → Type 0
HasShortEnd period = is_short_end period.end ≡ true

abbrev pub lengths_of_extent : Extent → List Length
lengths_of_extent (extent.Lasting length) = length ∷ []
lengths_of_extent other = []

-- a trigger is a short length, or a moment that is served
abbrev pub IsBoundedTrigger : Trigger → Type 0
IsBoundedTrigger (At moment) = IsServed (Utc moment)
IsBoundedTrigger (From related length) = IsShort length

-- an alarm, and the gaps between its repeats
pub record IsReadAlarm (alarm : Alarm) : Type 0 where
  pub trigger : IsBoundedTrigger alarm.trigger
  pub gap : IsShort alarm.gap

-- what holds of each component of an object
pub record IsReadComponent (object : Object) (component : Component) : Type 0 where
  pub one_kind : component.kind ≡ object.kind
  pub child : IsChild object.tree component
  pub few_rules : length component.rules ≤ 8
  pub usable_rules : All IsUsable component.rules
  pub known_zones : All (IsKnown object.zones) (component_stamps component)
  pub served : All IsServed (component_stamps component)
  pub short_extent : All IsShort (lengths_of_extent component.extent)
  pub forward_extent : All IsForward (lengths_of_extent component.extent)
  pub short_periods : All HasShortEnd component.periods
  pub timed_periods : All IsTimed component.periods
  pub short_busy : All (λ (entry : Option Class × Period). HasShortEnd entry.1) component.stored_busy
  pub alarms : All IsReadAlarm component.alarms

-- a table is that of some parts that were read, and so has all that such tables have
pub record IsZone (zone : ZoneTable) : Type 0 where
  pub parts : List ZonePart
  pub read : All IsPart parts
  pub table : zone ≡ table_of zone.name parts

-- some text is read as lines that make up a tree
pub record HasText (tree : Node) : Type 0 where
  pub octets : List ℕ
  pub reading : IsReadAs octets tree

-- what holds of an object
pub record IsReadObject (object : Object) : Type 0 where
  pub some : 0 < length object.components
  pub components : All (IsReadComponent object) object.components
  pub zones : All IsZone object.zones
  pub one_master : length (masters object) ≤ 1
  pub own_text : HasText object.tree
