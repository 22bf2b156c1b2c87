-- What a calendar does not store (RFC 4791, 4.1): a table read from its top picks one.
-- Each is a condition on the tree or on its components.
use Rattle.std.specs.Prelude.{ℕ, Bool, true, false, not, ◌||◌, nat_lt, List, [], ◌∷◌, map, length, filter, filter_map, flat_map, find, bytes_eq, Option, Some, None, option_map, codes}
use Rattle.std.specs.List.{list_any}
use Rattle.cal_base.specs.declared.line.Line.{Line}
use Rattle.cal_moment.specs.declared.stamp.Stamp.{Stamp}
use Rattle.cal_moment.specs.declared.stamp.Stamp.TheVariants.{Date, Floating}
use Rattle.cal_model.specs.declared.object.Component.{Component}
use Rattle.cal_model.specs.declared.object.NotResource.{NotResource}
use Rattle.cal_model.specs.declared.object.NotResource.TheVariants.{Method, NoComponent, MixedKinds, NoUid, MixedUids, TwoMasters, SameRecurrenceId, ZoneMissing, ExRule}
use Rattle.cal_model.specs.declared.object.Object.{Object}
use Rattle.cal_model.specs.declared.zone.ZoneTable.{ZoneTable}
use Rattle.cal_model.specs.Words.Lists.{is_empty}
use Rattle.cal_model.specs.Words.Integers.{same_int}
use Rattle.cal_model.specs.Values.StampTexts.{is_known}
use Rattle.cal_model.specs.Instances.Alignment.{Aligned, at, on_day, align}
use Rattle.cal_model.specs.Instances.Rows.{masters, ids_start}
use Rattle.cal_model.specs.Objects.ComponentLines.{has, lines_of, name_of}
use Rattle.cal_model.specs.Objects.ZoneReading.{zone_names}
use Rattle.cal_model.specs.Objects.CalendarChildren.{Child, uids_of}
use Rattle.cal_model.specs.Objects.DatedLines.{dated_stamps}

-- some text differs from the first
abbrev pub are_different : List (List ℕ) → Bool
are_different [] = false
are_different (text ∷ texts) = list_any (λ other. not (bytes_eq text other)) texts

abbrev pub same_aligned : Aligned → Aligned → Bool
same_aligned (at a) (at b) = same_int a b
same_aligned (on_day a) (on_day b) = same_int a b
same_aligned other another = false

abbrev pub has_repeat : List Aligned → Bool
has_repeat [] = false
has_repeat (id ∷ ids) = list_any (same_aligned id) ids || has_repeat ids

-- the zone that aligning needs is there: a zoned time is read in its own zone, and a floating one in that of the start; beside a DATE or a floating start the digits alone count
abbrev pub can_align : List ZoneTable → Stamp → Stamp → Bool
can_align zones id (Date day) = true
can_align zones id (Floating local) = true
can_align zones (Floating local) start = is_known (zone_names zones) start
can_align zones id start = is_known (zone_names zones) id

-- the RECURRENCE-IDs beside the start that the ids of an object are compared beside
abbrev pub aligned_ids : Object → List Aligned
aligned_ids object = beside (ids_start object)
  where
    beside : Option Stamp → List Aligned
    beside None = []
    beside (Some start) =
        map (λ id. align object.zones id start)
        (filter (λ id. can_align object.zones id start) (filter_map (λ (component : Component). component.recurrence_id) object.components))

-- a date is in a zone that is not there
abbrev pub lacks_zone : List (List ℕ) → List Line → Bool
lacks_zone zones lines = list_any (λ stamp. not (is_known zones stamp)) (flat_map (dated_stamps zones) lines)

-- some component has this of its lines
abbrev pub some_has : (List Line → Bool) → List Child → Bool
some_has test children = list_any (λ (child : Child). test (lines_of child.tree)) children

-- the table of what is not stored
abbrev pub resource_faults : Object → List Child → List (Bool × NotResource)
resource_faults object children =
    (has (codes "METHOD") (lines_of object.tree), Method)
    ∷ (is_empty children, NoComponent)
    ∷ (are_different (map (λ (child : Child). name_of child.tree) children), MixedKinds)
    ∷ (some_has (λ lines. not (has (codes "UID") lines)) children, NoUid)
    ∷ (are_different (uids_of children), MixedUids)
    ∷ (nat_lt 1 (length (masters object)), TwoMasters)
    ∷ (has_repeat (aligned_ids object), SameRecurrenceId)
    ∷ (some_has (lacks_zone (zone_names object.zones)) children, ZoneMissing)
    ∷ (some_has (has (codes "EXRULE")) children, ExRule)
    ∷ []

-- its first row that holds
abbrev pub resource_fault : Object → List Child → Option NotResource
resource_fault object children =
    option_map (λ (row : Bool × NotResource). row.1) (find (λ (row : Bool × NotResource). row.0) (resource_faults object children))
