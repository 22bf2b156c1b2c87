-- Components that cannot stand, and the place of the first (RFC 5545, 3.6 and 3.8).
-- Each is a condition on the lines of one component.
use Rattle.std.specs.Prelude.{ℕ, ◌%◌, Bool, true, false, not, ◌&&◌, ◌||◌, ◌==◌, List, ◌++◌, find, Option, Some, None, option_map, codes, pos, int_lt, nat_abs}
use Rattle.std.specs.List.{list_any}
use Rattle.cal_base.specs.declared.line.Line.{Line}
use Rattle.cal_moment.specs.declared.stamp.Length.{Length}
use Rattle.cal_moment.specs.declared.stamp.Period.{Period}
use Rattle.cal_moment.specs.declared.stamp.PeriodEnd.{PeriodEnd}
use Rattle.cal_moment.specs.declared.stamp.PeriodEnd.TheVariants.{At, After}
use Rattle.cal_moment.specs.declared.stamp.Stamp.{Stamp}
use Rattle.cal_moment.specs.declared.stamp.Stamp.TheVariants.{Date}
use Rattle.cal_model.specs.declared.row.RowKind.{RowKind}
use Rattle.cal_model.specs.declared.row.RowKind.TheVariants as row
use Rattle.cal_model.specs.declared.zone.ZoneTable.{ZoneTable}
use Rattle.cal_model.specs.Values.ValueTexts.{length_of}
use Rattle.cal_model.specs.Values.StampTexts.{is_known}
use Rattle.cal_model.specs.Instances.Alignment.{Aligned, at, align, kind_of as stamp_kind}
use Rattle.cal_model.specs.Ranges.Overlap.{seconds_of}
use Rattle.cal_model.specs.Objects.ComponentLines.{has, lines_of}
use Rattle.cal_model.specs.Objects.LineValues.{periods_at, stamp_at, value_at, rules_of}
use Rattle.cal_model.specs.Objects.ZoneReading.{zone_names, are_many}
use Rattle.cal_model.specs.Objects.CalendarChildren.{Child}

-- stamps are compared only where the zones of both are there
abbrev pub are_known : List ZoneTable → Stamp → Stamp → Bool
are_known zones a b = is_known (zone_names zones) a && is_known (zone_names zones) b

abbrev pub is_before : Aligned → Aligned → Bool
is_before (at a) (at b) = int_lt a b
is_before other another = false

-- an end lies before a start, beside that start
abbrev pub ends_early : List ZoneTable → Stamp → Stamp → Bool
ends_early zones start end = are_known zones start end && is_before (align zones end start) (align zones start start)

-- dates, floating times and instants
abbrev pub same_kind : RowKind → RowKind → Bool
same_kind row.Date row.Date = true
same_kind row.Floating row.Floating = true
same_kind row.Instant row.Instant = true
same_kind other another = false

-- an end that is of another kind than its start, or lies before it
abbrev pub is_bad_end : List ZoneTable → Option Stamp → Option Stamp → Bool
is_bad_end zones (Some start) (Some end) = not (same_kind (stamp_kind end) (stamp_kind start)) || ends_early zones start end
is_bad_end zones start end = false

-- a period that ends before it starts
abbrev pub is_bad_period : List ZoneTable → Period → Bool
is_bad_period zones period = ends_at period.end
  where
    ends_at : PeriodEnd → Bool
    ends_at (At end) = ends_early zones period.start end
    ends_at (After length) = false

-- beside a DATE a length is of whole days
abbrev pub is_part_of_day : Option Stamp → Length → Bool
is_part_of_day (Some (Date day)) length = not (nat_abs length.seconds % 86_400 == 0)
is_part_of_day start length = false

-- a DURATION that is negative or does not fit its start
abbrev pub is_bad_length : Option Stamp → Option Length → Bool
is_bad_length start None = false
is_bad_length start (Some length) = int_lt (seconds_of length) (pos 0) || is_part_of_day start length

-- two lines say when the component ends
abbrev pub has_two_ends : List Line → Bool
has_two_ends lines = has (codes "DURATION") lines && (has (codes "DTEND") lines || has (codes "DUE") lines)

-- DTEND and DUE are both looked at, and periods too, whatever the kind is
abbrev pub has_component_fault : List ZoneTable → List Line → Bool
has_component_fault zones lines =
    let names = zone_names zones in
    let start = stamp_at names (codes "DTSTART") lines in
    are_many (rules_of lines) || has_two_ends lines
    || is_bad_end zones start (stamp_at names (codes "DTEND") lines) || is_bad_end zones start (stamp_at names (codes "DUE") lines)
    || list_any (is_bad_period zones) (periods_at names (codes "RDATE") lines ++ periods_at names (codes "FREEBUSY") lines)
    || is_bad_length start (value_at length_of (codes "DURATION") lines)

-- the place of the first of them
abbrev pub component_fault : List ZoneTable → List Child → Option ℕ
component_fault zones children =
    option_map (λ (child : Child). child.place) (find (λ (child : Child). has_component_fault zones (lines_of child.tree)) children)
