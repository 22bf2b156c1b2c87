-- The zones of a calendar object: what a VTIMEZONE says, and which one cannot stand (RFC 5545, 3.6.5).
-- Which zone cannot stand is a test of it alone, and a sum over those up to it; a reader may let one count go on from zone to zone.
use Rattle.std.specs.Prelude.{ℕ, Bool, not, ◌||◌, nat_lt, List, [], ◌++◌, map, length, filter, filter_map, flat_map, sum, Option, Some, None, unwrap_or, codes, ℤ}
use Rattle.std.specs.List.{list_any}
use Rattle.cal_base.specs.declared.line.Line.{Line}
use Rattle.cal_base.specs.declared.line.Node.{Node}
use Rattle.cal_moment.specs.declared.stamp.Local.{Local}
use Rattle.cal_moment.specs.declared.stamp.Period.{Period}
use Rattle.cal_moment.specs.declared.stamp.Stamp.{Stamp}
use Rattle.cal_model.specs.declared.rule.Rule.{Rule}
use Rattle.cal_model.specs.declared.zone.ZonePart.{ZonePart}
use Rattle.cal_model.specs.declared.zone.ZoneTable.{ZoneTable}
use Rattle.cal_model.specs.Words.Lists.{is_empty}
use Rattle.cal_model.specs.Values.ValueTexts.{offset_of}
use Rattle.cal_model.specs.Values.StampTexts.{local_digits}
use Rattle.cal_model.specs.Recurrence.NextPassing.{is_fine}
use Rattle.cal_model.specs.TimeZones.ZoneOnsets.{table_over, table_count_over}
use Rattle.cal_model.specs.Objects.ComponentLines.{all_of, has, lines_of, children_of, is_named}
use Rattle.cal_model.specs.Objects.LineValues.{stamps_in, periods_in, stamp_at, value_at, rules_of}

-- Parts

-- the RDATEs of a part by their digits, of a period those of its start
abbrev pub dates_of_line : Line → List Local
dates_of_line line = map local_digits (stamps_in [] line ++ map (λ (period : Period). period.start) (periods_in [] line))

abbrev pub part_dates : List Line → List Local
part_dates lines = flat_map dates_of_line (all_of (codes "RDATE") lines)

abbrev pub part_with : List Line → Option Stamp → Option ℤ → Option ℤ → Option ZonePart
part_with lines (Some start) (Some from) (Some to) =
    Some (record { start = local_digits start; from = from; to = to; rules = rules_of lines; dates = part_dates lines })
part_with lines start from to = None

-- a part has DTSTART and both offsets; what lacks one of them is passed over
abbrev pub part_of_lines : List Line → Option ZonePart
part_of_lines lines =
    part_with lines (stamp_at [] (codes "DTSTART") lines) (value_at offset_of (codes "TZOFFSETFROM") lines) (value_at offset_of (codes "TZOFFSETTO") lines)

abbrev pub is_part : Node → Bool
is_part node = is_named (codes "STANDARD") node || is_named (codes "DAYLIGHT") node

abbrev pub parts_of_zone : Node → List ZonePart
parts_of_zone zone = filter_map (λ node. part_of_lines (lines_of node)) (filter is_part (children_of zone))

-- Tables

abbrev pub is_zone : Node → Bool
is_zone node = is_named (codes "VTIMEZONE") node

-- the value of TZID, which is compared octet by octet
abbrev pub zone_name : Node → List ℕ
zone_name zone = unwrap_or (value_at Some (codes "TZID") (lines_of zone)) []

abbrev pub zone_table : List ℕ → Node → ZoneTable
zone_table moments zone = table_over moments (zone_name zone) (parts_of_zone zone)

-- the zones of an object, by the components of its VCALENDAR
abbrev pub zones_of : List ℕ → Node → List ZoneTable
zones_of moments calendar = map (zone_table moments) (filter is_zone (children_of calendar))

abbrev pub zone_names : List ZoneTable → List (List ℕ)
zone_names zones = map (λ (zone : ZoneTable). zone.name) zones

-- Zones that cannot stand

-- a rule that repeats within the hour
abbrev pub is_fine_part : ZonePart → Bool
is_fine_part part = list_any (λ (rule : Rule). is_fine rule.freq) part.rules

-- more than eight rules, of a part or of a component
abbrev pub are_many : List Rule → Bool
are_many rules = nat_lt 8 (length rules)

-- it has no TZID, no part, a rule that repeats within the hour, or a part with many rules
abbrev pub has_zone_fault : Node → Bool
has_zone_fault zone =
    not (has (codes "TZID") (lines_of zone)) || is_empty (parts_of_zone zone)
    || list_any is_fine_part (parts_of_zone zone) || list_any (λ (part : ZonePart). are_many part.rules) (parts_of_zone zone)

-- the most that the zones of an object may count
abbrev pub onset_limit : ℕ
onset_limit = 50_000

-- some zones together count more
abbrev pub are_too_many : List ℕ → List Node → Bool
are_too_many moments zones = nat_lt onset_limit (sum (map (λ zone. table_count_over moments (parts_of_zone zone)) zones))
