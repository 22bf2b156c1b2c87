-- The dates of a component that a range in a prop-filter is tested on (RFC 4791, 9.7.2 and 9.9): those of its date properties, and the end that DURATION makes.
-- What a line's value spells stands in `StampTexts`, and which moments a range has in `Overlap`.
use Rattle.std.specs.Prelude.{ℕ, Bool, ◌&&◌, if◌then◌else◌, List, [], ◌∷◌, ◌++◌, filter_map, option_to_list, option_map, option_and_then, bytes_eq, codes, ℤ, Option}
use Rattle.std.specs.List.{list_any}
use Rattle.cal_base.specs.declared.line.Line.{Line}
use Rattle.cal_base.specs.declared.line.Node.{Node}
use Rattle.cal_base.specs.declared.line.Param.{Param}
use Rattle.cal_base.specs.Lines.ComponentTrees.{first}
use Rattle.cal_moment.specs.declared.stamp.Length.{Length}
use Rattle.cal_moment.specs.declared.stamp.Stamp.{Stamp}
use Rattle.cal_moment.specs.declared.stamp.Stamp.TheVariants.{Floating}
use Rattle.cal_moment.specs.Texts.{local_of_seconds}
use Rattle.cal_model.specs.declared.zone.ZoneTable.{ZoneTable}
use Rattle.cal_model.specs.Instances.Alignment.{written_value}
use Rattle.cal_model.specs.Objects.ComponentLines.{has_name, all_of, one_of, lines_of, is_named}
use Rattle.cal_model.specs.Objects.ZoneReading.{zone_names}
use Rattle.cal_model.specs.Ranges.Overlap.{date_in, effective_end}
use Rattle.cal_model.specs.Values.StampTexts.{stamps_in_grammar, stamps_of}
use Rattle.cal_model.specs.Values.ValueTexts.{length_of}

-- the date properties (RFC 5545, 3.8.2 and 3.8.7): a range may be asked of these alone
abbrev pub date_names : List (List ℕ)
date_names = codes "COMPLETED" ∷ codes "CREATED" ∷ codes "DTEND" ∷ codes "DTSTAMP" ∷ codes "DTSTART" ∷ codes "DUE" ∷ codes "LAST-MODIFIED" ∷ []

abbrev pub is_date_name : List ℕ → Bool
is_date_name name = list_any (bytes_eq name) date_names

-- How dates are read: the zones of the object, and the zone for floating values.
pub record DateReading : Type 0 where
  pub zones : List ZoneTable
  pub floating : ZoneTable

-- a stamp by its local digits alone
abbrev pub as_floating : Stamp → Stamp
as_floating stamp = Floating (local_of_seconds (written_value stamp))

-- the one stamp of a line; none where it names a zone that the object lacks
abbrev pub own_stamp : DateReading → Line → Option Stamp
own_stamp reading line = option_and_then first (stamps_of (zone_names reading.zones) line)

-- the same of a DTSTART in a VTIMEZONE, which is local time whatever it says beside (RFC 5545, 3.6.5)
abbrev pub local_stamp : DateReading → Line → Option Stamp
local_stamp reading line = option_map as_floating (option_and_then first (stamps_in_grammar (zone_names reading.zones) line))

-- the stamp of a date property; the flag is true in a VTIMEZONE
abbrev pub stamp_of_date : DateReading → Bool → Line → Option Stamp
stamp_of_date reading in_timezone line =
    if in_timezone && has_name (codes "DTSTART") line then local_stamp reading line else own_stamp reading line

-- a date: its moment in seconds since 1970, and the parameters of its line
pub record DatedLine : Type 0 where
  pub moment : ℤ
  pub params : List Param

abbrev pub date_of_line : DateReading → Bool → Line → Option DatedLine
date_of_line reading in_timezone line =
    option_map (λ stamp. record { moment = date_in reading.zones reading.floating stamp; params = line.params }) (stamp_of_date reading in_timezone line)

-- the start that DTSTART gives, and the length that DURATION gives
abbrev pub start_in : DateReading → Bool → List Line → Option Stamp
start_in reading in_timezone lines = option_and_then (stamp_of_date reading in_timezone) (one_of (codes "DTSTART") lines)

abbrev pub length_in : List Line → Option Length
length_in lines = option_and_then (λ (line : Line). length_of line.value) (one_of (codes "DURATION") lines)

-- the end of what starts at a stamp and lasts a length, as a line without parameters
abbrev pub end_after : DateReading → Length → Stamp → DatedLine
end_after reading length start = record {
  moment = effective_end reading.zones reading.floating start length;
  params = [];
}

-- the name of the property that says when a component ends
abbrev pub effective_end_name : Node → List ℕ
effective_end_name node = if is_named (codes "VTODO") node then codes "DUE" else codes "DTEND"

-- The effective end: where DURATION stands beside DTSTART, it is as if the end were written.
abbrev pub effective_line : DateReading → Bool → Node → Option DatedLine
effective_line reading in_timezone node =
    option_and_then (λ length. option_map (end_after reading length) (start_in reading in_timezone (lines_of node))) (length_in (lines_of node))

abbrev pub effective_lines_named : DateReading → Bool → Node → List ℕ → List DatedLine
effective_lines_named reading in_timezone node name =
    if bytes_eq name (effective_end_name node) then option_to_list (effective_line reading in_timezone node) else []

-- the dates of that name which a component has; a name that is none of the date properties has none
abbrev pub dates_named : DateReading → Bool → Node → List ℕ → List DatedLine
dates_named reading in_timezone node name =
    if is_date_name name
    then filter_map (date_of_line reading in_timezone) (all_of name (lines_of node)) ++ effective_lines_named reading in_timezone node name
    else []
