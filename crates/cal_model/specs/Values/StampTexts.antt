-- The stamps, periods, triggers and numbers that the value of a line is (RFC 5545, 3.3.4 to 3.3.9 and 3.8), with the parameters
-- VALUE, TZID and RELATED. A value is cut into its items as a whole, and each item is read by itself.
use Rattle.std.specs.Prelude.{ℕ, Bool, true, false, ◌&&◌, ◌||◌, ◌==◌, nat_lt, if◌then◌else◌, List, [], ◌∷◌, map, length, find, bytes_eq, codes, Option, Some, None, option_map, option_and_then, ℤ, pos, int_le, nat_abs}
use Rattle.std.specs.List.{list_any, list_all, position_or_len}
use Rattle.cal_base.specs.declared.line.Line.{Line}
use Rattle.cal_base.specs.declared.line.Param.{Param}
use Rattle.cal_base.specs.Lines.ComponentTrees.{first, or_else}
use Rattle.cal_base.specs.Lines.ContentLines.{pieces, every}
use Rattle.cal_base.specs.Texts.Octets.{comma}
use Rattle.cal_base.specs.Texts.Text.{raised_all}
use Rattle.cal_moment.specs.declared.stamp.Local.{Local}
use Rattle.cal_moment.specs.declared.stamp.Period.{Period}
use Rattle.cal_moment.specs.declared.stamp.PeriodEnd.{PeriodEnd}
use Rattle.cal_moment.specs.declared.stamp.PeriodEnd.TheVariants.{At as EndAt, After}
use Rattle.cal_moment.specs.declared.stamp.Stamp.{Stamp}
use Rattle.cal_moment.specs.declared.stamp.Stamp.TheVariants.{Date, Floating, Zoned, Utc as AtUtc}
use Rattle.cal_moment.specs.Texts.{local_of_seconds}
use Rattle.cal_model.specs.declared.object.Related.{Related}
use Rattle.cal_model.specs.declared.object.Related.TheVariants.{Start, End}
use Rattle.cal_model.specs.declared.object.Trigger.{Trigger}
use Rattle.cal_model.specs.declared.object.Trigger.TheVariants.{At as TriggerAt, From}
use Rattle.cal_model.specs.Values.ValueTexts.{date_of, date_time_of, utc_of_local, moment_of, integer_of, length_of, is_negative, cut}

-- Parameters

-- the first value of the first parameter of a name; the others do not count
abbrev pub param_value : List ℕ → Line → Option (List ℕ)
param_value name line = option_and_then (λ (param : Param). first param.values) (find (λ (param : Param). bytes_eq param.name name) line.params)

-- whether that value is a word, without ASCII case
abbrev pub param_is : List ℕ → List ℕ → Line → Bool
param_is name word line = elim (param_value name line) [ None ↦ false | Some value ↦ bytes_eq (raised_all value) word ]

-- Zones

-- The number of a zone is its place among the names of the object's zones, which are compared octet by octet. A name that is none
-- of them has the number behind the last.
abbrev pub zone_number : List (List ℕ) → List ℕ → ℕ
zone_number zones name = position_or_len (bytes_eq name) zones

-- the number of the zone that a line names
abbrev pub line_zone : List (List ℕ) → Line → Option ℕ
line_zone zones line = option_map (zone_number zones) (param_value (codes "TZID") line)

-- whether a stamp's zone is one of these
abbrev pub is_known : List (List ℕ) → Stamp → Bool
is_known zones (Zoned local number) = nat_lt number (length zones)
is_known zones (Date day) = true
is_known zones (Floating local) = true
is_known zones (AtUtc moment) = true

-- Stamps

-- a DATE-TIME is of UTC where its text says so, else of the zone that is named, else of none
abbrev pub stamp_of_time : Option ℕ → Local × Bool → Stamp
stamp_of_time number (local, true) = AtUtc (utc_of_local local)
stamp_of_time (Some number) (local, false) = Zoned local number
stamp_of_time None (local, false) = Floating local

abbrev pub time_stamp : Option ℕ → List ℕ → Option Stamp
time_stamp number text = option_map (stamp_of_time number) (date_time_of text)

-- a DATE-TIME that is read as UTC
abbrev pub utc_stamp : List ℕ → Option Stamp
utc_stamp text = option_map AtUtc (moment_of text)

-- a DATE where VALUE says so or the text has eight octets, else a DATE-TIME; any other word of VALUE is passed by
abbrev pub is_date_text : Line → List ℕ → Bool
is_date_text line text = param_is (codes "VALUE") (codes "DATE") line || (length text == 8)

abbrev pub date_or_time : List (List ℕ) → Line → List ℕ → Option Stamp
date_or_time zones line text =
    if is_date_text line text then option_map Date (date_of text) else time_stamp (line_zone zones line) text

-- the digits of a stamp as they stand in its text; a date is its midnight
abbrev pub local_digits : Stamp → Local
local_digits (Date day) = record { day = day.0; second = 0 }
local_digits (Floating local) = local
local_digits (Zoned local number) = local
local_digits (AtUtc moment) = local_of_seconds moment.0

-- Lines

abbrev pub is_one_of : List (List ℕ) → Line → Bool
is_one_of names line = list_any (bytes_eq line.name) names

-- the lines whose value is a list, joined by commas (RFC 5545, 3.8.5.1, 3.8.5.2 and 3.8.2.6)
abbrev pub list_names : List (List ℕ)
list_names = codes "EXDATE" ∷ codes "RDATE" ∷ codes "FREEBUSY" ∷ []

-- the lines whose moments are read as UTC (RFC 5545, 3.8.2.1, 3.8.7.1 to 3.8.7.3, 3.8.2.6 and 3.8.6.3)
abbrev pub utc_names : List (List ℕ)
utc_names = codes "COMPLETED" ∷ codes "CREATED" ∷ codes "DTSTAMP" ∷ codes "LAST-MODIFIED" ∷ codes "FREEBUSY" ∷ codes "TRIGGER" ∷ []

-- the items of a line's value
abbrev pub items_of : Line → List (List ℕ)
items_of line = if is_one_of list_names line then pieces comma line.value else line.value ∷ []

-- one stamp of a line; where UTC is meant there are no dates
abbrev pub stamp_of : List (List ℕ) → Line → List ℕ → Option Stamp
stamp_of zones line text = if is_one_of utc_names line then utc_stamp text else date_or_time zones line text

-- the stamps of a line's value, if it is in its grammar, whatever zone it names
unfoldable pub stamps_in_grammar : List (List ℕ) → Line → Option (List Stamp)
stamps_in_grammar zones line = every (map (stamp_of zones line) (items_of line))

-- the same where each zone that it needs is known
abbrev pub if_known : List (List ℕ) → List Stamp → Option (List Stamp)
if_known zones stamps = if list_all (is_known zones) stamps then Some stamps else None

abbrev pub stamps_of : List (List ℕ) → Line → Option (List Stamp)
stamps_of zones line = option_and_then (if_known zones) (stamps_in_grammar zones line)

-- Periods (RFC 5545, 3.3.9): DATE-TIME `/` DATE-TIME, or DATE-TIME `/` DURATION without a minus

-- how a period ends, where its moments are read so
abbrev pub length_ahead : List ℕ → Option PeriodEnd
length_ahead text = if is_negative text then None else option_map After (length_of text)

abbrev pub written_period_end : (List ℕ → Option Stamp) → List ℕ → Option PeriodEnd
written_period_end moment text = or_else (option_map EndAt (moment text)) (length_ahead text)

abbrev pub period_of_ends : Option Stamp → Option PeriodEnd → Option Period
period_of_ends (Some start) (Some end) = Some (record { start = start; end = end })
period_of_ends (Some start) None = None
period_of_ends None end = None

abbrev pub period_with : (List ℕ → Option Stamp) → List ℕ → Option Period
period_with moment text = elim (cut 47 text) [
  | None ↦ None
  | Some parts ↦ period_of_ends (moment parts.0) (written_period_end moment parts.1)
]

-- one period of a line; those of FREEBUSY are in UTC
abbrev pub period_of : List (List ℕ) → Line → List ℕ → Option Period
period_of zones line text = if is_one_of utc_names line then period_with utc_stamp text else period_with (time_stamp (line_zone zones line)) text

-- the periods of a line's value, if it is in its grammar, whatever zone it names
unfoldable pub periods_in_grammar : List (List ℕ) → Line → Option (List Period)
periods_in_grammar zones line = every (map (period_of zones line) (items_of line))

-- the same where each zone that it needs is known
abbrev pub is_end_known : List (List ℕ) → PeriodEnd → Bool
is_end_known zones (EndAt stamp) = is_known zones stamp
is_end_known zones (After length) = true

abbrev pub is_period_known : List (List ℕ) → Period → Bool
is_period_known zones period = is_known zones period.start && is_end_known zones period.end

abbrev pub if_periods_known : List (List ℕ) → List Period → Option (List Period)
if_periods_known zones periods = if list_all (is_period_known zones) periods then Some periods else None

abbrev pub periods_of : List (List ℕ) → Line → Option (List Period)
periods_of zones line = option_and_then (if_periods_known zones) (periods_in_grammar zones line)

-- an RDATE has periods where VALUE says so (RFC 5545, 3.8.5.2); no other line of dates does
abbrev pub has_periods : Line → Bool
has_periods line = bytes_eq line.name (codes "RDATE") && param_is (codes "VALUE") (codes "PERIOD") line

-- Alarms (RFC 5545, 3.8.6.2 and 3.8.6.3)

-- the end of a component that a trigger counts from
abbrev pub related_of : Line → Related
related_of line = if param_is (codes "RELATED") (codes "END") line then End else Start

-- a moment where VALUE is DATE-TIME, else a length
unfoldable pub trigger_of : Line → Option Trigger
trigger_of line =
    if param_is (codes "VALUE") (codes "DATE-TIME") line then option_map TriggerAt (moment_of line.value)
    else option_map (From (related_of line)) (length_of line.value)

-- a number that is not negative
abbrev pub not_negative : ℤ → Option ℕ
not_negative n = if int_le (pos 0) n then Some (nat_abs n) else None

-- REPEAT: an INTEGER that is not negative
abbrev pub repeat_of : List ℕ → Option ℕ
repeat_of text = option_and_then not_negative (integer_of text)
