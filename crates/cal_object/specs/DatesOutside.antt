-- The dates outside those that are served, as a walk from the front finds them: it keeps what is open, and reads each date beside no zones.
use Rattle.std.specs.Prelude.{ℕ, Bool, true, false, ◌&&◌, ◌||◌, ◌==◌, length, slice_get, if◌then◌else◌, List, [], ◌∷◌, ◌++◌, map, find, bytes_eq, codes, Option, Some, option_map}
use Rattle.cal_base.specs.declared.line.Line.{Line}
use Rattle.cal_base.specs.Lines.ComponentTrees.{is_begin, is_end, component_name}
use Rattle.cal_moment.specs.declared.stamp.Stamp.{Stamp}
use Rattle.cal_moment.specs.declared.stamp.Stamp.TheVariants.{Zoned}
use Rattle.cal_model.specs.Values.StampTexts.{param_value, zone_number}
use Rattle.cal_model.specs.Objects.DateFaults.{trigger_stamps, is_early, is_late}
use Rattle.cal_model.specs.Objects.DatedLines.{dated_stamps}
use Rattle.cal_object.specs.declared.outside.FoundDate.{FoundDate}
use Rattle.cal_object.specs.declared.outside.OpenKind.{OpenKind}
use Rattle.cal_object.specs.declared.outside.OpenKind.TheVariants.{Kind, Alarm, Other}
use Rattle.cal_object.specs.OwnFaults.{without_first}

-- Zones

-- a stamp of a text with the number of its line's zone
abbrev pub numbered : Option ℕ → Stamp → Stamp
numbered (Some number) (Zoned local other) = Zoned local number
numbered number stamp = stamp

-- a date that was found, beside the names of the object's zones
abbrev pub stamp_beside : List (List ℕ) → FoundDate → Stamp
stamp_beside zones found = numbered (option_map (zone_number zones) found.zone) found.stamp

-- What is open

-- the names of the four kinds
abbrev pub is_kind_name : List ℕ → Bool
is_kind_name name = bytes_eq name (codes "VEVENT") || bytes_eq name (codes "VTODO") || bytes_eq name (codes "VJOURNAL") || bytes_eq name (codes "VFREEBUSY")

-- what a component of a name is
abbrev pub kind_of_name : List ℕ → OpenKind
kind_of_name name = if is_kind_name name then Kind else (if bytes_eq name (codes "VALARM") then Alarm else Other)

-- what is open behind a line, the innermost first
abbrev pub kinds_behind : List OpenKind → Line → List OpenKind
kinds_behind open_ones line =
    if is_begin line then kind_of_name (component_name line) ∷ open_ones
    else (if is_end line then without_first open_ones else open_ones)

-- Dates

abbrev pub is_kind : Option OpenKind → Bool
is_kind (Some Kind) = true
is_kind other = false

abbrev pub is_alarm : Option OpenKind → Bool
is_alarm (Some Alarm) = true
is_alarm other = false

-- in a component of the four kinds within the outermost one
abbrev pub in_kind : List OpenKind → Bool
in_kind open_ones = (length open_ones == 2) && is_kind (slice_get open_ones 0)

-- in an alarm of such a one
abbrev pub in_alarm : List OpenKind → Bool
in_alarm open_ones = (length open_ones == 3) && is_alarm (slice_get open_ones 0) && is_kind (slice_get open_ones 1)

-- the dates of a line, by what is open where it stands
abbrev pub dates_within : List OpenKind → Line → List Stamp
dates_within open_ones line = if in_kind open_ones then dated_stamps [] line else (if in_alarm open_ones then trigger_stamps line else [])

-- with the name of the line's zone
abbrev pub found_in : Line → Stamp → FoundDate
found_in line stamp = record { stamp = stamp; zone = param_value (codes "TZID") line }

-- all dates of lines, where these components are open
abbrev pub dates_from : List OpenKind → List Line → List FoundDate
dates_from open_ones [] = []
dates_from open_ones (line ∷ lines) = map (found_in line) (dates_within open_ones line) ++ dates_from (kinds_behind open_ones line) lines

abbrev pub first_early : List FoundDate → Option FoundDate
first_early found = find (λ (one : FoundDate). is_early one.stamp) found

abbrev pub first_late : List FoundDate → Option FoundDate
first_late found = find (λ (one : FoundDate). is_late one.stamp) found
