-- A component of the four kinds as its lines and alarms say it (RFC 5545, 3.6.1 to 3.6.4 and 3.6.6).
-- One record, a table for its end and one for how busy it is.
use Rattle.std.specs.Prelude.{ℕ, Bool, false, ◌&&◌, ◌||◌, if◌then◌else◌, List, [], ◌∷◌, map, filter, filter_map, flat_map, bytes_eq, Option, Some, None, option_map, option_and_then, unwrap_or, codes, pos}
use Rattle.std.specs.List.{list_any}
use Rattle.cal_base.specs.declared.line.Line.{Line}
use Rattle.cal_base.specs.declared.line.Param.{Param}
use Rattle.cal_base.specs.declared.line.Node.{Node}
use Rattle.cal_base.specs.Texts.Text.{raised_all}
use Rattle.cal_moment.specs.declared.stamp.Length.{Length}
use Rattle.cal_moment.specs.declared.stamp.Period.{Period}
use Rattle.cal_moment.specs.declared.stamp.Stamp.{Stamp}
use Rattle.cal_moment.specs.declared.stamp.Stamp.TheVariants.{Date}
use Rattle.cal_model.specs.declared.object.Alarm.{Alarm}
use Rattle.cal_model.specs.declared.object.Class.{Class}
use Rattle.cal_model.specs.declared.object.Class.TheVariants.{Busy, Unavailable, Tentative}
use Rattle.cal_model.specs.declared.object.Component.{Component}
use Rattle.cal_model.specs.declared.object.Extent.{Extent}
use Rattle.cal_model.specs.declared.object.Extent.TheVariants as extent
use Rattle.cal_model.specs.declared.object.Kind.{Kind}
use Rattle.cal_model.specs.declared.object.Kind.TheVariants.{Event, Todo, Journal, FreeBusy}
use Rattle.cal_model.specs.declared.object.Trigger.{Trigger}
use Rattle.cal_model.specs.Values.ValueTexts.{length_of, moment_of}
use Rattle.cal_model.specs.Values.StampTexts.{param_value, trigger_of, repeat_of}
use Rattle.cal_model.specs.Values.RuleTexts.{word_of}
use Rattle.cal_model.specs.Objects.ComponentLines.{has_name, all_of, one_of, lines_of, children_of, is_named}
use Rattle.cal_model.specs.Objects.LineValues.{stamps_at, periods_in, periods_at, stamp_at, value_at, rules_of}

-- Ends

-- by no line: a DATE lasts its day in a VEVENT and a VJOURNAL
abbrev pub end_by_start : Kind → Option Stamp → Extent
end_by_start Event (Some (Date day)) = extent.WholeDay
end_by_start Journal (Some (Date day)) = extent.WholeDay
end_by_start Todo None = extent.None
end_by_start FreeBusy start = extent.None
end_by_start kind start = extent.Point

-- by DURATION, whether there is a start or not, or else by no line
abbrev pub extent_without_end : Kind → Option Stamp → Option Length → Extent
extent_without_end kind start (Some length) = extent.Lasting length
extent_without_end kind start None = end_by_start kind start

-- a VTODO ends by DUE, and all others by DTEND
abbrev pub end_stamp : List (List ℕ) → Kind → List Line → Option Extent
end_stamp zones Todo lines = option_map extent.Due (stamp_at zones (codes "DUE") lines)
end_stamp zones other lines = option_map extent.End (stamp_at zones (codes "DTEND") lines)

abbrev pub extent_of : List (List ℕ) → Kind → List Line → Extent
extent_of zones kind lines =
    unwrap_or (end_stamp zones kind lines)
    (extent_without_end kind (stamp_at zones (codes "DTSTART") lines) (value_at length_of (codes "DURATION") lines))

-- How busy a component makes

-- the first line of a name says a word, without ASCII case
abbrev pub says : List ℕ → List ℕ → List Line → Bool
says name word lines = elim (one_of name lines) [ None ↦ false | Some line ↦ bytes_eq (raised_all line.value) word ]

-- a VEVENT is free where it is transparent or cancelled; the other kinds are free
abbrev pub busy_of : Kind → List Line → Option Class
busy_of Event lines =
    if says (codes "TRANSP") (codes "TRANSPARENT") lines || says (codes "STATUS") (codes "CANCELLED") lines then None
    else (if says (codes "STATUS") (codes "TENTATIVE") lines then Some Tentative else Some Busy)
busy_of other lines = None

-- the words of FBTYPE; any other is BUSY (RFC 5545, 3.2.9)
abbrev pub busy_words : List (List ℕ × Option Class)
busy_words =
    (codes "FREE", None)
    ∷ (codes "BUSY", Some Busy)
    ∷ (codes "BUSY-UNAVAILABLE", Some Unavailable)
    ∷ (codes "BUSY-TENTATIVE", Some Tentative)
    ∷ []

abbrev pub class_of : Line → Option Class
class_of line = unwrap_or (option_and_then (word_of busy_words) (param_value (codes "FBTYPE") line)) (Some Busy)

-- the periods of FREEBUSY, which are in UTC, each with its class
abbrev pub stored_busy_of : List (List ℕ) → List Line → List (Option Class × Period)
stored_busy_of zones lines =
    flat_map (λ (line : Line). map (λ period. (class_of line, period)) (periods_in zones line)) (all_of (codes "FREEBUSY") lines)

-- Alarms

abbrev pub no_length : Length
no_length = record { days = pos 0; seconds = pos 0 }

abbrev pub alarm_with : List Line → Trigger → Alarm
alarm_with lines trigger = record {
  trigger = trigger;
  repeat = unwrap_or (value_at repeat_of (codes "REPEAT") lines) 0;
  gap = unwrap_or (value_at length_of (codes "DURATION") lines) no_length;
}

-- a VALARM without TRIGGER never goes off, and is left out
abbrev pub alarm_of : Node → Option Alarm
alarm_of node = option_map (alarm_with (lines_of node)) (option_and_then trigger_of (one_of (codes "TRIGGER") (lines_of node)))

abbrev pub is_alarm : Node → Bool
is_alarm node = is_named (codes "VALARM") node

-- All later instances

-- RANGE=THISANDFUTURE (RFC 5545, 3.2.13)
abbrev pub is_future : Param → Bool
is_future param = bytes_eq param.name (codes "RANGE") && list_any (λ value. bytes_eq (raised_all value) (codes "THISANDFUTURE")) param.values

-- a RECURRENCE-ID has it
abbrev pub has_future : List Line → Bool
has_future lines = list_any (λ (line : Line). has_name (codes "RECURRENCE-ID") line && list_any is_future line.params) lines

-- The component

-- one of a kind that is the child of a number, beside the names of the object's zones. Whether it moves all later instances depends on the other components too (`settled`).
abbrev pub component_of : List (List ℕ) → ℕ → Kind → Node → Component
component_of zones number kind node =
    let lines = lines_of node in
    record {
      kind = kind;
      child = number;
      start = stamp_at zones (codes "DTSTART") lines;
      extent = extent_of zones kind lines;
      recurrence_id = stamp_at zones (codes "RECURRENCE-ID") lines;
      rules = rules_of lines;
      dates = stamps_at zones (codes "RDATE") lines;
      periods = periods_at zones (codes "RDATE") lines;
      except = stamps_at zones (codes "EXDATE") lines;
      completed = value_at moment_of (codes "COMPLETED") lines;
      created = value_at moment_of (codes "CREATED") lines;
      busy = busy_of kind lines;
      stored_busy = stored_busy_of zones lines;
      alarms = filter_map alarm_of (filter is_alarm (children_of node));
      future = has_future lines;
    }
