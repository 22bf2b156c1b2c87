-- What the lines of a component say, by their names, and the lines of a calendar object that cannot stand (RFC 5545, 3.3 and 3.8).
-- Which line cannot stand is a table of names and a test of one line within the list of all lines: lines of one component are those with the same innermost BEGIN. A reader may walk through the components instead.
use Rattle.std.specs.Prelude.{ℕ, ◌*◌, Bool, true, false, not, ◌&&◌, ◌||◌, ◌==◌, nat_le, if◌then◌else◌, List, [], ◌∷◌, map, take, filter, filter_map, flat_map, find, bytes_eq, Option, Some, None, is_some, option_map, option_and_then, unwrap_or, codes, nat_abs}
use Rattle.std.specs.List.{list_any, list_all, enumerate_from}
use Rattle.cal_base.specs.declared.line.Line.{Line}
use Rattle.cal_base.specs.Lines.ComponentTrees.{innermost, first}
use Rattle.cal_base.specs.Lines.ContentLines.{Placed}
use Rattle.cal_moment.specs.declared.stamp.Length.{Length}
use Rattle.cal_moment.specs.declared.stamp.Period.{Period}
use Rattle.cal_moment.specs.declared.stamp.PeriodEnd.{PeriodEnd}
use Rattle.cal_moment.specs.declared.stamp.PeriodEnd.TheVariants.{At, After}
use Rattle.cal_moment.specs.declared.stamp.Stamp.{Stamp}
use Rattle.cal_model.specs.declared.object.Trigger.{Trigger}
use Rattle.cal_model.specs.declared.object.Trigger.TheVariants.{At as AtMoment, From}
use Rattle.cal_model.specs.declared.rule.Rule.{Rule}
use Rattle.cal_model.specs.Values.ValueTexts.{length_of, offset_of}
use Rattle.cal_model.specs.Values.StampTexts.{stamps_in_grammar, periods_in_grammar, has_periods, trigger_of, repeat_of}
use Rattle.cal_model.specs.Values.RuleTexts.{rule_of}
use Rattle.cal_model.specs.Ranges.Overlap.{seconds_of}
use Rattle.cal_model.specs.Objects.ComponentLines.{has_name, all_of, one_of}

-- What lines say

-- the lines whose values are periods: an RDATE that says so, and each FREEBUSY
abbrev pub is_of_periods : Line → Bool
is_of_periods line = has_periods line || has_name (codes "FREEBUSY") line

-- the stamps of a line and its periods, beside the names of the object's zones: none where the value cannot be read
abbrev pub stamps_in : List (List ℕ) → Line → List Stamp
stamps_in zones line = if is_of_periods line then [] else unwrap_or (stamps_in_grammar zones line) []

abbrev pub periods_in : List (List ℕ) → Line → List Period
periods_in zones line = if is_of_periods line then unwrap_or (periods_in_grammar zones line) [] else []

-- the stamps and the periods of all lines of a name
abbrev pub stamps_at : List (List ℕ) → List ℕ → List Line → List Stamp
stamps_at zones name lines = flat_map (stamps_in zones) (all_of name lines)

abbrev pub periods_at : List (List ℕ) → List ℕ → List Line → List Period
periods_at zones name lines = flat_map (periods_in zones) (all_of name lines)

-- the one stamp of a name
abbrev pub stamp_at : List (List ℕ) → List ℕ → List Line → Option Stamp
stamp_at zones name lines = first (stamps_at zones name lines)

-- the value of the first line of a name, as it is read
abbrev pub value_at : {X : Type 0} → (List ℕ → Option X) → List ℕ → List Line → Option X
value_at read name lines = option_and_then (λ (line : Line). read line.value) (one_of name lines)

abbrev pub rules_of : List Line → List Rule
rules_of lines = filter_map (λ (line : Line). rule_of line.value) (all_of (codes "RRULE") lines)

-- Lines that cannot stand

-- at most 200,000 days, forward or back
abbrev pub is_short : Length → Bool
is_short length = nat_le (nat_abs (seconds_of length)) (200_000 * 86_400)

abbrev pub is_short_length : Option Length → Bool
is_short_length None = false
is_short_length (Some length) = is_short length

abbrev pub is_short_end : PeriodEnd → Bool
is_short_end (At stamp) = true
is_short_end (After length) = is_short length

abbrev pub are_short_periods : Option (List Period) → Bool
are_short_periods None = false
are_short_periods (Some periods) = list_all (λ (period : Period). is_short_end period.end) periods

abbrev pub is_short_trigger : Option Trigger → Bool
is_short_trigger None = false
is_short_trigger (Some (AtMoment moment)) = true
is_short_trigger (Some (From related length)) = is_short length

-- the value is a stamp, or several where the line has a list; a zone that is not there is no fault here
abbrev pub is_of_stamps : Line → Bool
is_of_stamps line = is_some (stamps_in_grammar [] line)

abbrev pub is_of_short_periods : Line → Bool
is_of_short_periods line = are_short_periods (periods_in_grammar [] line)

abbrev pub is_of_dates : Line → Bool
is_of_dates line = if has_periods line then is_of_short_periods line else is_of_stamps line

-- the names that are looked at, each with the test of its value
abbrev pub looked_at : List (List ℕ × (Line → Bool))
looked_at =
    (codes "DTSTART", is_of_stamps)
    ∷ (codes "DTEND", is_of_stamps)
    ∷ (codes "DUE", is_of_stamps)
    ∷ (codes "DURATION", λ line. is_short_length (length_of line.value))
    ∷ (codes "RRULE", λ line. is_some (rule_of line.value))
    ∷ (codes "RDATE", is_of_dates)
    ∷ (codes "EXDATE", is_of_stamps)
    ∷ (codes "RECURRENCE-ID", is_of_stamps)
    ∷ (codes "COMPLETED", is_of_stamps)
    ∷ (codes "CREATED", is_of_stamps)
    ∷ (codes "DTSTAMP", is_of_stamps)
    ∷ (codes "LAST-MODIFIED", is_of_stamps)
    ∷ (codes "FREEBUSY", is_of_short_periods)
    ∷ (codes "TRIGGER", λ line. is_short_trigger (trigger_of line))
    ∷ (codes "REPEAT", λ line. is_some (repeat_of line.value))
    ∷ (codes "TZOFFSETFROM", λ line. is_some (offset_of line.value))
    ∷ (codes "TZOFFSETTO", λ line. is_some (offset_of line.value))
    ∷ []

-- those of them that may stand more than once in a component
abbrev pub repeatable : List (List ℕ)
repeatable = codes "RRULE" ∷ codes "RDATE" ∷ codes "EXDATE" ∷ codes "FREEBUSY" ∷ []

abbrev pub same_number : Option ℕ → Option ℕ → Bool
same_number None None = true
same_number (Some a) (Some b) = a == b
same_number other another = false

-- two lines, by their numbers, stand in one component
abbrev pub same_component : List Line → ℕ → ℕ → Bool
same_component lines a b = same_number (innermost lines a) (innermost lines b)

-- a line of that name stands in the same component before the line of a number
abbrev pub is_second : List Line → ℕ → Line → Bool
is_second lines number line =
    list_any (λ (earlier : ℕ × Line). same_component lines earlier.0 number)
    (filter (λ (earlier : ℕ × Line). has_name line.name earlier.1) (enumerate_from 0 (take number lines)))

-- its value cannot be read or is too long, or its name stands a second time and may not
abbrev pub cannot_stand : List Line → ℕ → Line → (Line → Bool) → Bool
cannot_stand lines number line test = not (test line) || (not (list_any (bytes_eq line.name) repeatable) && is_second lines number line)

abbrev pub has_own_fault : List Line → ℕ → Line → Bool
has_own_fault lines number line = elim (find (λ (row : List ℕ × (Line → Bool)). bytes_eq row.0 line.name) looked_at) [
  | None ↦ false
  | Some row ↦ cannot_stand lines number line row.1
]

-- the lines of a text without their places
abbrev pub lines_in : List Placed → List Line
lines_in placed = map (λ (at : Placed). at.line) placed

-- the place of the first line that cannot stand, in whatever component
abbrev pub own_fault : List Placed → Option ℕ
own_fault placed =
    option_map (λ (found : ℕ × Placed). found.1.place)
    (find (λ (found : ℕ × Placed). has_own_fault (lines_in placed) found.0 found.1.line) (enumerate_from 0 placed))
