-- What it costs to find the rows of an object in a window, and how far from its start a row can meet a range. Beside RFC 4791, 7.8 and 9.9; which windows a report needs stands in `NeededWindows`.
-- A count over the whole list of moments, and a sum of three lengths. No walk over periods or windows is retraced.
use Rattle.std.specs.Prelude.{ℕ, suc, ◌+◌, ◌*◌, ◌/◌, Bool, true, false, ◌&&◌, nat_le, nat_lt, nat_abs, if◌then◌else◌, List, [], ◌∷◌, map, filter, filter_map, flat_map, option_to_list, length, sum, count_by, max, ℤ, pos, negsuc, ◌+ℤ◌, ◌-ℤ◌, ◌*ℤ◌, int_lt, unsigned_abs, Option, Some, None}
use Rattle.std.specs.List.{list_any, list_all}
use Rattle.cal_moment.specs.Calendar.{epoch_day}
use Rattle.cal_moment.specs.declared.stamp.Stamp.{Stamp}
use Rattle.cal_moment.specs.declared.stamp.Period.{Period}
use Rattle.cal_moment.specs.declared.stamp.PeriodEnd.{PeriodEnd}
use Rattle.cal_moment.specs.declared.stamp.PeriodEnd.TheVariants.{At, After}
use Rattle.cal_model.specs.declared.rule.Rule.{Rule}
use Rattle.cal_model.specs.declared.zone.Onset.{Onset}
use Rattle.cal_model.specs.declared.zone.ZoneTable.{ZoneTable}
use Rattle.cal_model.specs.declared.object.Component.{Component}
use Rattle.cal_model.specs.declared.object.Object.{Object}
use Rattle.cal_model.specs.declared.object.Extent.{Extent}
use Rattle.cal_model.specs.declared.object.Extent.TheVariants as extent
use Rattle.cal_model.specs.declared.object.Alarm.{Alarm}
use Rattle.cal_model.specs.declared.object.Trigger.{Trigger}
use Rattle.cal_model.specs.declared.object.Trigger.TheVariants as trigger
use Rattle.cal_model.specs.declared.row.Range.{Range}
use Rattle.std.specs.Int.{int_div_euclid}
use Rattle.cal_model.specs.Recurrence.Passing.{passes, period_number}
use Rattle.cal_model.specs.Recurrence.RecurrenceSet.{every_moment}
use Rattle.cal_model.specs.Instances.Alignment.{Aligned, at, on_day, value_of, written_moment}
use Rattle.cal_model.specs.Ranges.Overlap.{seconds_of}
use Rattle.cal_model.specs.Instances.Rows.{is_date, own_start, overrides, ids_start, named_by, starts, Governor, governors, moves_later, move_of, window_seconds}

-- Cost.

-- the moments that pass, existing or not, in the periods that don't begin after a day
abbrev pub passing_up_to : List ℕ → Rule → Stamp → ℕ → ℕ
passing_up_to moments rule s day =
    let last = period_number rule.freq rule.week_start (86400 * day + 86399) in
    count_by (λ m. if nat_le (period_number rule.freq rule.week_start m) last then passes rule (written_moment s) (is_date s) m else false) moments

-- a rule counts two, and its moments where its component has a start
abbrev pub rule_cost : List ℕ → Option Stamp → ℕ → Rule → ℕ
rule_cost moments None day rule = 2
rule_cost moments (Some s) day rule = 2 + passing_up_to moments rule s day

abbrev pub dates_of : Component → ℕ
dates_of c = length c.dates + length c.periods

abbrev pub component_cost : List ℕ → ℕ → Component → ℕ
component_cost moments day c = dates_of c + (length (option_to_list c.recurrence_id) + sum (map (rule_cost moments c.start day) c.rules))

-- a whole number from 0 on, and 0 for one below it
abbrev pub natural_part : ℤ → ℕ
natural_part (pos n) = n
natural_part (negsuc n) = 0

-- the number of a day that is counted from 1970; a day before the year 0 costs no more than its first
abbrev pub number_of_day : ℤ → ℕ
number_of_day day = natural_part (day +ℤ pos epoch_day)

-- the days that RECURRENCE-IDs of kind DATE name beside a start that is a DATE-TIME
abbrev pub day_named : Aligned → Option ℕ
day_named (at v) = None
day_named (on_day midnight) = Some (number_of_day (int_div_euclid midnight (pos 86400)))

abbrev pub days_named_from : Object → Option Stamp → List ℕ
days_named_from object None = []
days_named_from object (Some ids) = filter_map day_named (flat_map (named_by object.zones ids) (overrides object))

abbrev pub greatest : List ℕ → ℕ
greatest [] = 0
greatest (n ∷ ns) = max n (greatest ns)

-- the last day of a window of 64 days
abbrev pub last_of_window : ℤ → ℕ
last_of_window window = number_of_day (window *ℤ pos 64 +ℤ pos 63)

-- Overrides that move later instances.

-- the days, rounded up, by which a move goes to earlier digits; none where it goes to later ones
abbrev pub days_earlier : ℤ → ℕ
days_earlier (pos n) = 0
days_earlier (negsuc n) = (n + 86400) / 86400

-- all of them, beside all starts
abbrev pub all_governors : List ℕ → Object → List Governor
all_governors moments object = flat_map (λ ids. governors object ids (starts moments object)) (option_to_list (ids_start object))

-- the most days, rounded up, by which one of them moves a start to earlier
abbrev pub greatest_move : List ℕ → Object → ℕ
greatest_move moments object = greatest (map (λ g. days_earlier (move_of object.zones g)) (all_governors moments object))

-- offsets below 18 hours in size, as all places of the world have them
abbrev pub is_common : ℤ → Bool
is_common offset = nat_lt (nat_abs offset) 64800

abbrev pub has_common_offsets : ZoneTable → Bool
has_common_offsets zone = is_common zone.before && list_all (λ (o : Onset). is_common o.offset) zone.onsets

-- a RECURRENCE-ID that names one value, and not a local day
abbrev pub is_moment : Aligned → Bool
is_moment (at v) = true
is_moment (on_day midnight) = false

-- each override that moves later instances names one
abbrev pub names_moments : Object → Option Stamp → Bool
names_moments object None = true
names_moments object (Some ids) = list_all is_moment (flat_map (named_by object.zones ids) (filter moves_later (overrides object)))

-- How many days a start can lie beside the window in which its moved row lies, the move aside. Four offsets lie between the two: three days, where each is below 18 hours.
-- Else nine: four offsets below a day; and where a local day is named, that day, and two offsets more on each side of it, since a walk ends before it is known which start of the day gives the id.
abbrev pub days_apart : Object → ℕ
days_apart object = if list_all has_common_offsets object.zones && names_moments object (ids_start object) then 3 else 9

-- the last day of the window; where some override moves later instances, so many days after it, and the days by which one moves to earlier
abbrev pub last_moved : List ℕ → Object → ℤ → ℕ
last_moved moments object window =
    if list_any moves_later (overrides object) then last_of_window window + (days_apart object + greatest_move moments object) else last_of_window window

-- the last day on which a period may begin: that, or the latest local day that a RECURRENCE-ID names
abbrev pub last_day : List ℕ → Object → ℤ → ℕ
last_day moments object window = max (last_moved moments object window) (greatest (days_named_from object (ids_start object)))

-- one, and what each component counts up to a day
abbrev pub cost_up_to : List ℕ → Object → ℕ → ℕ
cost_up_to moments object day = suc (sum (map (component_cost moments day) object.components))

abbrev pub cost_over : List ℕ → Object → ℤ → ℕ
cost_over moments object window = cost_up_to moments object (last_day moments object window)

abbrev pub cost : Object → ℤ → ℕ
cost = cost_over every_moment

-- Margin, in seconds.

-- the size of the length that a component writes: of DURATION, or from its start to DTEND or DUE. A day that no line writes is none.
abbrev pub extent_length : List ZoneTable → Option Stamp → Extent → ℕ
extent_length zones s (extent.Lasting length) = unsigned_abs (seconds_of length)
extent_length zones (Some s) (extent.End e) = unsigned_abs (value_of zones e -ℤ value_of zones s)
extent_length zones (Some s) (extent.Due e) = unsigned_abs (value_of zones e -ℤ value_of zones s)
extent_length zones s other = 0

abbrev pub length_to : List ZoneTable → Stamp → PeriodEnd → ℕ
length_to zones start (At e) = unsigned_abs (value_of zones e -ℤ value_of zones start)
length_to zones start (After length) = unsigned_abs (seconds_of length)

abbrev pub trigger_length : Trigger → ℕ
trigger_length (trigger.At u) = 0
trigger_length (trigger.From r length) = unsigned_abs (seconds_of length)

abbrev pub alarm_reach : Alarm → ℕ
alarm_reach alarm = trigger_length alarm.trigger + alarm.repeat * unsigned_abs (seconds_of alarm.gap)

abbrev pub lengths : List ZoneTable → Component → List ℕ
lengths zones c = extent_length zones (own_start c) c.extent ∷ map (λ (p : Period). length_to zones p.start p.end) c.periods

-- the greatest length that the object writes, and the greatest reach of its alarms
abbrev pub longest : Object → ℕ
longest object = greatest (flat_map (lengths object.zones) object.components)

abbrev pub alarms_reach : Object → ℕ
alarms_reach object = greatest (flat_map (λ (c : Component). map alarm_reach c.alarms) object.components)

-- how far from a row's nominal start a range may lie that meets it: four days, and these two
abbrev pub margin : Object → ℕ
margin object = 345_600 + (longest object + alarms_reach object)

-- a window meets a range that is widened on both sides
abbrev pub window_meets : ℕ → Range → ℤ → Bool
window_meets by range window =
    int_lt (range.start.0 -ℤ pos by) ((window +ℤ pos 1) *ℤ window_seconds) && int_lt (window *ℤ window_seconds) (range.end.0 +ℤ pos by)
