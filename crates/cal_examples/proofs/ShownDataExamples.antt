-- Examples of calendar data, after RFC 4791, 7.8.1 to 7.8.3.
use Rattle.std.specs.Prelude.{◌≡◌, refl, ℕ, Bool, true, false, List, [], ◌∷◌, ◌++◌, map, codes, pos, Some, None}
use Rattle.std.specs.Str.{chars}
use lib.Utf8.{encode}
use denote.Hole.Carrier as H
use Rattle.cal_base.specs.declared.line.Line.{Line}
use Rattle.cal_base.specs.declared.line.Node.{Node}
use Rattle.cal_moment.specs.Calendar.{day_of_date, year_of, month_of, day_of_month}
use Rattle.cal_moment.specs.declared.stamp.PeriodEnd.TheVariants.{After}
use Rattle.cal_model.specs.declared.object.Component.{Component}
use Rattle.cal_model.specs.declared.object.Kind.TheVariants.{Event, Todo}
use Rattle.cal_model.specs.declared.object.Extent.TheVariants as extent
use Rattle.cal_model.specs.declared.object.Object.{Object}
use Rattle.cal_model.specs.declared.rule.Freq.TheVariants.{Daily}
use Rattle.cal_model.specs.declared.row.Range.{Range}
use Rattle.cal_model.specs.declared.row.Row.{Row}
use Rattle.cal_model.specs.declared.row.RowKind.TheVariants.{Instant, Floating, Date, Undated}
use Rattle.cal_model.specs.declared.selection.CompPick.{CompPick}
use Rattle.cal_model.specs.declared.selection.CompPick as P
use Rattle.cal_model.specs.declared.selection.CompPick.TheBlock as PB
use Rattle.cal_model.specs.declared.selection.CompPick.TheViews.{roll-CompPick}
use Rattle.cal_model.specs.declared.selection.PropPick.{PropPick}
use Rattle.cal_model.specs.declared.selection.Recur.{Recur}
use Rattle.cal_model.specs.declared.selection.Recur.TheVariants.{Whole, Expand, Limit}
use Rattle.cal_model.specs.declared.selection.Selection.{Selection}
use Rattle.cal_model.specs.Instances.Alignment.{utc_zone}
use Rattle.cal_model.specs.Selections.ShownData.{shown}
use Rattle.cal_model.specs.Selections.Expansion.{instance_lines, plain_lines}
use Rattle.cal_model.specs.Selections.RowLines.{rewritten, value_text}
use Rattle.cal_model.specs.Selections.LimitedSets.{busy_line, left_out}
use Rattle.cal_model.specs.Words.Lists.{counted_from}
use Rattle.cal_model.specs.Recurrence.Passing.{day_passes, time_passes}
use Rattle.cal_model.specs.Selections.Picks.{picked_text}
use Rattle.cal_model.specs.Instances.Rows.{rows_over, row_of}
use Rattle.cal_model.specs.Values.ValueTexts.{date_of, time_of, date_time_of, count_of, length_of}
use Rattle.cal_model.specs.TimeZones.Zones.{exists_in, instant_of, offset_at}
use Rattle.cal_model.proofs.Filters.FilterLemmas.{name_of_roll, lines_of_roll, children_of_roll, printed_roll, picked_roll, plain_roll, busy_limited_roll}
use Rattle.cal_examples.proofs.MatchingExamples.{line, node}
use Rattle.cal_examples.proofs.LaterRowExamples.{seven_weeks, rows_of_seven_weeks}
use Rattle.cal_examples.proofs.OverrideExamples.{moved}
use Rattle.cal_examples.proofs.PassingExamples.{each}
use Rattle.cal_examples.proofs.RecurrenceSetExamples.{daily_at}
use Rattle.cal_examples.proofs.RowExamples.{event, date, instant_row, meeting, days_and_time, utc}
use Rattle.cal_examples.proofs.ZoneExamples.{new_york, written}

-- Picks

abbrev pub pick : List ℕ → Bool → List PropPick → Bool → List CompPick → CompPick
pick name all_props props all_comps comps = roll-CompPick (record { name = name; all_props = all_props; props = props; all_comps = all_comps; comps = comps })

abbrev pub prop : List ℕ → Bool → PropPick
prop name no_value = record { name = name; no_value = no_value }

abbrev pub small : Node
small = node (codes "VCALENDAR") (line (codes "VERSION") (codes "2.0") ∷ [])
    (node (codes "VEVENT") (line (codes "UID") (codes "1") ∷ line (codes "SUMMARY") (codes "x") ∷ line (codes "DTSTAMP") (codes "y") ∷ [])
    (node (codes "VALARM") (line (codes "ACTION") (codes "NONE") ∷ []) [] ∷ []) ∷ [])

abbrev pub of_calendar : List CompPick → CompPick
of_calendar comps = pick (codes "VCALENDAR") false [] false comps

-- what is named stays, in the order of the object; novalue keeps the text up to the colon
named_parts : picked_text (Some (of_calendar (pick (codes "VEVENT") false (prop (codes "SUMMARY") true ∷ prop (codes "UID") false ∷ []) false [] ∷ []))) small
    ≡ codes "BEGIN:VCALENDAR\r\nBEGIN:VEVENT\r\nUID:1\r\nSUMMARY:\r\nEND:VEVENT\r\nEND:VCALENDAR\r\n"
unfolding chars encode P.out-CompPick P.roll-CompPick PB.shown-the_row-CompPick-0 PB.hidden-the_row-CompPick-0 PB.shape-the_row-CompPick-0 H.out H.roll H.shown H.hidden
named_parts = simp (name_of_roll, picked_roll, printed_roll) refl

-- a comp without children keeps no line and no component
empty_comp : picked_text (Some (of_calendar (pick (codes "VEVENT") false [] false [] ∷ []))) small
    ≡ codes "BEGIN:VCALENDAR\r\nBEGIN:VEVENT\r\nEND:VEVENT\r\nEND:VCALENDAR\r\n"
unfolding chars encode P.out-CompPick P.roll-CompPick PB.shown-the_row-CompPick-0 PB.hidden-the_row-CompPick-0 PB.shape-the_row-CompPick-0 H.out H.roll H.shown H.hidden
empty_comp = simp (name_of_roll, picked_roll, printed_roll) refl

-- allprop keeps the lines, allcomp the components with all that is in them
all_of_each : (picked_text (Some (of_calendar (pick (codes "VEVENT") true [] false [] ∷ []))) small
    ≡ codes "BEGIN:VCALENDAR\r\nBEGIN:VEVENT\r\nUID:1\r\nSUMMARY:x\r\nDTSTAMP:y\r\nEND:VEVENT\r\nEND:VCALENDAR\r\n")
    × (picked_text (Some (pick (codes "VCALENDAR") false [] true [])) small
    ≡ codes "BEGIN:VCALENDAR\r\nBEGIN:VEVENT\r\nUID:1\r\nSUMMARY:x\r\nDTSTAMP:y\r\nBEGIN:VALARM\r\nACTION:NONE\r\nEND:VALARM\r\nEND:VEVENT\r\nEND:VCALENDAR\r\n")
unfolding chars encode P.out-CompPick P.roll-CompPick PB.shown-the_row-CompPick-0 PB.hidden-the_row-CompPick-0 PB.shape-the_row-CompPick-0 H.out H.roll H.shown H.hidden
all_of_each = simp (name_of_roll, picked_roll, printed_roll) (refl, refl)

-- two comps of one name keep together what each keeps, and a line that one of them keeps whole is whole
repeated_comp : picked_text (Some (of_calendar (pick (codes "VEVENT") false (prop (codes "SUMMARY") true ∷ []) false [] ∷ pick (codes "VEVENT") false (prop (codes "SUMMARY") false ∷ prop (codes "UID") true ∷ []) false [] ∷ []))) small
    ≡ codes "BEGIN:VCALENDAR\r\nBEGIN:VEVENT\r\nUID:\r\nSUMMARY:x\r\nEND:VEVENT\r\nEND:VCALENDAR\r\n"
unfolding chars encode P.out-CompPick P.roll-CompPick PB.shown-the_row-CompPick-0 PB.hidden-the_row-CompPick-0 PB.shape-the_row-CompPick-0 H.out H.roll H.shown H.hidden
repeated_comp = simp (name_of_roll, picked_roll, printed_roll) refl

-- another name at the top keeps nothing
other_top : picked_text (Some (pick (codes "VEVENT") true [] true [])) small ≡ []
unfolding P.out-CompPick P.roll-CompPick PB.shown-the_row-CompPick-0 PB.hidden-the_row-CompPick-0 PB.shape-the_row-CompPick-0 H.out H.roll H.shown H.hidden
other_top = simp (name_of_roll) refl

-- Lines with a new value

abbrev pub raws : List Line → List (List ℕ)
raws lines = map (λ (l : Line). l.raw) lines

-- TZID goes and the rest stays as it was written
without_zone : rewritten Instant (written 2025 3 4 15 0 0) (record {
  name = codes "DTSTART";
  params = record { name = codes "TZID"; values = codes "A;B" ∷ [] } ∷ record { name = codes "X-A"; values = codes "b" ∷ [] } ∷ [];
  value = codes "20250304T100000";
  raw = codes "DtStart;Tzid=\"A;B\";x-a=b:20250304T100000";
}) ≡ record { name = codes "DTSTART"; params = record { name = codes "X-A"; values = codes "b" ∷ [] } ∷ []; value = codes "20250304T150000Z"; raw = codes "DtStart;x-a=b:20250304T150000Z" }
unfolding year_of month_of day_of_month
without_zone = refl

-- VALUE=DATE goes beside a date-time, and stays beside a date
abbrev pub by_day : Line
by_day = record { name = codes "RECURRENCE-ID"; params = record { name = codes "VALUE"; values = codes "date" ∷ [] } ∷ []; value = codes "20250304"; raw = codes "RECURRENCE-ID;VALUE=date:20250304" }

date_beside_time : ((rewritten Instant (written 2025 3 4 15 0 0) by_day).raw ≡ codes "RECURRENCE-ID:20250304T150000Z")
    × ((rewritten Date (written 2025 3 4 0 0 0) by_day).raw ≡ codes "RECURRENCE-ID;VALUE=date:20250304")
unfolding year_of month_of day_of_month
date_beside_time = (refl, refl)

-- floating values stay local
floating_text : value_text Floating (written 2025 3 4 10 0 0) ≡ codes "20250304T100000"
unfolding year_of month_of day_of_month
floating_text = refl

-- An event of an hour, each week, with one instance taken away and one moved, over the change to summer time in New York

abbrev pub zoned_line : List ℕ → List ℕ → Line
zoned_line name value = record {
  name = name;
  params = record { name = codes "TZID"; values = codes "NY" ∷ [] } ∷ [];
  value = value;
  raw = name ++ codes ";TZID=NY:" ++ value;
}

abbrev pub master_lines : List Line
master_lines = line (codes "UID") (codes "meet") ∷ zoned_line (codes "DTSTART") (codes "20250304T100000") ∷ zoned_line (codes "DTEND") (codes "20250304T110000")
    ∷ line (codes "RRULE") (codes "FREQ=WEEKLY;COUNT=5") ∷ zoned_line (codes "EXDATE") (codes "20250318T100000") ∷ line (codes "SUMMARY") (codes "Plan") ∷ []

abbrev pub override_lines : List Line
override_lines = line (codes "UID") (codes "meet") ∷ zoned_line (codes "RECURRENCE-ID") (codes "20250325T100000") ∷ zoned_line (codes "DTSTART") (codes "20250326T140000")
    ∷ zoned_line (codes "DTEND") (codes "20250326T150000") ∷ line (codes "SUMMARY") (codes "Plan moved") ∷ []

abbrev pub plan : Object
plan = record {
  kind = Event;
  uid = codes "meet";
  tree = node (codes "VCALENDAR") (line (codes "VERSION") (codes "2.0") ∷ [])
      (node (codes "VTIMEZONE") (line (codes "TZID") (codes "NY") ∷ []) [] ∷ node (codes "VEVENT") master_lines [] ∷ node (codes "VEVENT") override_lines [] ∷ []);
  zones = new_york ∷ [];
  components = record meeting { child = 1 } ∷ record moved { child = 2 } ∷ [];
}

abbrev pub plan_rows : List Row
plan_rows = instant_row (written 2025 3 4 15 0 0) (written 2025 3 4 15 0 0) (written 2025 3 4 16 0 0) 0
    ∷ instant_row (written 2025 3 11 14 0 0) (written 2025 3 11 14 0 0) (written 2025 3 11 15 0 0) 0
    ∷ instant_row (written 2025 3 25 14 0 0) (written 2025 3 26 18 0 0) (written 2025 3 26 19 0 0) 1
    ∷ instant_row (written 2025 4 1 14 0 0) (written 2025 4 1 14 0 0) (written 2025 4 1 15 0 0) 0 ∷ []

-- its rows, over the moments at 10 o'clock
rows_of_plan : rows_over (daily_at 36000 (day_of_date 2025 3 1) 60) plan ≡ plan_rows
unfolding year_of month_of day_of_month day_passes time_passes counted_from exists_in instant_of offset_at
rows_of_plan = refl

abbrev pub range : ℕ → ℕ → ℕ → ℕ → Range
range month_a day_a month_b day_b = record { start = record { 0 = written 2025 month_a day_a 0 0 0 }; end = record { 0 = written 2025 month_b day_b 0 0 0 } }

abbrev pub asked : Recur → Selection
asked recur = record { comp = None; recur = recur; busy = None }

-- March up to the 29th, each instance by itself
abbrev pub plan_text : List ℕ
plan_text = codes "BEGIN:VCALENDAR\r\nVERSION:2.0\r\nBEGIN:VEVENT\r\nUID:meet\r\nDTSTART:20250304T150000Z\r\nRECURRENCE-ID:20250304T150000Z\r\nDTEND:20250304T160000Z\r\nSUMMARY:Plan\r\nEND:VEVENT\r\nBEGIN:VEVENT\r\nUID:meet\r\nDTSTART:20250311T140000Z\r\nRECURRENCE-ID:20250311T140000Z\r\nDTEND:20250311T150000Z\r\nSUMMARY:Plan\r\nEND:VEVENT\r\nBEGIN:VEVENT\r\nUID:meet\r\nRECURRENCE-ID:20250325T140000Z\r\nDTSTART:20250326T180000Z\r\nDTEND:20250326T190000Z\r\nSUMMARY:Plan moved\r\nEND:VEVENT\r\nEND:VCALENDAR\r\n"

each_instance : shown [] plan plan_rows (asked (Expand (range 3 1 3 29))) utc_zone ≡ plan_text
unfolding chars encode H.out H.roll H.shown H.hidden year_of month_of day_of_month
each_instance = simp (name_of_roll, lines_of_roll, children_of_roll, plain_roll, printed_roll) refl

-- An override is kept where its own time overlaps the range, or the time of the instance that it moved: here the 26th from 14:00, and the 25th from 10:00, in New York
kept_by_own_time : left_out plan plan_rows utc_zone (range 3 26 3 27) ≡ []
unfolding exists_in instant_of offset_at
kept_by_own_time = refl

kept_by_original_time : left_out plan plan_rows utc_zone (range 3 25 3 26) ≡ []
unfolding exists_in instant_of offset_at
kept_by_original_time = refl

not_kept : left_out plan plan_rows utc_zone (range 3 4 3 5) ≡ 2 ∷ []
unfolding exists_in instant_of offset_at
not_kept = refl

-- the original instance has the master's length, an hour: at 11:00 it is over
original_length : (left_out plan plan_rows utc_zone (record { start = record { 0 = written 2025 3 25 14 59 59 }; end = record { 0 = written 2025 3 25 16 0 0 } }) ≡ [])
    × (left_out plan plan_rows utc_zone (record { start = record { 0 = written 2025 3 25 15 0 0 }; end = record { 0 = written 2025 3 25 16 0 0 } }) ≡ 2 ∷ [])
unfolding exists_in instant_of offset_at
original_length = (refl, refl)

-- where all components have a RECURRENCE-ID there is no original instance
no_master : left_out (record plan { components = record moved { child = 2 } ∷ [] }) (instant_row (written 2025 3 25 14 0 0) (written 2025 3 26 18 0 0) (written 2025 3 26 19 0 0) 0 ∷ []) utc_zone (range 3 25 3 26) ≡ 2 ∷ []
unfolding exists_in instant_of offset_at
no_master = refl

-- an override that names a day has the id of the instance on that day: here the 12th at 09:00, which lasts an hour
abbrev pub each_day : Object
each_day = record plan {
  zones = [];
  components = record (event (Some (utc 2025 3 10 9 0)) (extent.End (utc 2025 3 10 10 0))) { child = 1; rules = each Daily ∷ [] }
      ∷ record (event (Some (utc 2025 3 20 15 0)) (extent.End (utc 2025 3 20 16 0))) { child = 2; recurrence_id = Some (date 2025 3 12) } ∷ [];
}

abbrev pub at_minutes : ℕ → ℕ → Range
at_minutes from to = record { start = record { 0 = written 2025 3 12 9 from 0 }; end = record { 0 = written 2025 3 12 9 to 0 } }

kept_by_day : left_out each_day (instant_row (written 2025 3 12 9 0 0) (written 2025 3 20 15 0 0) (written 2025 3 20 16 0 0) 1 ∷ []) utc_zone (at_minutes 30 45) ≡ []
unfolding exists_in instant_of offset_at
kept_by_day = refl

-- the text keeps the zone and the master as they are
limited_text : shown [] plan plan_rows (asked (Limit (range 3 4 3 5))) utc_zone
    ≡ codes "BEGIN:VCALENDAR\r\nVERSION:2.0\r\nBEGIN:VTIMEZONE\r\nTZID:NY\r\nEND:VTIMEZONE\r\nBEGIN:VEVENT\r\nUID:meet\r\nDTSTART;TZID=NY:20250304T100000\r\nDTEND;TZID=NY:20250304T110000\r\nRRULE:FREQ=WEEKLY;COUNT=5\r\nEXDATE;TZID=NY:20250318T100000\r\nSUMMARY:Plan\r\nEND:VEVENT\r\nEND:VCALENDAR\r\n"
unfolding chars encode H.out H.roll H.shown H.hidden exists_in instant_of offset_at
limited_text = simp (name_of_roll, lines_of_roll, children_of_roll, printed_roll) refl

-- Overrides that move later instances: over 1 April the one that governs the row of that day stays, though its own row and its original instance lie elsewhere

abbrev pub later_id : List ℕ → Line
later_id value = record {
  name = codes "RECURRENCE-ID";
  params = record { name = codes "RANGE"; values = codes "THISANDFUTURE" ∷ [] } ∷ [];
  value = value;
  raw = codes "RECURRENCE-ID;RANGE=THISANDFUTURE:" ++ value;
}

abbrev pub weeks : Object
weeks = record plan {
  uid = codes "u";
  tree = node (codes "VCALENDAR") []
      (node (codes "VEVENT") (line (codes "UID") (codes "u") ∷ line (codes "DTSTART") (codes "20250303T090000Z") ∷ line (codes "DTEND") (codes "20250303T100000Z") ∷ line (codes "RRULE") (codes "FREQ=WEEKLY;COUNT=7") ∷ []) []
      ∷ node (codes "VEVENT") (line (codes "UID") (codes "u") ∷ later_id (codes "20250317T090000Z") ∷ line (codes "DTSTART") (codes "20250318T110000Z") ∷ line (codes "DTEND") (codes "20250318T123000Z") ∷ []) []
      ∷ node (codes "VEVENT") (line (codes "UID") (codes "u") ∷ line (codes "RECURRENCE-ID") (codes "20250324T090000Z") ∷ line (codes "DTSTART") (codes "20250324T150000Z") ∷ line (codes "DTEND") (codes "20250324T160000Z") ∷ []) []
      ∷ node (codes "VEVENT") (line (codes "UID") (codes "u") ∷ later_id (codes "20250407T090000Z") ∷ line (codes "DTSTART") (codes "20250406T080000Z") ∷ line (codes "DURATION") (codes "PT15M") ∷ []) []
      ∷ []);
  components = seven_weeks;
}

kept_by_governed_row : left_out weeks rows_of_seven_weeks utc_zone (range 4 1 4 2) ≡ 2 ∷ 3 ∷ []
unfolding exists_in instant_of offset_at
kept_by_governed_row = refl

-- it stays as it is
weeks_limited : shown [] weeks rows_of_seven_weeks (asked (Limit (range 4 1 4 2))) utc_zone
    ≡ codes "BEGIN:VCALENDAR\r\nBEGIN:VEVENT\r\nUID:u\r\nDTSTART:20250303T090000Z\r\nDTEND:20250303T100000Z\r\nRRULE:FREQ=WEEKLY;COUNT=7\r\nEND:VEVENT\r\nBEGIN:VEVENT\r\nUID:u\r\nRECURRENCE-ID;RANGE=THISANDFUTURE:20250317T090000Z\r\nDTSTART:20250318T110000Z\r\nDTEND:20250318T123000Z\r\nEND:VEVENT\r\nEND:VCALENDAR\r\n"
unfolding chars encode H.out H.roll H.shown H.hidden exists_in instant_of offset_at
weeks_limited = simp (name_of_roll, lines_of_roll, children_of_roll, printed_roll) refl

-- and expanded it is the one instance of that day, without RANGE
weeks_expanded : shown [] weeks rows_of_seven_weeks (asked (Expand (range 4 1 4 2))) utc_zone
    ≡ codes "BEGIN:VCALENDAR\r\nBEGIN:VEVENT\r\nUID:u\r\nRECURRENCE-ID:20250331T090000Z\r\nDTSTART:20250401T110000Z\r\nDTEND:20250401T123000Z\r\nEND:VEVENT\r\nEND:VCALENDAR\r\n"
unfolding chars encode H.out H.roll H.shown H.hidden year_of month_of day_of_month
weeks_expanded = simp (name_of_roll, lines_of_roll, children_of_roll, plain_roll, printed_roll) refl

-- One instance

abbrev pub at_nine : Line
at_nine = line (codes "DTSTART") (codes "20250304T090000Z")

abbrev pub alone : Component → Object
alone c = record plan { tree = node (codes "VCALENDAR") [] []; components = c ∷ [] }

abbrev pub in_one : Component → List Line → Row → List (List ℕ)
in_one c lines row = raws (instance_lines (alone c) c row (plain_lines lines))

-- DURATION becomes DTEND, in a to-do DUE, and PT0S where it lasts no time; an object that does not recur gets no RECURRENCE-ID
abbrev pub lasting : ℕ → Component
lasting seconds = event (Some (utc 2025 3 4 9 0)) (extent.Lasting (days_and_time (pos 0) (pos seconds)))

with_duration : (in_one (lasting 3600) (at_nine ∷ line (codes "DURATION") (codes "PT1H") ∷ []) (instant_row (written 2025 3 4 9 0 0) (written 2025 3 4 9 0 0) (written 2025 3 4 10 0 0) 0)
    ≡ codes "DTSTART:20250304T090000Z" ∷ codes "DTEND:20250304T100000Z" ∷ [])
    × (in_one (record (lasting 3600) { kind = Todo }) (at_nine ∷ line (codes "DURATION") (codes "PT1H") ∷ []) (instant_row (written 2025 3 4 9 0 0) (written 2025 3 4 9 0 0) (written 2025 3 4 10 0 0) 0)
    ≡ codes "DTSTART:20250304T090000Z" ∷ codes "DUE:20250304T100000Z" ∷ [])
    × (in_one (lasting 0) (at_nine ∷ line (codes "DURATION") (codes "P0D") ∷ []) (instant_row (written 2025 3 4 9 0 0) (written 2025 3 4 9 0 0) (written 2025 3 4 9 0 0) 0)
    ≡ codes "DTSTART:20250304T090000Z" ∷ codes "DURATION:PT0S" ∷ [])
unfolding year_of month_of day_of_month exists_in instant_of offset_at
with_duration = (refl, refl, refl)

-- whole days, twice: the RECURRENCE-ID and the new DTEND say that they are dates
abbrev pub two_days : Component
two_days = record (event (Some (date 2025 3 4)) (extent.Lasting (days_and_time (pos 2) (pos 0)))) { dates = date 2025 4 4 ∷ [] }

abbrev pub day_line : Line
day_line = record { name = codes "DTSTART"; params = record { name = codes "VALUE"; values = codes "DATE" ∷ [] } ∷ []; value = codes "20250304"; raw = codes "DTSTART;VALUE=DATE:20250304" }

dates_expanded : in_one two_days (day_line ∷ line (codes "DURATION") (codes "P2D") ∷ line (codes "RDATE") (codes "20250404") ∷ [])
    (row_of (written 2025 4 4 0 0 0) (written 2025 4 4 0 0 0) (written 2025 4 6 0 0 0) 0 Date Date)
    ≡ codes "DTSTART;VALUE=DATE:20250404" ∷ codes "RECURRENCE-ID;VALUE=DATE:20250404" ∷ codes "DTEND;VALUE=DATE:20250406" ∷ []
unfolding year_of month_of day_of_month
dates_expanded = refl

-- a moment without an end that also recurs for two hours: the end that the period gives stands behind RECURRENCE-ID
abbrev pub with_period : Component
with_period = record (event (Some (utc 2025 3 4 9 0)) extent.Point) { periods = record { start = utc 2025 3 5 9 0; end = After (days_and_time (pos 0) (pos 7200)) } ∷ [] }

abbrev pub period_lines : List Line
period_lines = at_nine ∷ line (codes "RDATE") (codes "20250305T090000Z/PT2H") ∷ line (codes "SUMMARY") (codes "x") ∷ []

end_of_period : (in_one with_period period_lines (instant_row (written 2025 3 5 9 0 0) (written 2025 3 5 9 0 0) (written 2025 3 5 11 0 0) 0)
    ≡ codes "DTSTART:20250305T090000Z" ∷ codes "RECURRENCE-ID:20250305T090000Z" ∷ codes "DTEND:20250305T110000Z" ∷ codes "SUMMARY:x" ∷ [])
    × (in_one with_period period_lines (instant_row (written 2025 3 4 9 0 0) (written 2025 3 4 9 0 0) (written 2025 3 4 9 0 0) 0)
    ≡ codes "DTSTART:20250304T090000Z" ∷ codes "RECURRENCE-ID:20250304T090000Z" ∷ codes "SUMMARY:x" ∷ [])
unfolding year_of month_of day_of_month exists_in instant_of offset_at
end_of_period = (refl, refl)

-- a line DUE says an end in any kind: no DTEND is added beside it, and it gets the period's end
due_in_event : in_one with_period (at_nine ∷ line (codes "DUE") (codes "20250304T093000Z") ∷ line (codes "RDATE") (codes "20250305T090000Z/PT2H") ∷ [])
    (instant_row (written 2025 3 5 9 0 0) (written 2025 3 5 9 0 0) (written 2025 3 5 11 0 0) 0)
    ≡ codes "DTSTART:20250305T090000Z" ∷ codes "RECURRENCE-ID:20250305T090000Z" ∷ codes "DUE:20250305T110000Z" ∷ []
unfolding year_of month_of day_of_month exists_in instant_of offset_at
due_in_event = refl

-- so does a line DTEND in a to-do, which without DUE and DURATION ends where it starts
end_in_to_do : in_one (record (event (Some (utc 2025 3 4 9 0)) extent.Point) { kind = Todo; rules = record (each Daily) { count = Some 2 } ∷ [] })
    (at_nine ∷ line (codes "DTEND") (codes "20250304T100000Z") ∷ line (codes "RRULE") (codes "FREQ=DAILY;COUNT=2") ∷ [])
    (instant_row (written 2025 3 5 9 0 0) (written 2025 3 5 9 0 0) (written 2025 3 5 9 0 0) 0)
    ≡ codes "DTSTART:20250305T090000Z" ∷ codes "RECURRENCE-ID:20250305T090000Z" ∷ codes "DTEND:20250305T090000Z" ∷ []
unfolding year_of month_of day_of_month exists_in instant_of offset_at
end_in_to_do = refl

-- an override alone makes an object recur: the master's instance says which one it is
abbrev pub with_override : Object
with_override = record (alone (lasting 3600)) { components = lasting 3600 ∷ record (lasting 3600) { recurrence_id = Some (utc 2025 3 14 9 0) } ∷ [] }

recurs_by_override : raws (instance_lines with_override (lasting 3600) (instant_row (written 2025 3 4 9 0 0) (written 2025 3 4 9 0 0) (written 2025 3 4 10 0 0) 0) (at_nine ∷ line (codes "DURATION") (codes "PT1H") ∷ []))
    ≡ codes "DTSTART:20250304T090000Z" ∷ codes "RECURRENCE-ID:20250304T090000Z" ∷ codes "DTEND:20250304T100000Z" ∷ []
unfolding year_of month_of day_of_month exists_in instant_of offset_at
recurs_by_override = refl

-- a component without a date keeps its lines but for those of recurrence
no_date : in_one (record (event None extent.None) { kind = Todo }) (line (codes "RRULE") (codes "FREQ=DAILY") ∷ line (codes "DURATION") (codes "PT1H") ∷ []) (row_of (pos 0) (pos 0) (pos 0) 0 Undated Undated) ≡ codes "DURATION:PT1H" ∷ []
no_date = refl

-- what stands around the components of the four kinds keeps its order, the instances stand where the first of them stood, and the lines of recurrence and VTIMEZONEs go at every depth
abbrev pub nested : Object
nested = record plan {
  tree = node (codes "VCALENDAR") [] (node (codes "X-ONE") (line (codes "RDATE") (codes "20250304T090000Z") ∷ []) (node (codes "VTIMEZONE") [] [] ∷ [])
      ∷ node (codes "VEVENT") (at_nine ∷ []) (node (codes "VALARM") (line (codes "RRULE") (codes "FREQ=DAILY") ∷ line (codes "ACTION") (codes "NONE") ∷ []) [] ∷ []) ∷ node (codes "X-TWO") [] [] ∷ []);
  components = record (lasting 0) { child = 1 } ∷ [];
}

surroundings : shown [] nested (instant_row (written 2025 3 4 9 0 0) (written 2025 3 4 9 0 0) (written 2025 3 4 9 0 0) 0 ∷ []) (asked (Expand (range 3 1 3 29))) utc_zone
    ≡ codes "BEGIN:VCALENDAR\r\nBEGIN:X-ONE\r\nEND:X-ONE\r\nBEGIN:VEVENT\r\nDTSTART:20250304T090000Z\r\nBEGIN:VALARM\r\nACTION:NONE\r\nEND:VALARM\r\nEND:VEVENT\r\nBEGIN:X-TWO\r\nEND:X-TWO\r\nEND:VCALENDAR\r\n"
unfolding chars encode H.out H.roll H.shown H.hidden year_of month_of day_of_month
surroundings = simp (name_of_roll, lines_of_roll, children_of_roll, plain_roll, printed_roll) refl

-- FREEBUSY periods that meet the range stay as they are written, and a line that is left empty goes
abbrev pub busy : List ℕ → Line
busy value = record { name = codes "FREEBUSY"; params = record { name = codes "FBTYPE"; values = codes "BUSY" ∷ [] } ∷ []; value = value; raw = codes "FREEBUSY;fbtype=BUSY:" ++ value }

periods_kept : (raws (busy_line (range 3 4 3 5) (busy (codes "20250303T230000Z/PT1H,20250303T230000Z/PT1H1S,20250304T235959Z/20250306T000000Z,20250305T000000Z/PT1H")))
    ≡ codes "FREEBUSY;fbtype=BUSY:20250303T230000Z/PT1H1S,20250304T235959Z/20250306T000000Z" ∷ [])
    × (busy_line (range 3 4 3 5) (busy (codes "20250305T000000Z/PT1H")) ≡ [])
    × (raws (busy_line (range 3 4 3 5) (line (codes "RDATE") (codes "20250305T000000Z"))) ≡ codes "RDATE:20250305T000000Z" ∷ [])
unfolding date_time_of date_of time_of length_of count_of
periods_kept = (refl, refl, refl)

-- in components at every depth, and after that the picks
abbrev pub free_busy : Object
free_busy = record plan { tree = node (codes "VCALENDAR") [] (node (codes "VFREEBUSY") (busy (codes "20250305T000000Z/PT1H") ∷ line (codes "UID") (codes "f") ∷ []) [] ∷ []); components = [] }

busy_then_picks : shown [] free_busy [] (record { comp = Some (of_calendar (pick (codes "VFREEBUSY") false (prop (codes "FREEBUSY") false ∷ []) false [] ∷ [])); recur = Whole; busy = Some (range 3 4 3 5) }) utc_zone
    ≡ codes "BEGIN:VCALENDAR\r\nBEGIN:VFREEBUSY\r\nEND:VFREEBUSY\r\nEND:VCALENDAR\r\n"
unfolding chars encode P.out-CompPick P.roll-CompPick PB.shown-the_row-CompPick-0 PB.hidden-the_row-CompPick-0 PB.shape-the_row-CompPick-0 H.out H.roll H.shown H.hidden date_time_of date_of time_of length_of count_of
busy_then_picks = simp (name_of_roll, busy_limited_roll, picked_roll, printed_roll) refl

-- a selection that says nothing shows the stored octets
stored : shown (codes "as stored") plan plan_rows (asked Whole) utc_zone ≡ codes "as stored"
stored = refl
