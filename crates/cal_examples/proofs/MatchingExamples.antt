-- Examples of filters, after RFC 4791, 7.8 and 9.7: an event from 9 to 10 o'clock of 10 March 2025 with an alarm a quarter of an hour before.
use Rattle.std.specs.Prelude.{◌≡◌, refl, ℕ, ◌+◌, ◌*◌, Bool, true, false, List, [], ◌∷◌, ◌++◌, codes, pos, neg_ℤ, Option, Some, None, Ok, if◌then◌else◌}
use denote.Hole.Carrier as H
use Rattle.cal_base.specs.declared.line.Line.{Line}
use Rattle.cal_base.specs.declared.line.Param.{Param}
use Rattle.cal_base.specs.declared.line.Node.{Node}
use Rattle.cal_base.specs.declared.line.Node as N
use Rattle.cal_base.specs.declared.line.Node.TheBlock as B
use Rattle.cal_base.specs.Lines.ComponentTrees.{component}
use Rattle.cal_moment.specs.declared.stamp.Stamp.TheVariants.{Utc}
use Rattle.cal_model.specs.declared.filter.Collation.{Collation}
use Rattle.cal_model.specs.declared.filter.Collation.TheVariants.{AsciiCasemap, Octet}
use Rattle.cal_model.specs.declared.filter.CompFilter.{CompFilter}
use Rattle.cal_model.specs.declared.filter.CompFilter.TheViews.{roll-CompFilter}
use Rattle.cal_model.specs.declared.filter.ParamFilter.{ParamFilter}
use Rattle.cal_model.specs.declared.filter.ParamTest.{ParamTest}
use Rattle.cal_model.specs.declared.filter.ParamTest.TheVariants as param
use Rattle.cal_model.specs.declared.filter.PropFilter.{PropFilter}
use Rattle.cal_model.specs.declared.filter.PropTest.{PropTest}
use Rattle.cal_model.specs.declared.filter.PropTest.TheVariants.{Absent, Defined, Time, Text}
use Rattle.cal_model.specs.declared.filter.TextMatch.{TextMatch}
use Rattle.cal_model.specs.declared.object.Alarm.{Alarm}
use Rattle.cal_model.specs.declared.object.Component.{Component}
use Rattle.cal_model.specs.declared.object.Kind.TheVariants.{Event, Todo}
use Rattle.cal_model.specs.declared.object.Extent.TheVariants as extent
use Rattle.cal_model.specs.declared.object.Object.{Object}
use Rattle.cal_model.specs.declared.object.Related.TheVariants as related
use Rattle.cal_model.specs.declared.object.Trigger.TheVariants as trigger
use Rattle.cal_model.specs.declared.row.Range.{Range}
use Rattle.cal_model.specs.declared.row.Row.{Row}
use Rattle.cal_model.specs.declared.row.RowKind.TheVariants.{Instant, Undated}
use Rattle.cal_model.specs.Instances.Alignment.{utc_zone}
use Rattle.cal_model.specs.Filters.Matching.{matches}
use Rattle.cal_model.specs.Objects.ObjectReading.{read_object}
use Rattle.std.specs.Str.{is_utf8, chars}
use lib.Utf8.{encode}
use Rattle.cal_model.specs.declared.object.Class.TheVariants.{Busy}
use Rattle.cal_model.specs.Words.Lists.{counted_from}
use Rattle.cal_model.specs.Instances.Rows.{rows_over, row_of}
use Rattle.cal_model.specs.Values.StampTexts.{stamps_in_grammar, trigger_of}
use Rattle.cal_model.specs.Filters.TextTests.{text_passes, param_filter_holds}
use Rattle.cal_model.specs.Values.ValueTexts.{date_of, time_of, date_time_of, count_of, integer_of, length_of}
use Rattle.cal_model.specs.TimeZones.Zones.{exists_in, instant_of, offset_at}
use Rattle.cal_model.proofs.Filters.FilterLemmas.{comp_filter_holds_roll}
use Rattle.cal_examples.proofs.RowExamples.{event, days_and_time}
use Rattle.cal_examples.proofs.Samples.{nine, ten}

-- Texts

abbrev pub match : List ℕ → Collation → Bool → TextMatch
match text collation negate = record { text = text; collation = collation; negate = negate }

-- without ASCII case, or octet for octet
casemap : (text_passes (match (codes "STAND") AsciiCasemap false) (codes "Stand-up") ≡ true) × (text_passes (match (codes "STAND") Octet false) (codes "Stand-up") ≡ false)
casemap = (refl, refl)

-- letters beyond ASCII keep their case
umlaut : text_passes (match (codes "Ä") AsciiCasemap false) (codes "ä") ≡ false
umlaut = refl

-- in the middle and at the end; the empty text stands in every text, and no text in the empty one
places : (text_passes (match (codes "-u") Octet false) (codes "Stand-up") ≡ true) × (text_passes (match (codes "up") Octet false) (codes "Stand-up") ≡ true)
    × (text_passes (match [] Octet false) [] ≡ true) × (text_passes (match (codes "a") Octet false) [] ≡ false)
places = (refl, refl, refl, refl)

-- negate-condition turns the answer
negated : (text_passes (match (codes "up") Octet true) (codes "Stand-up") ≡ false) × (text_passes (match (codes "down") Octet true) (codes "Stand-up") ≡ true)
negated = (refl, refl)

-- the value is taken without its escapes: `a\,b` is `a,b`, and `\n` is a line feed
escapes : (text_passes (match (codes "a,b") Octet false) (codes "a\\,b") ≡ true) × (text_passes (match (codes "\\,") Octet false) (codes "a\\,b") ≡ false)
    × (text_passes (match (codes "a\nb") Octet false) (codes "a\\nb") ≡ true)
escapes = (refl, refl, refl)

-- Parameters

abbrev pub language : List ℕ → Param
language value = record { name = codes "LANGUAGE"; values = value ∷ [] }

abbrev pub asks : ParamTest → ParamFilter
asks test = record { name = codes "LANGUAGE"; test = test }

param_absent : (param_filter_holds (language (codes "en") ∷ []) (asks param.Absent) ≡ false) × (param_filter_holds [] (asks param.Absent) ≡ true)
param_absent = (refl, refl)

param_defined : (param_filter_holds (language (codes "en") ∷ []) (asks param.Defined) ≡ true) × (param_filter_holds [] (asks param.Defined) ≡ false)
param_defined = (refl, refl)

-- one value that passes is enough; a parameter that is not there passes no text-match, not even a negated one
param_text : (param_filter_holds (record { name = codes "LANGUAGE"; values = codes "de" ∷ codes "en" ∷ [] } ∷ []) (asks (param.Text (match (codes "EN") AsciiCasemap false))) ≡ true)
    × (param_filter_holds (record { name = codes "LANGUAGE"; values = codes "de" ∷ codes "en" ∷ [] } ∷ []) (asks (param.Text (match (codes "EN") AsciiCasemap true))) ≡ true)
    × (param_filter_holds [] (asks (param.Text (match (codes "en") Octet true))) ≡ false)
param_text = (refl, refl, refl)

-- An object with one event

abbrev pub line : List ℕ → List ℕ → Line
line name value = record { name = name; params = []; value = value; raw = name ++ codes ":" ++ value }

abbrev pub node : List ℕ → List Line → List Node → Node
node name lines children = component name (record { lines = lines; children = children })

abbrev pub summary : Line
summary = record { name = codes "SUMMARY"; params = language (codes "en") ∷ []; value = codes "Stand-up"; raw = codes "SUMMARY;LANGUAGE=en:Stand-up" }

-- of an alarm that goes off once, or twice more
abbrev pub alarm_lines : Bool → List Line
alarm_lines again = line (codes "TRIGGER") (codes "-PT15M") ∷ (if again then line (codes "REPEAT") (codes "2") ∷ line (codes "DURATION") (codes "PT5M") ∷ [] else [])

-- a VALARM without a TRIGGER stands first, and has no number
abbrev pub alarms : Bool → List Node
alarms again = node (codes "VALARM") (line (codes "ACTION") (codes "NONE") ∷ []) [] ∷ node (codes "VALARM") (alarm_lines again) [] ∷ []

abbrev pub event_lines : List Line
event_lines = line (codes "UID") (codes "one") ∷ line (codes "DTSTART") (codes "20250310T090000Z") ∷ line (codes "DURATION") (codes "PT1H") ∷ summary ∷ []

abbrev pub alarm : Bool → Alarm
alarm again = record {
  trigger = trigger.From related.Start (days_and_time (pos 0) (neg_ℤ (pos 900)));
  repeat = if again then 2 else 0;
  gap = days_and_time (pos 0) (if again then pos 300 else pos 0);
}

abbrev pub meeting : Bool → Component
meeting again = record (event (Some (Utc (record { 0 = pos nine }))) (extent.Lasting (days_and_time (pos 0) (pos 3600)))) { busy = Some Busy; alarms = alarm again ∷ [] }

abbrev pub object : Bool → Object
object again = record {
  kind = Event;
  uid = codes "one";
  tree = node (codes "VCALENDAR") [] (node (codes "VEVENT") event_lines (alarms again) ∷ []);
  zones = [];
  components = meeting again ∷ [];
}

-- it is what is read of these octets
as_read : read_object (codes "BEGIN:VCALENDAR\r\nBEGIN:VEVENT\r\nUID:one\r\nDTSTART:20250310T090000Z\r\nDURATION:PT1H\r\nSUMMARY;LANGUAGE=en:Stand-up\r\nBEGIN:VALARM\r\nACTION:NONE\r\nEND:VALARM\r\nBEGIN:VALARM\r\nTRIGGER:-PT15M\r\nREPEAT:2\r\nDURATION:PT5M\r\nEND:VALARM\r\nEND:VEVENT\r\nEND:VCALENDAR\r\n") ≡ Ok (object true)
unfolding is_utf8 chars encode date_of time_of date_time_of length_of count_of integer_of stamps_in_grammar trigger_of N.out-Node N.roll-Node B.shown-the_row-Node-0 B.hidden-the_row-Node-0 B.shape-the_row-Node-0 H.out H.roll H.shown H.hidden
as_read = refl

-- and it has this one row
abbrev pub meeting_row : Row
meeting_row = row_of (pos nine) (pos nine) (pos ten) 0 Instant Instant

its_rows : rows_over [] (object true) ≡ meeting_row ∷ []
unfolding exists_in instant_of offset_at
its_rows = refl

-- minutes after 8 o'clock
abbrev pub minutes : ℕ → ℕ → Range
minutes a b = record { start = record { 0 = pos (1_741_593_600 + 60 * a) }; end = record { 0 = pos (1_741_593_600 + 60 * b) } }

abbrev pub comp : List ℕ → Option Range → List PropFilter → List CompFilter → CompFilter
comp name time props comps = roll-CompFilter (record { name = name; absent = false; time = time; props = props; comps = comps })

abbrev pub no_comp : List ℕ → CompFilter
no_comp name = roll-CompFilter (record { name = name; absent = true; time = None; props = []; comps = [] })

abbrev pub prop : List ℕ → PropTest → List ParamFilter → PropFilter
prop name test params = record { name = name; test = test; params = params }

-- whether the event matches what is asked within VCALENDAR
abbrev pub finds : Bool → CompFilter → Bool
finds again inner = matches (record { top = comp (codes "VCALENDAR") None [] (inner ∷ []) }) (object again) (meeting_row ∷ []) utc_zone

abbrev pub event_asks : Option Range → List PropFilter → List CompFilter → CompFilter
event_asks = comp (codes "VEVENT")

-- another name at the top, and a component that is and is not there
other_top : matches (record { top = comp (codes "VTODO") None [] [] }) (object false) (meeting_row ∷ []) utc_zone ≡ false
unfolding N.out-Node N.roll-Node B.shown-the_row-Node-0 B.hidden-the_row-Node-0 B.shape-the_row-Node-0 H.out H.roll H.shown H.hidden
other_top = simp (comp_filter_holds_roll) refl

component_there : (finds false (event_asks None [] []) ≡ true) × (finds false (comp (codes "VTODO") None [] []) ≡ false)
    × (finds false (no_comp (codes "VTODO")) ≡ true) × (finds false (no_comp (codes "VEVENT")) ≡ false)
unfolding N.out-Node N.roll-Node B.shown-the_row-Node-0 B.hidden-the_row-Node-0 B.shape-the_row-Node-0 H.out H.roll H.shown H.hidden
component_there = simp (comp_filter_holds_roll) (refl, refl, refl, refl)

-- a range of the event; its alarm goes off at 8:45, before the event begins
event_range : (finds false (event_asks (Some (minutes 60 120)) [] []) ≡ true) × (finds false (event_asks (Some (minutes 0 60)) [] []) ≡ false)
unfolding N.out-Node N.roll-Node B.shown-the_row-Node-0 B.hidden-the_row-Node-0 B.shape-the_row-Node-0 H.out H.roll H.shown H.hidden
event_range = simp (comp_filter_holds_roll) (refl, refl)

abbrev pub alarm_in : Range → CompFilter
alarm_in range = comp (codes "VALARM") (Some range) [] []

alarm_range : (finds false (event_asks None [] (alarm_in (minutes 45 46) ∷ [])) ≡ true) × (finds false (event_asks None [] (alarm_in (minutes 46 90) ∷ [])) ≡ false)
unfolding N.out-Node N.roll-Node B.shown-the_row-Node-0 B.hidden-the_row-Node-0 B.shape-the_row-Node-0 H.out H.roll H.shown H.hidden counted_from
alarm_range = simp (comp_filter_holds_roll) (refl, refl)

-- twice more, five minutes apart
alarm_repeats : (finds true (event_asks None [] (alarm_in (minutes 50 51) ∷ [])) ≡ true) × (finds true (event_asks None [] (alarm_in (minutes 51 55) ∷ [])) ≡ false)
unfolding N.out-Node N.roll-Node B.shown-the_row-Node-0 B.hidden-the_row-Node-0 B.shape-the_row-Node-0 H.out H.roll H.shown H.hidden counted_from
alarm_repeats = simp (comp_filter_holds_roll) (refl, refl)

-- the two ranges are tested by themselves: the event overlaps the outer one, its alarm lies in the inner one
each_by_itself : (finds false (event_asks (Some (minutes 60 120)) [] (alarm_in (minutes 45 46) ∷ [])) ≡ true)
    × (finds false (event_asks (Some (minutes 40 50)) [] (alarm_in (minutes 45 46) ∷ [])) ≡ false)
unfolding N.out-Node N.roll-Node B.shown-the_row-Node-0 B.hidden-the_row-Node-0 B.shape-the_row-Node-0 H.out H.roll H.shown H.hidden counted_from
each_by_itself = simp (comp_filter_holds_roll) (refl, refl)

-- without a row the alarm has no moment
without_rows : matches (record { top = comp (codes "VCALENDAR") None [] (event_asks None [] (alarm_in (minutes 45 46) ∷ []) ∷ []) }) (object false) [] utc_zone ≡ false
unfolding N.out-Node N.roll-Node B.shown-the_row-Node-0 B.hidden-the_row-Node-0 B.shape-the_row-Node-0 H.out H.roll H.shown H.hidden counted_from
without_rows = simp (comp_filter_holds_roll) refl

-- one that goes off at a moment of its own needs no row: here the only start is taken away by an EXDATE
abbrev pub without_starts : Object
without_starts = record (object false) {
  tree = node (codes "VCALENDAR") [] (node (codes "VEVENT") (event_lines ++ line (codes "EXDATE") (codes "20250310T090000Z") ∷ [])
      (node (codes "VALARM") (record { name = codes "TRIGGER"; params = record { name = codes "VALUE"; values = codes "DATE-TIME" ∷ [] } ∷ []; value = codes "20250310T080000Z"; raw = codes "TRIGGER;VALUE=DATE-TIME:20250310T080000Z" } ∷ []) [] ∷ []) ∷ []);
  components = record (meeting false) {
    except = Utc (record { 0 = pos nine }) ∷ [];
    alarms = record { trigger = trigger.At (record { 0 = pos 1_741_593_600 }); repeat = 0; gap = days_and_time (pos 0) (pos 0) } ∷ [];
  } ∷ [];
}

no_row_left : rows_over [] without_starts ≡ []
no_row_left = refl

alarm_of_its_own : (matches (record { top = comp (codes "VCALENDAR") None [] (event_asks None [] (alarm_in (minutes 0 1) ∷ []) ∷ []) }) without_starts [] utc_zone ≡ true)
    × (matches (record { top = comp (codes "VCALENDAR") None [] (event_asks None [] (alarm_in (minutes 1 2) ∷ []) ∷ []) }) without_starts [] utc_zone ≡ false)
unfolding N.out-Node N.roll-Node B.shown-the_row-Node-0 B.hidden-the_row-Node-0 B.shape-the_row-Node-0 H.out H.roll H.shown H.hidden counted_from
alarm_of_its_own = simp (comp_filter_holds_roll) (refl, refl)

-- a VALARM outside the four kinds has its absolute trigger alone
abbrev pub lone : List ℕ → List ℕ → Object
lone name value = record (object false) {
  tree = node (codes "VCALENDAR") [] (node (codes "VEVENT") event_lines [] ∷ node (codes "VALARM") (record { name = codes "TRIGGER"; params = record { name = codes "VALUE"; values = name ∷ [] } ∷ []; value = value; raw = [] } ∷ []) [] ∷ []);
}

lone_alarm : (matches (record { top = comp (codes "VCALENDAR") None [] (alarm_in (minutes 45 46) ∷ []) }) (lone (codes "DATE-TIME") (codes "20250310T084500Z")) (meeting_row ∷ []) utc_zone ≡ true)
    × (matches (record { top = comp (codes "VCALENDAR") None [] (alarm_in (minutes 45 46) ∷ []) }) (lone (codes "DURATION") (codes "-PT15M")) (meeting_row ∷ []) utc_zone ≡ false)
unfolding N.out-Node N.roll-Node B.shown-the_row-Node-0 B.hidden-the_row-Node-0 B.shape-the_row-Node-0 H.out H.roll H.shown H.hidden counted_from trigger_of date_time_of date_of time_of length_of count_of integer_of
lone_alarm = simp (comp_filter_holds_roll) (refl, refl)

-- a VEVENT that is no child of the outermost component has no row
nested_event : matches (record { top = comp (codes "VCALENDAR") None [] (comp (codes "X-BOX") None [] (event_asks (Some (minutes 60 120)) [] [] ∷ []) ∷ []) })
    (record (object false) { tree = node (codes "VCALENDAR") [] (node (codes "X-BOX") [] (node (codes "VEVENT") event_lines [] ∷ []) ∷ []) }) (meeting_row ∷ []) utc_zone ≡ false
unfolding N.out-Node N.roll-Node B.shown-the_row-Node-0 B.hidden-the_row-Node-0 B.shape-the_row-Node-0 H.out H.roll H.shown H.hidden
nested_event = simp (comp_filter_holds_roll) refl

-- Properties

prop_there : (finds false (event_asks None (prop (codes "SUMMARY") Defined [] ∷ []) []) ≡ true) × (finds false (event_asks None (prop (codes "SUMMARY") Absent [] ∷ []) []) ≡ false)
    × (finds false (event_asks None (prop (codes "LOCATION") Defined [] ∷ []) []) ≡ false) × (finds false (event_asks None (prop (codes "LOCATION") Absent [] ∷ []) []) ≡ true)
unfolding N.out-Node N.roll-Node B.shown-the_row-Node-0 B.hidden-the_row-Node-0 B.shape-the_row-Node-0 H.out H.roll H.shown H.hidden
prop_there = simp (comp_filter_holds_roll) (refl, refl, refl, refl)

-- one line has to pass the text-match and all param-filters; a negated text-match is not passed by a property that is not there
prop_text : (finds false (event_asks None (prop (codes "SUMMARY") (Text (match (codes "stand") AsciiCasemap false)) (asks param.Defined ∷ []) ∷ []) []) ≡ true)
    × (finds false (event_asks None (prop (codes "SUMMARY") (Text (match (codes "stand") AsciiCasemap false)) (asks param.Absent ∷ []) ∷ []) []) ≡ false)
    × (finds false (event_asks None (prop (codes "LOCATION") (Text (match (codes "stand") AsciiCasemap true)) [] ∷ []) []) ≡ false)
unfolding N.out-Node N.roll-Node B.shown-the_row-Node-0 B.hidden-the_row-Node-0 B.shape-the_row-Node-0 H.out H.roll H.shown H.hidden
prop_text = simp (comp_filter_holds_roll) (refl, refl, refl)

-- DURATION beside DTSTART is as if DTEND were written, for a range alone; at the end of the range it does not count
abbrev pub end_in : Range → CompFilter
end_in range = event_asks None (prop (codes "DTEND") (Time range) [] ∷ []) []

effective_end : (finds false (end_in (minutes 120 121)) ≡ true) × (finds false (end_in (minutes 60 120)) ≡ false)
    × (finds false (event_asks None (prop (codes "DUE") (Time (minutes 120 121)) [] ∷ []) []) ≡ false)
    × (finds false (event_asks None (prop (codes "DTEND") Defined [] ∷ []) []) ≡ false)
unfolding N.out-Node N.roll-Node B.shown-the_row-Node-0 B.hidden-the_row-Node-0 B.shape-the_row-Node-0 H.out H.roll H.shown H.hidden stamps_in_grammar date_time_of date_of time_of length_of count_of
effective_end = simp (comp_filter_holds_roll) (refl, refl, refl, refl)

-- in a to-do it is as if DUE were written
abbrev pub lasting_to_do : Object
lasting_to_do = record (object false) {
  kind = Todo;
  tree = node (codes "VCALENDAR") [] (node (codes "VTODO") event_lines [] ∷ []);
  components = record (meeting false) { kind = Todo; busy = None; alarms = [] } ∷ [];
}

abbrev pub to_do_has : List ℕ → CompFilter
to_do_has name = comp (codes "VCALENDAR") None [] (comp (codes "VTODO") None (prop name (Time (minutes 120 121)) [] ∷ []) [] ∷ [])

effective_due : (matches (record { top = to_do_has (codes "DUE") }) lasting_to_do (meeting_row ∷ []) utc_zone ≡ true)
    × (matches (record { top = to_do_has (codes "DTEND") }) lasting_to_do (meeting_row ∷ []) utc_zone ≡ false)
unfolding N.out-Node N.roll-Node B.shown-the_row-Node-0 B.hidden-the_row-Node-0 B.shape-the_row-Node-0 H.out H.roll H.shown H.hidden stamps_in_grammar date_time_of date_of time_of length_of count_of
effective_due = simp (comp_filter_holds_roll) (refl, refl)

-- the written start
start_in_range : (finds false (event_asks None (prop (codes "DTSTART") (Time (minutes 60 61)) [] ∷ []) []) ≡ true) × (finds false (event_asks None (prop (codes "DTSTART") (Time (minutes 61 120)) [] ∷ []) []) ≡ false)
    × (finds false (event_asks None (prop (codes "DTSTART") (Time (minutes 60 61)) (asks param.Defined ∷ []) ∷ []) []) ≡ false)
unfolding N.out-Node N.roll-Node B.shown-the_row-Node-0 B.hidden-the_row-Node-0 B.shape-the_row-Node-0 H.out H.roll H.shown H.hidden stamps_in_grammar date_time_of date_of time_of length_of count_of
start_in_range = simp (comp_filter_holds_roll) (refl, refl, refl)

-- a date whose zone is nowhere defined passes no range; in a VTIMEZONE a DTSTART is local time whatever it says
abbrev pub zoned_line : Line
zoned_line = record { name = codes "DTSTART"; params = record { name = codes "TZID"; values = codes "NY" ∷ [] } ∷ []; value = codes "20250310T090000"; raw = [] }

abbrev pub within : List ℕ → Object
within name = record (object false) { tree = node (codes "VCALENDAR") [] (node name [] (node (codes "DAYLIGHT") (zoned_line ∷ []) [] ∷ []) ∷ []) }

abbrev pub starts_within : List ℕ → Bool
starts_within name = matches (record { top = comp (codes "VCALENDAR") None [] (comp name None [] (comp (codes "DAYLIGHT") None (prop (codes "DTSTART") (Time (minutes 60 61)) [] ∷ []) [] ∷ []) ∷ []) })
    (within name) [] utc_zone

unknown_zone : (starts_within (codes "X-BOX") ≡ false) × (starts_within (codes "VTIMEZONE") ≡ true)
unfolding N.out-Node N.roll-Node B.shown-the_row-Node-0 B.hidden-the_row-Node-0 B.shape-the_row-Node-0 H.out H.roll H.shown H.hidden stamps_in_grammar date_time_of date_of time_of length_of count_of instant_of offset_at
unknown_zone = simp (comp_filter_holds_roll) (refl, refl)

-- To-dos

abbrev pub to_do : Component → Object
to_do c = record { kind = Todo; uid = codes "two"; tree = node (codes "VCALENDAR") [] (node (codes "VTODO") [] [] ∷ []); zones = []; components = record c { kind = Todo } ∷ [] }

abbrev pub to_do_asks : Range → CompFilter
to_do_asks range = comp (codes "VCALENDAR") None [] (comp (codes "VTODO") (Some range) [] [] ∷ [])

-- with DUE at 9 o'clock alone a range that ends there matches, and one that begins there does not
due_alone : (matches (record { top = to_do_asks (minutes 0 60) }) (to_do (event None (extent.Due (Utc (record { 0 = pos nine }))))) (row_of (pos nine) (pos nine) (pos nine) 0 Instant Instant ∷ []) utc_zone ≡ true)
    × (matches (record { top = to_do_asks (minutes 60 120) }) (to_do (event None (extent.Due (Utc (record { 0 = pos nine }))))) (row_of (pos nine) (pos nine) (pos nine) 0 Instant Instant ∷ []) utc_zone ≡ false)
unfolding N.out-Node N.roll-Node B.shown-the_row-Node-0 B.hidden-the_row-Node-0 B.shape-the_row-Node-0 H.out H.roll H.shown H.hidden
due_alone = simp (comp_filter_holds_roll) (refl, refl)

-- without a date it matches every range
without_dates : matches (record { top = to_do_asks (minutes 0 1) }) (to_do (event None extent.None)) (row_of (pos 0) (pos 0) (pos 0) 0 Undated Undated ∷ []) utc_zone ≡ true
unfolding N.out-Node N.roll-Node B.shown-the_row-Node-0 B.hidden-the_row-Node-0 B.shape-the_row-Node-0 H.out H.roll H.shown H.hidden
without_dates = simp (comp_filter_holds_roll) refl
