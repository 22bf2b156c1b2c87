-- Worked examples of calendar objects that are read, and of the faults of others.
use Rattle.std.specs.Prelude.{◌≡◌, refl, ℕ, ◌*◌, Bool, List, [], ◌∷◌, ◌++◌, map, Option, Some, None, true, false, option_map, Result, Ok, Err, codes, pos, neg_ℤ}
use Rattle.std.specs.Str.{is_utf8, chars}
use lib.Utf8.{encode}
use Rattle.cal_base.specs.declared.line.Node as N
use Rattle.cal_base.specs.declared.line.Node.TheBlock as B
use denote.Hole.Carrier as H
use Rattle.cal_base.specs.declared.line.Line.{Line}
use Rattle.cal_base.specs.Lines.ComponentTrees.{component}
use Rattle.cal_moment.specs.Calendar.{year_of, month_of, day_of_month, moment_of_date}
use Rattle.cal_moment.specs.declared.stamp.Length.{Length}
use Rattle.cal_moment.specs.declared.stamp.PeriodEnd.TheVariants.{At as AtEnd, After}
use Rattle.cal_moment.specs.declared.stamp.Stamp.{Stamp}
use Rattle.cal_moment.specs.declared.stamp.Stamp.TheVariants.{Date, Floating, Zoned, Utc}
use Rattle.cal_model.specs.declared.object.Component.{Component}
use Rattle.cal_model.specs.declared.object.Class.TheVariants.{Busy, Unavailable, Tentative}
use Rattle.cal_model.specs.declared.object.Extent.{Extent}
use Rattle.cal_model.specs.declared.object.Extent.TheVariants as extent
use Rattle.cal_model.specs.declared.object.Kind.{Kind}
use Rattle.cal_model.specs.declared.object.Kind.TheVariants.{Event, Todo, Journal, FreeBusy}
use Rattle.cal_model.specs.declared.object.NotResource.TheVariants.{ZoneMissing}
use Rattle.cal_model.specs.declared.object.Object.{Object}
use Rattle.cal_model.specs.declared.object.Related.TheVariants.{End}
use Rattle.cal_model.specs.declared.object.Trigger.TheVariants.{At as AtMoment, From}
use Rattle.cal_model.specs.declared.rule.Freq.TheVariants.{Weekly, Yearly}
use Rattle.cal_model.specs.declared.zone.ZoneTable.{ZoneTable}
use Rattle.cal_model.specs.Words.Lists.{counted_from}
use Rattle.cal_model.specs.Recurrence.Passing.{day_passes, time_passes}
use Rattle.cal_model.specs.TimeZones.Zones.{offset_at, exists_in, instant_of}
use Rattle.cal_model.specs.Values.ValueTexts.{date_of, time_of, date_time_of, count_of, integer_of, length_of, offset_of}
use Rattle.cal_model.specs.Values.StampTexts.{stamps_in_grammar, periods_in_grammar, trigger_of}
use Rattle.cal_model.specs.Values.RuleTexts.{rule_in_grammar, every_time}
use Rattle.cal_model.specs.Objects.ObjectReading.{Unread, not_calendar, not_resource, read_object, read_object_over, read_zone, read_zone_over}
use Rattle.cal_examples.proofs.ZoneExamples.{onset, written}
use Rattle.cal_examples.proofs.RowExamples.{instant_row}
use Rattle.cal_model.specs.declared.row.Row.{Row}
use Rattle.cal_model.specs.Instances.Rows.{rows_over}
use Rattle.cal_examples.proofs.Samples.{stand_up_octets, nine, ten}

-- a line without parameters
abbrev plain : List ℕ → List ℕ → Line
plain name value = record { name = name; params = []; value = value; raw = name ++ codes ":" ++ value }

-- a component of a kind that says nothing
abbrev nothing_said : Kind → Component
nothing_said kind = record {
  kind = kind;
  child = 0;
  start = None;
  extent = extent.None;
  recurrence_id = None;
  rules = [];
  dates = [];
  periods = [];
  except = [];
  completed = None;
  created = None;
  busy = None;
  stored_busy = [];
  alarms = [];
  future = false;
}

-- a whole object: one event, in UTC
stand_up : read_object stand_up_octets ≡ Ok (record {
  kind = Event;
  uid = codes "one";
  tree = component (codes "VCALENDAR") (record {
    lines = plain (codes "VERSION") (codes "2.0") ∷ plain (codes "PRODID") (codes "-//a//EN") ∷ [];
    children = component (codes "VEVENT") (record {
      lines = plain (codes "UID") (codes "one")
          ∷ plain (codes "DTSTAMP") (codes "20250101T000000Z")
          ∷ plain (codes "DTSTART") (codes "20250310T090000Z")
          ∷ plain (codes "DTEND") (codes "20250310T100000Z")
          ∷ plain (codes "SUMMARY") (codes "Stand-up") ∷ [];
      children = [];
    }) ∷ [];
  });
  zones = [];
  components = record (nothing_said Event) {
    start = Some (Utc (record { 0 = pos nine }));
    extent = extent.End (Utc (record { 0 = pos ten }));
    busy = Some Busy;
  } ∷ [];
})
unfolding is_utf8 chars encode date_of time_of date_time_of stamps_in_grammar N.out-Node N.roll-Node B.shown-the_row-Node-0 B.hidden-the_row-Node-0 B.shape-the_row-Node-0 H.out H.roll H.shown H.hidden
stand_up = refl

abbrev hour : Length
hour = record { days = pos 0; seconds = pos 3600 }

-- the kind, the UID, the zones and the components of an object
abbrev shown : Result Object Unread → Option (Kind × List ℕ × List ZoneTable × List Component)
shown (Ok object) = Some (object.kind, object.uid, object.zones, object.components)
shown (Err fault) = None

abbrev calendar : List ℕ → List ℕ
calendar inside = codes "BEGIN:VCALENDAR\n" ++ inside ++ codes "END:VCALENDAR\n"

-- the components of a calendar that has no zone, with the UID `one` for each
abbrev components_in : List ℕ → Option (List Component)
components_in inside = elim (read_object (calendar inside)) [ Ok object ↦ Some object.components | Err fault ↦ None ]

-- 29 February 1604 and each year, by its day
leap_day : shown (read_object (calendar (codes "BEGIN:VEVENT\nUID:one\nDTSTART;VALUE=DATE:16040229\nRRULE:FREQ=YEARLY\nEND:VEVENT\n"))) ≡ Some (
  Event,
  codes "one",
  [],
  record (nothing_said Event) {
    start = Some (Date (record { 0 = neg_ℤ (pos 133620) }));
    extent = extent.WholeDay;
    rules = every_time Yearly ∷ [];
    busy = Some Busy;
  } ∷ [],
)
unfolding is_utf8 chars encode date_of time_of date_time_of count_of integer_of length_of offset_of stamps_in_grammar periods_in_grammar trigger_of rule_in_grammar N.out-Node N.roll-Node B.shown-the_row-Node-0 B.hidden-the_row-Node-0 B.shape-the_row-Node-0 H.out H.roll H.shown H.hidden
leap_day = refl

-- which components of a text move all later instances
abbrev move_later : List ℕ → Option (List Bool)
move_later inside = option_map (λ components. map (λ (c : Component). c.future) components) (components_in inside)

-- any of the values of RANGE may say so, in any case; DTSTART has to be there, of the kind of the ids
later_ones : map move_later (
    codes "BEGIN:VEVENT\nUID:one\nRECURRENCE-ID;RANGE=x,ThisAndFuture:20250310T090000Z\nDTSTART:20250310T100000Z\nEND:VEVENT\n"
    ∷ codes "BEGIN:VEVENT\nUID:one\nRECURRENCE-ID;RANGE=x,ThisAndFuture:20250310T090000Z\nEND:VEVENT\n"
    ∷ codes "BEGIN:VEVENT\nUID:one\nRECURRENCE-ID;RANGE=x,ThisAndFuture:20250310T090000Z\nDTSTART:20250310\nEND:VEVENT\n"
    ∷ codes "BEGIN:VEVENT\nUID:one\nRECURRENCE-ID;RANGE=THISANDPRIOR:20250310T090000Z\nDTSTART:20250310T100000Z\nEND:VEVENT\n"
    ∷ codes "BEGIN:VTODO\nUID:one\nDTSTART:20250303T090000Z\nRRULE:FREQ=WEEKLY;COUNT=3\nEND:VTODO\nBEGIN:VTODO\nUID:one\nRECURRENCE-ID;RANGE=THISANDFUTURE:20250310T090000Z\nDUE:20250311T090000Z\nEND:VTODO\n"
    ∷ []
    ) ≡ Some (true ∷ [])
    ∷ Some (false ∷ [])
    ∷ Some (false ∷ [])
    ∷ Some (false ∷ [])
    ∷ Some (false ∷ false ∷ [])
    ∷ []
unfolding is_utf8 chars encode date_of time_of date_time_of count_of integer_of length_of offset_of stamps_in_grammar periods_in_grammar trigger_of rule_in_grammar N.out-Node N.roll-Node B.shown-the_row-Node-0 B.hidden-the_row-Node-0 B.shape-the_row-Node-0 H.out H.roll H.shown H.hidden
later_ones = refl

-- a VTODO ends by DUE and not by DTEND, and a day alone has no length there
todo : components_in (codes "BEGIN:VTODO\nUID:one\nDUE:20250310T090000\nCOMPLETED:20250310T080000\nCREATED:20250310T070000Z\nEND:VTODO\n") ≡ Some (record (nothing_said Todo) {
  extent = extent.Due (Floating (record { day = pos 20157; second = 32400 }));
  completed = Some (record { 0 = pos 1741593600 });
  created = Some (record { 0 = pos 1741590000 });
} ∷ [])
unfolding is_utf8 chars encode date_of time_of date_time_of count_of integer_of length_of offset_of stamps_in_grammar periods_in_grammar trigger_of rule_in_grammar N.out-Node N.roll-Node B.shown-the_row-Node-0 B.hidden-the_row-Node-0 B.shape-the_row-Node-0 H.out H.roll H.shown H.hidden
todo = refl

todo_of_a_day : components_in (codes "BEGIN:VTODO\nUID:one\nDTSTART:20250310\nDTEND:20250311\nEND:VTODO\n") ≡ Some (record (nothing_said Todo) {
  start = Some (Date (record { 0 = pos 20157 }));
  extent = extent.Point;
} ∷ [])
unfolding is_utf8 chars encode date_of time_of date_time_of count_of integer_of length_of offset_of stamps_in_grammar periods_in_grammar trigger_of rule_in_grammar N.out-Node N.roll-Node B.shown-the_row-Node-0 B.hidden-the_row-Node-0 B.shape-the_row-Node-0 H.out H.roll H.shown H.hidden
todo_of_a_day = refl

-- how each kind ends by DURATION, and by no line
abbrev extents_in : List ℕ → Option (List Extent)
extents_in inside = option_map (map (λ (c : Component). c.extent)) (components_in inside)

ends : map extents_in (
    codes "BEGIN:VEVENT\nUID:one\nDURATION:PT1H\nEND:VEVENT\n"
    ∷ codes "BEGIN:VFREEBUSY\nUID:one\nDTSTART:20250310T090000Z\nDURATION:PT1H\nEND:VFREEBUSY\n"
    ∷ codes "BEGIN:VEVENT\nUID:one\nEND:VEVENT\n"
    ∷ codes "BEGIN:VTODO\nUID:one\nEND:VTODO\n"
    ∷ codes "BEGIN:VTODO\nUID:one\nDTSTART:20250310T090000Z\nEND:VTODO\n"
    ∷ codes "BEGIN:VFREEBUSY\nUID:one\nDTSTART:20250310T090000Z\nEND:VFREEBUSY\n"
    ∷ codes "BEGIN:VJOURNAL\nUID:one\nDTSTART:20250310T090000Z\nEND:VJOURNAL\n" ∷ []
    ) ≡ Some (extent.Lasting hour ∷ []) ∷ Some (extent.Lasting hour ∷ []) ∷ Some (extent.Point ∷ []) ∷ Some (extent.None ∷ []) ∷ Some (extent.Point ∷ [])
    ∷ Some (extent.None ∷ []) ∷ Some (extent.Point ∷ []) ∷ []
unfolding is_utf8 chars encode date_of time_of date_time_of count_of integer_of length_of offset_of stamps_in_grammar periods_in_grammar trigger_of rule_in_grammar N.out-Node N.roll-Node B.shown-the_row-Node-0 B.hidden-the_row-Node-0 B.shape-the_row-Node-0 H.out H.roll H.shown H.hidden
ends = refl

-- a VJOURNAL is free, and lasts its day
journal : components_in (codes "BEGIN:VJOURNAL\nUID:one\nDTSTART:20250310\nSTATUS:TENTATIVE\nEND:VJOURNAL\n") ≡ Some (record (nothing_said Journal) {
  start = Some (Date (record { 0 = pos 20157 }));
  extent = extent.WholeDay;
} ∷ [])
unfolding is_utf8 chars encode date_of time_of date_time_of count_of integer_of length_of offset_of stamps_in_grammar periods_in_grammar trigger_of rule_in_grammar N.out-Node N.roll-Node B.shown-the_row-Node-0 B.hidden-the_row-Node-0 B.shape-the_row-Node-0 H.out H.roll H.shown H.hidden
journal = refl

-- a VFREEBUSY: its periods are in UTC with or without the Z; FREE has no class, and an unknown word is busy
free_busy : components_in (codes "BEGIN:VFREEBUSY\nUID:one\nFREEBUSY;FBTYPE=free:20250310T090000/PT1H\nFREEBUSY;FBTYPE=X-A:20250310T090000Z/20250310T100000Z\nFREEBUSY;FBTYPE=BUSY-UNAVAILABLE:20250310T090000Z/PT1H,20250310T100000Z/PT2H\nEND:VFREEBUSY\n") ≡ Some (record (nothing_said FreeBusy) {
  stored_busy = (None, record { start = Utc (record { 0 = pos nine }); end = After hour })
      ∷ (Some Busy, record { start = Utc (record { 0 = pos nine }); end = AtEnd (Utc (record { 0 = pos ten })) })
      ∷ (Some Unavailable, record { start = Utc (record { 0 = pos nine }); end = After hour })
      ∷ (Some Unavailable, record { start = Utc (record { 0 = pos ten }); end = After (record hour { seconds = pos 7200 }) }) ∷ [];
} ∷ [])
unfolding is_utf8 chars encode date_of time_of date_time_of count_of integer_of length_of offset_of stamps_in_grammar periods_in_grammar trigger_of rule_in_grammar N.out-Node N.roll-Node B.shown-the_row-Node-0 B.hidden-the_row-Node-0 B.shape-the_row-Node-0 H.out H.roll H.shown H.hidden
free_busy = refl

-- what makes a VEVENT free or tentative; of several lines the first counts
busy_words : option_map (map (λ (c : Component). c.busy)) (components_in (
    codes "BEGIN:VEVENT\nUID:one\nSTATUS:tentative\nSTATUS:CANCELLED\nEND:VEVENT\nBEGIN:VEVENT\nUID:one\nRECURRENCE-ID:20250310T090000Z\nSTATUS:CANCELLED\nEND:VEVENT\n"
    ++ codes "BEGIN:VEVENT\nUID:one\nRECURRENCE-ID:20250311T090000Z\nSTATUS:TENTATIVE\nTRANSP:transparent\nEND:VEVENT\nBEGIN:VEVENT\nUID:one\nRECURRENCE-ID:20250312T090000Z\nSTATUS:CONFIRMED\nTRANSP:OPAQUE\nEND:VEVENT\n"
    )) ≡ Some (Some Tentative ∷ None ∷ None ∷ Some Busy ∷ [])
unfolding is_utf8 chars encode date_of time_of date_time_of count_of integer_of length_of offset_of stamps_in_grammar periods_in_grammar trigger_of rule_in_grammar N.out-Node N.roll-Node B.shown-the_row-Node-0 B.hidden-the_row-Node-0 B.shape-the_row-Node-0 H.out H.roll H.shown H.hidden
busy_words = refl

-- alarms: one by a length from the end with two repeats, one by a moment, and one without TRIGGER, which is left out
alarms : option_map (map (λ (c : Component). c.alarms)) (components_in (
    codes "BEGIN:VEVENT\nUID:one\nBEGIN:VALARM\nTRIGGER;RELATED=END:-PT15M\nREPEAT:2\nDURATION:PT5M\nEND:VALARM\nBEGIN:VALARM\nACTION:AUDIO\nREPEAT:1\nEND:VALARM\nBEGIN:VALARM\nTRIGGER;VALUE=DATE-TIME:20250310T090000\nEND:VALARM\nEND:VEVENT\n"
    )) ≡ Some ((
    record { trigger = From End (record { days = pos 0; seconds = neg_ℤ (pos 900) }); repeat = 2; gap = record { days = pos 0; seconds = pos 300 } }
    ∷ record { trigger = AtMoment (record { 0 = pos nine }); repeat = 0; gap = record { days = pos 0; seconds = pos 0 } }
    ∷ []
    ) ∷ [])
unfolding is_utf8 chars encode date_of time_of date_time_of count_of integer_of length_of offset_of stamps_in_grammar periods_in_grammar trigger_of rule_in_grammar N.out-Node N.roll-Node B.shown-the_row-Node-0 B.hidden-the_row-Node-0 B.shape-the_row-Node-0 H.out H.roll H.shown H.hidden
alarms = refl

-- RDATEs are dates or periods by their VALUE, and other components count among the children alone
dates : components_in (codes "BEGIN:X-A\nEND:X-A\nBEGIN:VEVENT\nUID:one\nDTSTART:20250310T090000Z\nDURATION:PT1H\nRDATE:20250310T100000Z,20250311\nRDATE;VALUE=PERIOD:20250310T090000Z/PT1H\nEXDATE:20250310T090000Z\nEND:VEVENT\n") ≡ Some (record (nothing_said Event) {
  child = 1;
  start = Some (Utc (record { 0 = pos nine }));
  extent = extent.Lasting hour;
  dates = Utc (record { 0 = pos ten }) ∷ Date (record { 0 = pos 20158 }) ∷ [];
  periods = record { start = Utc (record { 0 = pos nine }); end = After hour } ∷ [];
  except = Utc (record { 0 = pos nine }) ∷ [];
  busy = Some Busy;
} ∷ [])
unfolding is_utf8 chars encode date_of time_of date_time_of count_of integer_of length_of offset_of stamps_in_grammar periods_in_grammar trigger_of rule_in_grammar N.out-Node N.roll-Node B.shown-the_row-Node-0 B.hidden-the_row-Node-0 B.shape-the_row-Node-0 H.out H.roll H.shown H.hidden
dates = refl

-- two zones of one name: the first counts; a part that lacks an offset is passed over, and each RDATE of the other part is an onset, by its local digits
abbrev two_zones : List ℕ
two_zones =
    codes "BEGIN:VTIMEZONE\nTZID:X\nBEGIN:STANDARD\nDTSTART:19700101T000000\nTZOFFSETTO:+0500\nEND:STANDARD\nBEGIN:DAYLIGHT\nDTSTART:20250330T020000\nTZOFFSETFROM:+0100\nTZOFFSETTO:+0200\nRDATE:20260329T020000Z\nRDATE;VALUE=PERIOD:20270328T020000/PT1H\nEND:DAYLIGHT\nEND:VTIMEZONE\n"
    ++ codes "BEGIN:VTIMEZONE\nTZID:X\nBEGIN:STANDARD\nDTSTART:19700101T000000\nTZOFFSETFROM:-0800\nTZOFFSETTO:-0800\nEND:STANDARD\nEND:VTIMEZONE\n"

abbrev first_zone : ZoneTable
first_zone = record {
  name = codes "X";
  before = pos 3600;
  onsets = onset (pos 1743296400) (pos 7200) ∷ onset (pos 1774746000) (pos 7200) ∷ onset (pos 1806195600) (pos 7200) ∷ [];
}

zoned : shown (read_object_over [] (calendar (two_zones ++ codes "BEGIN:VEVENT\nUID:one\nDTSTART;TZID=X:20250401T100000\nDTEND:20250401T080000Z\nEND:VEVENT\n"))) ≡ Some (
  Event,
  codes "one",
  first_zone ∷ record { name = codes "X"; before = neg_ℤ (pos 28800); onsets = onset (pos 28800) (neg_ℤ (pos 28800)) ∷ [] } ∷ [],
  record (nothing_said Event) {
    child = 2;
    start = Some (Zoned (record { day = pos 20179; second = 36000 }) 0);
    extent = extent.End (Utc (record { 0 = pos 1743494400 }));
    busy = Some Busy;
  } ∷ [],
)
unfolding is_utf8 chars encode date_of time_of date_time_of count_of integer_of length_of offset_of stamps_in_grammar periods_in_grammar trigger_of rule_in_grammar offset_at exists_in instant_of N.out-Node N.roll-Node B.shown-the_row-Node-0 B.hidden-the_row-Node-0 B.shape-the_row-Node-0 H.out H.roll H.shown H.hidden
zoned = refl

-- the zone of a text: its first VTIMEZONE, also where the rest could not be stored; without one there is none
zone_of_text : read_zone_over [] (calendar (two_zones ++ codes "METHOD:PUBLISH\nBEGIN:VEVENT\nDURATION:-PT1S\nEND:VEVENT\n")) ≡ Ok first_zone
unfolding is_utf8 chars encode date_of time_of date_time_of count_of integer_of length_of offset_of stamps_in_grammar periods_in_grammar trigger_of rule_in_grammar N.out-Node N.roll-Node B.shown-the_row-Node-0 B.hidden-the_row-Node-0 B.shape-the_row-Node-0 H.out H.roll H.shown H.hidden
zone_of_text = refl

no_zone : read_zone (calendar (codes "BEGIN:VEVENT\nUID:one\nEND:VEVENT\n")) ≡ Err (not_resource ZoneMissing)
unfolding is_utf8 chars encode date_of time_of date_time_of count_of integer_of length_of offset_of stamps_in_grammar periods_in_grammar trigger_of rule_in_grammar N.out-Node N.roll-Node B.shown-the_row-Node-0 B.hidden-the_row-Node-0 B.shape-the_row-Node-0 H.out H.roll H.shown H.hidden
no_zone = refl

no_calendar : read_zone (calendar (codes "REPEAT:x\n")) ≡ Err (not_calendar 16)
unfolding is_utf8 chars encode date_of time_of date_time_of count_of integer_of length_of offset_of stamps_in_grammar periods_in_grammar trigger_of rule_in_grammar N.out-Node N.roll-Node B.shown-the_row-Node-0 B.hidden-the_row-Node-0 B.shape-the_row-Node-0 H.out H.roll H.shown H.hidden
no_calendar = refl

-- New York by its rules, over the four changes of 2024 and 2025
abbrev new_york_text : List ℕ
new_york_text = codes "BEGIN:VTIMEZONE\nTZID:NY\nBEGIN:DAYLIGHT\nDTSTART:16010101T020000\nRRULE:FREQ=YEARLY;BYDAY=2SU;BYMONTH=3\nTZOFFSETFROM:-0500\nTZOFFSETTO:-0400\nEND:DAYLIGHT\nBEGIN:STANDARD\nDTSTART:16010101T020000\nRRULE:FREQ=YEARLY;BYDAY=1SU;BYMONTH=11\nTZOFFSETFROM:-0400\nTZOFFSETTO:-0500\nEND:STANDARD\nEND:VTIMEZONE\n"

abbrev changes : List ℕ
changes = moment_of_date 2024 3 10 2 0 0 ∷ moment_of_date 2024 11 3 2 0 0 ∷ moment_of_date 2025 3 9 2 0 0 ∷ moment_of_date 2025 11 2 2 0 0 ∷ []

new_york : option_map (λ (z : ZoneTable). z.onsets) (elim (read_zone_over changes (calendar new_york_text)) [ Ok zone ↦ Some zone | Err fault ↦ None ]) ≡ Some (
    onset (neg_ℤ (pos 11644452000)) (neg_ℤ (pos 18000)) ∷ onset (neg_ℤ (pos 11644448400)) (neg_ℤ (pos 14400))
    ∷ onset (pos 1710054000) (neg_ℤ (pos 14400)) ∷ onset (pos 1730613600) (neg_ℤ (pos 18000)) ∷ onset (pos 1741503600) (neg_ℤ (pos 14400)) ∷ onset (pos 1762063200) (neg_ℤ (pos 18000)) ∷ []
    )
unfolding is_utf8 chars encode date_of time_of date_time_of count_of integer_of length_of offset_of stamps_in_grammar periods_in_grammar trigger_of rule_in_grammar year_of month_of day_of_month day_passes time_passes counted_from offset_at exists_in instant_of N.out-Node N.roll-Node B.shown-the_row-Node-0 B.hidden-the_row-Node-0 B.shape-the_row-Node-0 H.out H.roll H.shown H.hidden
new_york = refl

-- a meeting in New York with a date taken away and one moved
abbrev meeting_text : List ℕ
meeting_text =
    codes "BEGIN:VEVENT\nUID:meet\nDTSTART;TZID=NY:20250304T100000\nDTEND;TZID=NY:20250304T110000\nRRULE:FREQ=WEEKLY;COUNT=5\nEXDATE;TZID=NY:20250318T100000\nSUMMARY:Plan\nEND:VEVENT\n"
    ++ codes "BEGIN:VEVENT\nUID:meet\nRECURRENCE-ID;TZID=NY:20250325T100000\nDTSTART;TZID=NY:20250326T140000\nDTEND;TZID=NY:20250326T150000\nSUMMARY:Plan moved\nEND:VEVENT\n"

abbrev in_new_york : ℕ → ℕ → Stamp
in_new_york day hour = Zoned (record { day = pos day; second = 3600 * hour }) 0

abbrev components_of : Result Object Unread → Option (List Component)
components_of (Ok object) = Some object.components
components_of (Err fault) = None

meeting : components_of (read_object_over changes (calendar (new_york_text ++ meeting_text))) ≡ Some (
    record (nothing_said Event) {
      child = 1;
      start = Some (in_new_york 20151 10);
      extent = extent.End (in_new_york 20151 11);
      rules = record (every_time Weekly) { count = Some 5 } ∷ [];
      except = in_new_york 20165 10 ∷ [];
      busy = Some Busy;
    }
    ∷ record (nothing_said Event) {
      child = 2;
      start = Some (in_new_york 20173 14);
      extent = extent.End (in_new_york 20173 15);
      recurrence_id = Some (in_new_york 20172 10);
      busy = Some Busy;
    } ∷ []
    )
unfolding is_utf8 chars encode date_of time_of date_time_of count_of integer_of length_of offset_of stamps_in_grammar periods_in_grammar trigger_of rule_in_grammar year_of month_of day_of_month day_passes time_passes counted_from offset_at exists_in instant_of N.out-Node N.roll-Node B.shown-the_row-Node-0 B.hidden-the_row-Node-0 B.shape-the_row-Node-0 H.out H.roll H.shown H.hidden
meeting = refl

-- from octets to instances: the second is an hour earlier in UTC, the third is gone, and the fourth is where it was moved to
abbrev clock : List ℕ
clock =
    moment_of_date 2024 3 10 2 0 0 ∷ moment_of_date 2024 11 3 2 0 0 ∷ moment_of_date 2025 3 4 10 0 0 ∷ moment_of_date 2025 3 9 2 0 0
    ∷ moment_of_date 2025 3 11 10 0 0 ∷ moment_of_date 2025 3 18 10 0 0 ∷ moment_of_date 2025 3 25 10 0 0 ∷ moment_of_date 2025 4 1 10 0 0 ∷ []

abbrev rows_of : Result Object Unread → List Row
rows_of (Ok object) = rows_over clock object
rows_of (Err fault) = []

instances : rows_of (read_object_over clock (calendar (new_york_text ++ meeting_text)))
    ≡ instant_row (written 2025 3 4 15 0 0) (written 2025 3 4 15 0 0) (written 2025 3 4 16 0 0) 0
    ∷ instant_row (written 2025 3 11 14 0 0) (written 2025 3 11 14 0 0) (written 2025 3 11 15 0 0) 0
    ∷ instant_row (written 2025 3 25 14 0 0) (written 2025 3 26 18 0 0) (written 2025 3 26 19 0 0) 1
    ∷ instant_row (written 2025 4 1 14 0 0) (written 2025 4 1 14 0 0) (written 2025 4 1 15 0 0) 0
    ∷ []
unfolding is_utf8 chars encode date_of time_of date_time_of count_of integer_of length_of offset_of stamps_in_grammar periods_in_grammar trigger_of rule_in_grammar year_of month_of day_of_month day_passes time_passes counted_from offset_at exists_in instant_of N.out-Node N.roll-Node B.shown-the_row-Node-0 B.hidden-the_row-Node-0 B.shape-the_row-Node-0 H.out H.roll H.shown H.hidden
instances = refl
