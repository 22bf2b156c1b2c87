-- Examples of texts that are no calendar object, each with its first fault. A place is the offset of a line, or of the BEGIN of a component.
use Rattle.std.specs.Prelude.{◌≡◌, refl, ℕ, List, [], ◌∷◌, ◌++◌, map, Option, Some, None, Ok, Err, codes, pos, neg_ℤ}
use Rattle.std.specs.Str.{is_utf8, chars}
use lib.Utf8.{encode}
use Rattle.cal_base.specs.declared.line.Node as N
use Rattle.cal_base.specs.declared.line.Node.TheBlock as B
use denote.Hole.Carrier as H
use Rattle.cal_moment.specs.declared.stamp.Stamp.TheVariants.{Date, Floating, Zoned, Utc}
use Rattle.cal_model.specs.declared.object.Kind.TheVariants.{Event, Todo, Journal, FreeBusy}
use Rattle.cal_model.specs.declared.object.NotResource.TheVariants.{Method, NoComponent, MixedKinds, NoUid, MixedUids, TwoMasters, SameRecurrenceId, ZoneMissing, ExRule}
use Rattle.cal_model.specs.Values.ValueTexts.{date_of, time_of, date_time_of, count_of, integer_of, length_of, offset_of}
use Rattle.cal_model.specs.Values.StampTexts.{stamps_in_grammar, periods_in_grammar, trigger_of}
use Rattle.cal_model.specs.Values.RuleTexts.{rule_in_grammar}
use Rattle.cal_model.specs.TimeZones.Zones.{offset_at, exists_in, instant_of}
use Rattle.cal_model.specs.Objects.ObjectReading.{Unread, not_calendar, not_resource, date_outside, read_object_over}

-- the fault of a text, where no rule of a zone is taken further than its start
abbrev fault_of : List ℕ → Option Unread
fault_of text = elim (read_object_over [] text) [ Ok object ↦ None | Err fault ↦ Some fault ]

-- of a calendar with these lines and components
abbrev fault_in : List ℕ → Option Unread
fault_in inside = fault_of (codes "BEGIN:VCALENDAR\n" ++ inside ++ codes "END:VCALENDAR\n")

-- of a calendar with one event of these lines
abbrev fault_of_event : List ℕ → Option Unread
fault_of_event inside = fault_in (codes "BEGIN:VEVENT\n" ++ inside ++ codes "END:VEVENT\n")

-- lines and their nesting; an outermost name other than VCALENDAR comes after both
lines_and_nesting : map fault_of (
    codes ""
    ∷ codes "BEGIN:VCALENDAR\nX\nEND:VEVENT\n"
    ∷ codes "BEGIN:VCALENDAR\nEND:VEVENT\nX\n"
    ∷ codes "BEGIN:VCALENDAR\nBEGIN:VEVENT\nEND:VCALENDAR\n"
    ∷ codes "BEGIN:VCALENDAR\nBEGIN:VEVENT\n"
    ∷ codes "BEGIN:VCARD\nDTSTART:x\nEND:VCARD\n"
    ∷ codes "BEGIN:VCARD\nEND:VCARD\nEND:VCARD\n"
    ∷ []
    ) ≡ Some (not_calendar 0)
    ∷ Some (not_calendar 16)
    ∷ Some (not_calendar 27)
    ∷ Some (not_calendar 29)
    ∷ Some (not_calendar 16)
    ∷ Some (not_calendar 0)
    ∷ Some (not_calendar 22)
    ∷ []
unfolding is_utf8 chars encode date_of time_of date_time_of count_of integer_of length_of offset_of stamps_in_grammar periods_in_grammar trigger_of rule_in_grammar offset_at exists_in instant_of N.out-Node N.roll-Node B.shown-the_row-Node-0 B.hidden-the_row-Node-0 B.shape-the_row-Node-0 H.out H.roll H.shown H.hidden
lines_and_nesting = refl

-- each name that is looked at, with a value that cannot stand; its line is the second of a VEVENT
bad_values : map fault_of_event (
    codes "UID:1\nDTSTART:20250230T000000\n"
    ∷ codes "UID:1\nDTSTART:20250310T090000,20250311T090000\n"
    ∷ codes "UID:1\nDTEND;VALUE=DATE:20250310T090000\n"
    ∷ codes "UID:1\nDUE:2025\n"
    ∷ codes "UID:1\nRECURRENCE-ID:x\n"
    ∷ codes "UID:1\nDURATION:P1\n"
    ∷ codes "UID:1\nDURATION:P200000DT1S\n"
    ∷ codes "UID:1\nDURATION:-P200001D\n"
    ∷ codes "UID:1\nRRULE:FREQ=DAILY;COUNT=0\n"
    ∷ codes "UID:1\nRRULE:FREQ=DAILY;COUNT=2;BYSETPOS=1;BYHOUR=0,1,2,3,4,5,6,7,8,9,10,11,12;BYMINUTE=0,30\n"
    ∷ codes "UID:1\nRDATE:20250310T090000/PT1H\n"
    ∷ codes "UID:1\nRDATE;VALUE=PERIOD:20250310T090000\n"
    ∷ codes "UID:1\nRDATE;VALUE=PERIOD:20250310T090000/P200001D\n"
    ∷ codes "UID:1\nRDATE:20250310T090000,\n"
    ∷ codes "UID:1\nEXDATE:\n"
    ∷ codes "UID:1\nEXDATE;VALUE=PERIOD:20250310T090000/PT1H\n"
    ∷ codes "UID:1\nCOMPLETED:20250310\n"
    ∷ codes "UID:1\nCREATED;VALUE=DATE:20250310\n"
    ∷ codes "UID:1\nDTSTAMP:x\n"
    ∷ codes "UID:1\nLAST-MODIFIED:x\n"
    ∷ codes "UID:1\nFREEBUSY:20250310T090000Z\n"
    ∷ codes "UID:1\nFREEBUSY:20250310T090000Z/P200001D\n"
    ∷ codes "UID:1\nTRIGGER:20250310T090000Z\n"
    ∷ codes "UID:1\nTRIGGER;VALUE=DATE-TIME:-PT15M\n"
    ∷ codes "UID:1\nTRIGGER:-P200001D\n"
    ∷ codes "UID:1\nREPEAT:-1\n"
    ∷ codes "UID:1\nTZOFFSETFROM:0500\n"
    ∷ codes "UID:1\nTZOFFSETTO:+2400\n"
    ∷ []
    ) ≡ Some (not_calendar 35)
    ∷ Some (not_calendar 35)
    ∷ Some (not_calendar 35)
    ∷ Some (not_calendar 35)
    ∷ Some (not_calendar 35)
    ∷ Some (not_calendar 35)
    ∷ Some (not_calendar 35)
    ∷ Some (not_calendar 35)
    ∷ Some (not_calendar 35)
    ∷ Some (not_calendar 35)
    ∷ Some (not_calendar 35)
    ∷ Some (not_calendar 35)
    ∷ Some (not_calendar 35)
    ∷ Some (not_calendar 35)
    ∷ Some (not_calendar 35)
    ∷ Some (not_calendar 35)
    ∷ Some (not_calendar 35)
    ∷ Some (not_calendar 35)
    ∷ Some (not_calendar 35)
    ∷ Some (not_calendar 35)
    ∷ Some (not_calendar 35)
    ∷ Some (not_calendar 35)
    ∷ Some (not_calendar 35)
    ∷ Some (not_calendar 35)
    ∷ Some (not_calendar 35)
    ∷ Some (not_calendar 35)
    ∷ Some (not_calendar 35)
    ∷ Some (not_calendar 35)
    ∷ []
unfolding is_utf8 chars encode date_of time_of date_time_of count_of integer_of length_of offset_of stamps_in_grammar periods_in_grammar trigger_of rule_in_grammar offset_at exists_in instant_of N.out-Node N.roll-Node B.shown-the_row-Node-0 B.hidden-the_row-Node-0 B.shape-the_row-Node-0 H.out H.roll H.shown H.hidden
bad_values = refl

-- what is no fault of a line: a zone that is not there, a second RRULE, a long line of another name, 200,000 days, a negative TRIGGER
other_values : map fault_of_event (
    codes "UID:1\nDTSTART;TZID=X:20250310T090000\n"
    ∷ codes "UID:1\nDTSTART:20250310T090000\nRRULE:FREQ=DAILY\nRRULE:FREQ=WEEKLY\nRDATE:20250310T090000\nRDATE:20250311T090000\n"
    ∷ codes "UID:1\nCOMMENT:x\nCOMMENT:y\nUID:2\n"
    ∷ codes "UID:1\nDTSTART:20250310T090000\nDURATION:P200000D\n"
    ∷ codes "UID:1\nDTSTART;VALUE=TEXT:20250310\nBEGIN:VALARM\nTRIGGER:-P200000D\nEND:VALARM\n"
    ∷ []
    ) ≡ Some (not_resource ZoneMissing)
    ∷ None
    ∷ None
    ∷ None
    ∷ None
    ∷ []
unfolding is_utf8 chars encode date_of time_of date_time_of count_of integer_of length_of offset_of stamps_in_grammar periods_in_grammar trigger_of rule_in_grammar offset_at exists_in instant_of N.out-Node N.roll-Node B.shown-the_row-Node-0 B.hidden-the_row-Node-0 B.shape-the_row-Node-0 H.out H.roll H.shown H.hidden
other_values = refl

-- lines are looked at in every component, the VCALENDAR and unknown ones too, and the first in the text decides
any_component : map fault_in (
    codes "REPEAT:x\n"
    ∷ codes "BEGIN:X-A\nBEGIN:X-B\nDUE:x\nEND:X-B\nEND:X-A\n"
    ∷ codes "BEGIN:VTIMEZONE\nDTEND:x\nEND:VTIMEZONE\nREPEAT:x\n"
    ∷ []
    ) ≡ Some (not_calendar 16)
    ∷ Some (not_calendar 36)
    ∷ Some (not_calendar 32)
    ∷ []
unfolding is_utf8 chars encode date_of time_of date_time_of count_of integer_of length_of offset_of stamps_in_grammar periods_in_grammar trigger_of rule_in_grammar offset_at exists_in instant_of N.out-Node N.roll-Node B.shown-the_row-Node-0 B.hidden-the_row-Node-0 B.shape-the_row-Node-0 H.out H.roll H.shown H.hidden
any_component = refl

-- a second line of a name stands at fault, also behind a component within; one in another component does not
second_lines : map fault_of_event (
    codes "DTSTART:20250310T090000\nUID:1\nDTSTART:20250310T090000\n"
    ∷ codes "DTSTART:20250310T090000\nBEGIN:VALARM\nDTSTART:20250310T090000\nEND:VALARM\nDTSTART:20250310T090000\nUID:1\n"
    ∷ codes "DTSTART:20250310T090000\nDTSTART:x\n"
    ∷ codes "UID:1\nDURATION:PT1H\nBEGIN:VALARM\nTRIGGER:PT0S\nDURATION:PT5M\nREPEAT:2\nEND:VALARM\nBEGIN:VALARM\nTRIGGER:PT1S\nEND:VALARM\n"
    ∷ []
    ) ≡ Some (not_calendar 59)
    ∷ Some (not_calendar 101)
    ∷ Some (not_calendar 53)
    ∷ None
    ∷ []
unfolding is_utf8 chars encode date_of time_of date_time_of count_of integer_of length_of offset_of stamps_in_grammar periods_in_grammar trigger_of rule_in_grammar offset_at exists_in instant_of N.out-Node N.roll-Node B.shown-the_row-Node-0 B.hidden-the_row-Node-0 B.shape-the_row-Node-0 H.out H.roll H.shown H.hidden
second_lines = refl

-- zones that cannot stand, by the place of their BEGIN: without TZID, without a part, with parts that lack a line, with a fine rule, with nine rules
bad_zones : map fault_in (
    codes "BEGIN:VEVENT\nUID:1\nEND:VEVENT\nBEGIN:VTIMEZONE\nBEGIN:STANDARD\nDTSTART:19700101T000000\nTZOFFSETFROM:+0100\nTZOFFSETTO:+0100\nEND:STANDARD\nEND:VTIMEZONE\n"
    ∷ codes "BEGIN:VEVENT\nUID:1\nEND:VEVENT\nBEGIN:VTIMEZONE\nTZID:X\nEND:VTIMEZONE\n"
    ∷ codes "BEGIN:VTIMEZONE\nTZID:X\nBEGIN:STANDARD\nDTSTART:19700101T000000\nTZOFFSETFROM:+0100\nTZOFFSETTO:+0100\nEND:STANDARD\nEND:VTIMEZONE\nBEGIN:VTIMEZONE\nTZID:X\nBEGIN:STANDARD\nDTSTART:19700101T000000\nTZOFFSETTO:+0100\nEND:STANDARD\nBEGIN:DAYLIGHT\nTZOFFSETFROM:+0100\nTZOFFSETTO:+0100\nEND:DAYLIGHT\nEND:VTIMEZONE\nBEGIN:VEVENT\nUID:1\nEND:VEVENT\n"
    ∷ codes "BEGIN:VTIMEZONE\nTZID:X\nBEGIN:X-PART\nDTSTART:19700101T000000\nTZOFFSETFROM:+0100\nTZOFFSETTO:+0100\nEND:X-PART\nEND:VTIMEZONE\nBEGIN:VEVENT\nUID:1\nEND:VEVENT\n"
    ∷ codes "BEGIN:VEVENT\nUID:1\nEND:VEVENT\nBEGIN:VTIMEZONE\nTZID:X\nBEGIN:STANDARD\nDTSTART:19700101T000000\nTZOFFSETFROM:+0100\nTZOFFSETTO:+0100\nEND:STANDARD\nBEGIN:DAYLIGHT\nDTSTART:19700101T000000\nTZOFFSETFROM:+0100\nTZOFFSETTO:+0200\nRRULE:FREQ=MINUTELY;COUNT=2\nEND:DAYLIGHT\nEND:VTIMEZONE\n"
    ∷ codes "BEGIN:VEVENT\nUID:1\nEND:VEVENT\nBEGIN:VTIMEZONE\nTZID:X\nBEGIN:DAYLIGHT\nDTSTART:19700101T000000\nTZOFFSETFROM:+0100\nTZOFFSETTO:+0200\nRRULE:FREQ=SECONDLY\nEND:DAYLIGHT\nEND:VTIMEZONE\n"
    ∷ codes "BEGIN:VEVENT\nUID:1\nEND:VEVENT\nBEGIN:VTIMEZONE\nTZID:X\nBEGIN:DAYLIGHT\nDTSTART:19700101T000000\nTZOFFSETFROM:+0100\nTZOFFSETTO:+0200\nRRULE:FREQ=DAILY\nRRULE:FREQ=DAILY\nRRULE:FREQ=DAILY\nRRULE:FREQ=DAILY\nRRULE:FREQ=DAILY\nRRULE:FREQ=DAILY\nRRULE:FREQ=DAILY\nRRULE:FREQ=DAILY\nRRULE:FREQ=DAILY\nEND:DAYLIGHT\nEND:VTIMEZONE\n"
    ∷ []
    ) ≡ Some (not_calendar 46)
    ∷ Some (not_calendar 46)
    ∷ Some (not_calendar 141)
    ∷ Some (not_calendar 16)
    ∷ Some (not_calendar 46)
    ∷ Some (not_calendar 46)
    ∷ Some (not_calendar 46)
    ∷ []
unfolding is_utf8 chars encode date_of time_of date_time_of count_of integer_of length_of offset_of stamps_in_grammar periods_in_grammar trigger_of rule_in_grammar offset_at exists_in instant_of N.out-Node N.roll-Node B.shown-the_row-Node-0 B.hidden-the_row-Node-0 B.shape-the_row-Node-0 H.out H.roll H.shown H.hidden
bad_zones = refl

-- a part that lacks a line is not looked at further; eight rules may stand, and so may a zone within another component
other_zones : map fault_in (
    codes "BEGIN:VEVENT\nUID:1\nEND:VEVENT\nBEGIN:VTIMEZONE\nTZID:X\nBEGIN:STANDARD\nDTSTART:19700101T000000\nTZOFFSETFROM:+0100\nTZOFFSETTO:+0100\nEND:STANDARD\nBEGIN:DAYLIGHT\nTZOFFSETFROM:+0100\nTZOFFSETTO:+0200\nRRULE:FREQ=MINUTELY\nRRULE:FREQ=MINUTELY\nRRULE:FREQ=MINUTELY\nRRULE:FREQ=MINUTELY\nRRULE:FREQ=MINUTELY\nRRULE:FREQ=MINUTELY\nRRULE:FREQ=MINUTELY\nRRULE:FREQ=MINUTELY\nRRULE:FREQ=MINUTELY\nEND:DAYLIGHT\nEND:VTIMEZONE\n"
    ∷ codes "BEGIN:VEVENT\nUID:1\nEND:VEVENT\nBEGIN:VTIMEZONE\nTZID:X\nBEGIN:DAYLIGHT\nDTSTART:19700101T000000\nTZOFFSETFROM:+0100\nTZOFFSETTO:+0200\nRRULE:FREQ=DAILY\nRRULE:FREQ=DAILY\nRRULE:FREQ=DAILY\nRRULE:FREQ=DAILY\nRRULE:FREQ=DAILY\nRRULE:FREQ=DAILY\nRRULE:FREQ=DAILY\nRRULE:FREQ=DAILY\nEND:DAYLIGHT\nEND:VTIMEZONE\n"
    ∷ codes "BEGIN:VEVENT\nUID:1\nEND:VEVENT\nBEGIN:X-A\nBEGIN:VTIMEZONE\nEND:VTIMEZONE\nEND:X-A\n"
    ∷ []
    ) ≡ None
    ∷ None
    ∷ None
    ∷ []
unfolding is_utf8 chars encode date_of time_of date_time_of count_of integer_of length_of offset_of stamps_in_grammar periods_in_grammar trigger_of rule_in_grammar offset_at exists_in instant_of N.out-Node N.roll-Node B.shown-the_row-Node-0 B.hidden-the_row-Node-0 B.shape-the_row-Node-0 H.out H.roll H.shown H.hidden
other_zones = refl

-- components that cannot stand, by the place of their BEGIN
bad_components : map fault_of_event (
    codes "UID:1\nDTSTART:20250310T090000Z\nRRULE:FREQ=DAILY\nRRULE:FREQ=DAILY\nRRULE:FREQ=DAILY\nRRULE:FREQ=DAILY\nRRULE:FREQ=DAILY\nRRULE:FREQ=DAILY\nRRULE:FREQ=DAILY\nRRULE:FREQ=DAILY\nRRULE:FREQ=DAILY\n"
    ∷ codes "DTSTART:20250310T090000Z\nDTEND:20250310T100000Z\nDURATION:PT1H\n"
    ∷ codes "DTSTART:20250310T090000Z\nDUE:20250310T100000Z\nDURATION:PT1H\n"
    ∷ codes "DTSTART:20250310T090000Z\nDTEND:20250310T100000\n"
    ∷ codes "DTSTART:20250310T090000Z\nDUE;VALUE=DATE:20250311\n"
    ∷ codes "DTSTART;VALUE=DATE:20250310\nDTEND:20250311T000000\n"
    ∷ codes "DTSTART:20250310T090000Z\nDTEND:20250310T085959Z\n"
    ∷ codes "DTSTART;VALUE=DATE:20250310\nDTEND;VALUE=DATE:20250309\n"
    ∷ codes "DTSTART:20250310T090000\nDUE:20250310T085959\n"
    ∷ codes "DTSTART:20250310T090000Z\nRDATE;VALUE=PERIOD:20250311T090000Z/20250311T085959Z\n"
    ∷ codes "FREEBUSY:20250311T090000Z/PT1H,20250311T090000Z/20250311T085959Z\n"
    ∷ codes "DTSTART:20250310T090000Z\nDURATION:-PT1S\n"
    ∷ codes "DURATION:-P1D\n"
    ∷ codes "DTSTART;VALUE=DATE:20250310\nDURATION:PT25H\n"
    ∷ []
    ) ≡ Some (not_calendar 16)
    ∷ Some (not_calendar 16)
    ∷ Some (not_calendar 16)
    ∷ Some (not_calendar 16)
    ∷ Some (not_calendar 16)
    ∷ Some (not_calendar 16)
    ∷ Some (not_calendar 16)
    ∷ Some (not_calendar 16)
    ∷ Some (not_calendar 16)
    ∷ Some (not_calendar 16)
    ∷ Some (not_calendar 16)
    ∷ Some (not_calendar 16)
    ∷ Some (not_calendar 16)
    ∷ Some (not_calendar 16)
    ∷ []
unfolding is_utf8 chars encode date_of time_of date_time_of count_of integer_of length_of offset_of stamps_in_grammar periods_in_grammar trigger_of rule_in_grammar offset_at exists_in instant_of N.out-Node N.roll-Node B.shown-the_row-Node-0 B.hidden-the_row-Node-0 B.shape-the_row-Node-0 H.out H.roll H.shown H.hidden
bad_components = refl

-- what can stand: an end at the start, whole days beside a date, lengths without a start, an end in a zone that is not there
other_components : map fault_of_event (
    codes "UID:1\nDTSTART:20250310T090000Z\nDTEND:20250310T090000Z\n"
    ∷ codes "UID:1\nDTSTART;VALUE=DATE:20250310\nDURATION:PT24H\n"
    ∷ codes "UID:1\nDURATION:PT25H\n"
    ∷ codes "UID:1\nDTSTART:20250310T090000Z\nDURATION:-PT0S\n"
    ∷ codes "UID:1\nDTEND;VALUE=DATE:20250310\n"
    ∷ codes "UID:1\nDTSTART:20250310T090000Z\nDTEND;TZID=X:20250309T000000\n"
    ∷ []
    ) ≡ None
    ∷ None
    ∷ None
    ∷ None
    ∷ None
    ∷ Some (not_resource ZoneMissing)
    ∷ []
unfolding is_utf8 chars encode date_of time_of date_time_of count_of integer_of length_of offset_of stamps_in_grammar periods_in_grammar trigger_of rule_in_grammar offset_at exists_in instant_of N.out-Node N.roll-Node B.shown-the_row-Node-0 B.hidden-the_row-Node-0 B.shape-the_row-Node-0 H.out H.roll H.shown H.hidden
other_components = refl

-- what a calendar does not store, a row of the table each
not_stored : map fault_in (
    codes "METHOD:PUBLISH\nBEGIN:VEVENT\nUID:1\nEND:VEVENT\n"
    ∷ codes "BEGIN:VTIMEZONE\nTZID:X\nBEGIN:STANDARD\nDTSTART:19700101T000000\nTZOFFSETFROM:+0100\nTZOFFSETTO:+0100\nEND:STANDARD\nEND:VTIMEZONE\nBEGIN:X-A\nUID:1\nEND:X-A\n"
    ∷ codes "BEGIN:VEVENT\nUID:1\nEND:VEVENT\nBEGIN:VTODO\nUID:1\nEND:VTODO\n"
    ∷ codes "BEGIN:VEVENT\nUID:1\nEND:VEVENT\nBEGIN:VEVENT\nEND:VEVENT\n"
    ∷ codes "BEGIN:VEVENT\nUID:1\nEND:VEVENT\nBEGIN:VEVENT\nUID:2\nRECURRENCE-ID:20250310T090000Z\nEND:VEVENT\n"
    ∷ codes "BEGIN:VEVENT\nUID:1\nEND:VEVENT\nBEGIN:VEVENT\nUID:1\nEND:VEVENT\n"
    ∷ codes "BEGIN:VEVENT\nUID:1\nRECURRENCE-ID:20250310T090000Z\nEND:VEVENT\nBEGIN:VEVENT\nUID:1\nRECURRENCE-ID:20250310T090000Z\nEND:VEVENT\n"
    ∷ codes "BEGIN:VEVENT\nUID:1\nEND:VEVENT\nBEGIN:VEVENT\nUID:1\nRECURRENCE-ID:20250310T090000Z\nEXDATE;TZID=x:20250310T090000\nEND:VEVENT\nBEGIN:VTIMEZONE\nTZID:X\nBEGIN:STANDARD\nDTSTART:19700101T000000\nTZOFFSETFROM:+0100\nTZOFFSETTO:+0100\nEND:STANDARD\nEND:VTIMEZONE\n"
    ∷ codes "BEGIN:VEVENT\nUID:1\nEXRULE:FREQ=DAILY\nEND:VEVENT\n"
    ∷ codes "BEGIN:VEVENT\nUID:1\nRECURRENCE-ID;RANGE=thisandfuture:20250310T090000Z\nEND:VEVENT\n"
    ∷ codes "BEGIN:VEVENT\nUID:1\nRECURRENCE-ID;RANGE=THISANDPRIOR:20250310T090000Z\nEND:VEVENT\n"
    ∷ []
    ) ≡ Some (not_resource Method)
    ∷ Some (not_resource NoComponent)
    ∷ Some (not_resource MixedKinds)
    ∷ Some (not_resource NoUid)
    ∷ Some (not_resource MixedUids)
    ∷ Some (not_resource TwoMasters)
    ∷ Some (not_resource SameRecurrenceId)
    ∷ Some (not_resource ZoneMissing)
    ∷ Some (not_resource ExRule)
    ∷ None
    ∷ None
    ∷ []
unfolding is_utf8 chars encode date_of time_of date_time_of count_of integer_of length_of offset_of stamps_in_grammar periods_in_grammar trigger_of rule_in_grammar offset_at exists_in instant_of N.out-Node N.roll-Node B.shown-the_row-Node-0 B.hidden-the_row-Node-0 B.shape-the_row-Node-0 H.out H.roll H.shown H.hidden
not_stored = refl

-- two that move later instances from one start are refused like any two of one start: here one is in UTC, and the other has the same digits and no zone
move_one_start : fault_in (codes "BEGIN:VEVENT\nUID:1\nDTSTART:20250303T090000Z\nRRULE:FREQ=WEEKLY;COUNT=3\nEND:VEVENT\nBEGIN:VEVENT\nUID:1\nRECURRENCE-ID;RANGE=THISANDFUTURE:20250310T090000Z\nDTSTART:20250310T100000Z\nEND:VEVENT\nBEGIN:VEVENT\nUID:1\nRECURRENCE-ID;RANGE=THISANDFUTURE:20250310T090000\nDTSTART:20250310T110000Z\nEND:VEVENT\n")
    ≡ Some (not_resource SameRecurrenceId)
unfolding is_utf8 chars encode date_of time_of date_time_of count_of integer_of length_of offset_of stamps_in_grammar periods_in_grammar trigger_of rule_in_grammar offset_at exists_in instant_of N.out-Node N.roll-Node B.shown-the_row-Node-0 B.hidden-the_row-Node-0 B.shape-the_row-Node-0 H.out H.roll H.shown H.hidden
move_one_start = refl

-- ids are compared as instants, digits or days, beside the start of the component that has none, and where the zones that this needs are there
same_instance : map fault_in (
    codes "BEGIN:VTIMEZONE\nTZID:X\nBEGIN:STANDARD\nDTSTART:19700101T000000\nTZOFFSETFROM:+0100\nTZOFFSETTO:+0100\nEND:STANDARD\nEND:VTIMEZONE\nBEGIN:VEVENT\nUID:1\nDTSTART;TZID=X:20250310T100000\nEND:VEVENT\nBEGIN:VEVENT\nUID:1\nRECURRENCE-ID;TZID=X:20250317T100000\nEND:VEVENT\nBEGIN:VEVENT\nUID:1\nRECURRENCE-ID:20250317T090000Z\nEND:VEVENT\n"
    ∷ codes "BEGIN:VTIMEZONE\nTZID:X\nBEGIN:STANDARD\nDTSTART:19700101T000000\nTZOFFSETFROM:+0100\nTZOFFSETTO:+0100\nEND:STANDARD\nEND:VTIMEZONE\nBEGIN:VEVENT\nUID:1\nDTSTART;TZID=X:20250310T100000\nEND:VEVENT\nBEGIN:VEVENT\nUID:1\nRECURRENCE-ID:20250317T100000\nEND:VEVENT\nBEGIN:VEVENT\nUID:1\nRECURRENCE-ID:20250317T090000Z\nEND:VEVENT\n"
    ∷ codes "BEGIN:VEVENT\nUID:1\nDTSTART;VALUE=DATE:20250310\nEND:VEVENT\nBEGIN:VEVENT\nUID:1\nRECURRENCE-ID;VALUE=DATE:20250311\nEND:VEVENT\nBEGIN:VEVENT\nUID:1\nRECURRENCE-ID:20250311T230000Z\nEND:VEVENT\n"
    ∷ codes "BEGIN:VEVENT\nUID:1\nRECURRENCE-ID:20250311T230000Z\nEND:VEVENT\nBEGIN:VEVENT\nUID:1\nDTSTART:20250310T090000\nEND:VEVENT\nBEGIN:VEVENT\nUID:1\nRECURRENCE-ID:20250311T230000\nEND:VEVENT\n"
    ∷ codes "BEGIN:VEVENT\nUID:1\nDTSTART:20250310T090000Z\nEND:VEVENT\nBEGIN:VEVENT\nUID:1\nRECURRENCE-ID;VALUE=DATE:20250311\nEND:VEVENT\nBEGIN:VEVENT\nUID:1\nRECURRENCE-ID:20250311T090000Z\nEND:VEVENT\n"
    ∷ codes "BEGIN:VEVENT\nUID:1\nDTSTART:20250310T090000Z\nEND:VEVENT\nBEGIN:VEVENT\nUID:1\nRECURRENCE-ID;TZID=X:20250311T090000\nEND:VEVENT\nBEGIN:VEVENT\nUID:1\nRECURRENCE-ID;TZID=X:20250311T090000\nEND:VEVENT\n"
    ∷ codes "BEGIN:VEVENT\nUID:1\nDTSTART;TZID=X:20250310T090000\nEND:VEVENT\nBEGIN:VEVENT\nUID:1\nRECURRENCE-ID:20250311T090000\nEND:VEVENT\nBEGIN:VEVENT\nUID:1\nRECURRENCE-ID:20250311T090000\nEND:VEVENT\n"
    ∷ codes "BEGIN:VEVENT\nUID:1\nDTSTART;VALUE=DATE:20250310\nEND:VEVENT\nBEGIN:VEVENT\nUID:1\nRECURRENCE-ID;TZID=X:20250311T090000\nEND:VEVENT\nBEGIN:VEVENT\nUID:1\nRECURRENCE-ID;VALUE=DATE:20250311\nEND:VEVENT\n"
    ∷ []
    ) ≡ Some (not_resource SameRecurrenceId)
    ∷ Some (not_resource SameRecurrenceId)
    ∷ Some (not_resource SameRecurrenceId)
    ∷ Some (not_resource SameRecurrenceId)
    ∷ None
    ∷ Some (not_resource ZoneMissing)
    ∷ Some (not_resource ZoneMissing)
    ∷ Some (not_resource SameRecurrenceId)
    ∷ []
unfolding is_utf8 chars encode date_of time_of date_time_of count_of integer_of length_of offset_of stamps_in_grammar periods_in_grammar trigger_of rule_in_grammar offset_at exists_in instant_of N.out-Node N.roll-Node B.shown-the_row-Node-0 B.hidden-the_row-Node-0 B.shape-the_row-Node-0 H.out H.roll H.shown H.hidden
same_instance = refl

-- of two faults that stand together the earlier in the order of the tables decides, wherever it stands
order : map fault_in (
    codes "BEGIN:VTIMEZONE\nTZID:X\nEND:VTIMEZONE\nBEGIN:VEVENT\nDUE:x\nEND:VEVENT\n"
    ∷ codes "BEGIN:VEVENT\nDTSTART:20250310T090000Z\nDURATION:-PT1S\nEND:VEVENT\nBEGIN:VTIMEZONE\nTZID:X\nEND:VTIMEZONE\n"
    ∷ codes "METHOD:PUBLISH\nBEGIN:VEVENT\nDTSTART:20250310T090000Z\nDURATION:-PT1S\nEND:VEVENT\n"
    ∷ codes "BEGIN:VEVENT\nUID:1\nEND:VEVENT\nBEGIN:VTODO\nEND:VTODO\n"
    ∷ codes "BEGIN:VEVENT\nUID:1\nEXRULE:x\nEND:VEVENT\nBEGIN:VEVENT\nUID:1\nDTSTART;TZID=X:15991231T235959\nEND:VEVENT\n"
    ∷ codes "BEGIN:VEVENT\nUID:1\nDTSTART:15991231T235959\nEXRULE:x\nEND:VEVENT\n"
    ∷ []
    ) ≡ Some (not_calendar 66)
    ∷ Some (not_calendar 80)
    ∷ Some (not_calendar 31)
    ∷ Some (not_resource MixedKinds)
    ∷ Some (not_resource TwoMasters)
    ∷ Some (not_resource ExRule)
    ∷ []
unfolding is_utf8 chars encode date_of time_of date_time_of count_of integer_of length_of offset_of stamps_in_grammar periods_in_grammar trigger_of rule_in_grammar offset_at exists_in instant_of N.out-Node N.roll-Node B.shown-the_row-Node-0 B.hidden-the_row-Node-0 B.shape-the_row-Node-0 H.out H.roll H.shown H.hidden
order = refl

-- dates before 1600 and after 2100, by their written values: one before comes first, also where it stands behind one after
dates_outside : map fault_in (
    codes "BEGIN:VEVENT\nUID:1\nDTSTART:15991231T235959Z\nEND:VEVENT\n"
    ∷ codes "BEGIN:VEVENT\nUID:1\nDTSTART:16000101T000000Z\nDTEND:21001231T235959Z\nEND:VEVENT\n"
    ∷ codes "BEGIN:VEVENT\nUID:1\nDTSTART:21010101T000000Z\nEND:VEVENT\n"
    ∷ codes "BEGIN:VTODO\nUID:1\nDUE;VALUE=DATE:21010101\nEXDATE:20250310,15991231\nEND:VTODO\n"
    ∷ codes "BEGIN:VJOURNAL\nUID:1\nRDATE;VALUE=PERIOD:20250310T090000/20250310T100000,21001231T235959/21010101T000000\nEND:VJOURNAL\n"
    ∷ codes "BEGIN:VFREEBUSY\nUID:1\nFREEBUSY:15991231T235959Z/PT1H\nEND:VFREEBUSY\n"
    ∷ codes "BEGIN:VEVENT\nUID:1\nBEGIN:VALARM\nTRIGGER;VALUE=DATE-TIME:21010101T000000\nEND:VALARM\nDTSTART:21020101T000000\nEND:VEVENT\n"
    ∷ codes "BEGIN:VTIMEZONE\nTZID:X\nBEGIN:STANDARD\nDTSTART:19700101T000000\nTZOFFSETFROM:+0100\nTZOFFSETTO:+0100\nEND:STANDARD\nEND:VTIMEZONE\nBEGIN:VEVENT\nUID:1\nDTSTART;TZID=X:21010101T003000\nEND:VEVENT\n"
    ∷ codes "BEGIN:VEVENT\nUID:1\nDTSTART:20250310T090000\nRRULE:FREQ=DAILY;UNTIL=21500101\nDTSTAMP:15000101T000000Z\nEND:VEVENT\n"
    ∷ codes "BEGIN:VTIMEZONE\nTZID:X\nBEGIN:STANDARD\nDTSTART:15000101T000000\nTZOFFSETFROM:+0100\nTZOFFSETTO:+0100\nEND:STANDARD\nEND:VTIMEZONE\nBEGIN:VEVENT\nUID:1\nBEGIN:X-A\nDTSTART:15000101T000000\nEND:X-A\nEND:VEVENT\n"
    ∷ []
    ) ≡ Some (date_outside Event (Utc (record { 0 = (neg_ℤ (pos 11676096001)) })))
    ∷ None
    ∷ Some (date_outside Event (Utc (record { 0 = (pos 4133980800) })))
    ∷ Some (date_outside Todo (Date (record { 0 = (neg_ℤ (pos 135141)) })))
    ∷ Some (date_outside Journal (Floating (record { day = (pos 47847); second = 0 })))
    ∷ Some (date_outside FreeBusy (Utc (record { 0 = (neg_ℤ (pos 11676096001)) })))
    ∷ Some (date_outside Event (Utc (record { 0 = (pos 4133980800) })))
    ∷ Some (date_outside Event (Zoned (record { day = (pos 47847); second = 1800 }) 0))
    ∷ None
    ∷ None
    ∷ []
unfolding is_utf8 chars encode date_of time_of date_time_of count_of integer_of length_of offset_of stamps_in_grammar periods_in_grammar trigger_of rule_in_grammar offset_at exists_in instant_of N.out-Node N.roll-Node B.shown-the_row-Node-0 B.hidden-the_row-Node-0 B.shape-the_row-Node-0 H.out H.roll H.shown H.hidden
dates_outside = refl

-- the moment of a TRIGGER is a date of a VALARM, and of no other component in an event
other_triggers : map fault_of_event (
    codes "UID:1\nBEGIN:X-A\nTRIGGER;VALUE=DATE-TIME:21010101T000000Z\nEND:X-A\n"
    ∷ codes "UID:1\nBEGIN:VALARM\nTRIGGER;VALUE=DATE-TIME:21010101T000000Z\nEND:VALARM\n"
    ∷ []
    ) ≡ None
    ∷ Some (date_outside Event (Utc (record { 0 = pos 4133980800 })))
    ∷ []
unfolding is_utf8 chars encode date_of time_of date_time_of count_of integer_of length_of offset_of stamps_in_grammar periods_in_grammar trigger_of rule_in_grammar offset_at exists_in instant_of N.out-Node N.roll-Node B.shown-the_row-Node-0 B.hidden-the_row-Node-0 B.shape-the_row-Node-0 H.out H.roll H.shown H.hidden
other_triggers = refl

-- four components may be open and not five; and one octet is no calendar
depth : map fault_of (
    codes "x"
    ∷ codes "BEGIN:VCALENDAR\nBEGIN:VEVENT\nUID:1\nBEGIN:VALARM\nBEGIN:X-A\nEND:X-A\nEND:VALARM\nEND:VEVENT\nEND:VCALENDAR\n"
    ∷ codes "BEGIN:VCALENDAR\nBEGIN:VEVENT\nUID:1\nBEGIN:VALARM\nBEGIN:X-A\nBEGIN:X-B\nEND:X-B\nEND:X-A\nEND:VALARM\nEND:VEVENT\nEND:VCALENDAR\n"
    ∷ []
    ) ≡ Some (not_calendar 0)
    ∷ None
    ∷ Some (not_calendar 58)
    ∷ []
unfolding is_utf8 chars encode date_of time_of date_time_of count_of integer_of length_of offset_of stamps_in_grammar periods_in_grammar trigger_of rule_in_grammar offset_at exists_in instant_of N.out-Node N.roll-Node B.shown-the_row-Node-0 B.hidden-the_row-Node-0 B.shape-the_row-Node-0 H.out H.roll H.shown H.hidden
depth = refl

-- what can just stand: far offsets in one zone, eight rules, an override alone, no start, and 24 times of day beside BYSETPOS, but not 48
edges : map fault_in (
    codes "BEGIN:VTIMEZONE\nTZID:X\nBEGIN:STANDARD\nDTSTART:19700101T000000\nTZOFFSETFROM:+235959\nTZOFFSETTO:-235959\nEND:STANDARD\nEND:VTIMEZONE\nBEGIN:VEVENT\nUID:1\nEND:VEVENT\n"
    ∷ codes "BEGIN:VEVENT\nUID:1\nDTSTART:20250101T000000Z\nRRULE:FREQ=DAILY\nRRULE:FREQ=DAILY\nRRULE:FREQ=DAILY\nRRULE:FREQ=DAILY\nRRULE:FREQ=DAILY\nRRULE:FREQ=DAILY\nRRULE:FREQ=DAILY\nRRULE:FREQ=DAILY\nEND:VEVENT\n"
    ∷ codes "BEGIN:VEVENT\nUID:1\nRECURRENCE-ID:20250310T090000Z\nDTSTART:20250311T090000Z\nEND:VEVENT\n"
    ∷ codes "BEGIN:VEVENT\nUID:1\nEND:VEVENT\n"
    ∷ codes "BEGIN:VEVENT\nUID:1\nDTSTART:20250101T000000Z\nRRULE:FREQ=DAILY;COUNT=2;BYSETPOS=1;BYMINUTE=0;BYHOUR=0,1,2,3,4,5,6,7,8,9,10,11,12,13,14,15,16,17,18,19,20,21,22,23\nEND:VEVENT\n"
    ∷ codes "BEGIN:VEVENT\nUID:1\nDTSTART:20250101T000000Z\nRRULE:FREQ=DAILY;COUNT=2;BYSETPOS=1;BYMINUTE=0,30;BYHOUR=0,1,2,3,4,5,6,7,8,9,10,11,12,13,14,15,16,17,18,19,20,21,22,23\nEND:VEVENT\n"
    ∷ []
    ) ≡ None
    ∷ None
    ∷ None
    ∷ None
    ∷ None
    ∷ Some (not_calendar 60)
    ∷ []
unfolding is_utf8 chars encode date_of time_of date_time_of count_of integer_of length_of offset_of stamps_in_grammar periods_in_grammar trigger_of rule_in_grammar offset_at exists_in instant_of N.out-Node N.roll-Node B.shown-the_row-Node-0 B.hidden-the_row-Node-0 B.shape-the_row-Node-0 H.out H.roll H.shown H.hidden
edges = refl
