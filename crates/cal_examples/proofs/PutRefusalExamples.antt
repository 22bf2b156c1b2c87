-- What a PUT must meet: UIDs, what the octets are, room, and the order of the conditions.
use Rattle.std.specs.Prelude.{◌≡◌, refl, ℕ, true, false, List, [], ◌∷◌, Some, codes, pos, Option, Err, neg_ℤ}
use Rattle.std.specs.Str.{is_utf8, chars}
use lib.Utf8.{encode}
use Rattle.std.specs.Fmt.{digits}
use Rattle.percent_encoding.specs.Percent.{percent_encode_byte, percent_decode}
use Rattle.cal_base.specs.declared.line.Node as N
use Rattle.cal_base.specs.declared.line.Node.TheBlock as B
use denote.Hole.Carrier as H
use Rattle.cal_base.specs.Xml.CanonicalXml.{xml_text, attribute_text}
use Rattle.cal_moment.specs.Calendar.{year_of, month_of, day_of_month}
use Rattle.cal_model.specs.declared.privilege.Who.TheVariants as to
use Rattle.cal_model.specs.declared.request.Content.TheVariants as content
use Rattle.cal_model.specs.declared.request.Method.TheVariants as method
use Rattle.cal_model.specs.Replies.Hrefs.{segment}
use Rattle.cal_model.specs.Words.Lists.{counted_from}
use Rattle.cal_model.specs.Access.Privileges.{privileges_held}
use Rattle.cal_model.specs.Replies.Statuses.{reason}
use Rattle.cal_model.specs.Values.StampTexts.{stamps_in_grammar, periods_in_grammar, trigger_of}
use Rattle.cal_model.specs.Values.RuleTexts.{rule_in_grammar}
use Rattle.cal_model.specs.Values.ValueTexts.{date_of, time_of, date_time_of, count_of, integer_of, length_of, offset_of}
use Rattle.cal_model.specs.Replies.XmlText.{document}
use Rattle.cal_model.specs.TimeZones.Zones.{offset_at, exists_in, instant_of}
use Rattle.cal_model.specs.Paths.TargetPaths.{target_path}
use Rattle.cal_model.specs.Properties.PropertyTable.{properties, answer}
use Rattle.cal_model.specs.Refusals.Preconditions.{put_table, Reading, put_table_of}
use Rattle.cal_model.specs.Refusals.SharedRefusals.{shared_rows}
use Rattle.cal_model.specs.Serving.Outcomes.{accepted, unchanged, outcome}
use Rattle.cal_model.specs.Serving.ReadingReplies.{reading_reply}
use Rattle.cal_model.specs.Sight.Scenes.{scene_at}
use Rattle.cal_model.specs.State.Changes.{effect, change_of}
use Rattle.cal_model.specs.State.ServerState.{ServerState}
use Rattle.cal_examples.proofs.ServingSamples.{three, alice_has, asked, bare, refused_with, own_object, one_octets, two_octets}
use Rattle.cal_moment.specs.declared.stamp.Stamp.TheVariants.{Utc}
use Rattle.cal_model.specs.declared.object.Kind.TheVariants.{Event}
use Rattle.cal_model.specs.declared.object.NotResource.TheVariants.{NoUid}
use Rattle.cal_model.specs.declared.reply.Refusal.{Refusal}
use Rattle.cal_model.specs.declared.request.Event as event
use Rattle.cal_model.specs.Bodies.Refusals.{caldav_refusal}
use Rattle.cal_model.specs.Objects.ObjectReading.{not_calendar, not_resource, date_outside, first_there}

abbrev with_one : ServerState
with_one = alice_has 373 [] ((codes "one.ics", one_octets) ∷ [])

abbrev with_two : ServerState
with_two = alice_has 764 [] ((codes "one.ics", one_octets) ∷ (codes "two.ics", two_octets) ∷ [])

abbrev put_of : List ℕ → ℕ → List ℕ → event.Event
put_of name size octets = asked 0 method.Put (own_object name) size (content.Put true octets)

-- a second object with the UID of the first
same_uid : outcome three with_one (put_of (codes "two.ics") 117 one_octets) ≡ unchanged (refused_with (codes "<C:no-uid-conflict><D:href>/calendars/alice/calendar/one.ics</D:href></C:no-uid-conflict>"))
unfolding outcome privileges_held reading_reply shared_rows scene_at change_of effect properties answer put_table target_path document segment reason xml_text attribute_text percent_encode_byte percent_decode digits is_utf8 chars encode counted_from date_of time_of date_time_of count_of integer_of length_of offset_of stamps_in_grammar periods_in_grammar trigger_of rule_in_grammar year_of month_of day_of_month offset_at exists_in instant_of N.out-Node N.roll-Node B.shown-the_row-Node-0 B.hidden-the_row-Node-0 B.shape-the_row-Node-0 H.out H.roll H.shown H.hidden
same_uid = refl

-- another UID in the place of the first
other_uid : outcome three with_one (put_of (codes "one.ics") 135 two_octets) ≡ unchanged (refused_with (codes "<C:no-uid-conflict><D:href>/calendars/alice/calendar/one.ics</D:href></C:no-uid-conflict>"))
unfolding outcome privileges_held reading_reply shared_rows scene_at change_of effect properties answer put_table target_path document segment reason xml_text attribute_text percent_encode_byte percent_decode digits is_utf8 chars encode counted_from date_of time_of date_time_of count_of integer_of length_of offset_of stamps_in_grammar periods_in_grammar trigger_of rule_in_grammar year_of month_of day_of_month offset_at exists_in instant_of N.out-Node N.roll-Node B.shown-the_row-Node-0 B.hidden-the_row-Node-0 B.shape-the_row-Node-0 H.out H.roll H.shown H.hidden
other_uid = refl

-- where both hold the other object is named
both_uids : outcome three with_two (put_of (codes "one.ics") 135 two_octets) ≡ unchanged (refused_with (codes "<C:no-uid-conflict><D:href>/calendars/alice/calendar/two.ics</D:href></C:no-uid-conflict>"))
unfolding outcome privileges_held reading_reply shared_rows scene_at change_of effect properties answer put_table target_path document segment reason xml_text attribute_text percent_encode_byte percent_decode digits is_utf8 chars encode counted_from date_of time_of date_time_of count_of integer_of length_of offset_of stamps_in_grammar periods_in_grammar trigger_of rule_in_grammar year_of month_of day_of_month offset_at exists_in instant_of N.out-Node N.roll-Node B.shown-the_row-Node-0 B.hidden-the_row-Node-0 B.shape-the_row-Node-0 H.out H.roll H.shown H.hidden
both_uids = refl

-- whoever holds bind and not read is not told which
abbrev bob_binds : ServerState
bob_binds = alice_has 839 (record { who = to.Principal 1; held = record { 0 = 20 } } ∷ []) ((codes "one.ics", one_octets) ∷ [])

hidden_uid : outcome three bob_binds (asked 1 method.Put (own_object (codes "three.ics")) 117 (content.Put true one_octets)) ≡ unchanged (refused_with (codes "<C:no-uid-conflict/>"))
unfolding outcome privileges_held reading_reply shared_rows scene_at change_of effect properties answer put_table target_path document segment reason xml_text attribute_text percent_encode_byte percent_decode digits is_utf8 chars encode counted_from date_of time_of date_time_of count_of integer_of length_of offset_of stamps_in_grammar periods_in_grammar trigger_of rule_in_grammar year_of month_of day_of_month offset_at exists_in instant_of N.out-Node N.roll-Node B.shown-the_row-Node-0 B.hidden-the_row-Node-0 B.shape-the_row-Node-0 H.out H.roll H.shown H.hidden
hidden_uid = refl

-- what the octets are
no_calendar : outcome three with_one (put_of (codes "x.ics") 1 (codes "x")) ≡ unchanged (refused_with (codes "<C:valid-calendar-data/>"))
unfolding outcome privileges_held reading_reply shared_rows scene_at change_of effect properties answer put_table target_path document segment reason xml_text attribute_text percent_encode_byte percent_decode digits is_utf8 chars encode counted_from date_of time_of date_time_of count_of integer_of length_of offset_of stamps_in_grammar periods_in_grammar trigger_of rule_in_grammar year_of month_of day_of_month offset_at exists_in instant_of N.out-Node N.roll-Node B.shown-the_row-Node-0 B.hidden-the_row-Node-0 B.shape-the_row-Node-0 H.out H.roll H.shown H.hidden
no_calendar = refl

no_object : outcome three with_one (put_of (codes "x.ics") 81 (codes "BEGIN:VCALENDAR\r\nMETHOD:PUBLISH\r\nBEGIN:VEVENT\r\nUID:x\r\nEND:VEVENT\r\nEND:VCALENDAR\r\n")) ≡ unchanged (refused_with (codes "<C:valid-calendar-object-resource/>"))
unfolding outcome privileges_held reading_reply shared_rows scene_at change_of effect properties answer put_table target_path document segment reason xml_text attribute_text percent_encode_byte percent_decode digits is_utf8 chars encode counted_from date_of time_of date_time_of count_of integer_of length_of offset_of stamps_in_grammar periods_in_grammar trigger_of rule_in_grammar year_of month_of day_of_month offset_at exists_in instant_of N.out-Node N.roll-Node B.shown-the_row-Node-0 B.hidden-the_row-Node-0 B.shape-the_row-Node-0 H.out H.roll H.shown H.hidden
no_object = refl

early : outcome three with_one (put_of (codes "x.ics") 91 (codes "BEGIN:VCALENDAR\r\nBEGIN:VEVENT\r\nUID:n\r\nDTSTART:15991231T235959Z\r\nEND:VEVENT\r\nEND:VCALENDAR\r\n")) ≡ unchanged (refused_with (codes "<C:min-date-time/>"))
unfolding outcome privileges_held reading_reply shared_rows scene_at change_of effect properties answer put_table target_path document segment reason xml_text attribute_text percent_encode_byte percent_decode digits is_utf8 chars encode counted_from date_of time_of date_time_of count_of integer_of length_of offset_of stamps_in_grammar periods_in_grammar trigger_of rule_in_grammar year_of month_of day_of_month offset_at exists_in instant_of N.out-Node N.roll-Node B.shown-the_row-Node-0 B.hidden-the_row-Node-0 B.shape-the_row-Node-0 H.out H.roll H.shown H.hidden
early = refl

late : outcome three with_one (put_of (codes "x.ics") 91 (codes "BEGIN:VCALENDAR\r\nBEGIN:VEVENT\r\nUID:n\r\nDTSTART:21010101T000000Z\r\nEND:VEVENT\r\nEND:VCALENDAR\r\n")) ≡ unchanged (refused_with (codes "<C:max-date-time/>"))
unfolding outcome privileges_held reading_reply shared_rows scene_at change_of effect properties answer put_table target_path document segment reason xml_text attribute_text percent_encode_byte percent_decode digits is_utf8 chars encode counted_from date_of time_of date_time_of count_of integer_of length_of offset_of stamps_in_grammar periods_in_grammar trigger_of rule_in_grammar year_of month_of day_of_month offset_at exists_in instant_of N.out-Node N.roll-Node B.shown-the_row-Node-0 B.hidden-the_row-Node-0 B.shape-the_row-Node-0 H.out H.roll H.shown H.hidden
late = refl

minutely : outcome three with_one (put_of (codes "x.ics") 120 (codes "BEGIN:VCALENDAR\r\nBEGIN:VEVENT\r\nUID:m\r\nDTSTART:20250310T090000Z\r\nRRULE:FREQ=MINUTELY;COUNT=2\r\nEND:VEVENT\r\nEND:VCALENDAR\r\n")) ≡ unchanged (refused_with (codes "<C:max-instances/>"))
unfolding outcome privileges_held reading_reply shared_rows scene_at change_of effect properties answer put_table target_path document segment reason xml_text attribute_text percent_encode_byte percent_decode digits is_utf8 chars encode counted_from date_of time_of date_time_of count_of integer_of length_of offset_of stamps_in_grammar periods_in_grammar trigger_of rule_in_grammar year_of month_of day_of_month offset_at exists_in instant_of N.out-Node N.roll-Node B.shown-the_row-Node-0 B.hidden-the_row-Node-0 B.shape-the_row-Node-0 H.out H.roll H.shown H.hidden
minutely = refl

-- the media type comes before what the octets are
other_media : outcome three with_one (asked 0 method.Put (own_object (codes "x.ics")) 1 (content.Put false (codes "x"))) ≡ unchanged (refused_with (codes "<C:supported-calendar-data/>"))
unfolding outcome privileges_held reading_reply shared_rows scene_at change_of effect properties answer put_table target_path document segment reason xml_text attribute_text percent_encode_byte percent_decode digits is_utf8 chars encode counted_from date_of time_of date_time_of count_of integer_of length_of offset_of stamps_in_grammar periods_in_grammar trigger_of rule_in_grammar year_of month_of day_of_month offset_at exists_in instant_of N.out-Node N.roll-Node B.shown-the_row-Node-0 B.hidden-the_row-Node-0 B.shape-the_row-Node-0 H.out H.roll H.shown H.hidden
other_media = refl

-- room: a home has 33,554,432 octets, and this PUT costs 373
abbrev nearly_full : ℕ → ServerState
nearly_full cost = alice_has cost [] []

just_enough : outcome three (nearly_full 33_554_059) (put_of (codes "one.ics") 117 one_octets) ≡ accepted 201 (alice_has 33_554_432 [] ((codes "one.ics", one_octets) ∷ []))
unfolding outcome privileges_held reading_reply shared_rows scene_at change_of effect properties answer put_table target_path document segment reason xml_text attribute_text percent_encode_byte percent_decode digits is_utf8 chars encode counted_from date_of time_of date_time_of count_of integer_of length_of offset_of stamps_in_grammar periods_in_grammar trigger_of rule_in_grammar year_of month_of day_of_month offset_at exists_in instant_of N.out-Node N.roll-Node B.shown-the_row-Node-0 B.hidden-the_row-Node-0 B.shape-the_row-Node-0 H.out H.roll H.shown H.hidden
just_enough = refl

too_much : outcome three (nearly_full 33_554_060) (put_of (codes "one.ics") 117 one_octets) ≡ unchanged (bare 507)
unfolding outcome privileges_held reading_reply shared_rows scene_at change_of effect properties answer put_table target_path document segment reason xml_text attribute_text percent_encode_byte percent_decode digits is_utf8 chars encode counted_from date_of time_of date_time_of count_of integer_of length_of offset_of stamps_in_grammar periods_in_grammar trigger_of rule_in_grammar year_of month_of day_of_month offset_at exists_in instant_of N.out-Node N.roll-Node B.shown-the_row-Node-0 B.hidden-the_row-Node-0 B.shape-the_row-Node-0 H.out H.roll H.shown H.hidden
too_much = refl

-- what the octets are comes before room
refused_first : outcome three (nearly_full 33_554_432) (put_of (codes "one.ics") 1 (codes "x")) ≡ unchanged (refused_with (codes "<C:valid-calendar-data/>"))
unfolding outcome privileges_held reading_reply shared_rows scene_at change_of effect properties answer put_table target_path document segment reason xml_text attribute_text percent_encode_byte percent_decode digits is_utf8 chars encode counted_from date_of time_of date_time_of count_of integer_of length_of offset_of stamps_in_grammar periods_in_grammar trigger_of rule_in_grammar year_of month_of day_of_month offset_at exists_in instant_of N.out-Node N.roll-Node B.shown-the_row-Node-0 B.hidden-the_row-Node-0 B.shape-the_row-Node-0 H.out H.roll H.shown H.hidden
refused_first = refl

-- a deletion costs nothing
deletion : outcome three (alice_has 33_554_432 [] ((codes "one.ics", one_octets) ∷ [])) (asked 0 method.Delete (own_object (codes "one.ics")) 0 content.None) ≡ accepted 204 (alice_has 33_554_432 [] [])
unfolding outcome privileges_held reading_reply shared_rows scene_at change_of effect properties answer put_table target_path document segment reason xml_text attribute_text percent_encode_byte percent_decode digits is_utf8 chars encode counted_from date_of time_of date_time_of count_of integer_of length_of offset_of stamps_in_grammar periods_in_grammar trigger_of rule_in_grammar year_of month_of day_of_month offset_at exists_in instant_of N.out-Node N.roll-Node B.shown-the_row-Node-0 B.hidden-the_row-Node-0 B.shape-the_row-Node-0 H.out H.roll H.shown H.hidden
deletion = refl

-- the order of the table, by what octets were read as: a second before the dates that are served, and one behind them
abbrev first_of : List ℕ → Option Refusal
first_of name = Some (caldav_refusal name)

abbrev before_dates : Reading
before_dates = Err (date_outside Event (Utc (record { 0 = neg_ℤ (pos 11_676_096_001) })))

abbrev behind_dates : Reading
behind_dates = Err (date_outside Event (Utc (record { 0 = pos 4_133_980_800 })))

-- the media type comes before the size, and the size before what was read; 262,144 octets are allowed
sizes : (first_there (put_table_of false 262_145 15 before_dates) ≡ first_of (codes "supported-calendar-data"))
    × (first_there (put_table_of true 262_145 15 (Err (not_calendar 0))) ≡ first_of (codes "max-resource-size"))
    × (first_there (put_table_of true 262_144 15 (Err (not_calendar 0))) ≡ first_of (codes "valid-calendar-data"))
sizes = (refl, refl, refl)

-- an object of no kind that the calendar takes is refused for that, before its dates
kinds : (first_there (put_table_of true 0 0 (Err (not_resource NoUid))) ≡ first_of (codes "valid-calendar-object-resource"))
    × (first_there (put_table_of true 0 2 before_dates) ≡ first_of (codes "supported-calendar-component"))
    × (first_there (put_table_of true 0 1 before_dates) ≡ first_of (codes "min-date-time"))
    × (first_there (put_table_of true 0 1 behind_dates) ≡ first_of (codes "max-date-time"))
kinds = (refl, refl, refl, refl)
