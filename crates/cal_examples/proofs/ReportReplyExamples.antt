-- Replies to reports: what a query finds and misses, ranges at the ends of the dates, the hrefs of a multiget, and whose zone is taken.
use Rattle.std.specs.Prelude.{◌≡◌, refl, ℕ, List, [], ◌∷◌, ◌++◌, Some, None, codes, pos, neg_ℤ, length}
use Rattle.std.specs.Str.{is_utf8, chars}
use lib.Utf8.{encode}
use Rattle.std.specs.Fmt.{digits}
use Rattle.hex.specs.Hex.{encode_with}
use Rattle.sha2.specs.Sha256.{first_words, schedule, rounds, compress, hash_after, digest_bytes, sha256}
use Rattle.percent_encoding.specs.Percent.{percent_encode_byte, percent_decode}
use Rattle.cal_base.specs.declared.line.Node as N
use Rattle.cal_base.specs.declared.line.Node.TheBlock as B
use denote.Hole.Carrier as H
use Rattle.cal_base.specs.Xml.CanonicalXml.{xml_text, attribute_text}
use Rattle.cal_moment.specs.Calendar.{year_of, month_of, day_of_month}
use Rattle.cal_model.specs.declared.property.Props.TheVariants as props
use Rattle.cal_model.specs.declared.reply.Reply.{Reply}
use Rattle.cal_model.specs.declared.reply.Media.TheVariants as media
use Rattle.cal_model.specs.declared.report.ReportRequest.TheVariants as report
use Rattle.cal_model.specs.declared.request.Content.TheVariants as content
use Rattle.cal_model.specs.declared.request.Method.TheVariants as method
use Rattle.cal_model.specs.Replies.Etags.{etag_of}
use Rattle.cal_model.specs.Replies.Hrefs.{segment}
use Rattle.cal_model.specs.Words.Lists.{counted_from}
use Rattle.cal_model.specs.Access.Privileges.{privileges_held}
use Rattle.cal_model.specs.Replies.Statuses.{reason}
use Rattle.cal_model.specs.Values.StampTexts.{stamps_in_grammar, periods_in_grammar, trigger_of}
use Rattle.cal_model.specs.Values.RuleTexts.{rule_in_grammar}
use Rattle.cal_model.specs.Values.ValueTexts.{date_of, time_of, date_time_of, count_of, integer_of, length_of, offset_of}
use Rattle.cal_model.specs.Replies.XmlText.{document}
use Rattle.cal_model.specs.TimeZones.Zones.{offset_at, exists_in, instant_of}
use Rattle.cal_model.specs.Paths.TargetPaths.{target_path}
use Rattle.cal_model.specs.Properties.PropertyTable.{properties, answer, in_dav}
use Rattle.cal_model.specs.Refusals.Preconditions.{put_table}
use Rattle.cal_model.specs.Refusals.SharedRefusals.{shared_rows}
use Rattle.cal_model.specs.Serving.EventReplies.{reply_to}
use Rattle.cal_model.specs.Serving.Outcomes.{outcome}
use Rattle.cal_model.specs.Serving.ReadingReplies.{reading_reply, too_long}
use Rattle.cal_model.specs.Sight.Scenes.{scene_at}
use Rattle.cal_model.specs.State.Changes.{effect, change_of}
use Rattle.cal_model.specs.State.ServerState.{ServerState, calendar_timezone}
use Rattle.cal_examples.proofs.ServingSamples.{three, alice_has, asked, bare, refused_with, found_with, own, one_octets, busy_over, march, query_over}
use Rattle.cal_model.specs.declared.report.ReportRequest.{ReportRequest}
use Rattle.cal_model.specs.declared.request.Content.{Content}
use Rattle.cal_model.specs.declared.selection.Recur.TheVariants.{Whole}
use Rattle.cal_model.specs.Load.LoadRequests.{event_filter}
use Rattle.cal_model.specs.Serving.ReportReplies.{zone_of_report}
use Rattle.cal_model.specs.Sight.Views.{Contents}
use Rattle.cal_model.specs.Words.Cuts.{cut_at}
use Rattle.cal_model.specs.Words.TextLines.{lines_text}
use Rattle.cal_model.proofs.Filters.FilterLemmas.{comp_filter_holds_roll}
use Rattle.cal_examples.proofs.FilterRolls.{ranges_of_filter_roll}

abbrev with_one : ServerState
with_one = alice_has 373 [] ((codes "one.ics", one_octets) ∷ [])

-- a query finds the event of the hour from 09:00, and misses it in the hours behind and before it
hit : reply_to three with_one (asked 0 method.Report own 316 (query_over (march 0) (march 3600))) ≡ found_with (codes "<D:response><D:href>/calendars/alice/calendar/one.ics</D:href><D:propstat><D:prop><D:getetag>\"bc70c6ac63dee6148893d0646c9678768339b568fabb878651760f85551d629a\"</D:getetag><C:calendar-data>BEGIN:VCALENDAR&#13;\nBEGIN:VEVENT&#13;\nUID:one&#13;\nDTSTART:20250310T090000Z&#13;\nDTEND:20250310T100000Z&#13;\nEND:VEVENT&#13;\nEND:VCALENDAR&#13;\n</C:calendar-data></D:prop><D:status>HTTP/1.1 200 OK</D:status></D:propstat></D:response>")
unfolding outcome privileges_held reading_reply shared_rows scene_at change_of effect properties answer put_table target_path document segment reason xml_text attribute_text percent_encode_byte percent_decode digits is_utf8 chars encode counted_from date_of time_of date_time_of count_of integer_of length_of offset_of stamps_in_grammar periods_in_grammar trigger_of rule_in_grammar year_of month_of day_of_month offset_at exists_in instant_of N.out-Node N.roll-Node B.shown-the_row-Node-0 B.hidden-the_row-Node-0 B.shape-the_row-Node-0 H.out H.roll H.shown H.hidden etag_of encode_with first_words schedule rounds compress hash_after digest_bytes sha256
hit = simp (comp_filter_holds_roll, ranges_of_filter_roll) refl

missed_behind : reply_to three with_one (asked 0 method.Report own 316 (query_over (march 3600) (march 7200))) ≡ record (found_with []) { body = codes "<?xml version=\"1.0\" encoding=\"utf-8\"?>\n<D:multistatus xmlns:D=\"DAV:\" xmlns:C=\"urn:ietf:params:xml:ns:caldav\"/>" }
unfolding outcome privileges_held reading_reply shared_rows scene_at change_of effect properties answer put_table target_path document segment reason xml_text attribute_text percent_encode_byte percent_decode digits is_utf8 chars encode counted_from date_of time_of date_time_of count_of integer_of length_of offset_of stamps_in_grammar periods_in_grammar trigger_of rule_in_grammar year_of month_of day_of_month offset_at exists_in instant_of N.out-Node N.roll-Node B.shown-the_row-Node-0 B.hidden-the_row-Node-0 B.shape-the_row-Node-0 H.out H.roll H.shown H.hidden
missed_behind = simp (comp_filter_holds_roll, ranges_of_filter_roll) refl

missed_before : reply_to three with_one (asked 0 method.Report own 316 (query_over (pos 1_741_593_600) (march 0))) ≡ record (found_with []) { body = codes "<?xml version=\"1.0\" encoding=\"utf-8\"?>\n<D:multistatus xmlns:D=\"DAV:\" xmlns:C=\"urn:ietf:params:xml:ns:caldav\"/>" }
unfolding outcome privileges_held reading_reply shared_rows scene_at change_of effect properties answer put_table target_path document segment reason xml_text attribute_text percent_encode_byte percent_decode digits is_utf8 chars encode counted_from date_of time_of date_time_of count_of integer_of length_of offset_of stamps_in_grammar periods_in_grammar trigger_of rule_in_grammar year_of month_of day_of_month offset_at exists_in instant_of N.out-Node N.roll-Node B.shown-the_row-Node-0 B.hidden-the_row-Node-0 B.shape-the_row-Node-0 H.out H.roll H.shown H.hidden
missed_before = simp (comp_filter_holds_roll, ranges_of_filter_roll) refl

-- a range that leaves the dates that are served, also where it leaves them at both ends
too_early : reply_to three with_one (asked 0 method.Report own 142 (busy_over (neg_ℤ (pos 11_676_096_001)) (pos 4_133_980_800))) ≡ refused_with (codes "<C:min-date-time/>")
unfolding outcome privileges_held reading_reply shared_rows scene_at change_of effect properties answer put_table target_path document segment reason xml_text attribute_text percent_encode_byte percent_decode digits is_utf8 chars encode counted_from date_of time_of date_time_of count_of integer_of length_of offset_of stamps_in_grammar periods_in_grammar trigger_of rule_in_grammar year_of month_of day_of_month offset_at exists_in instant_of N.out-Node N.roll-Node B.shown-the_row-Node-0 B.hidden-the_row-Node-0 B.shape-the_row-Node-0 H.out H.roll H.shown H.hidden
too_early = refl

too_late : reply_to three with_one (asked 0 method.Report own 142 (busy_over (march 0) (pos 4_133_980_800))) ≡ refused_with (codes "<C:max-date-time/>")
unfolding outcome privileges_held reading_reply shared_rows scene_at change_of effect properties answer put_table target_path document segment reason xml_text attribute_text percent_encode_byte percent_decode digits is_utf8 chars encode counted_from date_of time_of date_time_of count_of integer_of length_of offset_of stamps_in_grammar periods_in_grammar trigger_of rule_in_grammar year_of month_of day_of_month offset_at exists_in instant_of N.out-Node N.roll-Node B.shown-the_row-Node-0 B.hidden-the_row-Node-0 B.shape-the_row-Node-0 H.out H.roll H.shown H.hidden
too_late = refl

-- the last seconds that are served
last_seconds : reply_to three with_one (asked 0 method.Report own 142 (busy_over (pos 4_133_980_790) (pos 4_133_980_799))) ≡ record (bare 200) { media = media.Calendar; body = codes "BEGIN:VCALENDAR\r\nVERSION:2.0\r\nPRODID:-//caldav_server//EN\r\nBEGIN:VFREEBUSY\r\nUID:free-busy\r\nDTSTAMP:20250310T094640Z\r\nDTSTART:21001231T235950Z\r\nDTEND:21001231T235959Z\r\nEND:VFREEBUSY\r\nEND:VCALENDAR\r\n" }
unfolding outcome privileges_held reading_reply shared_rows scene_at change_of effect properties answer put_table target_path document segment reason xml_text attribute_text percent_encode_byte percent_decode digits is_utf8 chars encode counted_from date_of time_of date_time_of count_of integer_of length_of offset_of stamps_in_grammar periods_in_grammar trigger_of rule_in_grammar year_of month_of day_of_month offset_at exists_in instant_of N.out-Node N.roll-Node B.shown-the_row-Node-0 B.hidden-the_row-Node-0 B.shape-the_row-Node-0 H.out H.roll H.shown H.hidden
last_seconds = refl

-- a multiget answers its hrefs in their order, those that repeat too; one that names no object of this calendar stands as it was sent
abbrev owners_of : List (List ℕ) → Content
owners_of hrefs = content.Report (report.Multiget (props.Some (in_dav (codes "owner") ∷ [])) (record { comp = None; recur = Whole; busy = None }) hrefs)

spelled : reply_to three with_one (asked 0 method.Report own 300 (owners_of (codes "/calendars/alice/calendar/%6Fne.ics" ∷ codes "one.ics" ∷ codes "http://h/calendars/alice/calendar/one.ics?x" ∷ []))) ≡ found_with (codes "<D:response><D:href>/calendars/alice/calendar/one.ics</D:href><D:propstat><D:prop><D:owner><D:href>/principals/alice/</D:href></D:owner></D:prop><D:status>HTTP/1.1 200 OK</D:status></D:propstat></D:response><D:response><D:href>one.ics</D:href><D:status>HTTP/1.1 404 Not Found</D:status></D:response><D:response><D:href>/calendars/alice/calendar/one.ics</D:href><D:propstat><D:prop><D:owner><D:href>/principals/alice/</D:href></D:owner></D:prop><D:status>HTTP/1.1 200 OK</D:status></D:propstat></D:response>")
unfolding outcome privileges_held reading_reply shared_rows scene_at change_of effect properties answer put_table target_path cut_at document segment reason xml_text attribute_text percent_encode_byte percent_decode digits is_utf8 chars encode counted_from date_of time_of date_time_of count_of integer_of length_of offset_of stamps_in_grammar periods_in_grammar trigger_of rule_in_grammar year_of month_of day_of_month offset_at exists_in instant_of N.out-Node N.roll-Node B.shown-the_row-Node-0 B.hidden-the_row-Node-0 B.shape-the_row-Node-0 H.out H.roll H.shown H.hidden
spelled = refl

-- the zone of a report: its own, else the calendar's, else UTC
abbrev zone_named : List ℕ → List ℕ
zone_named name = lines_text (codes "BEGIN:VCALENDAR" ∷ codes "BEGIN:VTIMEZONE" ∷ (codes "TZID:" ++ name) ∷ codes "BEGIN:STANDARD" ∷ codes "DTSTART:16010101T000000"
    ∷ codes "TZOFFSETFROM:+0100" ∷ codes "TZOFFSETTO:+0100" ∷ codes "END:STANDARD" ∷ codes "END:VTIMEZONE" ∷ codes "END:VCALENDAR" ∷ [])

abbrev in_zone : Contents
in_zone = record { kinds = 15; texts = (calendar_timezone, zone_named (codes "Own")) ∷ []; objects = [] }

abbrev in_none : Contents
in_none = record { kinds = 15; texts = []; objects = [] }

abbrev multiget : ReportRequest
multiget = report.Multiget props.None (record { comp = None; recur = Whole; busy = None }) []

abbrev query_in : ReportRequest
query_in = report.Query props.None (record { comp = None; recur = Whole; busy = None }) (record { top = event_filter (record { start = record { 0 = pos 0 }; end = record { 0 = pos 1 } }) }) (Some (zone_named (codes "Asked")))

zones : ((zone_of_report multiget in_zone).name ≡ codes "Own") × ((zone_of_report multiget in_none).name ≡ []) × ((zone_of_report query_in in_zone).name ≡ codes "Asked")
unfolding is_utf8 chars encode counted_from date_of time_of date_time_of count_of integer_of length_of offset_of stamps_in_grammar periods_in_grammar trigger_of rule_in_grammar N.out-Node N.roll-Node B.shown-the_row-Node-0 B.hidden-the_row-Node-0 B.shape-the_row-Node-0 H.out H.roll H.shown H.hidden
zones = (refl, refl, refl)

-- an answer of 64 MiB is sent, and one of an octet more is not
abbrev of_octets : List ℕ → Reply
of_octets body = record (bare 207) { media = media.Xml; body = body }

at_the_limit : (body : List ℕ) → length body ≡ 67_108_864 → too_long method.Report (of_octets body) ≡ None
at_the_limit body long = simp (long) refl

above_the_limit : (body : List ℕ) → length body ≡ 67_108_865 → too_long method.Report (of_octets body) ≡ Some (refused_with (codes "<D:number-of-matches-within-limits/>"))
unfolding xml_text attribute_text document is_utf8 chars encode
above_the_limit body long = simp (long) refl
