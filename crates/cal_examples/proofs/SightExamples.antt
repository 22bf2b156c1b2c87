-- What bob may see who holds read-free-busy, and carol who holds nothing.
use Rattle.std.specs.Prelude.{◌≡◌, refl, true, [], ◌∷◌, Some, codes}
use Rattle.std.specs.Str.{is_utf8, chars}
use lib.Utf8.{encode}
use Rattle.std.specs.Fmt.{digits}
use Rattle.percent_encoding.specs.Percent.{percent_encode_byte, percent_decode}
use Rattle.cal_base.specs.declared.line.Node as N
use Rattle.cal_base.specs.declared.line.Node.TheBlock as B
use denote.Hole.Carrier as H
use Rattle.cal_base.specs.Xml.CanonicalXml.{xml_text, attribute_text}
use Rattle.cal_moment.specs.Calendar.{year_of, month_of, day_of_month}
use Rattle.cal_model.specs.declared.path.Path.TheVariants as path
use Rattle.cal_model.specs.declared.privilege.Who.TheVariants as to
use Rattle.cal_model.specs.declared.property.Props.TheVariants as props
use Rattle.cal_model.specs.declared.reply.Media.TheVariants as media
use Rattle.cal_model.specs.declared.request.Content.TheVariants as content
use Rattle.cal_model.specs.declared.request.Method.TheVariants as method
use Rattle.cal_model.specs.Replies.Hrefs.{segment}
use Rattle.cal_model.specs.Words.Lists.{counted_from}
use Rattle.cal_model.specs.Access.Privileges.{privileges_held}
use Rattle.cal_model.specs.Replies.Statuses.{reason}
use Rattle.cal_model.specs.Values.StampTexts.{stamps_in_grammar, periods_in_grammar, trigger_of}
use Rattle.cal_model.specs.Values.RuleTexts.{rule_in_grammar}
use Rattle.cal_model.specs.Values.ValueTexts.{date_of, time_of, date_time_of, count_of, integer_of, length_of, offset_of}
use Rattle.cal_model.specs.Replies.XmlText.{document}
use Rattle.cal_model.specs.TimeZones.Zones.{offset_at, exists_in, instant_of}
use Rattle.cal_model.specs.Paths.TargetPaths.{target_path}
use Rattle.cal_model.specs.Properties.PropertyTable.{properties, answer, in_dav}
use Rattle.cal_model.specs.Refusals.Preconditions.{put_table}
use Rattle.cal_model.specs.Refusals.SharedRefusals.{shared_rows}
use Rattle.cal_model.specs.Serving.EventReplies.{reply_to}
use Rattle.cal_model.specs.Serving.Outcomes.{accepted, outcome}
use Rattle.cal_model.specs.Serving.ReadingReplies.{reading_reply}
use Rattle.cal_model.specs.Sight.Scenes.{scene_at}
use Rattle.cal_model.specs.State.Changes.{effect, change_of}
use Rattle.cal_model.specs.State.ServerState.{ServerState}
use Rattle.cal_examples.proofs.ServingSamples.{three, alice_has, asked, bare, refused_with, found_with, own, own_object, one_octets, two_octets, busy_over, march, query_over}

-- one event in alice's calendar, and bob may see when she is busy
abbrev granted : ServerState
granted = alice_has 1230 (record { who = to.Principal 1; held = record { 0 = 1 } } ∷ []) ((codes "one.ics", one_octets) ∷ (codes "two.ics", two_octets) ∷ [])

abbrev ungranted : ServerState
ungranted = alice_has 764 [] ((codes "one.ics", one_octets) ∷ (codes "two.ics", two_octets) ∷ [])

-- alice gives the grant: its body of 210 octets costs 466
granting : outcome three ungranted (asked 0 method.Acl own 210 (content.Acl (record { who = to.Principal 1; held = record { 0 = 1 } } ∷ []))) ≡ accepted 200 granted
unfolding outcome privileges_held reading_reply shared_rows scene_at change_of effect properties answer put_table target_path document segment reason xml_text attribute_text percent_encode_byte percent_decode digits is_utf8 chars encode counted_from date_of time_of date_time_of count_of integer_of length_of offset_of stamps_in_grammar periods_in_grammar trigger_of rule_in_grammar year_of month_of day_of_month offset_at exists_in instant_of N.out-Node N.roll-Node B.shown-the_row-Node-0 B.hidden-the_row-Node-0 B.shape-the_row-Node-0 H.out H.roll H.shown H.hidden
granting = refl

-- before that bob is told that there is no such calendar
before : reply_to three ungranted (asked 1 method.Report own 142 (busy_over (march 3598) (march 3610))) ≡ bare 404
unfolding outcome privileges_held reading_reply shared_rows scene_at change_of effect properties answer put_table target_path document segment reason xml_text attribute_text percent_encode_byte percent_decode digits is_utf8 chars encode counted_from date_of time_of date_time_of count_of integer_of length_of offset_of stamps_in_grammar periods_in_grammar trigger_of rule_in_grammar year_of month_of day_of_month offset_at exists_in instant_of N.out-Node N.roll-Node B.shown-the_row-Node-0 B.hidden-the_row-Node-0 B.shape-the_row-Node-0 H.out H.roll H.shown H.hidden
before = refl

-- bob sees busy times, by their classes
bob_busy : reply_to three granted (asked 1 method.Report own 142 (busy_over (march 3598) (march 3610))) ≡ record (bare 200) { media = media.Calendar; body = codes "BEGIN:VCALENDAR\r\nVERSION:2.0\r\nPRODID:-//caldav_server//EN\r\nBEGIN:VFREEBUSY\r\nUID:free-busy\r\nDTSTAMP:20250310T094640Z\r\nDTSTART:20250310T095958Z\r\nDTEND:20250310T100010Z\r\nFREEBUSY;FBTYPE=BUSY:20250310T095958Z/20250310T100000Z\r\nFREEBUSY;FBTYPE=BUSY-TENTATIVE:20250310T100000Z/20250310T100005Z\r\nEND:VFREEBUSY\r\nEND:VCALENDAR\r\n" }
unfolding outcome privileges_held reading_reply shared_rows scene_at change_of effect properties answer put_table target_path document segment reason xml_text attribute_text percent_encode_byte percent_decode digits is_utf8 chars encode counted_from date_of time_of date_time_of count_of integer_of length_of offset_of stamps_in_grammar periods_in_grammar trigger_of rule_in_grammar year_of month_of day_of_month offset_at exists_in instant_of N.out-Node N.roll-Node B.shown-the_row-Node-0 B.hidden-the_row-Node-0 B.shape-the_row-Node-0 H.out H.roll H.shown H.hidden
bob_busy = refl

-- and not the events
bob_queries : reply_to three granted (asked 1 method.Report own 316 (query_over (march 0) (march 3600))) ≡ refused_with (codes "<D:need-privileges><D:resource><D:href>/calendars/alice/calendar/</D:href><D:privilege><D:read/></D:privilege></D:resource></D:need-privileges>")
unfolding outcome privileges_held reading_reply shared_rows scene_at change_of effect properties answer put_table target_path document segment reason xml_text attribute_text percent_encode_byte percent_decode digits is_utf8 chars encode counted_from date_of time_of date_time_of count_of integer_of length_of offset_of stamps_in_grammar periods_in_grammar trigger_of rule_in_grammar year_of month_of day_of_month offset_at exists_in instant_of N.out-Node N.roll-Node B.shown-the_row-Node-0 B.hidden-the_row-Node-0 B.shape-the_row-Node-0 H.out H.roll H.shown H.hidden
bob_queries = refl

-- an object that is there and one that is not have the same refusal, but for the path
bob_gets : reply_to three granted (asked 1 method.Get (own_object (codes "one.ics")) 0 content.None) ≡ refused_with (codes "<D:need-privileges><D:resource><D:href>/calendars/alice/calendar/one.ics</D:href><D:privilege><D:read/></D:privilege></D:resource></D:need-privileges>")
unfolding outcome privileges_held reading_reply shared_rows scene_at change_of effect properties answer put_table target_path document segment reason xml_text attribute_text percent_encode_byte percent_decode digits is_utf8 chars encode counted_from date_of time_of date_time_of count_of integer_of length_of offset_of stamps_in_grammar periods_in_grammar trigger_of rule_in_grammar year_of month_of day_of_month offset_at exists_in instant_of N.out-Node N.roll-Node B.shown-the_row-Node-0 B.hidden-the_row-Node-0 B.shape-the_row-Node-0 H.out H.roll H.shown H.hidden
bob_gets = refl

bob_gets_none : reply_to three granted (asked 1 method.Get (own_object (codes "none.ics")) 0 content.None) ≡ refused_with (codes "<D:need-privileges><D:resource><D:href>/calendars/alice/calendar/none.ics</D:href><D:privilege><D:read/></D:privilege></D:resource></D:need-privileges>")
unfolding outcome privileges_held reading_reply shared_rows scene_at change_of effect properties answer put_table target_path document segment reason xml_text attribute_text percent_encode_byte percent_decode digits is_utf8 chars encode counted_from date_of time_of date_time_of count_of integer_of length_of offset_of stamps_in_grammar periods_in_grammar trigger_of rule_in_grammar year_of month_of day_of_month offset_at exists_in instant_of N.out-Node N.roll-Node B.shown-the_row-Node-0 B.hidden-the_row-Node-0 B.shape-the_row-Node-0 H.out H.roll H.shown H.hidden
bob_gets_none = refl

-- nor does a PUT show whether an object is there: bind is named for both
bob_puts : reply_to three granted (asked 1 method.Put (own_object (codes "one.ics")) 117 (content.Put true one_octets)) ≡ refused_with (codes "<D:need-privileges><D:resource><D:href>/calendars/alice/calendar/one.ics</D:href><D:privilege><D:bind/></D:privilege></D:resource></D:need-privileges>")
unfolding outcome privileges_held reading_reply shared_rows scene_at change_of effect properties answer put_table target_path document segment reason xml_text attribute_text percent_encode_byte percent_decode digits is_utf8 chars encode counted_from date_of time_of date_time_of count_of integer_of length_of offset_of stamps_in_grammar periods_in_grammar trigger_of rule_in_grammar year_of month_of day_of_month offset_at exists_in instant_of N.out-Node N.roll-Node B.shown-the_row-Node-0 B.hidden-the_row-Node-0 B.shape-the_row-Node-0 H.out H.roll H.shown H.hidden
bob_puts = refl

-- a home is its owner's alone
bob_makes : reply_to three granted (asked 1 method.Mkcalendar (path.Calendar (codes "alice") (codes "new")) 0 (content.Make [])) ≡ refused_with (codes "<D:need-privileges><D:resource><D:href>/calendars/alice/new/</D:href><D:privilege><D:bind/></D:privilege></D:resource></D:need-privileges>")
unfolding outcome privileges_held reading_reply shared_rows scene_at change_of effect properties answer put_table target_path document segment reason xml_text attribute_text percent_encode_byte percent_decode digits is_utf8 chars encode counted_from date_of time_of date_time_of count_of integer_of length_of offset_of stamps_in_grammar periods_in_grammar trigger_of rule_in_grammar year_of month_of day_of_month offset_at exists_in instant_of N.out-Node N.roll-Node B.shown-the_row-Node-0 B.hidden-the_row-Node-0 B.shape-the_row-Node-0 H.out H.roll H.shown H.hidden
bob_makes = refl

-- carol sees nothing of the calendar, nor of the home
carol_queries : reply_to three granted (asked 2 method.Report own 316 (query_over (march 0) (march 3600))) ≡ bare 404
unfolding outcome privileges_held reading_reply shared_rows scene_at change_of effect properties answer put_table target_path document segment reason xml_text attribute_text percent_encode_byte percent_decode digits is_utf8 chars encode counted_from date_of time_of date_time_of count_of integer_of length_of offset_of stamps_in_grammar periods_in_grammar trigger_of rule_in_grammar year_of month_of day_of_month offset_at exists_in instant_of N.out-Node N.roll-Node B.shown-the_row-Node-0 B.hidden-the_row-Node-0 B.shape-the_row-Node-0 H.out H.roll H.shown H.hidden
carol_queries = refl

carol_options : reply_to three granted (asked 2 method.Options (path.Object (codes "alice") (codes "other") (codes "x.ics")) 0 content.None) ≡ bare 404
unfolding outcome privileges_held reading_reply shared_rows scene_at change_of effect properties answer put_table target_path document segment reason xml_text attribute_text percent_encode_byte percent_decode digits is_utf8 chars encode counted_from date_of time_of date_time_of count_of integer_of length_of offset_of stamps_in_grammar periods_in_grammar trigger_of rule_in_grammar year_of month_of day_of_month offset_at exists_in instant_of N.out-Node N.roll-Node B.shown-the_row-Node-0 B.hidden-the_row-Node-0 B.shape-the_row-Node-0 H.out H.roll H.shown H.hidden
carol_options = refl

-- bob sees the home, so OPTIONS of what is not there is answered
bob_options : reply_to three granted (asked 1 method.Options (path.Object (codes "alice") (codes "other") (codes "x.ics")) 0 content.None) ≡ record (bare 200) { allow = Some (path.Object (codes "alice") (codes "other") (codes "x.ics")) }
unfolding outcome privileges_held reading_reply shared_rows scene_at change_of effect properties answer put_table target_path document segment reason xml_text attribute_text percent_encode_byte percent_decode digits is_utf8 chars encode counted_from date_of time_of date_time_of count_of integer_of length_of offset_of stamps_in_grammar periods_in_grammar trigger_of rule_in_grammar year_of month_of day_of_month offset_at exists_in instant_of N.out-Node N.roll-Node B.shown-the_row-Node-0 B.hidden-the_row-Node-0 B.shape-the_row-Node-0 H.out H.roll H.shown H.hidden
bob_options = refl

-- of the calendar bob sees what needs no read; a property that is on objects alone is not there, whatever is held
bob_finds : reply_to three granted (asked 1 method.Propfind own 166 (content.Find (props.Some (in_dav (codes "displayname") ∷ in_dav (codes "getetag") ∷ in_dav (codes "owner") ∷ record { space = codes "urn:e"; name = codes "colour" } ∷ [])) true)) ≡ found_with (codes "<D:response><D:href>/calendars/alice/calendar/</D:href><D:propstat><D:prop><D:owner><D:href>/principals/alice/</D:href></D:owner></D:prop><D:status>HTTP/1.1 200 OK</D:status></D:propstat><D:propstat><D:prop><D:getetag/></D:prop><D:status>HTTP/1.1 404 Not Found</D:status></D:propstat><D:propstat><D:prop><D:displayname/><x:colour xmlns:x=\"urn:e\"/></D:prop><D:status>HTTP/1.1 403 Forbidden</D:status></D:propstat></D:response>")
unfolding outcome privileges_held reading_reply shared_rows scene_at change_of effect properties answer put_table target_path document segment reason xml_text attribute_text percent_encode_byte percent_decode digits is_utf8 chars encode counted_from date_of time_of date_time_of count_of integer_of length_of offset_of stamps_in_grammar periods_in_grammar trigger_of rule_in_grammar year_of month_of day_of_month offset_at exists_in instant_of N.out-Node N.roll-Node B.shown-the_row-Node-0 B.hidden-the_row-Node-0 B.shape-the_row-Node-0 H.out H.roll H.shown H.hidden
bob_finds = refl
