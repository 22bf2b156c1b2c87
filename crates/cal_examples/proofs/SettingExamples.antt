-- Calendars are made, named and removed.
use Rattle.std.specs.Prelude.{◌≡◌, refl, ℕ, false, List, [], ◌∷◌, Some, codes}
use Rattle.std.specs.Str.{is_utf8, chars}
use lib.Utf8.{encode}
use Rattle.std.specs.Fmt.{digits}
use Rattle.percent_encoding.specs.Percent.{percent_encode_byte, percent_decode}
use Rattle.cal_base.specs.declared.line.Node as N
use Rattle.cal_base.specs.declared.line.Node.TheBlock as B
use denote.Hole.Carrier as H
use Rattle.cal_base.specs.Xml.CanonicalXml.{xml_text, attribute_text}
use Rattle.cal_moment.specs.Calendar.{year_of, month_of, day_of_month}
use Rattle.cal_model.specs.declared.path.Path.TheVariants as path
use Rattle.cal_model.specs.declared.property.Props.TheVariants as props
use Rattle.cal_model.specs.declared.request.Content.TheVariants as content
use Rattle.cal_model.specs.declared.request.Method.TheVariants as method
use Rattle.cal_model.specs.Replies.Hrefs.{segment}
use Rattle.cal_model.specs.Words.Lists.{counted_from}
use Rattle.cal_model.specs.Access.Privileges.{privileges_held}
use Rattle.cal_model.specs.Replies.Statuses.{reason}
use Rattle.cal_model.specs.Values.StampTexts.{stamps_in_grammar, periods_in_grammar, trigger_of}
use Rattle.cal_model.specs.Values.RuleTexts.{rule_in_grammar}
use Rattle.cal_model.specs.Values.ValueTexts.{date_of, time_of, date_time_of, count_of, integer_of, length_of, offset_of}
use Rattle.cal_model.specs.Replies.XmlText.{document}
use Rattle.cal_model.specs.TimeZones.Zones.{offset_at, exists_in, instant_of}
use Rattle.cal_model.specs.Paths.TargetPaths.{target_path}
use Rattle.cal_model.specs.Properties.PropertyTable.{properties, answer, in_dav, in_caldav}
use Rattle.cal_model.specs.Refusals.Preconditions.{put_table}
use Rattle.cal_model.specs.Refusals.SharedRefusals.{shared_rows}
use Rattle.cal_model.specs.Serving.EventReplies.{reply_to}
use Rattle.cal_model.specs.Serving.Outcomes.{accepted, unchanged, outcome}
use Rattle.cal_model.specs.Serving.ReadingReplies.{reading_reply}
use Rattle.cal_model.specs.Sight.Scenes.{scene_at}
use Rattle.cal_model.specs.State.Changes.{effect, change_of}
use Rattle.cal_model.specs.State.ServerState.{ServerState, first_calendar}
use Rattle.cal_examples.proofs.ServingSamples.{three, alice_has, alice_keeps, asked, bare, refused_with, found_with}
use Rattle.cal_model.specs.declared.path.Path.{Path}
use Rattle.cal_model.specs.declared.property.PropName.{PropName}
use Rattle.cal_model.specs.declared.property.PropSet.{PropSet}
use Rattle.cal_model.specs.Properties.PropertyReplies.{once}
use Rattle.cal_model.specs.State.PropertyTexts.{Texts}

-- the path of alice's calendar `work`, and states that have it beside the one of the start
abbrev work : Path
work = path.Calendar (codes "alice") (codes "work")

abbrev with_work : ℕ → Texts → ServerState
with_work cost texts = alice_keeps cost ((codes "calendar", first_calendar) ∷ (codes "work", record { grants = []; kinds = 15; texts = texts; objects = [] }) ∷ [])

abbrev displayname : PropName
displayname = in_dav (codes "displayname")

abbrev set_to : PropName → List ℕ → PropSet
set_to name value = record { name = name; value = Some value }

abbrev to_work : PropSet
to_work = set_to displayname (codes "Work")

-- a calendar is made, and is there then
make : outcome three (alice_has 0 [] []) (asked 0 method.Mkcalendar work 0 (content.Make [])) ≡ accepted 201 (with_work 256 [])
unfolding outcome privileges_held reading_reply shared_rows scene_at change_of effect properties answer put_table target_path document segment reason xml_text attribute_text percent_encode_byte percent_decode digits is_utf8 chars encode counted_from date_of time_of date_time_of count_of integer_of length_of offset_of stamps_in_grammar periods_in_grammar trigger_of rule_in_grammar year_of month_of day_of_month offset_at exists_in instant_of N.out-Node N.roll-Node B.shown-the_row-Node-0 B.hidden-the_row-Node-0 B.shape-the_row-Node-0 H.out H.roll H.shown H.hidden
make = refl

make_again : outcome three (with_work 256 []) (asked 0 method.Mkcalendar work 0 (content.Make [])) ≡ unchanged (refused_with (codes "<D:resource-must-be-null/>"))
unfolding outcome privileges_held reading_reply shared_rows scene_at change_of effect properties answer put_table target_path document segment reason xml_text attribute_text percent_encode_byte percent_decode digits is_utf8 chars encode counted_from date_of time_of date_time_of count_of integer_of length_of offset_of stamps_in_grammar periods_in_grammar trigger_of rule_in_grammar year_of month_of day_of_month offset_at exists_in instant_of N.out-Node N.roll-Node B.shown-the_row-Node-0 B.hidden-the_row-Node-0 B.shape-the_row-Node-0 H.out H.roll H.shown H.hidden
make_again = refl

-- bob does not see alice's home
bob_makes : outcome three (with_work 256 []) (asked 1 method.Mkcalendar work 0 (content.Make [])) ≡ unchanged (bare 404)
unfolding outcome privileges_held reading_reply shared_rows scene_at change_of effect properties answer put_table target_path document segment reason xml_text attribute_text percent_encode_byte percent_decode digits is_utf8 chars encode counted_from date_of time_of date_time_of count_of integer_of length_of offset_of stamps_in_grammar periods_in_grammar trigger_of rule_in_grammar year_of month_of day_of_month offset_at exists_in instant_of N.out-Node N.roll-Node B.shown-the_row-Node-0 B.hidden-the_row-Node-0 B.shape-the_row-Node-0 H.out H.roll H.shown H.hidden
bob_makes = refl

-- its displayname is set
name : outcome three (with_work 256 []) (asked 0 method.Proppatch work 175 (content.Patch (to_work ∷ []))) ≡ accepted 207 (with_work 687 ((displayname, codes "Work") ∷ []))
unfolding outcome privileges_held reading_reply shared_rows scene_at change_of effect properties answer put_table target_path document segment reason xml_text attribute_text percent_encode_byte percent_decode digits is_utf8 chars encode counted_from date_of time_of date_time_of count_of integer_of length_of offset_of stamps_in_grammar periods_in_grammar trigger_of rule_in_grammar year_of month_of day_of_month offset_at exists_in instant_of N.out-Node N.roll-Node B.shown-the_row-Node-0 B.hidden-the_row-Node-0 B.shape-the_row-Node-0 H.out H.roll H.shown H.hidden
name = refl

name_reply : reply_to three (with_work 256 []) (asked 0 method.Proppatch work 175 (content.Patch (to_work ∷ []))) ≡ found_with (codes "<D:response><D:href>/calendars/alice/work/</D:href><D:propstat><D:prop><D:displayname/></D:prop><D:status>HTTP/1.1 200 OK</D:status></D:propstat></D:response>")
unfolding outcome privileges_held reading_reply shared_rows scene_at change_of effect properties answer put_table target_path document segment reason xml_text attribute_text percent_encode_byte percent_decode digits is_utf8 chars encode counted_from date_of time_of date_time_of count_of integer_of length_of offset_of stamps_in_grammar periods_in_grammar trigger_of rule_in_grammar year_of month_of day_of_month offset_at exists_in instant_of N.out-Node N.roll-Node B.shown-the_row-Node-0 B.hidden-the_row-Node-0 B.shape-the_row-Node-0 H.out H.roll H.shown H.hidden
name_reply = refl

-- where one setting is refused none is made
one_refused : outcome three (with_work 687 ((displayname, codes "Work") ∷ [])) (asked 0 method.Proppatch work 200 (content.Patch (set_to displayname (codes "Other") ∷ set_to (in_dav (codes "getetag")) (codes "x") ∷ []))) ≡ unchanged (found_with (codes "<D:response><D:href>/calendars/alice/work/</D:href><D:propstat><D:prop><D:getetag/></D:prop><D:status>HTTP/1.1 403 Forbidden</D:status></D:propstat><D:propstat><D:prop><D:displayname/></D:prop><D:status>HTTP/1.1 424 Failed Dependency</D:status></D:propstat></D:response>"))
unfolding outcome privileges_held reading_reply shared_rows scene_at change_of effect properties answer put_table target_path document segment reason xml_text attribute_text percent_encode_byte percent_decode digits is_utf8 chars encode counted_from date_of time_of date_time_of count_of integer_of length_of offset_of stamps_in_grammar periods_in_grammar trigger_of rule_in_grammar year_of month_of day_of_month offset_at exists_in instant_of N.out-Node N.roll-Node B.shown-the_row-Node-0 B.hidden-the_row-Node-0 B.shape-the_row-Node-0 H.out H.roll H.shown H.hidden
one_refused = refl

-- the displayname is shown
shown : reply_to three (with_work 687 ((displayname, codes "Work") ∷ [])) (asked 0 method.Propfind work 129 (content.Find (props.Some (displayname ∷ [])) false)) ≡ found_with (codes "<D:response><D:href>/calendars/alice/work/</D:href><D:propstat><D:prop><D:displayname>Work</D:displayname></D:prop><D:status>HTTP/1.1 200 OK</D:status></D:propstat></D:response>")
unfolding outcome privileges_held reading_reply shared_rows scene_at change_of effect properties answer put_table target_path document segment reason xml_text attribute_text percent_encode_byte percent_decode digits is_utf8 chars encode counted_from date_of time_of date_time_of count_of integer_of length_of offset_of stamps_in_grammar periods_in_grammar trigger_of rule_in_grammar year_of month_of day_of_month offset_at exists_in instant_of N.out-Node N.roll-Node B.shown-the_row-Node-0 B.hidden-the_row-Node-0 B.shape-the_row-Node-0 H.out H.roll H.shown H.hidden
shown = refl

-- the calendar is removed, and is not there then
gone : outcome three (with_work 687 ((displayname, codes "Work") ∷ [])) (asked 0 method.Delete work 0 content.None) ≡ accepted 204 (alice_has 687 [] [])
unfolding outcome privileges_held reading_reply shared_rows scene_at change_of effect properties answer put_table target_path document segment reason xml_text attribute_text percent_encode_byte percent_decode digits is_utf8 chars encode counted_from date_of time_of date_time_of count_of integer_of length_of offset_of stamps_in_grammar periods_in_grammar trigger_of rule_in_grammar year_of month_of day_of_month offset_at exists_in instant_of N.out-Node N.roll-Node B.shown-the_row-Node-0 B.hidden-the_row-Node-0 B.shape-the_row-Node-0 H.out H.roll H.shown H.hidden
gone = refl

gone_again : outcome three (alice_has 687 [] []) (asked 0 method.Delete work 0 content.None) ≡ unchanged (bare 404)
unfolding outcome privileges_held reading_reply shared_rows scene_at change_of effect properties answer put_table target_path document segment reason xml_text attribute_text percent_encode_byte percent_decode digits is_utf8 chars encode counted_from date_of time_of date_time_of count_of integer_of length_of offset_of stamps_in_grammar periods_in_grammar trigger_of rule_in_grammar year_of month_of day_of_month offset_at exists_in instant_of N.out-Node N.roll-Node B.shown-the_row-Node-0 B.hidden-the_row-Node-0 B.shape-the_row-Node-0 H.out H.roll H.shown H.hidden
gone_again = refl

-- a calendar for to-dos and events; the set of kinds is given when a calendar is made, and not later
kinds : outcome three (alice_has 0 [] []) (asked 0 method.Mkcalendar work 250 (content.Make (set_to (in_caldav (codes "supported-calendar-component-set")) (codes "VTODO,VEVENT") ∷ []))) ≡ accepted 201 (alice_keeps 506 ((codes "calendar", first_calendar) ∷ (codes "work", record { grants = []; kinds = 3; texts = []; objects = [] }) ∷ []))
unfolding outcome privileges_held reading_reply shared_rows scene_at change_of effect properties answer put_table target_path document segment reason xml_text attribute_text percent_encode_byte percent_decode digits is_utf8 chars encode counted_from date_of time_of date_time_of count_of integer_of length_of offset_of stamps_in_grammar periods_in_grammar trigger_of rule_in_grammar year_of month_of day_of_month offset_at exists_in instant_of N.out-Node N.roll-Node B.shown-the_row-Node-0 B.hidden-the_row-Node-0 B.shape-the_row-Node-0 H.out H.roll H.shown H.hidden
kinds = refl

kinds_later : outcome three (with_work 256 []) (asked 0 method.Proppatch work 236 (content.Patch (set_to (in_caldav (codes "supported-calendar-component-set")) (codes "VEVENT") ∷ []))) ≡ unchanged (found_with (codes "<D:response><D:href>/calendars/alice/work/</D:href><D:propstat><D:prop><C:supported-calendar-component-set/></D:prop><D:status>HTTP/1.1 403 Forbidden</D:status></D:propstat></D:response>"))
unfolding outcome privileges_held reading_reply shared_rows scene_at change_of effect properties answer put_table target_path document segment reason xml_text attribute_text percent_encode_byte percent_decode digits is_utf8 chars encode counted_from date_of time_of date_time_of count_of integer_of length_of offset_of stamps_in_grammar periods_in_grammar trigger_of rule_in_grammar year_of month_of day_of_month offset_at exists_in instant_of N.out-Node N.roll-Node B.shown-the_row-Node-0 B.hidden-the_row-Node-0 B.shape-the_row-Node-0 H.out H.roll H.shown H.hidden
kinds_later = refl

-- the first setting that is refused decides what MKCALENDAR is told
bad_zone : outcome three (alice_has 0 [] []) (asked 0 method.Mkcalendar work 200 (content.Make (set_to (in_caldav (codes "calendar-timezone")) (codes "x") ∷ set_to (in_dav (codes "getetag")) (codes "x") ∷ []))) ≡ unchanged (refused_with (codes "<C:valid-calendar-data/>"))
unfolding outcome privileges_held reading_reply shared_rows scene_at change_of effect properties answer put_table target_path document segment reason xml_text attribute_text percent_encode_byte percent_decode digits is_utf8 chars encode counted_from date_of time_of date_time_of count_of integer_of length_of offset_of stamps_in_grammar periods_in_grammar trigger_of rule_in_grammar year_of month_of day_of_month offset_at exists_in instant_of N.out-Node N.roll-Node B.shown-the_row-Node-0 B.hidden-the_row-Node-0 B.shape-the_row-Node-0 H.out H.roll H.shown H.hidden
bad_zone = refl

protected : outcome three (alice_has 0 [] []) (asked 0 method.Mkcalendar work 200 (content.Make (set_to (in_dav (codes "getetag")) (codes "x") ∷ set_to (in_caldav (codes "calendar-timezone")) (codes "x") ∷ []))) ≡ unchanged (refused_with (codes "<D:cannot-modify-protected-property/>"))
unfolding outcome privileges_held reading_reply shared_rows scene_at change_of effect properties answer put_table target_path document segment reason xml_text attribute_text percent_encode_byte percent_decode digits is_utf8 chars encode counted_from date_of time_of date_time_of count_of integer_of length_of offset_of stamps_in_grammar periods_in_grammar trigger_of rule_in_grammar year_of month_of day_of_month offset_at exists_in instant_of N.out-Node N.roll-Node B.shown-the_row-Node-0 B.hidden-the_row-Node-0 B.shape-the_row-Node-0 H.out H.roll H.shown H.hidden
protected = refl

-- the value that stands for elements is no text
no_text : outcome three (with_work 256 []) (asked 0 method.Proppatch work 157 (content.Patch (set_to (record { space = codes "urn:e"; name = codes "b" }) (0 ∷ []) ∷ []))) ≡ unchanged (found_with (codes "<D:response><D:href>/calendars/alice/work/</D:href><D:propstat><D:prop><x:b xmlns:x=\"urn:e\"/></D:prop><D:status>HTTP/1.1 403 Forbidden</D:status></D:propstat></D:response>"))
unfolding outcome privileges_held reading_reply shared_rows scene_at change_of effect properties answer put_table target_path document segment reason xml_text attribute_text percent_encode_byte percent_decode digits is_utf8 chars encode counted_from date_of time_of date_time_of count_of integer_of length_of offset_of stamps_in_grammar periods_in_grammar trigger_of rule_in_grammar year_of month_of day_of_month offset_at exists_in instant_of N.out-Node N.roll-Node B.shown-the_row-Node-0 B.hidden-the_row-Node-0 B.shape-the_row-Node-0 H.out H.roll H.shown H.hidden
no_text = refl

-- a name that is asked for twice is answered once
twice : once (displayname ∷ in_dav (codes "acl") ∷ displayname ∷ []) ≡ displayname ∷ in_dav (codes "acl") ∷ []
twice = refl
