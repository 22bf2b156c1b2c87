-- The table of properties, row by row, in full octets: what is answered of each kind of resource, and to whom.
use Rattle.std.specs.Prelude.{◌≡◌, refl, ℕ, true, false, List, [], ◌∷◌, codes}
use Rattle.std.specs.Str.{is_utf8, chars}
use lib.Utf8.{encode}
use Rattle.std.specs.Fmt.{digits}
use Rattle.hex.specs.Hex.{encode_with}
use Rattle.sha2.specs.Sha256.{first_words, schedule, rounds, compress, hash_after, digest_bytes, sha256}
use Rattle.percent_encoding.specs.Percent.{percent_encode_byte, percent_decode}
use Rattle.cal_base.specs.declared.line.Node as N
use Rattle.cal_base.specs.declared.line.Node.TheBlock as B
use denote.Hole.Carrier as H
use Rattle.cal_base.specs.Xml.CanonicalXml.{xml_text, attribute_text}
use Rattle.cal_moment.specs.Calendar.{year_of, month_of, day_of_month}
use Rattle.cal_model.specs.declared.path.Path.TheVariants as path
use Rattle.cal_model.specs.declared.privilege.Who.TheVariants as to
use Rattle.cal_model.specs.declared.property.Props.TheVariants as props
use Rattle.cal_model.specs.declared.request.Content.TheVariants as content
use Rattle.cal_model.specs.declared.request.Method.TheVariants as method
use Rattle.cal_model.specs.Replies.Etags.{etag_of}
use Rattle.cal_model.specs.Replies.Hrefs.{segment}
use Rattle.cal_model.specs.Words.Lists.{counted_from}
use Rattle.cal_model.specs.Access.Privileges.{privileges_held}
use Rattle.cal_model.specs.Replies.Statuses.{reason}
use Rattle.cal_model.specs.Values.StampTexts.{stamps_in_grammar, periods_in_grammar, trigger_of}
use Rattle.cal_model.specs.Values.RuleTexts.{rule_in_grammar}
use Rattle.cal_model.specs.Values.ValueTexts.{date_of, time_of, date_time_of, count_of, integer_of, length_of, offset_of}
use Rattle.cal_model.specs.Replies.XmlText.{document}
use Rattle.cal_model.specs.TimeZones.Zones.{offset_at, exists_in, instant_of}
use Rattle.cal_model.specs.Paths.TargetPaths.{target_path}
use Rattle.cal_model.specs.Properties.PropertyTable.{properties, answer, in_dav, in_caldav}
use Rattle.cal_model.specs.Refusals.Preconditions.{put_table}
use Rattle.cal_model.specs.Refusals.SharedRefusals.{shared_rows}
use Rattle.cal_model.specs.Serving.EventReplies.{reply_to}
use Rattle.cal_model.specs.Serving.Outcomes.{outcome}
use Rattle.cal_model.specs.Serving.ReadingReplies.{reading_reply}
use Rattle.cal_model.specs.Sight.Scenes.{scene_at}
use Rattle.cal_model.specs.State.Changes.{effect, change_of}
use Rattle.cal_model.specs.State.ServerState.{Directory, ServerState}
use Rattle.cal_model.specs.declared.privilege.Grant.{Grant}
use Rattle.cal_model.specs.declared.privilege.Who.{Who}
use Rattle.cal_model.specs.declared.property.PropName.{PropName}
use Rattle.cal_model.specs.State.PropertyTexts.{Texts}
use Rattle.cal_examples.proofs.ServingSamples.{three, alice_keeps, asked, found_with, own, own_object, one_octets}

-- alice's calendar with one event, some properties and some grants: to bob, to carol, to everyone and to the owner
abbrev zone_text : List ℕ
zone_text = codes "BEGIN:VCALENDAR\r\nBEGIN:VTIMEZONE\r\nTZID:X\r\nBEGIN:STANDARD\r\nDTSTART:16010101T000000\r\nTZOFFSETFROM:+0100\r\nTZOFFSETTO:+0100\r\nEND:STANDARD\r\nEND:VTIMEZONE\r\nEND:VCALENDAR\r\n"

abbrev texts : Texts
texts =
    (in_dav (codes "displayname"), codes "calendar")
    ∷ (record { space = codes "urn:a"; name = codes "z" }, codes "z")
    ∷ (record { space = codes "urn:e"; name = codes "bare" }, [])
    ∷ (record { space = codes "urn:e"; name = codes "color" }, codes "a&b")
    ∷ (in_caldav (codes "calendar-description"), codes "d")
    ∷ (in_caldav (codes "calendar-timezone"), zone_text)
    ∷ []

abbrev grant : Who → ℕ → Grant
grant who bits = record { who = who; held = record { 0 = bits } }

abbrev shared : ServerState
shared = alice_keeps 2104 ((
  codes "calendar",
  record {
    grants = grant (to.Principal 1) 67 ∷ grant (to.Principal 2) 317 ∷ grant to.Everyone 16 ∷ grant to.Owner 511 ∷ [];
    kinds = 15;
    texts = texts;
    objects = (codes "one.ics", one_octets) ∷ [];
  },
) ∷ [])

-- a name of each row of the table, of texts, and of what is not there
abbrev names : List PropName
names =
    in_dav (codes "resourcetype")
    ∷ in_dav (codes "current-user-principal")
    ∷ in_dav (codes "owner")
    ∷ in_dav (codes "current-user-privilege-set")
    ∷ in_dav (codes "displayname")
    ∷ in_dav (codes "principal-URL")
    ∷ in_caldav (codes "calendar-home-set")
    ∷ in_dav (codes "group-member-set")
    ∷ in_dav (codes "group-membership")
    ∷ in_dav (codes "getetag")
    ∷ in_dav (codes "getcontenttype")
    ∷ in_dav (codes "getcontentlength")
    ∷ in_caldav (codes "calendar-data")
    ∷ in_caldav (codes "calendar-description")
    ∷ in_caldav (codes "calendar-timezone")
    ∷ in_caldav (codes "supported-calendar-component-set")
    ∷ in_caldav (codes "supported-calendar-data")
    ∷ in_caldav (codes "max-resource-size")
    ∷ in_caldav (codes "min-date-time")
    ∷ in_caldav (codes "max-date-time")
    ∷ in_caldav (codes "max-instances")
    ∷ in_dav (codes "supported-report-set")
    ∷ in_dav (codes "acl")
    ∷ record { space = codes "urn:e"; name = codes "color" }
    ∷ in_dav (codes "getlastmodified")
    ∷ record { space = []; name = codes "nothing" }
    ∷ []

-- the root
root_names : reply_to three shared (asked 0 method.Propfind path.Root 0 (content.Find (props.Some names) true)) ≡ found_with (codes "<D:response><D:href>/</D:href><D:propstat><D:prop><D:resourcetype><D:collection/></D:resourcetype><D:current-user-principal><D:href>/principals/alice/</D:href></D:current-user-principal></D:prop><D:status>HTTP/1.1 200 OK</D:status></D:propstat><D:propstat><D:prop><D:owner/><D:current-user-privilege-set/><D:displayname/><D:principal-URL/><C:calendar-home-set/><D:group-member-set/><D:group-membership/><D:getetag/><D:getcontenttype/><D:getcontentlength/><C:calendar-data/><C:calendar-description/><C:calendar-timezone/><C:supported-calendar-component-set/><C:supported-calendar-data/><C:max-resource-size/><C:min-date-time/><C:max-date-time/><C:max-instances/><D:supported-report-set/><D:acl/><x:color xmlns:x=\"urn:e\"/><D:getlastmodified/><nothing/></D:prop><D:status>HTTP/1.1 404 Not Found</D:status></D:propstat></D:response>")
unfolding outcome privileges_held reading_reply shared_rows scene_at change_of effect properties answer put_table target_path document segment reason xml_text attribute_text percent_encode_byte percent_decode digits is_utf8 chars encode counted_from date_of time_of date_time_of count_of integer_of length_of offset_of stamps_in_grammar periods_in_grammar trigger_of rule_in_grammar year_of month_of day_of_month offset_at exists_in instant_of N.out-Node N.roll-Node B.shown-the_row-Node-0 B.hidden-the_row-Node-0 B.shape-the_row-Node-0 H.out H.roll H.shown H.hidden
root_names = refl

-- a principal
principal_names : reply_to three shared (asked 1 method.Propfind (path.Principal (codes "alice")) 0 (content.Find (props.Some names) true)) ≡ found_with (codes "<D:response><D:href>/principals/alice/</D:href><D:propstat><D:prop><D:resourcetype><D:collection/><D:principal/></D:resourcetype><D:current-user-principal><D:href>/principals/bob/</D:href></D:current-user-principal><D:displayname>alice</D:displayname><D:principal-URL><D:href>/principals/alice/</D:href></D:principal-URL><C:calendar-home-set><D:href>/calendars/alice/</D:href></C:calendar-home-set><D:group-membership/></D:prop><D:status>HTTP/1.1 200 OK</D:status></D:propstat><D:propstat><D:prop><D:owner/><D:current-user-privilege-set/><D:group-member-set/><D:getetag/><D:getcontenttype/><D:getcontentlength/><C:calendar-data/><C:calendar-description/><C:calendar-timezone/><C:supported-calendar-component-set/><C:supported-calendar-data/><C:max-resource-size/><C:min-date-time/><C:max-date-time/><C:max-instances/><D:supported-report-set/><D:acl/><x:color xmlns:x=\"urn:e\"/><D:getlastmodified/><nothing/></D:prop><D:status>HTTP/1.1 404 Not Found</D:status></D:propstat></D:response>")
unfolding outcome privileges_held reading_reply shared_rows scene_at change_of effect properties answer put_table target_path document segment reason xml_text attribute_text percent_encode_byte percent_decode digits is_utf8 chars encode counted_from date_of time_of date_time_of count_of integer_of length_of offset_of stamps_in_grammar periods_in_grammar trigger_of rule_in_grammar year_of month_of day_of_month offset_at exists_in instant_of N.out-Node N.roll-Node B.shown-the_row-Node-0 B.hidden-the_row-Node-0 B.shape-the_row-Node-0 H.out H.roll H.shown H.hidden
principal_names = refl

-- groups: the members of one, and those that a user is in
abbrev teams : Directory
teams = record three { groups = record { name = codes "team"; members = 1 ∷ 2 ∷ [] } ∷ record { name = codes "own"; members = 0 ∷ 1 ∷ [] } ∷ [] }

abbrev of_principals : List PropName
of_principals =
    in_dav (codes "displayname")
    ∷ in_dav (codes "principal-URL")
    ∷ in_caldav (codes "calendar-home-set")
    ∷ in_dav (codes "group-member-set")
    ∷ in_dav (codes "group-membership")
    ∷ []

members_of_group : reply_to teams shared (asked 0 method.Propfind (path.Principal (codes "team")) 0 (content.Find (props.Some of_principals) false)) ≡ found_with (codes "<D:response><D:href>/principals/team/</D:href><D:propstat><D:prop><D:displayname>team</D:displayname><D:principal-URL><D:href>/principals/team/</D:href></D:principal-URL><D:group-member-set><D:href>/principals/bob/</D:href><D:href>/principals/carol/</D:href></D:group-member-set><D:group-membership/></D:prop><D:status>HTTP/1.1 200 OK</D:status></D:propstat><D:propstat><D:prop><C:calendar-home-set/></D:prop><D:status>HTTP/1.1 404 Not Found</D:status></D:propstat></D:response>")
unfolding outcome privileges_held reading_reply shared_rows scene_at change_of effect properties answer put_table target_path document segment reason xml_text attribute_text percent_encode_byte percent_decode digits is_utf8 chars encode counted_from date_of time_of date_time_of count_of integer_of length_of offset_of stamps_in_grammar periods_in_grammar trigger_of rule_in_grammar year_of month_of day_of_month offset_at exists_in instant_of N.out-Node N.roll-Node B.shown-the_row-Node-0 B.hidden-the_row-Node-0 B.shape-the_row-Node-0 H.out H.roll H.shown H.hidden
members_of_group = refl

groups_of_user : reply_to teams shared (asked 0 method.Propfind (path.Principal (codes "bob")) 0 (content.Find (props.Some of_principals) false)) ≡ found_with (codes "<D:response><D:href>/principals/bob/</D:href><D:propstat><D:prop><D:displayname>bob</D:displayname><D:principal-URL><D:href>/principals/bob/</D:href></D:principal-URL><C:calendar-home-set><D:href>/calendars/bob/</D:href></C:calendar-home-set><D:group-membership><D:href>/principals/team/</D:href><D:href>/principals/own/</D:href></D:group-membership></D:prop><D:status>HTTP/1.1 200 OK</D:status></D:propstat><D:propstat><D:prop><D:group-member-set/></D:prop><D:status>HTTP/1.1 404 Not Found</D:status></D:propstat></D:response>")
unfolding outcome privileges_held reading_reply shared_rows scene_at change_of effect properties answer put_table target_path document segment reason xml_text attribute_text percent_encode_byte percent_decode digits is_utf8 chars encode counted_from date_of time_of date_time_of count_of integer_of length_of offset_of stamps_in_grammar periods_in_grammar trigger_of rule_in_grammar year_of month_of day_of_month offset_at exists_in instant_of N.out-Node N.roll-Node B.shown-the_row-Node-0 B.hidden-the_row-Node-0 B.shape-the_row-Node-0 H.out H.roll H.shown H.hidden
groups_of_user = refl

-- a calendar and the object in it, of its owner
calendar_names : reply_to three shared (asked 0 method.Propfind own 0 (content.Find (props.Some names) true)) ≡ found_with (codes "<D:response><D:href>/calendars/alice/calendar/</D:href><D:propstat><D:prop><D:resourcetype><D:collection/><C:calendar/></D:resourcetype><D:current-user-principal><D:href>/principals/alice/</D:href></D:current-user-principal><D:owner><D:href>/principals/alice/</D:href></D:owner><D:current-user-privilege-set><D:privilege><C:read-free-busy/></D:privilege><D:privilege><D:read/></D:privilege><D:privilege><D:write-content/></D:privilege><D:privilege><D:write-properties/></D:privilege><D:privilege><D:bind/></D:privilege><D:privilege><D:unbind/></D:privilege><D:privilege><D:read-acl/></D:privilege><D:privilege><D:write-acl/></D:privilege><D:privilege><D:read-current-user-privilege-set/></D:privilege><D:privilege><D:write/></D:privilege><D:privilege><D:all/></D:privilege></D:current-user-privilege-set><D:displayname>calendar</D:displayname><C:calendar-description>d</C:calendar-description><C:calendar-timezone>BEGIN:VCALENDAR&#13;\nBEGIN:VTIMEZONE&#13;\nTZID:X&#13;\nBEGIN:STANDARD&#13;\nDTSTART:16010101T000000&#13;\nTZOFFSETFROM:+0100&#13;\nTZOFFSETTO:+0100&#13;\nEND:STANDARD&#13;\nEND:VTIMEZONE&#13;\nEND:VCALENDAR&#13;\n</C:calendar-timezone><C:supported-calendar-component-set><C:comp name=\"VEVENT\"/><C:comp name=\"VTODO\"/><C:comp name=\"VJOURNAL\"/><C:comp name=\"VFREEBUSY\"/></C:supported-calendar-component-set><C:supported-calendar-data><C:calendar-data content-type=\"text/calendar\" version=\"2.0\"/></C:supported-calendar-data><C:max-resource-size>262144</C:max-resource-size><C:min-date-time>16000101T000000Z</C:min-date-time><C:max-date-time>21001231T235959Z</C:max-date-time><C:max-instances>250000</C:max-instances><D:supported-report-set><D:supported-report><D:report><C:calendar-query/></D:report></D:supported-report><D:supported-report><D:report><C:calendar-multiget/></D:report></D:supported-report><D:supported-report><D:report><C:free-busy-query/></D:report></D:supported-report></D:supported-report-set><D:acl><D:ace><D:principal><D:property><D:owner/></D:property></D:principal><D:grant><D:privilege><D:all/></D:privilege></D:grant><D:protected/></D:ace><D:ace><D:principal><D:href>/principals/bob/</D:href></D:principal><D:grant><D:privilege><C:read-free-busy/></D:privilege><D:privilege><D:read/></D:privilege><D:privilege><D:read-acl/></D:privilege></D:grant></D:ace><D:ace><D:principal><D:href>/principals/carol/</D:href></D:principal><D:grant><D:privilege><C:read-free-busy/></D:privilege><D:privilege><D:write-content/></D:privilege><D:privilege><D:write-properties/></D:privilege><D:privilege><D:bind/></D:privilege><D:privilege><D:unbind/></D:privilege><D:privilege><D:read-current-user-privilege-set/></D:privilege></D:grant></D:ace><D:ace><D:principal><D:all/></D:principal><D:grant><D:privilege><D:bind/></D:privilege></D:grant></D:ace><D:ace><D:principal><D:property><D:owner/></D:property></D:principal><D:grant><D:privilege><C:read-free-busy/></D:privilege><D:privilege><D:read/></D:privilege><D:privilege><D:write-content/></D:privilege><D:privilege><D:write-properties/></D:privilege><D:privilege><D:bind/></D:privilege><D:privilege><D:unbind/></D:privilege><D:privilege><D:read-acl/></D:privilege><D:privilege><D:write-acl/></D:privilege><D:privilege><D:read-current-user-privilege-set/></D:privilege></D:grant></D:ace></D:acl><x:color xmlns:x=\"urn:e\">a&amp;b</x:color></D:prop><D:status>HTTP/1.1 200 OK</D:status></D:propstat><D:propstat><D:prop><D:principal-URL/><C:calendar-home-set/><D:group-member-set/><D:group-membership/><D:getetag/><D:getcontenttype/><D:getcontentlength/><C:calendar-data/><D:getlastmodified/><nothing/></D:prop><D:status>HTTP/1.1 404 Not Found</D:status></D:propstat></D:response><D:response><D:href>/calendars/alice/calendar/one.ics</D:href><D:propstat><D:prop><D:resourcetype/><D:current-user-principal><D:href>/principals/alice/</D:href></D:current-user-principal><D:owner><D:href>/principals/alice/</D:href></D:owner><D:getetag>\"bc70c6ac63dee6148893d0646c9678768339b568fabb878651760f85551d629a\"</D:getetag><D:getcontenttype>text/calendar; charset=utf-8</D:getcontenttype><D:getcontentlength>117</D:getcontentlength></D:prop><D:status>HTTP/1.1 200 OK</D:status></D:propstat><D:propstat><D:prop><D:current-user-privilege-set/><D:displayname/><D:principal-URL/><C:calendar-home-set/><D:group-member-set/><D:group-membership/><C:calendar-data/><C:calendar-description/><C:calendar-timezone/><C:supported-calendar-component-set/><C:supported-calendar-data/><C:max-resource-size/><C:min-date-time/><C:max-date-time/><C:max-instances/><D:supported-report-set/><D:acl/><x:color xmlns:x=\"urn:e\"/><D:getlastmodified/><nothing/></D:prop><D:status>HTTP/1.1 404 Not Found</D:status></D:propstat></D:response>")
unfolding outcome privileges_held reading_reply shared_rows scene_at change_of effect properties answer put_table target_path document segment reason xml_text attribute_text percent_encode_byte percent_decode digits is_utf8 chars encode counted_from date_of time_of date_time_of count_of integer_of length_of offset_of stamps_in_grammar periods_in_grammar trigger_of rule_in_grammar year_of month_of day_of_month offset_at exists_in instant_of N.out-Node N.roll-Node B.shown-the_row-Node-0 B.hidden-the_row-Node-0 B.shape-the_row-Node-0 H.out H.roll H.shown H.hidden etag_of encode_with first_words schedule rounds compress hash_after digest_bytes sha256
calendar_names = refl

-- an object, of a user who may read it
object_names : reply_to three shared (asked 1 method.Propfind (own_object (codes "one.ics")) 0 (content.Find (props.Some names) true)) ≡ found_with (codes "<D:response><D:href>/calendars/alice/calendar/one.ics</D:href><D:propstat><D:prop><D:resourcetype/><D:current-user-principal><D:href>/principals/bob/</D:href></D:current-user-principal><D:owner><D:href>/principals/alice/</D:href></D:owner><D:getetag>\"bc70c6ac63dee6148893d0646c9678768339b568fabb878651760f85551d629a\"</D:getetag><D:getcontenttype>text/calendar; charset=utf-8</D:getcontenttype><D:getcontentlength>117</D:getcontentlength></D:prop><D:status>HTTP/1.1 200 OK</D:status></D:propstat><D:propstat><D:prop><D:current-user-privilege-set/><D:displayname/><D:principal-URL/><C:calendar-home-set/><D:group-member-set/><D:group-membership/><C:calendar-data/><C:calendar-description/><C:calendar-timezone/><C:supported-calendar-component-set/><C:supported-calendar-data/><C:max-resource-size/><C:min-date-time/><C:max-date-time/><C:max-instances/><D:supported-report-set/><D:acl/><x:color xmlns:x=\"urn:e\"/><D:getlastmodified/><nothing/></D:prop><D:status>HTTP/1.1 404 Not Found</D:status></D:propstat></D:response>")
unfolding outcome privileges_held reading_reply shared_rows scene_at change_of effect properties answer put_table target_path document segment reason xml_text attribute_text percent_encode_byte percent_decode digits is_utf8 chars encode counted_from date_of time_of date_time_of count_of integer_of length_of offset_of stamps_in_grammar periods_in_grammar trigger_of rule_in_grammar year_of month_of day_of_month offset_at exists_in instant_of N.out-Node N.roll-Node B.shown-the_row-Node-0 B.hidden-the_row-Node-0 B.shape-the_row-Node-0 H.out H.roll H.shown H.hidden etag_of encode_with first_words schedule rounds compress hash_after digest_bytes sha256
object_names = refl

-- a calendar, of a user who may not read it: nothing shows which texts are there, and no object is listed
calendar_without_read : reply_to three shared (asked 2 method.Propfind own 0 (content.Find (props.Some names) true)) ≡ found_with (codes "<D:response><D:href>/calendars/alice/calendar/</D:href><D:propstat><D:prop><D:resourcetype><D:collection/><C:calendar/></D:resourcetype><D:current-user-principal><D:href>/principals/carol/</D:href></D:current-user-principal><D:owner><D:href>/principals/alice/</D:href></D:owner><D:current-user-privilege-set><D:privilege><C:read-free-busy/></D:privilege><D:privilege><D:write-content/></D:privilege><D:privilege><D:write-properties/></D:privilege><D:privilege><D:bind/></D:privilege><D:privilege><D:unbind/></D:privilege><D:privilege><D:read-current-user-privilege-set/></D:privilege><D:privilege><D:write/></D:privilege></D:current-user-privilege-set></D:prop><D:status>HTTP/1.1 200 OK</D:status></D:propstat><D:propstat><D:prop><D:principal-URL/><C:calendar-home-set/><D:group-member-set/><D:group-membership/><D:getetag/><D:getcontenttype/><D:getcontentlength/><C:calendar-data/></D:prop><D:status>HTTP/1.1 404 Not Found</D:status></D:propstat><D:propstat><D:prop><D:displayname/><C:calendar-description/><C:calendar-timezone/><C:supported-calendar-component-set/><C:supported-calendar-data/><C:max-resource-size/><C:min-date-time/><C:max-date-time/><C:max-instances/><D:supported-report-set/><D:acl/><x:color xmlns:x=\"urn:e\"/><D:getlastmodified/><nothing/></D:prop><D:status>HTTP/1.1 403 Forbidden</D:status></D:propstat></D:response>")
unfolding outcome privileges_held reading_reply shared_rows scene_at change_of effect properties answer put_table target_path document segment reason xml_text attribute_text percent_encode_byte percent_decode digits is_utf8 chars encode counted_from date_of time_of date_time_of count_of integer_of length_of offset_of stamps_in_grammar periods_in_grammar trigger_of rule_in_grammar year_of month_of day_of_month offset_at exists_in instant_of N.out-Node N.roll-Node B.shown-the_row-Node-0 B.hidden-the_row-Node-0 B.shape-the_row-Node-0 H.out H.roll H.shown H.hidden
calendar_without_read = refl

-- what allprop lists
all_of_calendar : reply_to three shared (asked 0 method.Propfind own 0 (content.Find props.All true)) ≡ found_with (codes "<D:response><D:href>/calendars/alice/calendar/</D:href><D:propstat><D:prop><D:resourcetype><D:collection/><C:calendar/></D:resourcetype><D:displayname>calendar</D:displayname><x:z xmlns:x=\"urn:a\">z</x:z><x:bare xmlns:x=\"urn:e\"/><x:color xmlns:x=\"urn:e\">a&amp;b</x:color></D:prop><D:status>HTTP/1.1 200 OK</D:status></D:propstat></D:response><D:response><D:href>/calendars/alice/calendar/one.ics</D:href><D:propstat><D:prop><D:resourcetype/><D:getetag>\"bc70c6ac63dee6148893d0646c9678768339b568fabb878651760f85551d629a\"</D:getetag><D:getcontenttype>text/calendar; charset=utf-8</D:getcontenttype><D:getcontentlength>117</D:getcontentlength></D:prop><D:status>HTTP/1.1 200 OK</D:status></D:propstat></D:response>")
unfolding outcome privileges_held reading_reply shared_rows scene_at change_of effect properties answer put_table target_path document segment reason xml_text attribute_text percent_encode_byte percent_decode digits is_utf8 chars encode counted_from date_of time_of date_time_of count_of integer_of length_of offset_of stamps_in_grammar periods_in_grammar trigger_of rule_in_grammar year_of month_of day_of_month offset_at exists_in instant_of N.out-Node N.roll-Node B.shown-the_row-Node-0 B.hidden-the_row-Node-0 B.shape-the_row-Node-0 H.out H.roll H.shown H.hidden etag_of encode_with first_words schedule rounds compress hash_after digest_bytes sha256
all_of_calendar = refl

-- what propname lists
names_of_calendar : reply_to three shared (asked 0 method.Propfind own 0 (content.Find props.Names true)) ≡ found_with (codes "<D:response><D:href>/calendars/alice/calendar/</D:href><D:propstat><D:prop><D:resourcetype/><D:current-user-principal/><D:owner/><D:current-user-privilege-set/><D:displayname/><C:calendar-description/><C:calendar-timezone/><C:supported-calendar-component-set/><C:supported-calendar-data/><C:max-resource-size/><C:min-date-time/><C:max-date-time/><C:max-instances/><D:supported-report-set/><D:acl/><x:z xmlns:x=\"urn:a\"/><x:bare xmlns:x=\"urn:e\"/><x:color xmlns:x=\"urn:e\"/></D:prop><D:status>HTTP/1.1 200 OK</D:status></D:propstat></D:response><D:response><D:href>/calendars/alice/calendar/one.ics</D:href><D:propstat><D:prop><D:resourcetype/><D:current-user-principal/><D:owner/><D:getetag/><D:getcontenttype/><D:getcontentlength/></D:prop><D:status>HTTP/1.1 200 OK</D:status></D:propstat></D:response>")
unfolding outcome privileges_held reading_reply shared_rows scene_at change_of effect properties answer put_table target_path document segment reason xml_text attribute_text percent_encode_byte percent_decode digits is_utf8 chars encode counted_from date_of time_of date_time_of count_of integer_of length_of offset_of stamps_in_grammar periods_in_grammar trigger_of rule_in_grammar year_of month_of day_of_month offset_at exists_in instant_of N.out-Node N.roll-Node B.shown-the_row-Node-0 B.hidden-the_row-Node-0 B.shape-the_row-Node-0 H.out H.roll H.shown H.hidden etag_of encode_with first_words schedule rounds compress hash_after digest_bytes sha256
names_of_calendar = refl

-- and what it lists without read
names_without_read : reply_to three shared (asked 2 method.Propfind own 0 (content.Find props.Names true)) ≡ found_with (codes "<D:response><D:href>/calendars/alice/calendar/</D:href><D:propstat><D:prop><D:resourcetype/><D:current-user-principal/><D:owner/><D:current-user-privilege-set/></D:prop><D:status>HTTP/1.1 200 OK</D:status></D:propstat></D:response>")
unfolding outcome privileges_held reading_reply shared_rows scene_at change_of effect properties answer put_table target_path document segment reason xml_text attribute_text percent_encode_byte percent_decode digits is_utf8 chars encode counted_from date_of time_of date_time_of count_of integer_of length_of offset_of stamps_in_grammar periods_in_grammar trigger_of rule_in_grammar year_of month_of day_of_month offset_at exists_in instant_of N.out-Node N.roll-Node B.shown-the_row-Node-0 B.hidden-the_row-Node-0 B.shape-the_row-Node-0 H.out H.roll H.shown H.hidden
names_without_read = refl

-- no properties at all
empty_prop : reply_to three shared (asked 0 method.Propfind own 0 (content.Find (props.Some []) false)) ≡ found_with (codes "<D:response><D:href>/calendars/alice/calendar/</D:href></D:response>")
unfolding outcome privileges_held reading_reply shared_rows scene_at change_of effect properties answer put_table target_path document segment reason xml_text attribute_text percent_encode_byte percent_decode digits is_utf8 chars encode counted_from date_of time_of date_time_of count_of integer_of length_of offset_of stamps_in_grammar periods_in_grammar trigger_of rule_in_grammar year_of month_of day_of_month offset_at exists_in instant_of N.out-Node N.roll-Node B.shown-the_row-Node-0 B.hidden-the_row-Node-0 B.shape-the_row-Node-0 H.out H.roll H.shown H.hidden
empty_prop = refl
