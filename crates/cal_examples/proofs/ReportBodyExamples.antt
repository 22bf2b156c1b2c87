-- Bodies of REPORT (RFC 4791, 7.8 to 7.10 and 9.5 to 9.11): what each asks for, and each refusal.
use Rattle.std.specs.Prelude.{◌≡◌, refl, ℕ, Bool, true, false, List, [], ◌∷◌, Option, Some, None, codes, ℤ, pos}
use Rattle.std.specs.Str.{is_utf8, chars}
use lib.Utf8.{encode}
use denote.Hole.Carrier as H
use Rattle.cal_base.specs.declared.element.Element.{Element}
use Rattle.cal_base.specs.declared.element.Item.{Item}
use Rattle.cal_base.specs.declared.element.Item as I
use Rattle.cal_base.specs.declared.element.Item.TheBlock as B
use Rattle.cal_base.specs.declared.element.Item.TheVariants.{Text}
use Rattle.cal_base.specs.declared.element.Attr.{Attr}
use Rattle.cal_model.specs.declared.filter.Collation.TheVariants.{AsciiCasemap, Octet}
use Rattle.cal_model.specs.declared.filter.ParamTest.TheVariants.{Text as ParamText}
use Rattle.cal_model.specs.declared.filter.PropTest.TheVariants.{Absent as NoProp, Defined as SomeProp, Time, Text as PropText}
use Rattle.cal_model.specs.declared.filter.PropFilter.{PropFilter}
use Rattle.cal_model.specs.declared.filter.CompFilter.{CompFilter}
use Rattle.cal_model.specs.declared.filter.CompFilter.TheViews.{roll-CompFilter}
use Rattle.cal_model.specs.declared.property.Props.TheVariants.{All as AllProps, None as NoProps, Some as SomeProps}
use Rattle.cal_model.specs.declared.report.ReportRequest.TheVariants.{Query, Multiget, FreeBusy}
use Rattle.cal_model.specs.declared.request.Content.{Content}
use Rattle.cal_model.specs.declared.request.Content.TheVariants.{Report, Bad}
use Rattle.cal_model.specs.declared.row.Range.{Range}
use Rattle.cal_model.specs.declared.selection.CompPick.TheViews.{roll-CompPick}
use Rattle.cal_model.specs.declared.selection.Recur.TheVariants.{Expand, Limit}
use Rattle.cal_model.specs.declared.selection.Selection.{Selection}
use Rattle.cal_model.specs.Words.Limits.{first_date, last_date}
use Rattle.cal_model.specs.Words.Namespaces.{dav, caldav}
use Rattle.cal_model.specs.Values.ValueTexts.{date_of, time_of, date_time_of}
use Rattle.cal_model.specs.Values.UtcTexts.{utc_of}
use Rattle.cal_model.specs.Bodies.DataElements.{all_data}
use Rattle.cal_model.specs.Bodies.Refusals.{bad_request, dav_refusal, caldav_refusal}
use Rattle.cal_model.specs.Bodies.ReportBodies.{report_content}
use Rattle.cal_examples.proofs.BodySamples.{attribute, dav_root, caldav_root, dav_item, caldav_item, other_item, named_item, range_item, time_range, is_not_defined, text_match, range}

-- a query with these outermost items of its filter, and with these properties
abbrev filtered : List Item → Element
filtered items = caldav_root (codes "calendar-query") (dav_item (codes "prop") (dav_item (codes "getetag") [] ∷ []) ∷ caldav_item (codes "filter") [] (named_item (codes "comp-filter") (codes "VCALENDAR") items ∷ []) ∷ [])

-- a query whose filter has one comp-filter of VEVENT with these items
abbrev events : List Item → Element
events items = filtered (named_item (codes "comp-filter") (codes "VEVENT") items ∷ [])

-- a query of all events for these items of calendar-data
abbrev events_with : List Attr → List Item → Element
events_with attrs items = caldav_root (codes "calendar-query") (dav_item (codes "prop") (caldav_item (codes "calendar-data") attrs items ∷ []) ∷ caldav_item (codes "filter") [] (named_item (codes "comp-filter") (codes "VCALENDAR") [] ∷ []) ∷ [])

-- a comp-filter that is read
abbrev comp : List ℕ → Bool → Option Range → List PropFilter → List CompFilter → CompFilter
comp name absent time props comps = roll-CompFilter (record { name = name; absent = absent; time = time; props = props; comps = comps })

-- what asks for getetag of objects with such events
abbrev asks : CompFilter → Content
asks event = Report (Query (SomeProps (record { space = dav; name = codes "getetag" } ∷ [])) all_data (record { top = comp (codes "VCALENDAR") false None [] (event ∷ []) }) None)

-- what asks for such data of all objects
abbrev asks_data : Selection → Content
asks_data select = Report (Query (SomeProps (record { space = caldav; name = codes "calendar-data" } ∷ [])) select (record { top = comp (codes "VCALENDAR") false None [] [] }) None)

abbrev start : ℤ
start = pos 1735689600

abbrev end : ℤ
end = pos 1735776000

abbrev valid_filter : Content
valid_filter = Bad (caldav_refusal (codes "valid-filter"))

-- The root

pub unknown_report : report_content (dav_root (codes "sync-collection") []) ≡ Bad (dav_refusal (codes "supported-report"))
unfolding report_content utc_of date_time_of date_of time_of is_utf8 chars encode I.out-Item I.roll-Item B.shown-the_row-Item-0 B.hidden-the_row-Item-0 B.shape-the_row-Item-0 H.out H.roll H.shown H.hidden
unknown_report = refl

pub query_without_filter : report_content (caldav_root (codes "calendar-query") []) ≡ Bad bad_request
unfolding report_content utc_of date_time_of date_of time_of is_utf8 chars encode I.out-Item I.roll-Item B.shown-the_row-Item-0 B.hidden-the_row-Item-0 B.shape-the_row-Item-0 H.out H.roll H.shown H.hidden
query_without_filter = refl

pub filter_without_component : report_content (caldav_root (codes "calendar-query") (caldav_item (codes "filter") [] [] ∷ [])) ≡ Bad bad_request
unfolding report_content utc_of date_time_of date_of time_of is_utf8 chars encode I.out-Item I.roll-Item B.shown-the_row-Item-0 B.hidden-the_row-Item-0 B.shape-the_row-Item-0 H.out H.roll H.shown H.hidden
filter_without_component = refl

-- names compare without case, and a query may ask for no property
pub query_without_properties : report_content (caldav_root (codes "calendar-query") (caldav_item (codes "filter") [] (named_item (codes "comp-filter") (codes "vcalendar") [] ∷ []) ∷ [])) ≡ Report (Query NoProps all_data (record { top = comp (codes "VCALENDAR") false None [] [] }) None)
unfolding report_content utc_of date_time_of date_of time_of is_utf8 chars encode I.out-Item I.roll-Item B.shown-the_row-Item-0 B.hidden-the_row-Item-0 B.shape-the_row-Item-0 H.out H.roll H.shown H.hidden
query_without_properties = refl

-- of allprop, propname and prop the first counts; the text of a zone is taken as it stands
pub timezone_text : report_content (caldav_root (codes "calendar-query") (dav_item (codes "allprop") [] ∷ (dav_item (codes "prop") [] ∷ (caldav_item (codes "timezone") [] (Text (codes " z ") ∷ []) ∷ (caldav_item (codes "filter") [] (named_item (codes "comp-filter") (codes "VCALENDAR") [] ∷ []) ∷ []))))) ≡ Report (Query AllProps all_data (record { top = comp (codes "VCALENDAR") false None [] [] }) (Some (codes " z ")))
unfolding report_content utc_of date_time_of date_of time_of is_utf8 chars encode I.out-Item I.roll-Item B.shown-the_row-Item-0 B.hidden-the_row-Item-0 B.shape-the_row-Item-0 H.out H.roll H.shown H.hidden
timezone_text = refl

-- Ranges of a filter (RFC 4791, 9.9)

pub range_of_events : report_content (events (time_range ∷ [])) ≡ asks (comp (codes "VEVENT") false (Some (range start end)) [] [])
unfolding report_content utc_of date_time_of date_of time_of is_utf8 chars encode I.out-Item I.roll-Item B.shown-the_row-Item-0 B.hidden-the_row-Item-0 B.shape-the_row-Item-0 H.out H.roll H.shown H.hidden
range_of_events = refl

pub range_without_end : report_content (events (caldav_item (codes "time-range") (attribute (codes "start") (codes "20250101T000000Z") ∷ []) [] ∷ [])) ≡ asks (comp (codes "VEVENT") false (Some (range start last_date)) [] [])
unfolding report_content utc_of date_time_of date_of time_of is_utf8 chars encode I.out-Item I.roll-Item B.shown-the_row-Item-0 B.hidden-the_row-Item-0 B.shape-the_row-Item-0 H.out H.roll H.shown H.hidden
range_without_end = refl

pub range_without_start : report_content (events (caldav_item (codes "time-range") (attribute (codes "end") (codes "20250102T000000Z") ∷ []) [] ∷ [])) ≡ asks (comp (codes "VEVENT") false (Some (range first_date end)) [] [])
unfolding report_content utc_of date_time_of date_of time_of is_utf8 chars encode I.out-Item I.roll-Item B.shown-the_row-Item-0 B.hidden-the_row-Item-0 B.shape-the_row-Item-0 H.out H.roll H.shown H.hidden
range_without_start = refl

pub range_without_ends : report_content (events (caldav_item (codes "time-range") [] [] ∷ [])) ≡ valid_filter
unfolding report_content utc_of date_time_of date_of time_of is_utf8 chars encode I.out-Item I.roll-Item B.shown-the_row-Item-0 B.hidden-the_row-Item-0 B.shape-the_row-Item-0 H.out H.roll H.shown H.hidden
range_without_ends = refl

-- the end lies after the start
pub range_of_no_time : report_content (events (range_item (codes "time-range") (codes "20250101T000000Z") (codes "20250101T000000Z") ∷ [])) ≡ valid_filter
unfolding report_content utc_of date_time_of date_of time_of is_utf8 chars encode I.out-Item I.roll-Item B.shown-the_row-Item-0 B.hidden-the_row-Item-0 B.shape-the_row-Item-0 H.out H.roll H.shown H.hidden
range_of_no_time = refl

pub range_not_in_utc : report_content (events (range_item (codes "time-range") (codes "20250101T000000") (codes "20250102T000000Z") ∷ [])) ≡ valid_filter
unfolding report_content utc_of date_time_of date_of time_of is_utf8 chars encode I.out-Item I.roll-Item B.shown-the_row-Item-0 B.hidden-the_row-Item-0 B.shape-the_row-Item-0 H.out H.roll H.shown H.hidden
range_not_in_utc = refl

-- the end that is absent lies before it
pub start_behind_all_dates : report_content (events (caldav_item (codes "time-range") (attribute (codes "start") (codes "21020101T000000Z") ∷ []) [] ∷ [])) ≡ valid_filter
unfolding report_content utc_of date_time_of date_of time_of is_utf8 chars encode I.out-Item I.roll-Item B.shown-the_row-Item-0 B.hidden-the_row-Item-0 B.shape-the_row-Item-0 H.out H.roll H.shown H.hidden
start_behind_all_dates = refl

-- of what is expected once the first counts, and the rest is not looked at
pub second_range : report_content (events (time_range ∷ caldav_item (codes "time-range") [] [] ∷ [])) ≡ asks (comp (codes "VEVENT") false (Some (range start end)) [] [])
unfolding report_content utc_of date_time_of date_of time_of is_utf8 chars encode I.out-Item I.roll-Item B.shown-the_row-Item-0 B.hidden-the_row-Item-0 B.shape-the_row-Item-0 H.out H.roll H.shown H.hidden
second_range = refl

pub range_of_alarms : report_content (events (named_item (codes "comp-filter") (codes "VALARM") (time_range ∷ []) ∷ [])) ≡ asks (comp (codes "VEVENT") false None [] (comp (codes "VALARM") false (Some (range start end)) [] [] ∷ []))
unfolding report_content utc_of date_time_of date_of time_of is_utf8 chars encode I.out-Item I.roll-Item B.shown-the_row-Item-0 B.hidden-the_row-Item-0 B.shape-the_row-Item-0 H.out H.roll H.shown H.hidden
range_of_alarms = refl

-- a zone has no time
pub range_of_zones : report_content (filtered (named_item (codes "comp-filter") (codes "VTIMEZONE") (time_range ∷ []) ∷ [])) ≡ valid_filter
unfolding report_content utc_of date_time_of date_of time_of is_utf8 chars encode I.out-Item I.roll-Item B.shown-the_row-Item-0 B.hidden-the_row-Item-0 B.shape-the_row-Item-0 H.out H.roll H.shown H.hidden
range_of_zones = refl

pub other_component_outermost : report_content (caldav_root (codes "calendar-query") (caldav_item (codes "filter") [] (named_item (codes "comp-filter") (codes "VEVENT") [] ∷ []) ∷ [])) ≡ valid_filter
unfolding report_content utc_of date_time_of date_of time_of is_utf8 chars encode I.out-Item I.roll-Item B.shown-the_row-Item-0 B.hidden-the_row-Item-0 B.shape-the_row-Item-0 H.out H.roll H.shown H.hidden
other_component_outermost = refl

-- Tests of properties and parameters (RFC 4791, 9.7)

pub property_there : report_content (events (named_item (codes "prop-filter") (codes "Summary") [] ∷ [])) ≡ asks (comp (codes "VEVENT") false None (record { name = codes "SUMMARY"; test = SomeProp; params = [] } ∷ []) [])
unfolding report_content utc_of date_time_of date_of time_of is_utf8 chars encode I.out-Item I.roll-Item B.shown-the_row-Item-0 B.hidden-the_row-Item-0 B.shape-the_row-Item-0 H.out H.roll H.shown H.hidden
property_there = refl

pub property_absent : report_content (events (named_item (codes "prop-filter") (codes "SUMMARY") (is_not_defined ∷ []) ∷ [])) ≡ asks (comp (codes "VEVENT") false None (record { name = codes "SUMMARY"; test = NoProp; params = [] } ∷ []) [])
unfolding report_content utc_of date_time_of date_of time_of is_utf8 chars encode I.out-Item I.roll-Item B.shown-the_row-Item-0 B.hidden-the_row-Item-0 B.shape-the_row-Item-0 H.out H.roll H.shown H.hidden
property_absent = refl

pub component_absent : report_content (filtered (named_item (codes "comp-filter") (codes "VTODO") (is_not_defined ∷ []) ∷ [])) ≡ asks (comp (codes "VTODO") true None [] [])
unfolding report_content utc_of date_time_of date_of time_of is_utf8 chars encode I.out-Item I.roll-Item B.shown-the_row-Item-0 B.hidden-the_row-Item-0 B.shape-the_row-Item-0 H.out H.roll H.shown H.hidden
component_absent = refl

pub text_of_property : report_content (events (named_item (codes "prop-filter") (codes "SUMMARY") (text_match (attribute (codes "negate-condition") (codes "yes") ∷ []) (codes "a") ∷ []) ∷ [])) ≡ asks (comp (codes "VEVENT") false None (record { name = codes "SUMMARY"; test = PropText (record { text = codes "a"; collation = AsciiCasemap; negate = true }); params = [] } ∷ []) [])
unfolding report_content utc_of date_time_of date_of time_of is_utf8 chars encode I.out-Item I.roll-Item B.shown-the_row-Item-0 B.hidden-the_row-Item-0 B.shape-the_row-Item-0 H.out H.roll H.shown H.hidden
text_of_property = refl

-- `yes` alone negates, with this case
pub text_by_octets : report_content (events (named_item (codes "prop-filter") (codes "SUMMARY") (text_match (attribute (codes "collation") (codes "i;octet") ∷ attribute (codes "negate-condition") (codes "YES") ∷ []) (codes "a") ∷ []) ∷ [])) ≡ asks (comp (codes "VEVENT") false None (record { name = codes "SUMMARY"; test = PropText (record { text = codes "a"; collation = Octet; negate = false }); params = [] } ∷ []) [])
unfolding report_content utc_of date_time_of date_of time_of is_utf8 chars encode I.out-Item I.roll-Item B.shown-the_row-Item-0 B.hidden-the_row-Item-0 B.shape-the_row-Item-0 H.out H.roll H.shown H.hidden
text_by_octets = refl

pub other_collation : report_content (events (named_item (codes "prop-filter") (codes "SUMMARY") (text_match (attribute (codes "collation") (codes "i;unicode-casemap") ∷ []) (codes "a") ∷ []) ∷ [])) ≡ Bad (caldav_refusal (codes "supported-collation"))
unfolding report_content utc_of date_time_of date_of time_of is_utf8 chars encode I.out-Item I.roll-Item B.shown-the_row-Item-0 B.hidden-the_row-Item-0 B.shape-the_row-Item-0 H.out H.roll H.shown H.hidden
other_collation = refl

pub text_of_parameter : report_content (events (named_item (codes "prop-filter") (codes "ATTENDEE") (named_item (codes "param-filter") (codes "partstat") (text_match [] (codes "x") ∷ []) ∷ []) ∷ [])) ≡ asks (comp (codes "VEVENT") false None (record { name = codes "ATTENDEE"; test = SomeProp; params = record { name = codes "PARTSTAT"; test = ParamText (record { text = codes "x"; collation = AsciiCasemap; negate = false }) } ∷ [] } ∷ []) [])
unfolding report_content utc_of date_time_of date_of time_of is_utf8 chars encode I.out-Item I.roll-Item B.shown-the_row-Item-0 B.hidden-the_row-Item-0 B.shape-the_row-Item-0 H.out H.roll H.shown H.hidden
text_of_parameter = refl

pub range_of_dated_property : report_content (events (named_item (codes "prop-filter") (codes "last-modified") (time_range ∷ []) ∷ [])) ≡ asks (comp (codes "VEVENT") false None (record { name = codes "LAST-MODIFIED"; test = Time (range start end); params = [] } ∷ []) [])
unfolding report_content utc_of date_time_of date_of time_of is_utf8 chars encode I.out-Item I.roll-Item B.shown-the_row-Item-0 B.hidden-the_row-Item-0 B.shape-the_row-Item-0 H.out H.roll H.shown H.hidden
range_of_dated_property = refl

pub range_of_text_property : report_content (events (named_item (codes "prop-filter") (codes "SUMMARY") (time_range ∷ []) ∷ [])) ≡ Bad (caldav_refusal (codes "supported-filter"))
unfolding report_content utc_of date_time_of date_of time_of is_utf8 chars encode I.out-Item I.roll-Item B.shown-the_row-Item-0 B.hidden-the_row-Item-0 B.shape-the_row-Item-0 H.out H.roll H.shown H.hidden
range_of_text_property = refl

-- of a range and a text the first counts
pub text_then_range : report_content (events (named_item (codes "prop-filter") (codes "SUMMARY") (text_match [] (codes "a") ∷ time_range ∷ []) ∷ [])) ≡ asks (comp (codes "VEVENT") false None (record { name = codes "SUMMARY"; test = PropText (record { text = codes "a"; collation = AsciiCasemap; negate = false }); params = [] } ∷ []) [])
unfolding report_content utc_of date_time_of date_of time_of is_utf8 chars encode I.out-Item I.roll-Item B.shown-the_row-Item-0 B.hidden-the_row-Item-0 B.shape-the_row-Item-0 H.out H.roll H.shown H.hidden
text_then_range = refl

pub absent_beside_test : report_content (events (named_item (codes "prop-filter") (codes "SUMMARY") (is_not_defined ∷ text_match [] (codes "a") ∷ []) ∷ [])) ≡ valid_filter
unfolding report_content utc_of date_time_of date_of time_of is_utf8 chars encode I.out-Item I.roll-Item B.shown-the_row-Item-0 B.hidden-the_row-Item-0 B.shape-the_row-Item-0 H.out H.roll H.shown H.hidden
absent_beside_test = refl

pub filter_without_name : report_content (events (caldav_item (codes "prop-filter") [] [] ∷ [])) ≡ Bad bad_request
unfolding report_content utc_of date_time_of date_of time_of is_utf8 chars encode I.out-Item I.roll-Item B.shown-the_row-Item-0 B.hidden-the_row-Item-0 B.shape-the_row-Item-0 H.out H.roll H.shown H.hidden
filter_without_name = refl

-- what is not known is passed over
pub other_elements : report_content (events (other_item (codes "x") (time_range ∷ []) ∷ [])) ≡ asks (comp (codes "VEVENT") false None [] [])
unfolding report_content utc_of date_time_of date_of time_of is_utf8 chars encode I.out-Item I.roll-Item B.shown-the_row-Item-0 B.hidden-the_row-Item-0 B.shape-the_row-Item-0 H.out H.roll H.shown H.hidden
other_elements = refl

-- What calendar-data asks for (RFC 4791, 9.6)

pub all_of_data : report_content (events_with [] []) ≡ asks_data all_data
unfolding report_content utc_of date_time_of date_of time_of is_utf8 chars encode I.out-Item I.roll-Item B.shown-the_row-Item-0 B.hidden-the_row-Item-0 B.shape-the_row-Item-0 H.out H.roll H.shown H.hidden
all_of_data = refl

pub picked_data : report_content (events_with [] (named_item (codes "comp") (codes "vcalendar") (caldav_item (codes "allprop") [] [] ∷ named_item (codes "comp") (codes "VEVENT") (caldav_item (codes "prop") (attribute (codes "name") (codes "uid") ∷ attribute (codes "novalue") (codes "yes") ∷ []) [] ∷ []) ∷ []) ∷ [])) ≡ asks_data (record all_data { comp = Some (roll-CompPick (record { name = codes "VCALENDAR"; all_props = true; props = []; all_comps = false; comps = roll-CompPick (record { name = codes "VEVENT"; all_props = false; props = record { name = codes "UID"; no_value = true } ∷ []; all_comps = false; comps = [] }) ∷ [] })) })
unfolding report_content utc_of date_time_of date_of time_of is_utf8 chars encode I.out-Item I.roll-Item B.shown-the_row-Item-0 B.hidden-the_row-Item-0 B.shape-the_row-Item-0 H.out H.roll H.shown H.hidden
picked_data = refl

pub expanded_data : report_content (events_with [] (range_item (codes "expand") (codes "20250101T000000Z") (codes "20250102T000000Z") ∷ [])) ≡ asks_data (record all_data { recur = Expand (range start end) })
unfolding report_content utc_of date_time_of date_of time_of is_utf8 chars encode I.out-Item I.roll-Item B.shown-the_row-Item-0 B.hidden-the_row-Item-0 B.shape-the_row-Item-0 H.out H.roll H.shown H.hidden
expanded_data = refl

pub limited_data : report_content (events_with [] (range_item (codes "limit-recurrence-set") (codes "20250101T000000Z") (codes "20250102T000000Z") ∷ range_item (codes "limit-freebusy-set") (codes "20250101T000000Z") (codes "20250102T000000Z") ∷ [])) ≡ asks_data (record all_data { recur = Limit (range start end); busy = Some (range start end) })
unfolding report_content utc_of date_time_of date_of time_of is_utf8 chars encode I.out-Item I.roll-Item B.shown-the_row-Item-0 B.hidden-the_row-Item-0 B.shape-the_row-Item-0 H.out H.roll H.shown H.hidden
limited_data = refl

-- 400 comes before 403, wherever both stand
pub expanded_and_limited : report_content (events_with (attribute (codes "content-type") (codes "text/html") ∷ []) (range_item (codes "expand") (codes "20250101T000000Z") (codes "20250102T000000Z") ∷ range_item (codes "limit-recurrence-set") (codes "20250101T000000Z") (codes "20250102T000000Z") ∷ [])) ≡ Bad bad_request
unfolding report_content utc_of date_time_of date_of time_of is_utf8 chars encode I.out-Item I.roll-Item B.shown-the_row-Item-0 B.hidden-the_row-Item-0 B.shape-the_row-Item-0 H.out H.roll H.shown H.hidden
expanded_and_limited = refl

pub other_content_type : report_content (events_with (attribute (codes "content-type") (codes "text/html") ∷ []) []) ≡ Bad (caldav_refusal (codes "supported-calendar-data"))
unfolding report_content utc_of date_time_of date_of time_of is_utf8 chars encode I.out-Item I.roll-Item B.shown-the_row-Item-0 B.hidden-the_row-Item-0 B.shape-the_row-Item-0 H.out H.roll H.shown H.hidden
other_content_type = refl

-- Multiget and free and busy time (RFC 4791, 9.10 and 9.11)

-- hrefs as they are sent, in order, with those that repeat
pub multiget : report_content (caldav_root (codes "calendar-multiget") (dav_item (codes "href") (Text (codes "/a") ∷ []) ∷ dav_item (codes "href") (Text (codes " /b") ∷ []) ∷ dav_item (codes "href") (Text (codes "/a") ∷ []) ∷ [])) ≡ Report (Multiget NoProps all_data (codes "/a" ∷ codes " /b" ∷ codes "/a" ∷ []))
unfolding report_content utc_of date_time_of date_of time_of is_utf8 chars encode I.out-Item I.roll-Item B.shown-the_row-Item-0 B.hidden-the_row-Item-0 B.shape-the_row-Item-0 H.out H.roll H.shown H.hidden
multiget = refl

pub multiget_without_href : report_content (caldav_root (codes "calendar-multiget") (dav_item (codes "allprop") [] ∷ [])) ≡ Bad bad_request
unfolding report_content utc_of date_time_of date_of time_of is_utf8 chars encode I.out-Item I.roll-Item B.shown-the_row-Item-0 B.hidden-the_row-Item-0 B.shape-the_row-Item-0 H.out H.roll H.shown H.hidden
multiget_without_href = refl

pub busy_time : report_content (caldav_root (codes "free-busy-query") (time_range ∷ [])) ≡ Report (FreeBusy (range start end))
unfolding report_content utc_of date_time_of date_of time_of is_utf8 chars encode I.out-Item I.roll-Item B.shown-the_row-Item-0 B.hidden-the_row-Item-0 B.shape-the_row-Item-0 H.out H.roll H.shown H.hidden
busy_time = refl

-- The order of refusals

pub nameless_before_range : report_content (events (caldav_item (codes "time-range") [] [] ∷ caldav_item (codes "prop-filter") [] [] ∷ [])) ≡ Bad bad_request
unfolding report_content utc_of date_time_of date_of time_of is_utf8 chars encode I.out-Item I.roll-Item B.shown-the_row-Item-0 B.hidden-the_row-Item-0 B.shape-the_row-Item-0 H.out H.roll H.shown H.hidden
nameless_before_range = refl

pub range_before_collation : report_content (events (named_item (codes "prop-filter") (codes "A") (text_match (attribute (codes "collation") (codes "x") ∷ []) [] ∷ []) ∷ caldav_item (codes "time-range") [] [] ∷ [])) ≡ valid_filter
unfolding report_content utc_of date_time_of date_of time_of is_utf8 chars encode I.out-Item I.roll-Item B.shown-the_row-Item-0 B.hidden-the_row-Item-0 B.shape-the_row-Item-0 H.out H.roll H.shown H.hidden
range_before_collation = refl
