-- Requests as clients send them, from the octets to what they ask for.
use Rattle.std.specs.Prelude.{◌≡◌, refl, ℕ, false, List, [], ◌∷◌, ◌++◌, Option, Some, None, codes}
use Rattle.std.specs.Str.{is_utf8, chars}
use lib.Utf8.{encode}
use denote.Hole.Carrier as H
use Rattle.cal_base.specs.declared.element.Item as I
use Rattle.cal_base.specs.declared.element.Item.TheBlock as B
use Rattle.httparse.specs.Grammar.{is_token_byte, trim_ows}
use Rattle.percent_encoding.specs.Percent.{percent_decode}
use Rattle.cal_model.specs.declared.filter.CompFilter.TheViews.{roll-CompFilter}
use Rattle.cal_model.specs.declared.filter.Filter.{Filter}
use Rattle.cal_model.specs.declared.path.Path.{Path}
use Rattle.cal_model.specs.declared.path.Path.TheVariants.{Calendar}
use Rattle.cal_model.specs.declared.property.PropName.{PropName}
use Rattle.cal_model.specs.declared.property.Props.TheVariants.{Some as SomeProps}
use Rattle.cal_model.specs.declared.report.ReportRequest.{ReportRequest}
use Rattle.cal_model.specs.declared.report.ReportRequest.TheVariants.{Query, Multiget}
use Rattle.cal_model.specs.declared.request.Content.TheVariants.{Report}
use Rattle.cal_model.specs.declared.request.Method.TheVariants.{Report as ReportMethod}
use Rattle.cal_model.specs.declared.wire.WireRequest.{WireRequest}
use Rattle.cal_model.specs.Words.Cuts.{cut_at}
use Rattle.cal_model.specs.Words.Namespaces.{dav, caldav}
use Rattle.cal_model.specs.Values.ValueTexts.{date_of, time_of, date_time_of}
use Rattle.cal_model.specs.Values.UtcTexts.{utc_of}
use Rattle.cal_model.specs.Streams.Heads.{head_end, head_of, without_empty_lines}
use Rattle.cal_model.specs.Streams.HeadFields.{read_head, wire_request}
use Rattle.cal_model.specs.Streams.StreamRequests.{front, request}
use Rattle.cal_model.specs.Paths.TargetPaths.{target_path}
use Rattle.cal_model.specs.Bodies.DataElements.{all_data}
use Rattle.cal_model.specs.Bodies.ReportBodies.{report_content}
use Rattle.cal_model.specs.Requests.AskedRequests.{Asked, asked, asked_with, content_of}

-- a REPORT of a client
abbrev report_of : List ℕ → List ℕ → Option (List ℕ) → List ℕ → WireRequest
report_of target media depth body = record { method = codes "REPORT"; target = target; close = false; authorization = None; media = Some media; coding = None; depth = depth; if_match = None; if_none = None; body = body }

abbrev home : Path
home = Calendar (codes "user1") (codes "home")

abbrev asks : Path → ℕ → ReportRequest → Asked
asks path size report = asked 0 (record { method = ReportMethod; path = path; if_match = None; if_none = None; size = size; content = Report report })

abbrev getetag : PropName
getetag = record { space = dav; name = codes "getetag" }

-- all objects with a component
abbrev objects_with : List ℕ → Filter
objects_with name = record { top = roll-CompFilter (record { name = codes "VCALENDAR"; absent = false; time = None; props = []; comps = roll-CompFilter (record { name = name; absent = false; time = None; props = []; comps = [] }) ∷ [] }) }

-- Evolution: an element of an older draft of CalDAV is passed over
abbrev evolution_body : List ℕ
evolution_body = codes "<C:calendar-query xmlns:C=\"urn:ietf:params:xml:ns:caldav\" xmlns:D=\"DAV:\">\n  <D:prop>\n    <D:getetag/>\n  </D:prop>\n  <C:filter>\n    <C:comp-filter name=\"VCALENDAR\">\n      <C:comp-filter name=\"VEVENT\">\n        <C:is-defined/>\n      </C:comp-filter>\n    </C:comp-filter>\n  </C:filter>\n</C:calendar-query>\n"

abbrev evolution : WireRequest
evolution = report_of (codes "http://h/calendars/user1/home/") (codes "text/xml") (Some (codes "1")) evolution_body

pub evolution_request : front (codes "REPORT http://h/calendars/user1/home/ HTTP/1.1\r\nDepth: 1\r\nUser-Agent: Evolution/1.8.1\r\nContent-Type: text/xml\r\nContent-Length: 302\r\n\r\n" ++ evolution_body) ≡ request evolution []
unfolding front head_end cut_at head_of read_head without_empty_lines wire_request is_token_byte trim_ows is_utf8 chars encode
evolution_request = refl

pub evolution_asks : asked_with (record { people = []; groups = [] }) evolution 0 ≡ asks home 302 (Query (SomeProps (getetag ∷ [])) all_data (objects_with (codes "VEVENT")) None)
unfolding content_of report_content target_path cut_at percent_decode trim_ows utc_of date_time_of date_of time_of is_utf8 chars encode I.out-Item I.roll-Item B.shown-the_row-Item-0 B.hidden-the_row-Item-0 B.shape-the_row-Item-0 H.out H.roll H.shown H.hidden
evolution_asks = refl

-- iCal: prefixes of its own choice
abbrev ical_body : List ℕ
ical_body = codes "<?xml version=\"1.0\" encoding=\"UTF-8\" ?>\n<x0:calendar-multiget xmlns:x0=\"urn:ietf:params:xml:ns:caldav\" xmlns:x1=\"DAV:\">\n <x1:prop>\n  <x1:getetag/>\n  <x0:calendar-data/>\n </x1:prop>\n <x1:href>/caldav.php/user1/home/AAA9318E-37D9-4319-8626-95ECD3D3B243.ics</x1:href>\n</x0:calendar-multiget>\n"

abbrev ical : WireRequest
ical = report_of (codes "http://h/calendars/user1/home/") (codes "text/xml") None ical_body

pub ical_request : front (codes "REPORT http://h/calendars/user1/home/ HTTP/1.1\r\nContent-Type: text/xml\r\nUser-Agent: DAVKit/2.0 (10.5.1; wrbt) iCal 3.0.1\r\nContent-Length: 289\r\n\r\n" ++ ical_body) ≡ request ical []
unfolding front head_end cut_at head_of read_head without_empty_lines wire_request is_token_byte trim_ows is_utf8 chars encode
ical_request = refl

pub ical_asks : asked_with (record { people = []; groups = [] }) ical 0 ≡ asks home 289 (Multiget (SomeProps (getetag ∷ record { space = caldav; name = codes "calendar-data" } ∷ [])) all_data (codes "/caldav.php/user1/home/AAA9318E-37D9-4319-8626-95ECD3D3B243.ics" ∷ []))
unfolding content_of report_content target_path cut_at percent_decode trim_ows utc_of date_time_of date_of time_of is_utf8 chars encode I.out-Item I.roll-Item B.shown-the_row-Item-0 B.hidden-the_row-Item-0 B.shape-the_row-Item-0 H.out H.roll H.shown H.hidden
ical_asks = refl

-- Sunbird: a default namespace, and a calendar whose name begins with a dot
abbrev sunbird_body : List ℕ
sunbird_body = codes "<?xml version=\"1.0\" encoding=\"UTF-8\"?>\n<calendar-query xmlns:D=\"DAV:\" xmlns=\"urn:ietf:params:xml:ns:caldav\">\n  <D:prop>\n    <D:getetag/>\n  </D:prop>\n  <filter>\n    <comp-filter name=\"VCALENDAR\">\n      <comp-filter name=\"VTODO\"/>\n    </comp-filter>\n  </filter>\n</calendar-query>\n"

abbrev sunbird : WireRequest
sunbird = report_of (codes "http://h/calendars/user1/.in/") (codes "text/xml; charset=utf-8") (Some (codes "1")) sunbird_body

pub sunbird_request : front (codes "REPORT http://h/calendars/user1/.in/ HTTP/1.1\r\nUser-Agent: Mozilla/5.0 (X11; U; Linux i686; en-US; rv:1.8.1.18pre) Gecko/20080917 Sunbird/0.9\r\nAccept: text/xml\r\nAccept-Language: en-us,en;q=0.5\r\nAccept-Charset: utf-8,*;q=0.1\r\nContent-Type: text/xml; charset=utf-8\r\nDepth: 1\r\nContent-Length: 278\r\n\r\n" ++ sunbird_body) ≡ request sunbird []
unfolding front head_end cut_at head_of read_head without_empty_lines wire_request is_token_byte trim_ows is_utf8 chars encode
sunbird_request = refl

pub sunbird_asks : asked_with (record { people = []; groups = [] }) sunbird 0 ≡ asks (Calendar (codes "user1") (codes ".in")) 278 (Query (SomeProps (getetag ∷ [])) all_data (objects_with (codes "VTODO")) None)
unfolding content_of report_content target_path cut_at percent_decode trim_ows utc_of date_time_of date_of time_of is_utf8 chars encode I.out-Item I.roll-Item B.shown-the_row-Item-0 B.hidden-the_row-Item-0 B.shape-the_row-Item-0 H.out H.roll H.shown H.hidden
sunbird_asks = refl
