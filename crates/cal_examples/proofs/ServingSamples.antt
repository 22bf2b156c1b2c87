-- What the examples of the server share: three users, states in which alice has a calendar, events, and replies in full octets.
use Rattle.std.specs.Prelude.{◌≡◌, refl, ℕ, List, [], ◌∷◌, ◌++◌, None, codes, pos, ◌+◌, Option, ℤ}
use Rattle.cal_model.specs.declared.path.Path.TheVariants as path
use Rattle.cal_model.specs.declared.reply.Media.TheVariants as media
use Rattle.cal_model.specs.declared.report.ReportRequest.TheVariants as report
use Rattle.cal_model.specs.declared.request.Content.TheVariants as content
use Rattle.cal_model.specs.State.ServerState.{Directory, Calendar, ServerState, first_calendar, first_home, opening_state}
use Rattle.cal_base.specs.Lists.NameMap.{Named}
use Rattle.cal_model.specs.declared.path.Path.{Path}
use Rattle.cal_model.specs.declared.privilege.Grant.{Grant}
use Rattle.cal_model.specs.declared.reply.Reply.{Reply}
use Rattle.cal_model.specs.declared.request.Content.{Content}
use Rattle.cal_model.specs.declared.request.Event.{Event}
use Rattle.cal_model.specs.declared.request.Method.{Method}
use Rattle.cal_model.specs.declared.request.Tags.{Tags}
use Rattle.cal_model.specs.Load.LoadRequests.{events_in}

-- alice, bob and carol
abbrev pub three : Directory
three = record { names = codes "alice" ∷ codes "bob" ∷ codes "carol" ∷ []; groups = [] }

-- alice's home has accepted so much, and has these calendars; the other homes are as at the start
abbrev pub alice_keeps : ℕ → Named Calendar → ServerState
alice_keeps cost calendars = record { homes = record { accepted = cost; calendars = calendars } ∷ first_home ∷ first_home ∷ [] }

-- the same with the one calendar of the start, with these grants and objects
abbrev pub alice_has : ℕ → List Grant → Named (List ℕ) → ServerState
alice_has cost grants objects = alice_keeps cost ((codes "calendar", record first_calendar { grants = grants; objects = objects }) ∷ [])

pub at_the_start : opening_state three ≡ alice_has 0 [] []
unfolding opening_state
at_the_start = refl

-- a request of a user, without conditions or with them, at 1741600000
abbrev pub asked_if : ℕ → Method → Path → Option Tags → Option Tags → ℕ → Content → Event
asked_if who method path if_match if_none size content = record {
  session = 0;
  who = who;
  moment = pos 1_741_600_000;
  request = record { method = method; path = path; if_match = if_match; if_none = if_none; size = size; content = content };
}

abbrev pub asked : ℕ → Method → Path → ℕ → Content → Event
asked who method path size content = asked_if who method path None None size content

-- the paths of alice's calendar, and of an object in it
abbrev pub own : Path
own = path.Calendar (codes "alice") (codes "calendar")

abbrev pub own_object : List ℕ → Path
own_object name = path.Object (codes "alice") (codes "calendar") name

-- an event from 09:00 to 10:00 on 10 March 2025, and a tentative one for five seconds from 10:00
abbrev pub one_octets : List ℕ
one_octets = codes "BEGIN:VCALENDAR\r\nBEGIN:VEVENT\r\nUID:one\r\nDTSTART:20250310T090000Z\r\nDTEND:20250310T100000Z\r\nEND:VEVENT\r\nEND:VCALENDAR\r\n"

abbrev pub one_etag : List ℕ
one_etag = codes "bc70c6ac63dee6148893d0646c9678768339b568fabb878651760f85551d629a"

abbrev pub two_octets : List ℕ
two_octets = codes "BEGIN:VCALENDAR\r\nBEGIN:VEVENT\r\nUID:two\r\nDTSTART:20250310T100000Z\r\nDTEND:20250310T100005Z\r\nSTATUS:TENTATIVE\r\nEND:VEVENT\r\nEND:VCALENDAR\r\n"

-- Replies

abbrev pub bare : ℕ → Reply
bare status = record { status = status; etag = None; allow = None; media = media.None; body = [] }

-- 403 with the element of a condition
abbrev pub refused_with : List ℕ → Reply
refused_with condition = record (bare 403) {
  media = media.Xml;
  body = codes "<?xml version=\"1.0\" encoding=\"utf-8\"?>\n<D:error xmlns:D=\"DAV:\" xmlns:C=\"urn:ietf:params:xml:ns:caldav\">" ++ (condition ++ codes "</D:error>");
}

-- 207 with responses
abbrev pub found_with : List ℕ → Reply
found_with responses = record (bare 207) {
  media = media.Xml;
  body = codes "<?xml version=\"1.0\" encoding=\"utf-8\"?>\n<D:multistatus xmlns:D=\"DAV:\" xmlns:C=\"urn:ietf:params:xml:ns:caldav\">" ++ (responses ++ codes "</D:multistatus>");
}

-- Reports

-- a time of 10 March 2025, in seconds after 09:00
abbrev pub march : ℕ → ℤ
march seconds = pos (1_741_597_200 + seconds)

abbrev pub busy_over : ℤ → ℤ → Content
busy_over start end = content.Report (report.FreeBusy (record { start = record { 0 = start }; end = record { 0 = end } }))

-- the events that a range meets, with getetag and calendar-data
abbrev pub query_over : ℤ → ℤ → Content
query_over start end = content.Report (events_in (record { start = record { 0 = start }; end = record { 0 = end } }))
