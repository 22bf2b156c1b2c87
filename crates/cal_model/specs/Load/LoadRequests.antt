-- What the sessions of the command `load` ask: each puts drawn events into its own calendar, and asks for busy times and for events. The draws and texts are this project's own.
-- Given: how many events each session puts, and the number of a session. The requests are given as they are meant; how they are spelled is no part of what is printed.
use Rattle.std.specs.Prelude.{ℕ, zero, suc, ◌+◌, ◌*◌, ◌/◌, ◌%◌, ◌^◌, true, false, ◌==◌, if◌then◌else◌, List, [], ◌∷◌, ◌++◌, length, flat_map, codes, decimal, pos, None, Some}
use Rattle.std.specs.List.{range_with_len}
use Rattle.cal_moment.specs.Texts.{digits}
use Rattle.cal_model.specs.declared.filter.CompFilter.{CompFilter}
use Rattle.cal_model.specs.declared.filter.CompFilter.TheViews.{roll-CompFilter}
use Rattle.cal_model.specs.declared.path.Path.TheVariants.{Calendar, Object}
use Rattle.cal_model.specs.declared.property.Props.TheVariants.{Some as SomeProps}
use Rattle.cal_model.specs.declared.report.ReportRequest.{ReportRequest}
use Rattle.cal_model.specs.declared.report.ReportRequest.TheVariants.{Query, FreeBusy}
use Rattle.cal_model.specs.declared.request.Content.TheVariants as content
use Rattle.cal_model.specs.declared.request.Method.TheVariants.{Put, Report}
use Rattle.cal_model.specs.declared.request.Request.{Request}
use Rattle.cal_model.specs.declared.row.Range.{Range}
use Rattle.cal_model.specs.declared.selection.Recur.TheVariants.{Whole}
use Rattle.cal_model.specs.Busy.FreeBusyText.{utc_text}
use Rattle.cal_model.specs.Properties.PropertyTable.{in_dav, in_caldav}
use Rattle.cal_model.specs.Words.TextLines.{lines_text}

-- the clock of every session, 1 January 2025
abbrev pub load_moment : ℕ
load_moment = 1_735_689_600

-- Draws

abbrev pub next_draw : ℕ → ℕ
next_draw x = (x * 6_364_136_223_846_793_005 + 1_442_695_040_888_963_407) % 2 ^ 64

abbrev pub drawn_below : ℕ → ℕ → ℕ
drawn_below most x = x / 2 ^ 33 % most

-- the number from which a session draws, after so many draws
abbrev pub after_draws : ℕ → ℕ → ℕ
after_draws zero x = x
after_draws (suc n) x = after_draws n (next_draw x)

abbrev pub first_number : ℕ → ℕ → ℕ
first_number puts session = 64 * puts + session

-- the draw of a place, counted from 0, below a number
abbrev pub draw : ℕ → ℕ → ℕ → ℕ → ℕ
draw puts session place most = drawn_below most (after_draws (place + 1) (first_number puts session))

-- Events

-- how an event recurs, by the number drawn
abbrev pub rule_lines : ℕ → List (List ℕ)
rule_lines form =
    if form == 1 then codes "RRULE:FREQ=DAILY;COUNT=30" ∷ []
    else (if form == 2 then codes "RRULE:FREQ=WEEKLY;COUNT=52" ∷ []
    else (if form == 3 then codes "RRULE:FREQ=MONTHLY;COUNT=24" ∷ [] else []))

abbrev pub load_body : ℕ → ℕ → ℕ → ℕ → ℕ → List ℕ
load_body k day hour form minutes = lines_text (
    codes "BEGIN:VCALENDAR" ∷ codes "VERSION:2.0" ∷ codes "PRODID:-//caldav_server//EN" ∷ codes "BEGIN:VEVENT"
    ∷ (codes "UID:" ++ decimal k) ∷ codes "DTSTAMP:20250101T000000Z"
    ∷ (codes "DTSTART:" ++ utc_text (pos (load_moment + 86_400 * day + 3600 * hour)))
    ∷ (codes "DURATION:PT" ++ (decimal (minutes + 1) ++ codes "M")) ∷ (rule_lines form ++ (codes "END:VEVENT" ∷ codes "END:VCALENDAR" ∷ [])))

-- the body of put number k of a session
abbrev pub drawn_body : ℕ → ℕ → ℕ → List ℕ
drawn_body puts session k =
    load_body k (draw puts session (4 * k) 365) (draw puts session (4 * k + 1) 24) (draw puts session (4 * k + 2) 4) (draw puts session (4 * k + 3) 180)

-- Requests

abbrev pub load_user : ℕ → List ℕ
load_user session = codes "u" ++ digits 2 session

abbrev pub put_of : ℕ → ℕ → ℕ → Request
put_of puts session k = record {
  method = Put;
  path = Object (load_user session) (codes "calendar") (decimal k ++ codes ".ics");
  if_match = None;
  if_none = None;
  size = length (drawn_body puts session k);
  content = content.Put true (drawn_body puts session k);
}

abbrev pub seconds : ℕ → ℕ → Range
seconds start end = record { start = record { 0 = pos start }; end = record { 0 = pos end } }

abbrev pub report_of : ℕ → ℕ → ReportRequest → Request
report_of session size report = record {
  method = Report;
  path = Calendar (load_user session) (codes "calendar");
  if_match = None;
  if_none = None;
  size = size;
  content = content.Report report;
}

-- a query for the events that a range meets, with entity tags and stored octets
abbrev pub calendar_filter : CompFilter → CompFilter
calendar_filter inner = roll-CompFilter (record { name = codes "VCALENDAR"; absent = false; time = None; props = []; comps = inner ∷ [] })

abbrev pub event_filter : Range → CompFilter
event_filter range = roll-CompFilter (record { name = codes "VEVENT"; absent = false; time = Some range; props = []; comps = [] })

abbrev pub events_in : Range → ReportRequest
events_in range =
    Query (SomeProps (in_dav (codes "getetag") ∷ in_caldav (codes "calendar-data") ∷ [])) (record { comp = None; recur = Whole; busy = None })
    (record { top = calendar_filter (event_filter range) }) None

-- after each tenth put the busy times of the year 2025, and the events of March
abbrev pub asked_after : ℕ → ℕ → List Request
asked_after session k =
    if (k + 1) % 10 == 0
    then report_of session 142 (FreeBusy (seconds 1_735_689_600 1_767_225_600)) ∷ report_of session 316 (events_in (seconds 1_740_787_200 1_743_465_600)) ∷ []
    else []

abbrev pub requests_of : ℕ → ℕ → List Request
requests_of puts session = flat_map (λ k. put_of puts session k ∷ asked_after session k) (range_with_len 0 puts)
