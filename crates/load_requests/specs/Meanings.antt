-- The request that is meant, of a user's calendar.
use Rattle.std.specs.Prelude.{ℕ, List, true, length, codes, None}
use Rattle.cal_model.specs.declared.path.Path.TheVariants.{Calendar, Object}
use Rattle.cal_model.specs.declared.report.ReportRequest.{ReportRequest}
use Rattle.cal_model.specs.declared.report.ReportRequest.TheVariants.{FreeBusy}
use Rattle.cal_model.specs.declared.request.Content.TheVariants as content
use Rattle.cal_model.specs.declared.request.Method.TheVariants.{Put as PutMethod, Report}
use Rattle.cal_model.specs.declared.request.Request.{Request}
use Rattle.cal_model.specs.Load.LoadRequests.{load_user, seconds, events_in}
use Rattle.load_requests.specs.declared.reading.Meaning.{Meaning}
use Rattle.load_requests.specs.declared.reading.Meaning.TheVariants.{Put, BusyYear, EventsOfMarch}

abbrev pub report_by : List ℕ → ℕ → ReportRequest → Request
report_by user size report = record {
  method = Report;
  path = Calendar user (codes "calendar");
  if_match = None;
  if_none = None;
  size = size;
  content = content.Report report;
}

abbrev pub put_by : List ℕ → List ℕ → List ℕ → Request
put_by user name event = record {
  method = PutMethod;
  path = Object user (codes "calendar") name;
  if_match = None;
  if_none = None;
  size = length event;
  content = content.Put true event;
}

abbrev pub meaning_of : List ℕ → Meaning → Request
meaning_of user (Put name event) = put_by user name.now event.now
meaning_of user BusyYear = report_by user 142 (FreeBusy (seconds 1_735_689_600 1_767_225_600))
meaning_of user EventsOfMarch = report_by user 316 (events_in (seconds 1_740_787_200 1_743_465_600))

-- of the user of a session
abbrev pub meant_by : ℕ → Meaning → Request
meant_by session meaning = meaning_of (load_user session) meaning
