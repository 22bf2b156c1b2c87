-- What a request that only reads costs: the rows that a report needs of the objects that it is about, and of which no piece is held (RFC 4791, 7.8 to 7.10). Any other request costs nothing.
use Rattle.std.specs.Prelude.{ℕ, List, Option, Some, None}
use Rattle.std.specs.Option.{option_map_or}
use Rattle.cal_model.specs.declared.report.ReportRequest.{ReportRequest}
use Rattle.cal_model.specs.declared.request.Content.{Content}
use Rattle.cal_model.specs.declared.request.Content.TheVariants.{Report}
use Rattle.cal_model.specs.declared.request.Event.{Event}
use Rattle.cal_model.specs.declared.request.Request.{Request}
use Rattle.cal_model.specs.History.Origins.{Origins}
use Rattle.cal_model.specs.Objects.ObjectReading.{first_there}
use Rattle.cal_model.specs.Refusals.SharedRefusals.{shared_rows}
use Rattle.cal_model.specs.Serving.Outcomes.{scene_by}
use Rattle.cal_model.specs.Sight.Scenes.{Scene, calendar_in}
use Rattle.cal_model.specs.Sight.Views.{sight_of}
use Rattle.cal_model.specs.State.ServerState.{Directory, ServerState}
use Rattle.dav_reports.specs.CalendarObjects.{entries_cost, objects_concerned}
use Rattle.dav_reports.specs.PieceRows.{Held}
use Rattle.request_checks.specs.Sightings.{user_seen}

-- the report that a request asks for
abbrev pub report_in : Content → Option ReportRequest
report_in (Report report) = Some report
report_in other = None

-- the report that is run: none where a row of the shared table refuses the request
abbrev pub report_run : Scene → Request → Option ReportRequest
report_run scene request = elim (first_there (shared_rows scene request)) [ None ↦ report_in request.content | Some refused ↦ None ]

-- what a report costs about the calendar of a name in a user's home
abbrev pub report_cost : Held → Origins → Directory → ServerState → Option ℕ → Option (List ℕ) → ReportRequest → ℕ
report_cost held origins directory state (Some home) (Some name) report = entries_cost held report (origins home name) (objects_concerned directory state home name report)
report_cost held origins directory state user name report = 0

-- what a report costs, if there is one
abbrev pub cost_of : Held → Origins → Directory → ServerState → Option ℕ → Option (List ℕ) → Option ReportRequest → ℕ
cost_of held origins directory state user name report = option_map_or (report_cost held origins directory state user name) report 0

-- What an event costs that only reads.
abbrev pub reading_cost : Held → Origins → Directory → ServerState → Event → ℕ
reading_cost held origins directory state event =
    cost_of held origins directory state (user_seen directory event.request.path) (calendar_in event.request.path) (report_run (scene_by sight_of directory state event) event.request)
