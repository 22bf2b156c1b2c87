-- Requests that only read, where the rows that they need are held: they cost nothing.
use Rattle.std.specs.Prelude.{◌≡◌, ℕ, List, Some}
use Rattle.cal_model.specs.declared.report.ReportRequest.{ReportRequest}
use Rattle.cal_model.specs.declared.request.Event.{Event}
use Rattle.cal_model.specs.History.Origins.{Origins}
use Rattle.cal_model.specs.Sight.Scenes.{calendar_in}
use Rattle.cal_model.specs.State.ServerState.{Directory, ServerState}
use Rattle.cal_book.specs.Answering.ReadingCost.{reading_cost, report_in}
use Rattle.dav_reports.specs.CalendarObjects.{objects_concerned}
use Rattle.dav_reports.specs.HeldWindows.{AreNeededHeld}
use Rattle.dav_reports.specs.PieceRows.{Held}
use Rattle.request_checks.specs.Sightings.{user_seen}

-- If an event asks for a report, then in each window that the report needs the rows of each object that it is about are held.
abbrev pub AreRowsHeld : Held → Origins → Directory → ServerState → Event → Type 0
AreRowsHeld held origins directory state event = (report : ReportRequest) (home : ℕ) (name : List ℕ)
    → report_in event.request.content ≡ Some report → user_seen directory event.request.path ≡ Some home → calendar_in event.request.path ≡ Some name
    → AreNeededHeld held report (origins home name) (objects_concerned directory state home name report)

-- Such an event costs nothing.
abbrev pub HeldReadingsAreFree : Type 0
HeldReadingsAreFree = (held : Held) (origins : Origins) (directory : Directory) (state : ServerState) (event : Event)
    → AreRowsHeld held origins directory state event → reading_cost held origins directory state event ≡ 0
