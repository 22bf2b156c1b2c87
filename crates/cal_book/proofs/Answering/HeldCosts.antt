-- What is held costs nothing.
use Rattle.std.proofs.Common.{◌≡◌, ℕ, List, Option, Some, None, refl}
use Rattle.cal_model.specs.declared.report.ReportRequest.{ReportRequest}
use Rattle.cal_model.specs.History.Origins.{Origins}
use Rattle.cal_model.specs.Objects.ObjectReading.{first_there}
use Rattle.cal_model.specs.Refusals.SharedRefusals.{shared_rows}
use Rattle.cal_model.specs.Serving.Outcomes.{scene_by}
use Rattle.cal_model.specs.Sight.Scenes.{calendar_in}
use Rattle.cal_model.specs.Sight.Views.{sight_of}
use Rattle.cal_model.specs.State.ServerState.{Directory, ServerState}
use Rattle.cal_book.specs.Answering.HeldReadings.{HeldReadingsAreFree}
use Rattle.cal_book.specs.Answering.ReadingCost.{cost_of, report_in, report_run}
use Rattle.dav_reports.specs.CalendarObjects.{objects_concerned}
use Rattle.dav_reports.specs.HeldWindows.{AreNeededHeld}
use Rattle.dav_reports.specs.PieceRows.{Held}
use Rattle.dav_reports.proofs.HeldCosts.{held_reports_free}
use Rattle.request_checks.specs.Sightings.{user_seen}

run_asked : {X : Type 0} (refused : Option X) (asked : Option ReportRequest) (report : ReportRequest) → (elim refused [ None ↦ asked | Some refusal ↦ None ]) ≡ Some report → asked ≡ Some report
run_asked None asked report is = is
run_asked (Some refusal) asked report is = absurd cc

cost_free : (held : Held) (origins : Origins) (directory : Directory) (state : ServerState) (user : Option ℕ) (name : Option (List ℕ)) (run : Option ReportRequest)
    → ((report : ReportRequest) (home : ℕ) (calendar : List ℕ) → run ≡ Some report → user ≡ Some home → name ≡ Some calendar → AreNeededHeld held report (origins home calendar) (objects_concerned directory state home calendar report))
    → cost_of held origins directory state user name run ≡ 0
cost_free held origins directory state user name None there = refl
cost_free held origins directory state None name (Some report) there = refl
cost_free held origins directory state (Some home) None (Some report) there = refl
cost_free held origins directory state (Some home) (Some calendar) (Some report) there =
    held_reports_free held report (origins home calendar) (objects_concerned directory state home calendar report) (there report home calendar refl refl refl)

pub held_readings_free : HeldReadingsAreFree
held_readings_free held origins directory state event there =
    cost_free held origins directory state (user_seen directory event.request.path) (calendar_in event.request.path) (report_run (scene_by sight_of directory state event) event.request)
    (λ report home calendar run user name.
    there report home calendar
    (run_asked (first_there (shared_rows (scene_by sight_of directory state event) event.request)) (report_in event.request.content) report run) user name)
