-- What is not refused is done: what only reads is answered (RFC 9110, 9.3.1 and 9.3.7; RFC 4918, 9.1; RFC 4791, 7.8 to 7.10), and changes are made (RFC 9110, 9.3; RFC 4918, 9.2; RFC 4791, 5.3; RFC 3744, 8.1).
-- Given: any request that a book can be asked, with who asks and when, and any state. The rows that refuse are those of the chapter `Refusals` of `cal_model`; want of memory is no part of this.
use Rattle.std.specs.Prelude.{◌≡◌, ◌≤◌, ℕ, ℤ, true, false, List, [], ◌∷◌, ◌++◌, All, length, Option, Some, None}
use Rattle.cal_model.specs.declared.report.ReportRequest.{ReportRequest}
use Rattle.cal_model.specs.declared.report.ReportRequest.TheVariants.{FreeBusy}
use Rattle.cal_model.specs.declared.reply.Reply.{Reply}
use Rattle.cal_model.specs.declared.request.Content.{Content}
use Rattle.cal_model.specs.declared.request.Content.TheVariants.{Find, Report}
use Rattle.cal_model.specs.declared.request.Event.{Event}
use Rattle.cal_model.specs.declared.request.Request.{Request}
use Rattle.cal_model.specs.Access.Privileges.{has_all}
use Rattle.cal_model.specs.Refusals.ReportRefusals.{report_faults}
use Rattle.cal_model.specs.Refusals.RequestLimits.{answer_limit}
use Rattle.cal_model.specs.Refusals.SharedRefusals.{shared_rows}
use Rattle.cal_model.specs.Requests.BookableRequests.{IsBookable}
use Rattle.cal_model.specs.Serving.EventReplies.{reply_to}
use Rattle.cal_model.specs.Serving.Outcomes.{accepted, accepted_status, is_reading, outcome, rows_of_change, scene_by}
use Rattle.cal_model.specs.Serving.ReadingReplies.{answer_of, report_reply, report_rows, too_long}
use Rattle.cal_model.specs.Sight.Scenes.{Scene, held_in}
use Rattle.cal_model.specs.Sight.Views.{sight_of, whole_sight}
use Rattle.cal_model.specs.State.Changes.{Change, change_of, effect}
use Rattle.cal_model.specs.State.ServerState.{Directory, ServerState}
use Rattle.cal_model.specs.Users.UsersFile.{Users}
use Rattle.dav_reports.specs.ReportOutcomes.{privilege_needed}

-- none of some rows refuses
abbrev pub NoneRefuses : {X : Type 0} → List (Option X) → Type 0
NoneRefuses rows = All (λ row. row ≡ None) rows

-- with what a report is answered (RFC 4791, 7.8 to 7.10)
abbrev pub answered_status : ReportRequest → ℕ
answered_status (FreeBusy range) = 200
answered_status other = 207

-- A report is answered, in any state, where its caller holds on the calendar what it needs, none of its own rows refuses it, and the answer is not too long.
abbrev pub ReportsAreAnswered : Type 0
ReportsAreAnswered =
    (users : Users) (directory : Directory) (state : ServerState) (event : Event) (report : ReportRequest) →
    let scene = scene_by sight_of directory state event in
    IsBookable users event.who event.request → event.request.content ≡ Report report → has_all (held_in scene) (privilege_needed report) ≡ true →
    NoneRefuses (report_faults report) → length (report_reply scene event.moment report).body ≤ answer_limit →
    (reply_to directory state event ≡ report_reply scene event.moment report) × ((reply_to directory state event).status ≡ answered_status report)

-- the rows that may refuse a request that only reads
abbrev pub rows_of_reading : Scene → ℤ → Request → List (Option Reply)
rows_of_reading scene moment request =
    shared_rows scene request ++ (report_rows request.content ++ (too_long request.method (answer_of scene moment request request.method) ∷ []))

-- with what it is answered: 207 for properties (RFC 4918, 9.1), as a report is, and 200 for the rest (RFC 9110, 9.3.1, 9.3.2 and 9.3.7)
abbrev pub reading_status : Content → ℕ
reading_status (Find props deep) = 207
reading_status (Report report) = answered_status report
reading_status other = 200

-- A request that only reads is answered, in any state, where none of these rows refuses it.
abbrev pub ReadingsAreAnswered : Type 0
ReadingsAreAnswered =
    (users : Users) (directory : Directory) (state : ServerState) (event : Event) →
    let scene = scene_by sight_of directory state event in
    let answer = answer_of scene event.moment event.request event.request.method in
    IsBookable users event.who event.request → is_reading event.request.method ≡ true → NoneRefuses (rows_of_reading scene event.moment event.request) →
    (reply_to directory state event ≡ answer) × (answer.status ≡ reading_status event.request.content)

-- A request that does more than read asks for a change; and the change is made, in any state, where none of the rows refuses the request.
abbrev pub ChangesAreMade : Type 0
ChangesAreMade =
    (users : Users) (directory : Directory) (state : ServerState) (event : Event) →
    let scene = scene_by whole_sight directory state event in
    IsBookable users event.who event.request → is_reading event.request.method ≡ false → NoneRefuses (rows_of_change state scene event.request) →
    (change : Change) × (change_of directory event.request ≡ Some change) × (outcome directory state event ≡ accepted (accepted_status scene event.request.method) (effect change state))
