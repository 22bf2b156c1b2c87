-- The table of a request that only reads: its shared rows, and then its own.
use Rattle.std.proofs.Common.{◌≡◌, ℕ, Bool, true, false, not, List, [], ◌∷◌, ◌++◌, Option, Some, None, refl, sym, ap, ◌∙◌}
use Rattle.std.specs.Prelude.{unwrap_or, ℤ}
use Rattle.cal_model.specs.declared.reply.Reply.{Reply}
use Rattle.cal_model.specs.declared.report.ReportRequest.{ReportRequest}
use Rattle.cal_model.specs.declared.report.ReportRequest.TheVariants.{Query, Multiget, FreeBusy}
use Rattle.cal_model.specs.declared.request.Content.TheVariants as content
use Rattle.cal_model.specs.declared.request.Method.TheVariants.{Report}
use Rattle.cal_model.specs.declared.request.Request.{Request}
use Rattle.cal_model.specs.Access.Privileges.{has_all, read, read_free_busy}
use Rattle.cal_model.specs.Objects.ObjectReading.{first_there}
use Rattle.cal_model.specs.Refusals.RefusalReplies.{when, refusal_reply, need_privileges}
use Rattle.cal_model.specs.Refusals.SharedRefusals.{fault_of, need, unmet, held, shared_rows}
use Rattle.cal_model.specs.Serving.ReadingReplies.{answer_of, reading_reply, report_rows, too_long}
use Rattle.cal_model.specs.Sight.Scenes.{Scene, held_in}
use Rattle.cal_model.proofs.History.ReplayLaws.{no_row}
use Rattle.dav_reports.specs.ReportOutcomes.{privilege_needed}
use Rattle.cal_book.specs.Answering.OwnReplies.{IsUnrefused, own_reply}

-- the first of some rows stands before others
pub first-behind : {X : Type 0} (rows more : List (Option X)) → first_there rows ≡ None → first_there (rows ++ more) ≡ first_there more
first-behind [] more none = refl
first-behind (None ∷ rows) more none = first-behind rows more none
first-behind (Some x ∷ rows) more none = absurd cc

pub first-before : {X : Type 0} (x : X) (rows more : List (Option X)) → first_there rows ≡ Some x → first_there (rows ++ more) ≡ Some x
first-before x [] more is = absurd cc
first-before x (None ∷ rows) more is = first-before x rows more is
first-before x (Some y ∷ rows) more is = is

-- A shared row that applies is the reply.
pub reading-refused : (scene : Scene) (moment : ℤ) (request : Request) (reply : Reply) → first_there (shared_rows scene request) ≡ Some reply → reading_reply scene moment request ≡ reply
unfolding reading_reply
reading-refused scene moment request reply is =
    let answered = answer_of scene moment request request.method in
    ap (λ o. unwrap_or o answered)
    (first-before reply (shared_rows scene request) (report_rows request.content ++ (too_long request.method answered ∷ [])) is)

-- Where none does, the own ones are looked at.
pub reading-unrefused : (scene : Scene) (moment : ℤ) (request : Request) → IsUnrefused scene request → reading_reply scene moment request ≡ own_reply scene moment request
unfolding reading_reply
reading-unrefused scene moment request none =
    let answered = answer_of scene moment request request.method in
    ap (λ o. unwrap_or o answered)
    (first-behind (shared_rows scene request) (report_rows request.content ++ (too_long request.method answered ∷ [])) none)

-- What an unrefused request is

-- no fault was found in it
pub unrefused-good : (scene : Scene) (request : Request) → IsUnrefused scene request → fault_of request.content ≡ None
unfolding shared_rows
unrefused-good scene request none = (no_row (shared_rows scene request) none).1.1.1.0

-- and what it needs is met
pub unrefused-met : (scene : Scene) (request : Request) → IsUnrefused scene request → unmet scene (need scene request.method request.content) ≡ None
unfolding shared_rows
unrefused-met scene request none = (no_row (shared_rows scene request) none).1.0

met-held : (scene : Scene) (privileges : ℕ) → unmet scene (held privileges) ≡ None → has_all (held_in scene) privileges ≡ true
met-held scene privileges none = by (has_all (held_in scene) privileges) (refusal_reply (need_privileges scene.path privileges)) none where
  by : (test : Bool) (reply : Reply) → when (not test) reply ≡ None → test ≡ true
  by true reply none = refl
  by false reply none = absurd cc

-- what a report needs
pub need-held : (scene : Scene) (report : ReportRequest) → unmet scene (need scene Report (content.Report report)) ≡ None → has_all (held_in scene) (privilege_needed report) ≡ true
need-held scene (Query props select filter timezone) none = met-held scene read none
need-held scene (Multiget props select hrefs) none = met-held scene read none
need-held scene (FreeBusy range) none = met-held scene read_free_busy none

-- the caller of a report that is not refused holds what it needs
pub report-held : (scene : Scene) (request : Request) (report : ReportRequest) → request.method ≡ Report → request.content ≡ content.Report report → IsUnrefused scene request
    → has_all (held_in scene) (privilege_needed report) ≡ true
report-held scene request report how what none =
    need-held scene report ((λ i. unmet scene (need scene (sym how i) (sym what i))) ∙ unrefused-met scene request none)
