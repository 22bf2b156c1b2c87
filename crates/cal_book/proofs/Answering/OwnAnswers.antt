-- What is answered where no shared row refuses the request, by its method.
use Rattle.std.proofs.Common.{◌≡◌, List, [], ◌∷◌, ◌++◌, Option, sym, ap, ◌∙◌}
use Rattle.std.specs.Prelude.{unwrap_or, ℤ}
use Rattle.cal_model.specs.declared.path.Path.{Path}
use Rattle.cal_model.specs.declared.reply.Reply.{Reply}
use Rattle.cal_model.specs.declared.report.ReportRequest.{ReportRequest}
use Rattle.cal_model.specs.declared.request.Content.TheVariants as content
use Rattle.cal_model.specs.declared.request.Method.{Method}
use Rattle.cal_model.specs.declared.request.Method.TheVariants.{Options, Report}
use Rattle.cal_model.specs.declared.request.Request.{Request}
use Rattle.cal_model.specs.Objects.ObjectReading.{first_there}
use Rattle.cal_model.specs.Replies.ReplyForms.{options_reply}
use Rattle.cal_model.specs.Serving.ReadingReplies.{answer_of, report_reply, report_rows, too_long}
use Rattle.cal_model.specs.Sight.Scenes.{Scene}
use Rattle.dav_reports.specs.ReportOutcomes.{unless_refused}
use Rattle.cal_book.specs.Answering.OwnReplies.{own_reply}

module _ (scene : Scene) (moment : ℤ) (request : Request) where
  -- a method, and some rows of its own
  abbrev by_rows : Method → List (Option Reply) → Reply
  by_rows method rows =
      let answered = answer_of scene moment request method in
      unwrap_or (first_there (rows ++ (too_long method answered ∷ []))) answered

  -- OPTIONS: the methods of the path
  pub options-same : (path : Path) → scene.path ≡ path → request.method ≡ Options → report_rows request.content ≡ [] → options_reply path ≡ own_reply scene moment request
  options-same path at how none = ap (λ (p : Path). options_reply p) (sym at) ∙ (λ i. by_rows (sym how i) (sym none i))

-- A report: the answer, unless it is refused for itself or for the length of its answer.
pub report-same : (place scene : Scene) (moment : ℤ) (request : Request) (report : ReportRequest) → place ≡ scene → request.method ≡ Report → request.content ≡ content.Report report
    → unless_refused report (report_reply place moment report) ≡ own_reply scene moment request
report-same place scene moment request report same how what = λ i. own_reply (same i) moment (record request { method = sym how i; content = sym what i })
