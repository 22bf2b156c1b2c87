use Rattle.std.proofs.Common.{rules, ◌≡◌, FitsSigned, w64, to_z-of_z}
use Rattle.std.proofs.lemmas.Result.{IfOk-weaker}
use Rattle.cal_model.specs.declared.reply.Reply.{Reply}
use Rattle.cal_model.specs.Serving.ReadingReplies.{report_reply}
use Rattle.dav_reports.specs.ReportOutcomes.{IsBodyOf, calendar_scene, unless_long}
use Rattle.dav_reports.proofs.report.answered.Goals as goal

pub returns-clause-reply : goal.returns-clause-reply
returns-clause-reply g c =
    let directory = g.V.View.directory c.args.seen.now.view.now in
    let state = g.V.View.state c.args.seen.now.view.now in
    let said = report_reply (calendar_scene directory state c.args.seen.now.who c.args.calendar.0 c.args.calendar.1.now) c.args.moment c.args.request.now in
    let fits : FitsSigned w64 c.args.moment = search rules in
    let written = simp to_z-of_z at c.in_ok-body.ensures.body in
    IfOk-weaker c.finished.result (λ reply. (x : Reply) → IsBodyOf c.args.request.now x c.in_ok-body.body → reply ≡ unless_long x) _
    (λ reply is. is said written) c.finished.ensures
