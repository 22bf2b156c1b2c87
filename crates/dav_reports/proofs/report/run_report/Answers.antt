use Rattle.std.proofs.Common.{rules, ◌≡◌, ◌∙◌, sym, FitsSigned, w64, to_z-of_z}
use Rattle.std.proofs.lemmas.Result.{IfOk-weaker}
use Rattle.cal_model.specs.Serving.ReadingReplies.{report_reply}
use Rattle.dav_reports.specs.ReportOutcomes.{calendar_scene, unless_long, unless_outside}
use Rattle.dav_reports.proofs.ReportLemmas.{zone_passed}
use Rattle.dav_reports.proofs.report.run_report.Goals as goal

pub returns-in-Ok-clause-reply : goal.returns-in-Ok-clause-reply
returns-in-Ok-clause-reply g c =
    let said = report_reply (calendar_scene (g.V.View.directory c.args.seen.now.view.now) (g.V.View.state c.args.seen.now.view.now) c.args.seen.now.who c.args.calendar.0 c.args.calendar.1.now) c.args.moment c.args.request.now in
    let fits : FitsSigned w64 c.args.moment = search rules in
    let written = simp to_z-of_z at c.reply_in_zone.ensures.reply in
    IfOk-weaker c.reply_in_zone.result (λ reply. reply ≡ unless_outside c.args.request.now (unless_long said)) _
    (λ reply is. is ∙ zone_passed c.args.request.now said c.in-Ok.own (sym c.in-Ok.is ∙ c.requires.zone)) written
