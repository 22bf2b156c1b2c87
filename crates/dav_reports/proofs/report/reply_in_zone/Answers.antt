use Rattle.std.proofs.Common.{rules, ◌≡◌, ◌∙◌, FitsSigned, w64, to_z-of_z}
use Rattle.std.proofs.lemmas.Result.{IfOk-weaker}
use Rattle.cal_model.specs.Refusals.RefusalReplies.{refusal_reply}
use Rattle.cal_model.specs.Serving.ReadingReplies.{report_reply}
use Rattle.dav_reports.specs.RangeDates.{refusal_of}
use Rattle.dav_reports.specs.ReportOutcomes.{calendar_scene, unless_long}
use Rattle.dav_reports.proofs.ReportLemmas.{inside_passed, outside_refused, range_served}
use Rattle.dav_reports.proofs.report.reply_in_zone.Goals as goal

pub answered-requires-clause-range : goal.answered-requires-clause-range
answered-requires-clause-range g c = range_served c.args.request.now c.requires.sound (rw c.in-None.is at c.first_outside.ensures)

pub returns-in-Some-clause-reply : goal.returns-in-Some-clause-reply
returns-in-Some-clause-reply g c =
    let said = report_reply (calendar_scene (g.V.View.directory c.args.seen.now.view.now) (g.V.View.state c.args.seen.now.view.now) c.args.seen.now.who c.args.calendar.0 c.args.calendar.1.now) c.args.moment c.args.request.now in
    IfOk-weaker c.refused_range.result (λ reply. reply ≡ refusal_reply (refusal_of c.in-Some.outside)) _
    (λ reply is. is ∙ outside_refused c.args.request.now c.in-Some.outside (unless_long said) c.in-Some.ensures) c.refused_range.ensures

pub returns-in-None-clause-reply : goal.returns-in-None-clause-reply
returns-in-None-clause-reply g c =
    let said = report_reply (calendar_scene (g.V.View.directory c.args.seen.now.view.now) (g.V.View.state c.args.seen.now.view.now) c.args.seen.now.who c.args.calendar.0 c.args.calendar.1.now) c.args.moment c.args.request.now in
    let fits : FitsSigned w64 c.args.moment = search rules in
    let written = simp to_z-of_z at c.answered.ensures.reply in
    IfOk-weaker c.answered.result (λ reply. reply ≡ unless_long said) _
    (λ reply is. is ∙ inside_passed c.args.request.now (unless_long said) (rw c.in-None.is at c.first_outside.ensures)) written
