use Rattle.std.proofs.Common.{rules, ◌+◌, ◌≤◌, sym, ap, ◌∙◌, subst, FitsSigned, w64, to_z-of_z}
use Rattle.std.specs.Prelude.{IsSome}
use Rattle.cal_model.specs.declared.path.Path.TheVariants.{Calendar as CalendarPath}
use Rattle.cal_model.specs.Access.Privileges.{has_all}
use Rattle.cal_model.specs.Requests.MethodContents.{Suits}
use Rattle.cal_model.specs.Serving.SeenResources.{scene_seen}
use Rattle.cal_model.specs.Sight.Scenes.{Scene, held_in}
use Rattle.cal_model.specs.State.ServerState.{calendar_at}
use Rattle.dav_reports.specs.ReportOutcomes.{calendar_scene, privilege_needed, reply_to_report}
use Rattle.cal_book.proofs.Answering.AskedContents.{report-asked}
use Rattle.cal_book.proofs.Answering.OwnAnswers.{report-same}
use Rattle.cal_book.proofs.Answering.OwnRows.{unrefused-good, report-held}
use Rattle.cal_book.proofs.Answering.ReportPlaces.{user-seen, owner-known, scene-named, calendar-there, cost-run}
use Rattle.cal_book.proofs.Answering.SameReplies.{if_ok_same}
use Rattle.cal_book.specs.Answering.OwnReplies.{own_reply}
use Rattle.request_checks.specs.Sightings.{user_seen}
use Rattle.cal_book.proofs.reads.reports.answer_report.Goals as goal

pub unreachable-requires-in_default-content : goal.unreachable-requires-in_default-content
unreachable-requires-in_default-content g c =
    let scene = scene_seen (g.V.View.directory c.args.seen.now.view.now) (g.V.View.state c.args.seen.now.view.now) c.args.seen.now.who c.args.request.now.path in
    report-asked c.args.request.now.content (subst (λ method. Suits method c.args.request.now.content) c.requires.method c.requires.suits)
    (unrefused-good scene c.args.request.now c.requires.unrefused) c.in_default-content.not-Report

pub unreachable-requires-in_default-user : goal.unreachable-requires-in_default-user
unreachable-requires-in_default-user g c =
    let directory = g.V.View.directory c.args.seen.now.view.now in
    let state = g.V.View.state c.args.seen.now.view.now in
    let who = c.args.seen.now.who in
    let path = c.args.request.now.path in
    let held = report-held (scene_seen directory state who path) c.args.request.now c.in-Report.report c.requires.method c.in-Report.is c.requires.unrefused in
    owner-known directory state who path c.in-Report.report held (sym c.requires.scene.user ∙ c.in_default-user.is)

pub run_report-requires-clause-there : goal.run_report-requires-clause-there
run_report-requires-clause-there g c =
    let directory = g.V.View.directory c.args.seen.now.view.now in
    let state = g.V.View.state c.args.seen.now.view.now in
    let scene = scene_seen directory state c.args.seen.now.who c.args.request.now.path in
    let held = report-held scene c.args.request.now c.in-Report.report c.requires.method c.in-Report.is c.requires.unrefused in
    subst (λ name. IsSome (calendar_at state c.in-Some.home name)) (sym c.as_slice.ensures)
    (calendar-there directory state c.args.scene.now scene c.args.request.now.path c.in-Calendar.field-0 c.in-Calendar.name c.in-Some.home c.in-Report.report c.requires.scene c.requires.there c.in-Calendar.is
    c.in-Some.is held)

pub run_report-requires-clause-held : goal.run_report-requires-clause-held
run_report-requires-clause-held g c =
    let directory = g.V.View.directory c.args.seen.now.view.now in
    let state = g.V.View.state c.args.seen.now.view.now in
    let who = c.args.seen.now.who in
    let path = c.args.request.now.path in
    let known = sym (user-seen directory state who path) ∙ sym c.requires.scene.user ∙ c.in-Some.is in
    let named =
    ap (calendar_scene directory state who c.in-Some.home) c.as_slice.ensures ∙ scene-named directory state who path c.in-Calendar.field-0 c.in-Calendar.name c.in-Some.home c.in-Calendar.is known in
    ap (λ (s : Scene). has_all (held_in s) (privilege_needed c.in-Report.report)) named
    ∙ report-held (scene_seen directory state who path) c.args.request.now c.in-Report.report c.requires.method c.in-Report.is c.requires.unrefused

pub returns-clause-steps : goal.returns-clause-steps
returns-clause-steps g c =
    let directory = g.V.View.directory c.args.seen.now.view.now in
    let state = g.V.View.state c.args.seen.now.view.now in
    let origins = g.V.View.origins c.args.seen.now.view.now in
    let held = g.P.Pieces.held c.args.pieces.now in
    let path = c.args.request.now.path in
    let known = sym (user-seen directory state c.args.seen.now.who path) ∙ sym c.requires.scene.user ∙ c.in-Some.is in
    let at = c.in-Calendar.is ∙ ap (CalendarPath c.in-Calendar.field-0) (sym c.as_slice.ensures) in
    let cost =
    cost-run held origins directory state (user_seen directory path) path c.args.request.now.content c.in-Some.home c.in-Calendar.field-0 c.as_slice.result.now c.in-Report.report known at c.in-Report.is in
    subst (λ n. c.run_report.new.steps ≤ c.args.steps.now + n) (sym cost) c.run_report.ensures.steps

pub returns-clause-reply : goal.returns-clause-reply
returns-clause-reply g c =
    let directory = g.V.View.directory c.args.seen.now.view.now in
    let state = g.V.View.state c.args.seen.now.view.now in
    let who = c.args.seen.now.who in
    let path = c.args.request.now.path in
    let known = sym (user-seen directory state who path) ∙ sym c.requires.scene.user ∙ c.in-Some.is in
    let named =
    ap (calendar_scene directory state who c.in-Some.home) c.as_slice.ensures ∙ scene-named directory state who path c.in-Calendar.field-0 c.in-Calendar.name c.in-Some.home c.in-Calendar.is known in
    let fits : FitsSigned w64 c.args.moment = search rules in
    let written = simp to_z-of_z at c.run_report.ensures.reply in
    if_ok_same c.run_report.result (reply_to_report directory state who c.in-Some.home c.as_slice.result.now c.args.moment c.in-Report.report)
    (own_reply (scene_seen directory state who path) c.args.moment c.args.request.now)
    (report-same (calendar_scene directory state who c.in-Some.home c.as_slice.result.now) (scene_seen directory state who path) c.args.moment c.args.request.now c.in-Report.report named c.requires.method
    c.in-Report.is)
    written
