use Rattle.std.proofs.Common.{rules, Option, sym, ap, ◌∙◌, subst, FitsSigned, w64, to_z-of_z}
use Rattle.std.proofs.lemmas.Result.{IfOk-weaker}
use Rattle.cal_model.specs.declared.zone.ZoneTable.{ZoneTable}
use Rattle.cal_model.specs.Refusals.ReportRefusals.{zone_text}
use Rattle.cal_model.specs.Reports.FloatingZone.{floating_zone}
use Rattle.cal_model.specs.State.ServerState.{Calendar, calendar_at, own_zone}
use Rattle.cal_model.specs.TimeZones.TableBounds.{IsTable}
use Rattle.dav_reports.specs.ReportOutcomes.{MaySee, answer_body, privilege_needed, reply_of}
use Rattle.dav_reports.specs.SeenCalendars.{IsBody}
use Rattle.dav_reports.proofs.BusyBodies.{some_there}
use Rattle.dav_reports.proofs.ReportZones.{table_chosen, zone_chosen}
use Rattle.dav_reports.proofs.SeenObjects.{owner_known}
use Rattle.dav_reports.proofs.SeenReports.{answer_seen, may_see}
use Rattle.dav_reports.proofs.report.body_in_zone.Goals as goal

pub report_body-requires-clause-zone : goal.report_body-requires-clause-zone
report_body-requires-clause-zone g c =
    let state = g.V.View.state c.args.seen.now.view.now in
    let home = c.args.calendar.0 in
    let name = c.args.calendar.1.now in
    let zone = c.report_zone-zone.result.now in
    let there = some_there (calendar_at state home name) c.requires.there in
    let chosen = zone_chosen state home name there.0 c.in-Some.data.now c.args.own.now c.utc-utc.result zone (sym c.in-Some.ensures.data) there.1 c.report_zone-zone.ensures c.utc-utc.ensures.value in
    table_chosen (zone_text c.args.request.now) there.0.texts c.args.own.now zone c.requires.own chosen (subst IsTable c.utc-utc.ensures.value c.utc-utc.ensures.table)

pub report_body-requires-clause-home : goal.report_body-requires-clause-home
report_body-requires-clause-home g c =
    let state = g.V.View.state c.args.seen.now.view.now in
    let there = some_there (calendar_at state c.args.calendar.0 c.args.calendar.1.now) c.requires.there in
    owner_known (g.V.View.directory c.args.seen.now.view.now) state c.args.calendar.0 c.args.calendar.1.now there.0 c.in-Some.ensures.sound there.1

pub returns-clause-body : goal.returns-clause-body
returns-clause-body g c =
    let directory = g.V.View.directory c.args.seen.now.view.now in
    let state = g.V.View.state c.args.seen.now.view.now in
    let who = c.args.seen.now.who in
    let home = c.args.calendar.0 in
    let name = c.args.calendar.1.now in
    let moment = c.args.moment in
    let request = c.args.request.now in
    let zone = c.report_zone-zone.result.now in
    let there = some_there (calendar_at state home name) c.requires.there in
    let calendar = there.0 in
    let sound = c.in-Some.ensures.sound in
    let told = c.user_name-name.ensures.told in
    let chosen = zone_chosen state home name calendar c.in-Some.data.now c.args.own.now c.utc-utc.result zone (sym c.in-Some.ensures.data) there.1 c.report_zone-zone.ensures c.utc-utc.ensures.value in
    let seen = may_see directory state who home name calendar request sound told there.1 c.requires.held in
    let answer = answer_seen directory state who home name calendar moment request c.requires.range sound told there.1 c.requires.held in
    let fits : FitsSigned w64 c.args.moment = search rules in
    let written = simp to_z-of_z at c.report_body.ensures.body in
    IfOk-weaker c.report_body.result
    (λ body. (x : Calendar) → MaySee directory state who home name (privilege_needed request) x → IsBody body (answer_body directory who home name moment zone x request)) _
    (λ body is. record {
      whole = answer_body directory who home name moment zone calendar request;
      written = is calendar seen;
      answer =
          ap (λ (z : ZoneTable). reply_of request (answer_body directory who home name moment z calendar request))
          (chosen ∙ ap (λ (own : Option ZoneTable). floating_zone own (own_zone calendar.texts)) c.requires.own)
          ∙ answer;
    }) written
