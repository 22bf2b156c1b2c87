use Rattle.std.proofs.Common.{ℕ, List, sym, subst}
use Rattle.std.specs.Prelude.{flat_map}
use Rattle.std.specs.List.{AllByRecursion}
use Rattle.cal_model.specs.declared.property.Props.TheVariants.{None as NoProps}
use Rattle.cal_model.specs.declared.report.ReportRequest.TheVariants.{Multiget}
use Rattle.cal_model.specs.Serving.ReportReplies.{href_response}
use Rattle.dav_reports.specs.CalendarObjects.{NamesAmong, objects_concerned}
use Rattle.dav_reports.specs.SeenCalendars.{IsWritten, reported_of}
use Rattle.dav_reports.proofs.MetLemmas.{all_named}
use Rattle.dav_reports.proofs.ShownLemmas.{if_ok_then}
use Rattle.dav_reports.proofs.multiget.multiget.Goals as goal

pub returns-in_err-whole-clause-steps : goal.returns-in_err-whole-clause-steps
returns-in_err-whole-clause-steps g c =
    let directory = g.V.View.directory c.args.seen.now.view.now in
    let state = g.V.View.state c.args.seen.now.view.now in
    let entries = objects_concerned directory state c.args.calendar.0 c.args.calendar.1.now (Multiget NoProps c.args.asked.1.now c.args.asked.2.now) in
    c.push_hrefs.ensures.steps entries
    (subst (AllByRecursion (NamesAmong directory state c.args.calendar.0 c.args.calendar.1.now entries)) (sym c.as_slice-2.ensures)
    (all_named directory state c.args.calendar.0 c.args.calendar.1.now c.args.asked.2.now))

pub returns-clause-steps : goal.returns-clause-steps
returns-clause-steps g c =
    let directory = g.V.View.directory c.args.seen.now.view.now in
    let state = g.V.View.state c.args.seen.now.view.now in
    let entries = objects_concerned directory state c.args.calendar.0 c.args.calendar.1.now (Multiget NoProps c.args.asked.1.now c.args.asked.2.now) in
    c.push_hrefs.ensures.steps entries
    (subst (AllByRecursion (NamesAmong directory state c.args.calendar.0 c.args.calendar.1.now entries)) (sym c.as_slice-2.ensures)
    (all_named directory state c.args.calendar.0 c.args.calendar.1.now c.args.asked.2.now))

pub returns-clause-body : goal.returns-clause-body
returns-clause-body g c =
    if_ok_then c.finished.result
    (λ body finishes k may.
    let said = href_response (reported_of (g.V.View.directory c.args.seen.now.view.now) c.args.seen.now.who c.args.calendar.0 c.args.calendar.1.now k) c.args.asked.1.now c.args.zone.now c.args.asked.0.now in
    finishes (flat_map said c.args.asked.2.now)
    (subst (λ (old : List ℕ). IsWritten c.in_ok-whole.whole old c.push_hrefs.new.out (flat_map said c.args.asked.2.now)) c.in_ok-body.ensures
    (subst (λ (hrefs : List (List ℕ)). IsWritten c.in_ok-whole.whole c.in_ok-body.body c.push_hrefs.new.out (flat_map said hrefs)) c.as_slice-2.ensures
    (c.in_ok-whole.ensures.written k may))))
    c.finished.ensures
