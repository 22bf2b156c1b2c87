use Rattle.std.proofs.Common.{rules, List, None, map, sym, ap, ◌∙◌, subst, FitsSigned, w64, to_z-of_z}
use Rattle.std.specs.Prelude.{All}
use Rattle.std.proofs.lemmas.Result.{IfOk-weaker}
use Rattle.cal_model.specs.Busy.FreeBusyText.{free_busy_text}
use Rattle.cal_model.specs.Reports.FloatingZone.{floating_zone}
use Rattle.cal_model.specs.State.ServerState.{calendar_at, objects_of, own_zone}
use Rattle.freebusy.specs.declared.busy.Run.{Run}
use Rattle.freebusy.specs.Times.{time_of_run}
use Rattle.dav_reports.specs.FreeBusyLines.{IsWithinDates}
use Rattle.dav_reports.specs.SeenCalendars.{IsBody}
use Rattle.dav_reports.proofs.BusyBodies.{runs_within, some_there}
use Rattle.dav_reports.proofs.free_busy.busy_body.Goals as goal

pub free_busy_text-requires-clause-runs : goal.free_busy_text-requires-clause-runs
free_busy_text-requires-clause-runs g c =
    let there = some_there (calendar_at (g.V.View.state c.args.seen.now.view.now) c.args.calendar.0 c.args.calendar.1.now) c.requires.there in
    subst (All IsWithinDates) (sym c.as_slice.ensures)
    (runs_within (floating_zone None (own_zone there.0.texts)) (objects_of there.0.objects) c.args.range c.in_ok-found.found c.requires.range (c.in_ok-found.ensures.runs there.0 there.1))

pub returns-clause-body : goal.returns-clause-body
returns-clause-body g c =
    let fits : FitsSigned w64 c.args.moment = search rules in
    let written = simp to_z-of_z at c.free_busy_text.ensures in
    IfOk-weaker c.free_busy_text.result (λ text. IsBody text (free_busy_text c.args.moment c.args.range (map time_of_run c.as_slice.result.now))) _
    (λ text is calendar there.
    subst (IsBody text)
    (ap (λ (found : List Run). free_busy_text c.args.moment c.args.range (map time_of_run found)) c.as_slice.ensures
    ∙ ap (free_busy_text c.args.moment c.args.range) (c.in_ok-found.ensures.runs calendar there)) is)
    written
