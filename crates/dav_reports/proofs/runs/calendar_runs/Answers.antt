use Rattle.std.proofs.Common.{sym, ap, ◌∙◌, subst}
use Rattle.std.specs.Prelude.{unwrap_or}
use Rattle.std.proofs.lemmas.Result.{IfOk-weaker}
use Rattle.cal_model.specs.declared.store.CalendarData.{CalendarData}
use Rattle.cal_model.specs.Busy.BusyRuns.{calendar_runs}
use Rattle.cal_model.specs.State.ServerState.{objects_of}
use Rattle.cal_model.specs.TimeZones.TableBounds.{IsTable}
use Rattle.dav_reports.proofs.CalendarZones.{data_known, own_or_table, runs_known, zone_known}
use Rattle.dav_reports.proofs.runs.calendar_runs.Goals as goal

pub runs_of_objects-requires-clause-zone : goal.runs_of_objects-requires-clause-zone
runs_of_objects-requires-clause-zone g c =
    let state = g.V.View.state c.args.seen.now.view.now in
    let known = data_known state c.args.calendar.0 c.args.calendar.1.now c.in-Some.data.now (sym c.in-Some.ensures.data) in
    subst IsTable (sym (c.zone_or-zone.ensures ∙ ap (λ (d : CalendarData). unwrap_or d.zone c.utc-own.result) known.2)) (own_or_table known.0.texts c.utc-own.result c.utc-own.ensures.table)

pub returns-clause-runs : goal.returns-clause-runs
returns-clause-runs g c =
    let directory = g.V.View.directory c.args.seen.now.view.now in
    let state = g.V.View.state c.args.seen.now.view.now in
    let home = c.args.calendar.0 in
    let name = c.args.calendar.1.now in
    let zone = c.zone_or-zone.result.now in
    let known = data_known state home name c.in-Some.data.now (sym c.in-Some.ensures.data) in
    let table = subst IsTable (sym (c.zone_or-zone.ensures ∙ ap (λ (d : CalendarData). unwrap_or d.zone c.utc-own.result) known.2)) (own_or_table known.0.texts c.utc-own.result c.utc-own.ensures.table) in
    IfOk-weaker c.runs_of_objects.result _ _
    (λ found h calendar there.
    h
    ∙ runs_known directory state home name calendar zone c.args.range c.in-Some.ensures.sound there table
    ∙ ap (λ z. calendar_runs z (objects_of calendar.objects) c.args.range)
    (zone_known state home name calendar c.in-Some.data.now zone (sym c.in-Some.ensures.data) there (c.zone_or-zone.ensures ∙ ap (unwrap_or c.in-Some.data.now.zone) c.utc-own.ensures.value)))
    c.runs_of_objects.ensures.runs
