use Rattle.std.proofs.Common.{◌∙◌, ap}
use Rattle.std.proofs.lemmas.List.{nil_from_length}
use Rattle.cal_model.specs.State.ServerState.{calendar_at}
use Rattle.slot_times.proofs.SlotRuns.{runs_end, runs_first, runs_next}
use Rattle.slot_times.proofs.slot_calendars.runs_under.Goals as goal

pub calendars-init : goal.calendars-init
calendars-init g c = runs_first (g.V.View.state c.args.seen.now.view.now) c.args.range c.args.calendars.now c.new-runs.result c.new-runs.ensures c.requires.there

pub calendars-preserved : goal.calendars-preserved
calendars-preserved g c =
    let state = g.V.View.state c.args.seen.now.view.now in
    let place = c.in-Some.place.now in
    runs_next state c.args.range c.args.calendars.now c.calendars.rest.now c.in-Some.behind.now place c.calendars.runs c.push.new.self c.in_ok-found.found c.in-Some.ensures.cases.0 c.calendars.invariant
    (λ calendar there. c.in_ok-found.ensures.runs calendar (ap (calendar_at state place.home) c.as_slice-name.ensures ∙ there)) c.in_ok-push.ensures.ok

pub returns-clause-runs : goal.returns-clause-runs
returns-clause-runs g c =
    runs_end (g.V.View.state c.args.seen.now.view.now) c.args.range c.args.calendars.now c.calendars.rest.now c.calendars.runs (nil_from_length c.calendars.rest.now c.in_default.ensures.cases) c.calendars.invariant

pub returns-clause-order : goal.returns-clause-order
returns-clause-order g c = c.calendars.invariant.order
