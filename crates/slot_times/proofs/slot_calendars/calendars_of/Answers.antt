use Rattle.std.proofs.Common.{◌+◌, ◌-◌, length, ap, arith}
use Rattle.std.proofs.lemmas.List.{nil_from_length}
use Rattle.slot_times.proofs.SlotPaths.{path_refused, paths_end, paths_first, paths_next}
use Rattle.slot_times.proofs.slot_calendars.calendars_of.Goals as goal

pub paths-init : goal.paths-init
paths-init g c =
    let seen = c.args.seen.now in
    paths_first (g.V.View.directory seen.view.now) (g.V.View.state seen.view.now) seen.who c.args.paths.now c.new-found.result _ c.new-found.ensures (omega arith)

pub overflow_sub-number : goal.overflow_sub-number
overflow_sub-number g c =
    let counted = c.paths.invariant.counted in
    let long = ap length c.in-Some.ensures.cases.0 in
    omega (arith, counted, long)

pub paths-preserved : goal.paths-preserved
paths-preserved g c =
    let seen = c.args.seen.now in
    let counted = c.paths.invariant.counted in
    let long = ap length c.in-Some.ensures.cases.0 in
    paths_next (g.V.View.directory seen.view.now) (g.V.View.state seen.view.now) seen.who c.args.paths.now c.paths.rest.now c.in-Some.behind.now c.in-Some.path.now c.as_str.result.now
    c.paths.found c.push_calendar.new.found (length c.args.paths.now - length c.paths.rest.now + 1) _ c.in-Some.ensures.cases.0 c.as_str.ensures c.paths.invariant (omega (arith, counted, long)) c.in-Ok.ensures

pub returns-in-Err : goal.returns-in-Err
returns-in-Err g c =
    let seen = c.args.seen.now in
    let counted = c.paths.invariant.counted in
    let long = ap length c.in-Some.ensures.cases.0 in
    path_refused (g.V.View.directory seen.view.now) (g.V.View.state seen.view.now) seen.who (Unit {0}) c.in-Err.unseen c.args.paths.now c.paths.rest.now c.in-Some.behind.now c.in-Some.path.now c.as_str.result.now
    c.paths.found c.push_calendar.new.found (length c.args.paths.now - length c.paths.rest.now + 1) _ c.in-Some.ensures.cases.0 c.as_str.ensures c.paths.invariant (omega (arith, counted, long)) c.in-Err.ensures

pub returns : goal.returns
returns g c =
    let seen = c.args.seen.now in
    paths_end (g.V.View.directory seen.view.now) (g.V.View.state seen.view.now) seen.who c.args.paths.now c.paths.rest.now c.paths.found _ (nil_from_length c.paths.rest.now c.in_default.ensures.cases) c.paths.invariant
