use Rattle.std.proofs.Common.{◌≡◌, ◌+◌, sym, rules, arith, FitsSigned, w32, to_z-of_z}
use Rattle.std.specs.Prelude.{Some, None}
use Rattle.std.proofs.lemmas.List.{nil_from_length}
use Rattle.cal_model.specs.Instances.Rows.{rows_in}
use Rattle.dav_reports.specs.PieceRows.{windows_cost}
use Rattle.dav_reports.proofs.GatheredTimes.{left-all, left-next, left-none, left-run}
use Rattle.dav_reports.proofs.MissingWindows.{held_cost, run_counted, run_split, run_within}
use Rattle.dav_reports.specs.ObjectTimes.{times_in, times_of_rows}
use Rattle.dav_reports.proofs.KeptObjects.{rows_near}
use Rattle.dav_reports.proofs.busy.put_windows.Goals as goal

pub windows-init : goal.windows-init
windows-init g c = record {
  made = left-all c.args.out.now (times_in c.args.zone.now c.args.object.now c.args.windows.now);
  counted = omega arith;
}

pub put_rows-requires-clause-near : goal.put_rows-requires-clause-near
put_rows-requires-clause-near g c =
    let held = g.P.Pieces.held c.args.pieces.now in
    let origin = c.args.origin in
    let object = c.args.object.now in
    let window = c.in-Some.window.now in
    let fits : FitsSigned w32 window = search rules in
    let there : Some c.in-Some-rows.rows.now ≡ held origin window = simp to_z-of_z at c.in-Some-rows.ensures in
    let right : c.in-Some-rows.rows.now ≡ rows_in object window = c.requires.right window c.in-Some-rows.rows.now (sym there) in
    rw (c.as_slice.ensures, right) (rows_near object c.requires.object window)

pub windows-preserved-in-Some-rows : goal.windows-preserved-in-Some-rows
windows-preserved-in-Some-rows g c =
    let held = g.P.Pieces.held c.args.pieces.now in
    let origin = c.args.origin in
    let object = c.args.object.now in
    let first = c.in-Some.ensures.cases.0 in
    let window = c.in-Some.window.now in
    let behind = c.in-Some.behind.now in
    let fits : FitsSigned w32 window = search rules in
    let there : Some c.in-Some-rows.rows.now ≡ held origin window = simp to_z-of_z at c.in-Some-rows.ensures in
    let right : c.in-Some-rows.rows.now ≡ rows_in object window = c.requires.right window c.in-Some-rows.rows.now (sym there) in
    let put = rw (c.as_slice.ensures, right) at c.in_ok-put_rows.ensures in
    let cost = held_cost held origin object window behind c.in-Some-rows.rows.now there in
    let counted = rw first at c.windows.invariant.counted in
    record {
      made = left-next (λ x. times_of_rows c.args.zone.now object (rows_in object x)) c.args.out.now c.windows.out c.put_rows.new.out _ window behind put (rw first at c.windows.invariant.made);
      counted = omega (arith, cost, counted);
    }

pub returns-in_err-put_missing-clause-steps : goal.returns-in_err-put_missing-clause-steps
returns-in_err-put_missing-clause-steps g c =
    let held = g.P.Pieces.held c.args.pieces.now in
    let origin = c.args.origin in
    let object = c.args.object.now in
    let windows = c.windows.rest.now in
    let run = c.split_at.result.0.now in
    let left = c.split_at.result.1.now in
    let fits : FitsSigned w32 c.in-Some.window.now = search rules in
    let none : None ≡ held origin c.in-Some.window.now = simp to_z-of_z at c.in_default-rows.ensures in
    let split = run_split held origin c.in-Some.window.now windows c.in-Some.behind.now run left c.missing_first.result c.in-Some.ensures.cases.0 none c.missing_first.ensures.missing c.split_at.ensures.front c.split_at.ensures.back in
    let all = c.args.steps.now + windows_cost held origin object c.args.windows.now in
    run_within held origin object windows run left c.windows.steps c.put_missing.new.steps all split.0 split.1 c.put_missing.ensures.steps c.windows.invariant.counted

pub windows-preserved : goal.windows-preserved
windows-preserved g c =
    let held = g.P.Pieces.held c.args.pieces.now in
    let origin = c.args.origin in
    let object = c.args.object.now in
    let windows = c.windows.rest.now in
    let run = c.split_at.result.0.now in
    let left = c.split_at.result.1.now in
    let fits : FitsSigned w32 c.in-Some.window.now = search rules in
    let none : None ≡ held origin c.in-Some.window.now = simp to_z-of_z at c.in_default-rows.ensures in
    let split = run_split held origin c.in-Some.window.now windows c.in-Some.behind.now run left c.missing_first.result c.in-Some.ensures.cases.0 none c.missing_first.ensures.missing c.split_at.ensures.front c.split_at.ensures.back in
    let all = c.args.steps.now + windows_cost held origin object c.args.windows.now in
    record {
      made = left-run (λ x. times_of_rows c.args.zone.now object (rows_in object x)) c.args.out.now c.windows.out c.put_missing.new.out (times_in c.args.zone.now object c.args.windows.now) windows run left split.0 c.in_ok-put_missing.ensures.times c.windows.invariant.made;
      counted = run_counted held origin object windows run left c.windows.steps c.put_missing.new.steps all split.0 split.1 c.put_missing.ensures.steps c.windows.invariant.counted;
    }

pub returns-clause-times : goal.returns-clause-times
returns-clause-times g c =
    let end = nil_from_length c.windows.rest.now c.in_default.ensures.cases in
    left-none c.args.out.now c.windows.out _ (rw end at c.windows.invariant.made)
