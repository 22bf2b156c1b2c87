use Rattle.std.proofs.Common.{map, rules, arith, FitsSigned, w32, to_z-of_z}
use Rattle.cal_model.specs.Instances.Rows.{rows_in}
use Rattle.cal_model.specs.Ranges.Cost.{cost}
use Rattle.rrule_sets.proofs.AskedLemmas.{counted_more, more}
use Rattle.rrule_sets.proofs.windows.rows_of_each.Goals as goal

pub windows-preserved : goal.windows-preserved
windows-preserved g c =
    let object = c.args.object.now in
    let first = c.in-Some.ensures.cases.0 in
    let window = c.in-Some.window.now in
    let fits : FitsSigned w32 window = search rules in
    let step = c.tick.ensures in
    let spent = simp to_z-of_z at c.rows_beside.ensures.steps in
    let found = simp to_z-of_z at c.in_ok-rows.ensures.rows in
    let put = rw (c.as_slice.ensures, found) at c.in_ok-extend_from_slice.ensures.ok in
    record {
      made = rw put (more c.windows.out (rows_in object window) _ _ (rw first at c.windows.invariant.made));
      counted = counted_more c.windows.steps c.rows_beside.new.steps (cost object window) (map (cost object) c.in-Some.behind.now) _ (omega (arith, step, spent)) (rw first at c.windows.invariant.counted);
    }
