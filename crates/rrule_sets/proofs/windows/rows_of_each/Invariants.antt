use Rattle.std.proofs.Common.{◌≡◌, ◌+◌, ◌≤◌, ◌++◌, length, map}
use Rattle.std.specs.Prelude.{flat_map, sum}
use Rattle.cal_model.specs.Instances.Rows.{rows_in}
use Rattle.cal_model.specs.Ranges.Cost.{cost}
use Rattle.rrule_sets.proofs.windows.rows_of_each.Given as goal

-- the rows so far, and those of the windows that are left; the steps so far, and what those may cost
abbrev pub invariant-windows : goal.invariant-windows
invariant-windows g l = record {
  made : l.out ++ flat_map (rows_in l.object) l.rest ≡ flat_map (rows_in l.object) l.windows;
  counted : l.steps + sum (map (cost l.object) l.rest) ≤ l.initial.steps + sum (map (cost l.object) l.windows);
}

abbrev pub decreases-windows : goal.decreases-windows
decreases-windows g l = length l.rest
