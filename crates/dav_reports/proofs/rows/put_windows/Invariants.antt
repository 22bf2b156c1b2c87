use Rattle.std.proofs.Common.{◌≡◌, ◌+◌, ◌≤◌, ◌++◌, length}
use Rattle.std.specs.Prelude.{flat_map}
use Rattle.cal_model.specs.Instances.Rows.{rows_in}
use Rattle.dav_reports.specs.PieceRows.{windows_cost}
use Rattle.dav_reports.proofs.rows.put_windows.Given as goal

-- the rows so far, and those of the windows that are left; the steps so far, and what those may cost
abbrev pub invariant-windows : goal.invariant-windows
invariant-windows g l = record {
  made : l.out ++ flat_map (rows_in l.object) l.rest ≡ l.initial.out ++ flat_map (rows_in l.object) l.windows;
  counted : l.steps + windows_cost (g.P.Pieces.held l.pieces) l.origin l.object l.rest ≤ l.initial.steps + windows_cost (g.P.Pieces.held l.pieces) l.origin l.object l.windows;
}

abbrev pub decreases-windows : goal.decreases-windows
decreases-windows g l = length l.rest
