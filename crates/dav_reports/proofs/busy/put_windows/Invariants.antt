use Rattle.std.proofs.Common.{◌+◌, ◌≤◌, length}
use Rattle.dav_reports.specs.ObjectTimes.{times_in}
use Rattle.dav_reports.specs.PieceRows.{windows_cost}
use Rattle.dav_reports.proofs.GatheredTimes.{AreLeftOf}
use Rattle.dav_reports.proofs.busy.put_windows.Given as goal

-- the times of the windows that are left; the steps so far, and what those may cost
abbrev pub invariant-windows : goal.invariant-windows
invariant-windows g l = record {
  made : AreLeftOf l.initial.out l.out (times_in l.zone l.object l.windows) (times_in l.zone l.object l.rest);
  counted : l.steps + windows_cost (g.P.Pieces.held l.pieces) l.origin l.object l.rest ≤ l.initial.steps + windows_cost (g.P.Pieces.held l.pieces) l.origin l.object l.windows;
}

abbrev pub decreases-windows : goal.decreases-windows
decreases-windows g l = length l.rest
