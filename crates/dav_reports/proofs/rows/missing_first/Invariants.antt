use Rattle.std.proofs.Common.{◌≡◌, ◌+◌, length}
use Rattle.std.specs.Prelude.{All, drop, take}
use Rattle.dav_reports.specs.PieceRows.{IsMissing}
use Rattle.dav_reports.proofs.rows.missing_first.Given as goal

-- the windows so far have no piece
abbrev pub invariant-missing : goal.invariant-missing
invariant-missing g l = record {
  left : drop l.count l.windows ≡ l.rest;
  counted : l.count + length l.rest ≡ length l.windows;
  missing : All (IsMissing (g.P.Pieces.held l.pieces) l.origin) (take l.count l.windows);
}

abbrev pub decreases-missing : goal.decreases-missing
decreases-missing g l = length l.rest
