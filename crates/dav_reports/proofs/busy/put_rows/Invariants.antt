use Rattle.std.proofs.Common.{length}
use Rattle.std.specs.Prelude.{All}
use Rattle.overlap_rules.specs.Bounds.{IsNearRow}
use Rattle.dav_reports.specs.ObjectTimes.{times_of_rows}
use Rattle.dav_reports.proofs.GatheredTimes.{AreLeftOf}
use Rattle.dav_reports.proofs.busy.put_rows.Given as goal

-- the times of the rows that are left
abbrev pub invariant-rows : goal.invariant-rows
invariant-rows l = record {
  made : AreLeftOf l.initial.out l.out (times_of_rows l.zone l.object l.rows) (times_of_rows l.zone l.object l.rest);
  left : All IsNearRow l.rest;
}

abbrev pub decreases-rows : goal.decreases-rows
decreases-rows l = length l.rest
