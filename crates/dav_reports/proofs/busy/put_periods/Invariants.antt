use Rattle.std.proofs.Common.{length}
use Rattle.std.specs.Prelude.{All, flat_map}
use Rattle.cal_model.specs.Busy.BusyTimes.{times_of_stored}
use Rattle.dav_reports.specs.ObjectTimes.{IsNearStored}
use Rattle.dav_reports.proofs.GatheredTimes.{AreLeftOf}
use Rattle.dav_reports.proofs.busy.put_periods.Given as goal

-- the times of the periods that are left
abbrev pub invariant-periods : goal.invariant-periods
invariant-periods l = record {
  made : AreLeftOf l.initial.out l.out (flat_map times_of_stored l.stored) (flat_map times_of_stored l.rest);
  left : All IsNearStored l.rest;
}

abbrev pub decreases-periods : goal.decreases-periods
decreases-periods l = length l.rest
