use Rattle.std.proofs.Common.{length}
use Rattle.std.specs.Prelude.{All}
use Rattle.cal_model.specs.declared.object.Component.{Component}
use Rattle.dav_reports.specs.ObjectTimes.{IsNearStored, stored_times}
use Rattle.dav_reports.proofs.GatheredTimes.{AreLeftOf}
use Rattle.dav_reports.proofs.busy.put_stored.Given as goal

-- the times of the components that are left
abbrev pub invariant-components : goal.invariant-components
invariant-components l = record {
  made : AreLeftOf l.initial.out l.out (stored_times l.components) (stored_times l.rest);
  left : All (λ (c : Component). All IsNearStored c.stored_busy) l.rest;
}

abbrev pub decreases-components : goal.decreases-components
decreases-components l = length l.rest
