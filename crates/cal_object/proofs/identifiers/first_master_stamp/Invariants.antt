use Rattle.std.proofs.Common.{◌≡◌, length}
use Rattle.cal_model.specs.Instances.Rows.{first_of}
use Rattle.cal_object.specs.Identifiers.{master_stamps}
use Rattle.cal_object.proofs.identifiers.first_master_stamp.Given as goal

abbrev pub invariant-masters : goal.invariant-masters
invariant-masters l = first_of (master_stamps l.rest) ≡ first_of (master_stamps l.components)

abbrev pub decreases-masters : goal.decreases-masters
decreases-masters l = length l.rest
