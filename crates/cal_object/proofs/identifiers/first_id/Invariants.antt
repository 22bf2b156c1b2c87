use Rattle.std.proofs.Common.{◌≡◌, length}
use Rattle.cal_model.specs.Instances.Rows.{first_of}
use Rattle.cal_object.specs.Identifiers.{id_stamps}
use Rattle.cal_object.proofs.identifiers.first_id.Given as goal

abbrev pub invariant-overrides : goal.invariant-overrides
invariant-overrides l = first_of (id_stamps l.rest) ≡ first_of (id_stamps l.components)

abbrev pub decreases-overrides : goal.decreases-overrides
decreases-overrides l = length l.rest
