use Rattle.std.proofs.Common.{◌≡◌, length}
use Rattle.cal_model.specs.Objects.ResourceFaults as faults
use Rattle.cal_object.proofs.missing_zone.lacks_zone.Given as goal

abbrev pub invariant-lines : goal.invariant-lines
invariant-lines l = faults.lacks_zone l.names l.rest ≡ faults.lacks_zone l.names l.lines

abbrev pub decreases-lines : goal.decreases-lines
decreases-lines l = length l.rest
