use Rattle.std.proofs.Common.{◌≡◌, ◌+◌, length, if◌then◌else◌}
use Rattle.cal_object.specs.KindNodes.{masters_among}
use Rattle.cal_object.proofs.resource_fault.has_two_masters.Given as goal

-- those so far are one at most, and the others are left
abbrev pub invariant-components : goal.invariant-components
invariant-components l = (if l.found then 1 else 0) + length (masters_among l.rest) ≡ length (masters_among l.components)

abbrev pub decreases-components : goal.decreases-components
decreases-components l = length l.rest
