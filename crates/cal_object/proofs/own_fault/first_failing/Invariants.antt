use Rattle.std.proofs.Common.{◌≡◌, ◌+◌, [], length}
use Rattle.cal_object.specs.OwnFaults as spec
use Rattle.cal_object.proofs.own_fault.first_failing.Given as goal

-- no line has failed, and the first of those to come is that of all
abbrev pub invariant-lines : goal.invariant-lines
invariant-lines l = record {
  number : l.number + length l.rest ≡ length l.lines;
  same : spec.fails_from l.number l.levels l.rest ≡ spec.fails_from 0 [] l.lines;
}

abbrev pub decreases-lines : goal.decreases-lines
decreases-lines l = length l.rest
