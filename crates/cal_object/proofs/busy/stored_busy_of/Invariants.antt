use Rattle.std.proofs.Common.{◌≡◌, take}
use Rattle.cal_model.specs.Objects.ComponentReading as spec
use Rattle.cal_object.proofs.busy.stored_busy_of.Given as goal

-- the periods of the lines so far
abbrev pub invariant-lines : goal.invariant-lines
invariant-lines l = l.busy ≡ spec.stored_busy_of l.zones (take l.line-index l.lines)
