use Rattle.std.proofs.Common.{◌≡◌, take}
use Rattle.cal_model.specs.Objects.LineValues as spec
use Rattle.cal_object.proofs.line_dates.stamps_at.Given as goal

-- the stamps of the lines so far
abbrev pub invariant-lines : goal.invariant-lines
invariant-lines l = l.stamps ≡ spec.stamps_at l.zones l.name (take l.line-index l.lines)
