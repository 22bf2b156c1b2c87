use Rattle.std.proofs.Common.{◌≡◌, take}
use Rattle.cal_model.specs.Objects.LineValues as spec
use Rattle.cal_object.proofs.line_dates.periods_at.Given as goal

-- the periods of the lines so far
abbrev pub invariant-lines : goal.invariant-lines
invariant-lines l = l.periods ≡ spec.periods_at l.zones l.name (take l.line-index l.lines)
