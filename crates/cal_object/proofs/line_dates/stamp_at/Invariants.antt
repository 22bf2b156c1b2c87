use Rattle.std.proofs.Common.{◌≡◌, drop}
use Rattle.cal_model.specs.Objects.LineValues as spec
use Rattle.cal_object.proofs.line_dates.stamp_at.Given as goal

-- the lines so far say no stamp
abbrev pub invariant-lines : goal.invariant-lines
invariant-lines l = spec.stamp_at l.zones l.name l.lines ≡ spec.stamp_at l.zones l.name (drop l.line-index l.lines)
