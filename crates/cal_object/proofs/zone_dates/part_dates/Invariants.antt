use Rattle.std.proofs.Common.{◌≡◌, ◌++◌, length}
use Rattle.cal_model.specs.Objects.ZoneReading as spec
use Rattle.cal_object.proofs.zone_dates.part_dates.Given as goal

-- the dates so far, and those of the lines to come, are all
abbrev pub invariant-lines : goal.invariant-lines
invariant-lines l = l.dates ++ spec.part_dates l.rest ≡ spec.part_dates l.lines

abbrev pub decreases-lines : goal.decreases-lines
decreases-lines l = length l.rest
