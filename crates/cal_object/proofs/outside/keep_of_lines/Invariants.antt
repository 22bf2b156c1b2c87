use Rattle.std.proofs.Common.{◌≡◌, length}
use Rattle.cal_base.specs.Lines.ComponentTrees.{or_else}
use Rattle.cal_object.specs.DatesOutside as spec
use Rattle.cal_object.proofs.outside.keep_of_lines.Given as goal

-- what was found, or else is found among the dates to come, is the first of all
abbrev pub invariant-lines : goal.invariant-lines
invariant-lines l = record {
  early : or_else l.early (spec.first_early (spec.dates_from l.levels l.rest)) ≡ or_else l.fn.early (spec.first_early (spec.dates_from l.fn.levels l.lines));
  late : or_else l.late (spec.first_late (spec.dates_from l.levels l.rest)) ≡ or_else l.fn.late (spec.first_late (spec.dates_from l.fn.levels l.lines));
}

abbrev pub decreases-lines : goal.decreases-lines
decreases-lines l = length l.rest
