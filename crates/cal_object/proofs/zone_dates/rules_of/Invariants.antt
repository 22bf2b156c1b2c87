use Rattle.std.proofs.Common.{◌≡◌, ◌++◌, length}
use Rattle.cal_model.specs.Objects.LineValues as values
use Rattle.cal_object.proofs.zone_dates.rules_of.Given as goal

-- the rules so far, and those of the lines to come, are all
abbrev pub invariant-lines : goal.invariant-lines
invariant-lines l = l.rules ++ values.rules_of l.rest ≡ values.rules_of l.fn.lines

abbrev pub decreases-lines : goal.decreases-lines
decreases-lines l = length l.rest
