use Rattle.cal_model.specs.Recurrence.RuleBounds.{IsWritten}
use Rattle.bench.proofs.rules.found_by.Given as goal

-- the next moment to ask from is a written one
abbrev pub invariant-steps : goal.invariant-steps
invariant-steps g l = IsWritten l.from
