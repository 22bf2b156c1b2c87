use Rattle.cal_model.specs.Recurrence.RuleBounds.{IsWritten}
use Rattle.tests_recurrence.proofs.rule_walks.bodies_agree.Given as goal

-- the next moment to ask from is a written one
abbrev pub invariant-steps : goal.invariant-steps
invariant-steps g l = IsWritten l.from
