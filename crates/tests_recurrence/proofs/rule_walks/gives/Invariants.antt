use Rattle.cal_model.specs.Recurrence.RuleBounds.{IsWritten}
use Rattle.tests_recurrence.proofs.rule_walks.gives.Given as goal

-- the next moment to ask from is a written one
abbrev pub invariant-days : goal.invariant-days
invariant-days g l = IsWritten l.from
