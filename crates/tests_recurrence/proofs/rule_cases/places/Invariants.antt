use Rattle.std.proofs.Common.{◌<◌}
use Rattle.std.specs.Prelude.{All}
use Rattle.cal_model.specs.Recurrence.RuleBounds.{IsPlace}
use Rattle.tests_recurrence.proofs.rule_cases.places.Given as goal

-- what was kept so far
abbrev pub invariant-loop-number : goal.invariant-loop-number
invariant-loop-number l = All (IsPlace l.greatest) l.list
