use Rattle.std.proofs.Common.{◌<◌}
use Rattle.std.specs.Prelude.{All}
use Rattle.cal_model.specs.Recurrence.RuleBounds.{IsDayPart}
use Rattle.tests_recurrence.proofs.rule_cases.weekdays.Given as goal

-- what was kept so far
abbrev pub invariant-parts : goal.invariant-parts
invariant-parts l = All IsDayPart l.list
