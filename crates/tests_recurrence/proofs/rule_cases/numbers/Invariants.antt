use Rattle.std.proofs.Common.{◌<◌}
use Rattle.std.specs.Prelude.{All}
use Rattle.std.specs.Int.{IsInRange}
use Rattle.tests_recurrence.proofs.rule_cases.numbers.Given as goal

-- what was kept so far
abbrev pub invariant-loop-number : goal.invariant-loop-number
invariant-loop-number l = All (IsInRange l.low l.high) l.list
