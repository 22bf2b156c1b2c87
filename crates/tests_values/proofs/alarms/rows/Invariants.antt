use Rattle.std.specs.Prelude.{All}
use Rattle.overlap_rules.specs.Bounds.{IsNearRow}
use Rattle.tests_values.proofs.alarms.rows.Given as goal

-- each row so far is near
abbrev pub invariant-hours : goal.invariant-hours
invariant-hours l = All IsNearRow l.rows
