use Rattle.std.specs.Prelude.{All}
use Rattle.override_merge.specs.Conversions.{HasRowTimes}
use Rattle.tests_recurrence.proofs.overrides.master_rows.Given as goal

abbrev pub invariant-days : goal.invariant-days
invariant-days l = All HasRowTimes l.rows
