use Rattle.std.specs.Prelude.{All}
use Rattle.override_merge.specs.Conversions.{HasConvertibleRow}
use Rattle.tests_recurrence.proofs.overrides.components_of.Given as goal

abbrev pub invariant-overrides : goal.invariant-overrides
invariant-overrides l = All (HasConvertibleRow 1) l.components
