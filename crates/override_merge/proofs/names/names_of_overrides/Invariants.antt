use Rattle.std.proofs.Common.{◌≡◌, ◌++◌, length}
use Rattle.std.specs.Prelude.{All}
use Rattle.override_merge.specs.Conversions.{tables_of, HasConvertibleRow}
use Rattle.override_merge.specs.NamedStarts.{values_in, days_in, named_beside}
use Rattle.override_merge.proofs.names.names_of_overrides.Given as goal

-- the values and days so far, and those of the components that are left
abbrev pub invariant-overrides : goal.invariant-overrides
invariant-overrides l = record {
  values : l.values ++ values_in (named_beside (tables_of l.zones) l.ids l.rest) ≡ values_in (named_beside (tables_of l.zones) l.ids l.components);
  days : l.days ++ days_in (named_beside (tables_of l.zones) l.ids l.rest) ≡ days_in (named_beside (tables_of l.zones) l.ids l.components);
  left : All (HasConvertibleRow (length l.zones)) l.rest;
}

abbrev pub decreases-overrides : goal.decreases-overrides
decreases-overrides l = length l.rest
