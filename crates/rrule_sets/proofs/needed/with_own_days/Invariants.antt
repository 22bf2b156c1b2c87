use Rattle.std.proofs.Common.{◌≡◌, ◌+◌, length}
use Rattle.std.specs.Prelude.{All}
use Rattle.override_merge.specs.Conversions.{tables_of, HasConvertibleRow}
use Rattle.rrule_sets.specs.NeededDigits.{overrides_in}
use Rattle.rrule_sets.proofs.NeededLemmas.{IsNeededSoFar}
use Rattle.rrule_sets.proofs.needed.with_own_days.Given as goal

-- what the range has so far, and the overrides among the components that are left
abbrev pub invariant-overrides : goal.invariant-overrides
invariant-overrides g l = record {
  range : IsNeededSoFar (tables_of l.zones) l.ids l.window l.components l.rest l.range;
  counted : l.steps + overrides_in l.rest ≡ l.initial.steps + overrides_in l.components;
  left : All (HasConvertibleRow (length l.zones)) l.rest;
}

abbrev pub decreases-overrides : goal.decreases-overrides
decreases-overrides g l = length l.rest
