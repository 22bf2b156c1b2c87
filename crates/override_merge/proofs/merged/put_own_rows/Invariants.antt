use Rattle.std.proofs.Common.{◌≡◌, ◌+◌, ◌≤◌, ◌++◌, length}
use Rattle.std.specs.Prelude.{All, filter}
use Rattle.override_merge.specs.Conversions.{HasConvertibleRow}
use Rattle.override_merge.specs.Parts.{lies_in, own_rows_by}
use Rattle.override_merge.proofs.merged.put_own_rows.Given as goal

-- the rows so far, and those of the components that are left
abbrev pub invariant-overrides : goal.invariant-overrides
invariant-overrides l = record {
  made : l.out ++ filter (lies_in l.object l.part) (own_rows_by l.object.zones l.ids l.days l.number l.rest) ≡ l.initial.out ++ filter (lies_in l.object l.part) (own_rows_by l.object.zones l.ids l.days 0 l.object.components);
  counted : l.number + length l.rest ≤ length l.object.components;
  left : All (HasConvertibleRow (length l.object.zones)) l.rest;
}

abbrev pub decreases-overrides : goal.decreases-overrides
decreases-overrides l = length l.rest
