use Rattle.std.proofs.Common.{◌≡◌, ◌+◌, ◌≤◌, ◌++◌, ℤ, length}
use Rattle.std.specs.Prelude.{All, filter}
use Rattle.cal_model.specs.Instances.Rows.{lies_in_window}
use Rattle.override_merge.specs.Conversions.{HasConvertibleRow}
use Rattle.override_merge.specs.Parts.{own_rows_by}
use Rattle.rrule_sets.specs.PlacedRows.{rows_at}
use Rattle.rrule_sets.proofs.placed.put_own.Given as goal

-- the rows so far, and those of the components that are left
abbrev pub invariant-overrides : goal.invariant-overrides
invariant-overrides l = record {
  made : (window : ℤ) → rows_at window l.out ++ filter (lies_in_window l.object window) (own_rows_by l.object.zones l.ids l.days l.number l.rest)
      ≡ rows_at window l.initial.out ++ filter (lies_in_window l.object window) (own_rows_by l.object.zones l.ids l.days 0 l.object.components);
  counted : l.number + length l.rest ≤ length l.object.components;
  left : All (HasConvertibleRow (length l.object.zones)) l.rest;
}

abbrev pub decreases-overrides : goal.decreases-overrides
decreases-overrides l = length l.rest
