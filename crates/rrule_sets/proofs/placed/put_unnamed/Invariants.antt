use Rattle.std.proofs.Common.{◌≡◌, ◌++◌, ℤ, length}
use Rattle.std.specs.Prelude.{All, filter, not}
use Rattle.cal_model.specs.declared.row.Row.{Row}
use Rattle.cal_model.specs.Instances.Alignment.{reading_of}
use Rattle.cal_model.specs.Instances.Rows.{lies_in_window}
use Rattle.override_merge.specs.Conversions.{HasRowTimes}
use Rattle.override_merge.specs.NamedStarts.{has_name}
use Rattle.rrule_sets.specs.PlacedRows.{rows_at}
use Rattle.rrule_sets.proofs.placed.put_unnamed.Given as goal

-- the rows so far, and those that are left
abbrev pub invariant-rows : goal.invariant-rows
invariant-rows l = record {
  made : (window : ℤ) → rows_at window l.out ++ filter (lies_in_window l.object window) (filter (λ (r : Row). not (has_name (reading_of l.object.zones l.ids) r.id l.names)) l.rest)
      ≡ rows_at window l.initial.out ++ filter (lies_in_window l.object window) (filter (λ (r : Row). not (has_name (reading_of l.object.zones l.ids) r.id l.names)) l.rows);
  left : All HasRowTimes l.rest;
}

abbrev pub decreases-rows : goal.decreases-rows
decreases-rows l = length l.rest
