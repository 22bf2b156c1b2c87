use Rattle.std.proofs.Common.{◌≡◌, ◌++◌, length, map}
use Rattle.std.specs.Prelude.{All, flat_map}
use Rattle.cal_model.specs.Instances.Rows.{rows_in}
use Rattle.rrule_sets.specs.declared.windows.Needed.{Needed}
use Rattle.rrule_sets.specs.NeededDigits.{HasRange}
use Rattle.rrule_sets.specs.SeveralWindows.{HasNeeded}
use Rattle.rrule_sets.proofs.windows.rows_by_windows.Given as goal

-- the rows so far, and those of the windows that are left
abbrev pub invariant-windows : goal.invariant-windows
invariant-windows l = record {
  made : l.out ++ flat_map (rows_in l.object) (map (λ (n : Needed). n.window) l.rest) ≡ flat_map (rows_in l.object) (map (λ (n : Needed). n.window) l.each);
  range : All (λ (n : Needed). HasRange l.fn.range n.range) l.rest;
  needed : All (HasNeeded l.object.zones l.fn.ids l.object.components) l.rest;
}

abbrev pub decreases-windows : goal.decreases-windows
decreases-windows l = length l.rest
