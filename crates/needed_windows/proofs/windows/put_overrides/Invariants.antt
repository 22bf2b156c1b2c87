use Rattle.std.proofs.Common.{length}
use Rattle.std.specs.Prelude.{All, flat_map}
use Rattle.std.specs.List.{list_any}
use Rattle.cal_model.specs.Words.Integers.{same_int}
use Rattle.override_merge.specs.Conversions.{tables_of}
use Rattle.override_merge.specs.ExpandableComponents.{IsExpandable}
use Rattle.needed_windows.specs.Stretches.{override_windows, window_of_place}
use Rattle.needed_windows.proofs.StretchLemmas.{IsPutting}
use Rattle.needed_windows.proofs.windows.put_overrides.Given as goal

-- the windows of the components that are left are still to be put
abbrev pub invariant-overrides : goal.invariant-overrides
invariant-overrides l = record {
  made : IsPutting
      (λ place. list_any (same_int (window_of_place place)) (flat_map (override_windows (tables_of l.zones)) l.rest))
      (λ place. list_any (same_int (window_of_place place)) (flat_map (override_windows (tables_of l.zones)) l.components))
      l.initial.out l.out;
  left : All (IsExpandable (length l.zones)) l.rest;
}

abbrev pub decreases-overrides : goal.decreases-overrides
decreases-overrides l = length l.rest
