use Rattle.std.proofs.Common.{◌≡◌, ◌<◌, ◌^◌, length, max}
use Rattle.std.specs.Prelude.{All, flat_map}
use Rattle.cal_model.specs.Ranges.Cost.{greatest, lengths}
use Rattle.override_merge.specs.Conversions.{tables_of}
use Rattle.override_merge.specs.ExpandableComponents.{IsExpandable}
use Rattle.needed_windows.proofs.margin.longest.Given as goal

-- the greatest so far, and those of the components that are left
abbrev pub invariant-components : goal.invariant-components
invariant-components l = record {
  made : max l.longest (greatest (flat_map (lengths (tables_of l.zones)) l.rest)) ≡ greatest (flat_map (lengths (tables_of l.zones)) l.components);
  small : l.longest < 2 ^ 81;
  left : All (IsExpandable (length l.zones)) l.rest;
}

abbrev pub decreases-components : goal.decreases-components
decreases-components l = length l.rest
