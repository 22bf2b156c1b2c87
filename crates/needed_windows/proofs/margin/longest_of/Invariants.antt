use Rattle.std.proofs.Common.{◌≡◌, ◌<◌, ◌^◌, length, map, max}
use Rattle.std.specs.Prelude.{All}
use Rattle.cal_moment.specs.declared.stamp.Period.{Period}
use Rattle.cal_model.specs.Ranges.Cost.{greatest, length_to, lengths}
use Rattle.override_merge.specs.Conversions.{tables_of}
use Rattle.override_merge.specs.ExpandableComponents.{IsConvertiblePeriod}
use Rattle.needed_windows.proofs.margin.longest_of.Given as goal

-- the greatest so far, and those of the periods that are left
abbrev pub invariant-periods : goal.invariant-periods
invariant-periods l = record {
  made : max l.longest (greatest (map (λ (p : Period). length_to (tables_of l.zones) p.start p.end) l.rest)) ≡ greatest (lengths (tables_of l.zones) l.component);
  small : l.longest < 2 ^ 81;
  left : All (IsConvertiblePeriod (length l.zones)) l.rest;
}

abbrev pub decreases-periods : goal.decreases-periods
decreases-periods l = length l.rest
