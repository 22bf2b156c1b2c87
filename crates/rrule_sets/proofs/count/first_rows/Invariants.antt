use Rattle.std.proofs.Common.{◌≡◌, ◌++◌, length}
use Rattle.std.specs.Prelude.{All, flat_map}
use Rattle.override_merge.specs.Conversions.{tables_of, HasConvertibleRow}
use Rattle.rrule_sets.specs.CountedRows.{first_row}
use Rattle.rrule_sets.specs.HeldGovernors.{days_of_movers}
use Rattle.rrule_sets.proofs.count.first_rows.Given as goal

-- the rows so far, and those of the days that are left
abbrev pub invariant-movers : goal.invariant-movers
invariant-movers g l = record {
  made : l.firsts ++ flat_map (first_row (tables_of l.zones) l.stamp l.component) (days_of_movers (tables_of l.zones) l.stamp l.rest)
      ≡ flat_map (first_row (tables_of l.zones) l.stamp l.component) (days_of_movers (tables_of l.zones) l.stamp l.components);
  left : All (HasConvertibleRow (length l.zones)) l.rest;
}

abbrev pub decreases-movers : goal.decreases-movers
decreases-movers g l = length l.rest
