use Rattle.std.proofs.Common.{◌≡◌, ◌+◌, ◌≤◌, length}
use Rattle.std.specs.Prelude.{count_by}
use Rattle.rrule_sets.specs.CountedRows.{has_own_row}
use Rattle.rrule_sets.proofs.count.own_rows.Given as goal

-- those so far, and those among the components that are left
abbrev pub invariant-components : goal.invariant-components
invariant-components l = record {
  made : l.count + count_by has_own_row l.rest ≡ count_by has_own_row l.components;
  few : l.count + length l.rest ≤ length l.components;
}

abbrev pub decreases-components : goal.decreases-components
decreases-components l = length l.rest
