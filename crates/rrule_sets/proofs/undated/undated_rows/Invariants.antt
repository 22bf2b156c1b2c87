use Rattle.std.proofs.Common.{◌≡◌, ◌+◌, ◌≤◌, ◌++◌, length}
use Rattle.rrule_sets.specs.UndatedRows.{undated_rows_from}
use Rattle.rrule_sets.proofs.undated.undated_rows.Given as goal

-- the rows so far, and those of the components that are left
abbrev pub invariant-components : goal.invariant-components
invariant-components l = record {
  made : l.rows ++ undated_rows_from l.number l.rest ≡ undated_rows_from 0 l.object.components;
  counted : l.number + length l.rest ≤ length l.object.components;
}

abbrev pub decreases-components : goal.decreases-components
decreases-components l = length l.rest
