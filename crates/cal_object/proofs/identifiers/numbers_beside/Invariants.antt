use Rattle.std.proofs.Common.{◌≡◌, ◌++◌, length}
use Rattle.std.specs.Prelude.{All}
use Rattle.cal_object.specs.Alignments.{tables_of}
use Rattle.cal_object.specs.Identifiers.{HasReadId, ids_beside, values_in, days_in}
use Rattle.cal_object.proofs.identifiers.numbers_beside.Given as goal

-- the numbers so far, and those of the components that are left
abbrev pub invariant-components : goal.invariant-components
invariant-components l = record {
  values : l.values ++ values_in (ids_beside (tables_of l.zones) l.start l.rest) ≡ values_in (ids_beside (tables_of l.zones) l.start l.components);
  days : l.days ++ days_in (ids_beside (tables_of l.zones) l.start l.rest) ≡ days_in (ids_beside (tables_of l.zones) l.start l.components);
  left : All HasReadId l.rest;
}

abbrev pub decreases-components : goal.decreases-components
decreases-components l = length l.rest
