use Rattle.std.proofs.Common.{◌≡◌, ◌+◌, ◌≤◌, ◌++◌, length, map}
use Rattle.std.specs.Prelude.{All}
use Rattle.cal_model.specs.Instances.Alignment.{reading_of}
use Rattle.override_merge.specs.Conversions.{HasConvertibleRow, tables_of}
use Rattle.override_merge.specs.Parts.{id_by}
use Rattle.rrule_sets.specs.HeldGovernors.{IsMovable, governors_by, governors_from, held}
use Rattle.rrule_sets.proofs.governors.put_governors.Given as goal

-- the overrides so far, and those among the components that are left
abbrev pub invariant-overrides : goal.invariant-overrides
invariant-overrides l = record {
  made : l.out ++ map (held (tables_of l.zones)) (governors_from (id_by (reading_of (tables_of l.zones) l.ids) l.days) (tables_of l.zones) l.ids l.number l.rest)
      ≡ l.initial.out ++ map (held (tables_of l.zones)) (governors_by (tables_of l.zones) l.ids l.days l.components);
  movable : All (IsMovable (length l.zones)) l.out;
  counted : l.number + length l.rest ≤ length l.components;
  left : All (HasConvertibleRow (length l.zones)) l.rest;
}

abbrev pub decreases-overrides : goal.decreases-overrides
decreases-overrides l = length l.rest
