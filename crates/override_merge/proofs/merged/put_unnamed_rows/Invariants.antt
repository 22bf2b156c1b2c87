use Rattle.std.proofs.Common.{◌≡◌, ◌++◌, length}
use Rattle.std.specs.Prelude.{All, filter, not}
use Rattle.cal_model.specs.declared.row.Row.{Row}
use Rattle.cal_model.specs.Instances.Alignment.{reading_of}
use Rattle.override_merge.specs.Conversions.{HasRowTimes}
use Rattle.override_merge.specs.NamedStarts.{has_name}
use Rattle.override_merge.specs.Parts.{lies_in}
use Rattle.override_merge.proofs.merged.put_unnamed_rows.Given as goal

-- the rows so far, and those that are left
abbrev pub invariant-rows : goal.invariant-rows
invariant-rows l = record {
  made : l.out ++ filter (lies_in l.object l.part) (filter (λ (r : Row). not (has_name (reading_of l.object.zones l.ids) r.id l.names)) l.rest)
      ≡ l.initial.out ++ filter (lies_in l.object l.part) (filter (λ (r : Row). not (has_name (reading_of l.object.zones l.ids) r.id l.names)) l.rows);
  left : All HasRowTimes l.rest;
}

abbrev pub decreases-rows : goal.decreases-rows
decreases-rows l = length l.rest
