use Rattle.std.proofs.Common.{◌≡◌, ◌++◌, length, map}
use Rattle.std.specs.Prelude.{All, filter, not}
use Rattle.cal_model.specs.Instances.Alignment.{reading_of}
use Rattle.override_merge.specs.Conversions.{tables_of}
use Rattle.override_merge.specs.NamedStarts.{has_name}
use Rattle.rrule_sets.specs.AskedStarts.{row_by}
use Rattle.rrule_sets.proofs.DateStarts.{IsNearRow}
use Rattle.rrule_sets.proofs.instances.rows_at.Given as goal

-- the rows so far, and those at the starts that are left
abbrev pub invariant-starts : goal.invariant-starts
invariant-starts l = record {
  made : l.rows ++ map (row_by (tables_of l.zones) l.stamp l.extent l.asked.plain l.asked.periods l.number) (filter (λ r. not (has_name (reading_of (tables_of l.zones) l.stamp) r l.excepted)) l.rest)
      ≡ map (row_by (tables_of l.zones) l.stamp l.extent l.asked.plain l.asked.periods l.number) (filter (λ r. not (has_name (reading_of (tables_of l.zones) l.stamp) r l.excepted)) l.starts);
  left : All IsNearRow l.rest;
}

abbrev pub decreases-starts : goal.decreases-starts
decreases-starts l = length l.rest
