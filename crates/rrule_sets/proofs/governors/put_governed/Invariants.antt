use Rattle.std.proofs.Common.{◌≡◌, ◌++◌, length}
use Rattle.std.specs.Prelude.{All, flat_map}
use Rattle.override_merge.specs.Conversions.{HasRowTimes, tables_of}
use Rattle.rrule_sets.specs.HeldGovernors.{stand_in_by}
use Rattle.rrule_sets.proofs.governors.put_governed.Given as goal

-- the rows so far, and what stands for those that are left
abbrev pub invariant-rows : goal.invariant-rows
invariant-rows l = record {
  made : l.out ++ flat_map (stand_in_by (tables_of l.zones) l.ids l.names l.governors) l.rest ≡ l.initial.out ++ flat_map (stand_in_by (tables_of l.zones) l.ids l.names l.governors) l.rows;
  left : All HasRowTimes l.rest;
}

abbrev pub decreases-rows : goal.decreases-rows
decreases-rows l = length l.rest
