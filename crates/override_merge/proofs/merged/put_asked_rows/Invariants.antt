use Rattle.std.proofs.Common.{◌≡◌, ◌++◌, length}
use Rattle.std.specs.Prelude.{All, filter}
use Rattle.override_merge.specs.Conversions.{HasRowTimes}
use Rattle.override_merge.specs.Parts.{lies_in}
use Rattle.override_merge.proofs.merged.put_asked_rows.Given as goal

-- the rows so far, and those that are left
abbrev pub invariant-rows : goal.invariant-rows
invariant-rows l = record {
  made : l.out ++ filter (lies_in l.object l.part) l.rest ≡ l.initial.out ++ filter (lies_in l.object l.part) l.rows;
  left : All HasRowTimes l.rest;
}

abbrev pub decreases-rows : goal.decreases-rows
decreases-rows l = length l.rest
