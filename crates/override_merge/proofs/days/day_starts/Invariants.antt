use Rattle.std.proofs.Common.{◌≡◌, ◌++◌, length}
use Rattle.std.specs.Prelude.{All}
use Rattle.cal_model.specs.Instances.Alignment.{reading_of}
use Rattle.override_merge.specs.Conversions.{tables_of, HasRowTimes}
use Rattle.override_merge.specs.DayStarts.{days_of}
use Rattle.override_merge.proofs.days.day_starts.Given as goal

-- the starts so far, and those of the rows that are left
abbrev pub invariant-rows : goal.invariant-rows
invariant-rows l = record {
  made : l.starts ++ days_of (reading_of (tables_of l.zones) l.ids) l.rest ≡ days_of (reading_of (tables_of l.zones) l.ids) l.rows;
  left : All HasRowTimes l.rest;
}

abbrev pub decreases-rows : goal.decreases-rows
decreases-rows l = length l.rest
