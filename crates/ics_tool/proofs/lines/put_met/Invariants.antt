use Rattle.std.proofs.Common.{◌≡◌, ◌++◌, length}
use Rattle.std.specs.Prelude.{All, filter}
use Rattle.cal_model.specs.Ranges.RowRanges.{row_in_range}
use Rattle.expand_limit.specs.InstanceLines.{IsShownRow}
use Rattle.ics_tool.specs.RowTexts.{rows_text}
use Rattle.ics_tool.proofs.lines.put_met.Given as goal

-- the lines so far, and those of the rows that are left
abbrev pub invariant-rows : goal.invariant-rows
invariant-rows l = record {
  made : l.out ++ rows_text (filter (row_in_range l.object l.zone l.range) l.rest) ≡ l.initial.out ++ rows_text (filter (row_in_range l.object l.zone l.range) l.rows);
  left : All IsShownRow l.rest;
}

abbrev pub decreases-rows : goal.decreases-rows
decreases-rows l = length l.rest
