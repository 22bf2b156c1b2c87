use Rattle.std.proofs.lemmas.List.Elements.{All-tail}
use Rattle.cal_model.specs.Ranges.RowRanges.{row_in_range}
use Rattle.expand_limit.specs.InstanceLines.{IsShownRow}
use Rattle.ics_tool.specs.RowTexts.{row_line}
use Rattle.ics_tool.proofs.LineSteps.{put_if_next}
use Rattle.ics_tool.proofs.lines.put_met.Goals as goal

pub rows-preserved : goal.rows-preserved
rows-preserved c =
    let first = c.in-Some.ensures.cases.0 in
    record {
      made = put_if_next row_line (row_in_range c.args.object.now c.args.zone.now c.args.range) c.rows.out c.put_if_met.new.out _ c.in-Some.row.now c.in-Some.behind.now c.in_ok-put_if_met.ensures (rw first at c.rows.invariant.made);
      left = All-tail IsShownRow c.in-Some.row.now c.in-Some.behind.now (rw first at c.rows.invariant.left);
    }
