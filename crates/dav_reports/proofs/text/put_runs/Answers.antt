use Rattle.std.proofs.lemmas.List.Elements.{All-tail}
use Rattle.dav_reports.specs.FreeBusyLines.{IsWithinDates}
use Rattle.dav_reports.proofs.FreeBusyJoined.{run_next}
use Rattle.dav_reports.proofs.text.put_runs.Goals as goal

pub lines-preserved : goal.lines-preserved
lines-preserved c =
    let first = c.in-Some.ensures.cases.0 in
    record {
      made = run_next c.lines.out c.put_run.new.out _ c.in-Some.run'.now c.in-Some.behind.now c.in_ok-put_run.ensures (rw first at c.lines.invariant.made);
      left = All-tail IsWithinDates c.in-Some.run'.now c.in-Some.behind.now (rw first at c.lines.invariant.left);
    }
