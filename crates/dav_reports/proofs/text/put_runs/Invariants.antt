use Rattle.std.proofs.Common.{◌≡◌, ◌++◌, length}
use Rattle.std.specs.Prelude.{All}
use Rattle.dav_reports.specs.FreeBusyLines.{IsWithinDates, run_lines}
use Rattle.dav_reports.proofs.text.put_runs.Given as goal

-- the lines so far, and those of the runs that are left
abbrev pub invariant-lines : goal.invariant-lines
invariant-lines l = record {
  made : l.out ++ run_lines l.rest ≡ l.initial.out ++ run_lines l.runs;
  left : All IsWithinDates l.rest;
}

abbrev pub decreases-lines : goal.decreases-lines
decreases-lines l = length l.rest
