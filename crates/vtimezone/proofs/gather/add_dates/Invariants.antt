use Rattle.std.proofs.Common.{◌≡◌, ◌++◌, map, All, length}
use Rattle.cal_model.specs.Recurrence.RuleBounds.{IsWritten}
use Rattle.cal_model.specs.Values.LocalTimes.{moment_of_local}
use Rattle.vtimezone.specs.Gathered as spec
use Rattle.vtimezone.proofs.gather.add_dates.Given as goal

-- what was put there, and the changes of the dates to come, are all
abbrev pub invariant-loop-date : goal.invariant-loop-date
invariant-loop-date l = record {
  dates : All IsWritten l.rest;
  all : spec.changes_of l.changes ++ spec.changes_at l.part (map moment_of_local l.rest) ≡ spec.changes_of l.fn.changes ++ spec.changes_at l.part (map moment_of_local l.dates);
}

abbrev pub decreases-loop-date : goal.decreases-loop-date
decreases-loop-date l = length l.rest
