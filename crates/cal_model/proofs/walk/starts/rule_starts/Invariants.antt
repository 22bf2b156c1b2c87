use Rattle.std.proofs.Common.{◌≡◌, ◌+◌, ◌≤◌, ◌++◌, length}
use Rattle.std.specs.Prelude.{count_by}
use Rattle.cal_model.specs.Recurrence.RecurrenceSet.{every_moment}
use Rattle.cal_model.specs.Walks.Budgets.{left_to_take, last_period, passes_by}
use Rattle.cal_model.specs.Values.LocalTimes.{moment_of_local}
use Rattle.cal_model.specs.Walks.Clocks.{reading_by}
use Rattle.cal_model.specs.Walks.PickedRest.{IsPicks, still_given}
use Rattle.cal_model.specs.Walks.KeptMoments.{starts_by, starts_between}
use Rattle.cal_model.proofs.walk.starts.rule_starts.Given as goal

-- what was put there, and what is still given, is all
abbrev pub invariant-sweep : goal.invariant-sweep
invariant-sweep g l = record {
  picks : IsPicks l.rule (moment_of_local l.start) (reading_by l.clock).dated l.walk.picks;
  all : l.out ++ starts_by (reading_by l.clock) (still_given l.rule (moment_of_local l.start) (reading_by l.clock) (moment_of_local l.low) (moment_of_local l.high) l.walk)
      ≡ l.fn.out ++ starts_between l.rule (moment_of_local l.start) (reading_by l.clock) (moment_of_local l.low) (moment_of_local l.high);
  steps : l.steps + left_to_take l.rule (moment_of_local l.start) (reading_by l.clock).dated (moment_of_local l.high) l.walk.picks.cursor
      ≤ l.fn.steps + (1 + count_by (passes_by l.rule (moment_of_local l.start) (reading_by l.clock).dated (last_period l.rule (moment_of_local l.high))) every_moment);
}

abbrev pub decreases-sweep : goal.decreases-sweep
decreases-sweep g l = length (still_given l.rule (moment_of_local l.start) (reading_by l.clock) (moment_of_local l.low) (moment_of_local l.high) l.walk)
