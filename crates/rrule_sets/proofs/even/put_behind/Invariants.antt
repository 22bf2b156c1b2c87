use Rattle.std.proofs.Common.{◌≡◌, ◌+◌, ◌-◌, ◌*◌, ◌≤◌, ◌<◌, ◌++◌, true}
use Rattle.cal_model.specs.Recurrence.NextPassing.{end_day}
use Rattle.cal_model.specs.Recurrence.RuleBounds.{IsWritten}
use Rattle.cal_model.specs.Recurrence.Passing.{passes}
use Rattle.cal_model.specs.Values.LocalTimes.{moment_of_local}
use Rattle.cal_model.specs.Walks.Clocks.{reading_by}
use Rattle.cal_model.specs.Walks.KeptMoments.{found_from, starts_by, wanted}
use Rattle.rrule_sets.proofs.even.put_behind.Given as goal

-- the place is a moment of the rule, and what was put and what is still wanted is all
abbrev pub invariant-moments : goal.invariant-moments
invariant-moments l = record {
  written : IsWritten l.at;
  before_end : moment_of_local l.at < 86400 * end_day;
  passing : passes l.rule (moment_of_local l.start) (reading_by l.clock).dated (moment_of_local l.at) ≡ true;
  behind : moment_of_local l.start ≤ moment_of_local l.at;
  all : l.out ++ starts_by (reading_by l.clock) (wanted l.rule (moment_of_local l.start) (reading_by l.clock) (moment_of_local l.low) (moment_of_local l.high) l.left (found_from l.rule (moment_of_local l.start) (reading_by l.clock) (moment_of_local l.at + 1)))
      ≡ l.initial.out ++ starts_by (reading_by l.clock) (wanted l.rule (moment_of_local l.start) (reading_by l.clock) (moment_of_local l.low) (moment_of_local l.high) l.fn.place.left (found_from l.rule (moment_of_local l.start) (reading_by l.clock) (moment_of_local l.fn.place.at + 1)));
}

abbrev pub decreases-moments : goal.decreases-moments
decreases-moments l = 86400 * end_day - moment_of_local l.at
