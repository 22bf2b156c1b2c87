use Rattle.std.proofs.Common.{◌≡◌, ◌+◌, ◌≤◌, length}
use Rattle.cal_model.specs.Values.LocalTimes.{moment_of_local}
use Rattle.cal_model.specs.Walks.Budgets.{left_to_take}
use Rattle.cal_model.specs.Walks.Clocks.{reading_by}
use Rattle.cal_model.specs.Walks.PickedRest.{IsPicks, rest_of, still_given}
use Rattle.cal_model.proofs.walk.rule_walk.next_moment.Given as goal

-- what is still to be given has not changed
abbrev pub invariant-next : goal.invariant-next
invariant-next g l = record {
  picks : IsPicks l.rule (moment_of_local l.start) (reading_by l.clock).dated l.walk.picks;
  rest : still_given l.rule (moment_of_local l.start) (reading_by l.clock) (moment_of_local l.low) (moment_of_local l.high) l.walk
      ≡ still_given l.rule (moment_of_local l.start) (reading_by l.clock) (moment_of_local l.low) (moment_of_local l.high) l.initial.walk;
  steps : l.steps + left_to_take l.rule (moment_of_local l.start) (reading_by l.clock).dated (moment_of_local l.high) l.walk.picks.cursor
      ≤ l.initial.steps + left_to_take l.rule (moment_of_local l.start) (reading_by l.clock).dated (moment_of_local l.high) l.initial.walk.picks.cursor;
}

abbrev pub decreases-next : goal.decreases-next
decreases-next g l = length (rest_of l.rule (moment_of_local l.start) (reading_by l.clock) l.walk.picks)
