use Rattle.std.proofs.Common.{◌≡◌, ◌+◌, ◌-◌, ◌*◌, ◌≤◌}
use Rattle.cal_model.specs.Recurrence.NextPassing.{end_day}
use Rattle.cal_model.specs.Values.LocalTimes.{moment_of_local}
use Rattle.cal_model.specs.Walks.Budgets.{left_to_take}
use Rattle.cal_model.specs.Walks.Clocks.{reading_by}
use Rattle.cal_model.specs.Walks.PickedRest.{IsPicks, rest_of}
use Rattle.cal_model.proofs.walk.kept.next_picked.Given as goal

-- what is still to be given has not changed
abbrev pub invariant-next : goal.invariant-next
invariant-next g l = record {
  picks : IsPicks l.rule (moment_of_local l.start) (reading_by l.clock).dated l.picks;
  rest : rest_of l.rule (moment_of_local l.start) (reading_by l.clock) l.picks ≡ rest_of l.rule (moment_of_local l.start) (reading_by l.clock) l.initial.picks;
  steps : l.steps + left_to_take l.rule (moment_of_local l.start) (reading_by l.clock).dated (moment_of_local l.end) l.picks.cursor
      ≤ l.initial.steps + left_to_take l.rule (moment_of_local l.start) (reading_by l.clock).dated (moment_of_local l.end) l.initial.picks.cursor;
}

abbrev pub decreases-next : goal.decreases-next
decreases-next g l = 86400 * end_day - moment_of_local l.picks.cursor.at
