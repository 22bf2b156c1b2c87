use Rattle.std.proofs.Common.{◌≡◌, ◌+◌, ◌-◌, ◌*◌, ◌≤◌}
use Rattle.cal_model.specs.Recurrence.NextPassing.{end_day}
use Rattle.cal_model.specs.Values.LocalTimes.{moment_of_local}
use Rattle.cal_model.specs.Walks.Budgets.{left_to_take}
use Rattle.cal_model.specs.Walks.Clocks.{reading_by}
use Rattle.cal_model.specs.Walks.Cursors.{IsAt}
use Rattle.cal_model.specs.Walks.KeptMoments.{found_from}
use Rattle.cal_model.proofs.walk.cursor.next_plain.Given as goal

-- what is still to be found has not changed
abbrev pub invariant-look : goal.invariant-look
invariant-look g l = record {
  cursor : IsAt l.rule (moment_of_local l.start) (reading_by l.clock).dated l.cursor;
  found : found_from l.rule (moment_of_local l.start) (reading_by l.clock) (moment_of_local l.cursor.at)
      ≡ found_from l.rule (moment_of_local l.start) (reading_by l.clock) (moment_of_local l.initial.cursor.at);
  steps : l.steps + left_to_take l.rule (moment_of_local l.start) (reading_by l.clock).dated (moment_of_local l.end) l.cursor
      ≤ l.initial.steps + left_to_take l.rule (moment_of_local l.start) (reading_by l.clock).dated (moment_of_local l.end) l.initial.cursor;
}

abbrev pub decreases-look : goal.decreases-look
decreases-look g l = 86400 * end_day - moment_of_local l.cursor.at
