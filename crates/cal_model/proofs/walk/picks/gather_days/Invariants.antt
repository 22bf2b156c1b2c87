use Rattle.std.proofs.Common.{◌≡◌, ◌+◌, ◌-◌, ◌*◌, ◌≤◌, true}
use Rattle.std.specs.Prelude.{All}
use Rattle.cal_model.specs.Recurrence.NextPassing.{end_day}
use Rattle.cal_model.specs.Recurrence.RuleBounds.{IsWritten}
use Rattle.cal_model.specs.Values.LocalTimes.{moment_of_local}
use Rattle.cal_model.specs.Walks.Budgets.{left_to_take}
use Rattle.cal_model.specs.Walks.Clocks.{reading_by}
use Rattle.cal_model.specs.Walks.Cursors.{IsAt}
use Rattle.cal_model.specs.Walks.KeptMoments.{found_between, moments_of, number_of}
use Rattle.cal_model.proofs.walk.picks.gather_days.Given as goal

-- what lies in the period up to the moment at hand is gathered
abbrev pub invariant-days : goal.invariant-days
invariant-days g l = record {
  cursor : IsAt l.rule (moment_of_local l.start) (reading_by l.clock).dated l.cursor;
  taken : l.cursor.taken ≡ true;
  forward : moment_of_local l.fn.cursor.at ≤ moment_of_local l.cursor.at;
  same : number_of l.rule (moment_of_local l.cursor.at) ≡ l.number;
  found : moments_of l.found ≡ found_between l.rule (moment_of_local l.start) (reading_by l.clock) (moment_of_local l.fn.cursor.at) (moment_of_local l.cursor.at);
  written : All (λ m. IsWritten m) l.found;
  steps : l.steps + left_to_take l.rule (moment_of_local l.start) (reading_by l.clock).dated (moment_of_local l.end) l.cursor
      ≤ l.initial.steps + left_to_take l.rule (moment_of_local l.start) (reading_by l.clock).dated (moment_of_local l.end) l.fn.cursor;
}

abbrev pub decreases-days : goal.decreases-days
decreases-days g l = 86400 * end_day - moment_of_local l.cursor.at
