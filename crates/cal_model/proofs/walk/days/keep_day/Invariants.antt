use Rattle.std.proofs.Common.{◌≡◌, ◌<◌, ◌*◌, ◌++◌, length}
use Rattle.std.specs.Prelude.{All}
use Rattle.cal_moment.specs.Calendar.{day_of_moment, second_of_day}
use Rattle.cal_model.specs.Recurrence.RuleBounds.{IsWritten}
use Rattle.cal_model.specs.Values.LocalTimes.{moment_of_local}
use Rattle.cal_model.specs.Walks.Clocks.{reading_by}
use Rattle.cal_model.specs.Walks.KeptMoments.{moments_of}
use Rattle.cal_model.proofs.Walks.DayLemmas.{kept_times}
use Rattle.cal_model.proofs.walk.days.keep_day.Given as goal

-- the moments so far, and those at the times that are left
abbrev pub invariant-times : goal.invariant-times
invariant-times l = record {
  found : moments_of l.found ++ kept_times (reading_by l.clock) (86400 * day_of_moment (moment_of_local l.m)) (second_of_day (moment_of_local l.m)) l.rest
      ≡ moments_of l.initial.found ++ kept_times (reading_by l.clock) (86400 * day_of_moment (moment_of_local l.m)) (second_of_day (moment_of_local l.m)) l.times;
  small : All (λ s. s < 86400) l.rest;
  written : All (λ m. IsWritten m) l.initial.found → All (λ m. IsWritten m) l.found;
}

abbrev pub decreases-times : goal.decreases-times
decreases-times l = length l.rest
