use Rattle.std.proofs.Common.{◌≡◌, ◌*◌, ◌++◌, false}
use Rattle.std.specs.Prelude.{filter}
use Rattle.cal_moment.specs.Calendar.{second_of_day}
use Rattle.cal_model.specs.Recurrence.Passing.{time_passes}
use Rattle.cal_model.specs.Values.LocalTimes.{moment_of_local}
use Rattle.cal_model.specs.Words.Lists.{numbers_between}
use Rattle.cal_model.proofs.walk.day_times.put_day_times.Given as goal

-- the seconds of the hours so far
abbrev pub invariant-loop-hour : goal.invariant-loop-hour
invariant-loop-hour l = l.out ≡ l.fn.out ++ filter (time_passes l.rule (second_of_day (moment_of_local l.start)) false) (numbers_between 0 (3600 * l.hour))
