use Rattle.std.proofs.Common.{◌≡◌, ◌+◌, ◌*◌, ◌++◌}
use Rattle.std.specs.Prelude.{filter}
use Rattle.cal_model.specs.Walks.DayTimes.{minute_passes}
use Rattle.cal_model.specs.Words.Lists.{numbers_between}
use Rattle.cal_model.proofs.walk.day_times.put_minutes.Given as goal

-- the seconds of the minutes so far
abbrev pub invariant-loop-minute : goal.invariant-loop-minute
invariant-loop-minute l = l.out ≡ l.fn.out ++ filter (minute_passes l.rule l.of_start) (numbers_between (3600 * l.hour) (3600 * l.hour + 60 * l.minute))
