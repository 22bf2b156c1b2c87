use Rattle.std.proofs.Common.{◌≡◌, ◌+◌, ◌*◌, ◌++◌}
use Rattle.std.specs.Prelude.{filter}
use Rattle.cal_model.specs.Walks.DayTimes.{second_passes}
use Rattle.cal_model.specs.Words.Lists.{numbers_between}
use Rattle.cal_model.proofs.walk.day_times.put_seconds.Given as goal

-- the seconds so far
abbrev pub invariant-loop-second : goal.invariant-loop-second
invariant-loop-second l = l.out ≡ l.fn.out ++ filter (second_passes l.rule l.of_start) (numbers_between (60 * l.minute) (60 * l.minute + l.second))
