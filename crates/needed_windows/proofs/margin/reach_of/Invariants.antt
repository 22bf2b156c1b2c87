use Rattle.std.proofs.Common.{◌≡◌, ◌<◌, ◌^◌, length, map, max}
use Rattle.cal_model.specs.Ranges.Cost.{alarm_reach, greatest}
use Rattle.needed_windows.proofs.margin.reach_of.Given as goal

-- the greatest so far, and those of the alarms that are left
abbrev pub invariant-alarms : goal.invariant-alarms
invariant-alarms l = record {
  made : max l.reach (greatest (map alarm_reach l.rest)) ≡ greatest (map alarm_reach l.alarms);
  small : l.reach < 2 ^ 114;
}

abbrev pub decreases-alarms : goal.decreases-alarms
decreases-alarms l = length l.rest
