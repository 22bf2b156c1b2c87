use Rattle.std.proofs.Common.{◌≡◌, ◌<◌, ◌^◌, length, map, max}
use Rattle.std.specs.Prelude.{flat_map}
use Rattle.cal_model.specs.declared.object.Component.{Component}
use Rattle.cal_model.specs.Ranges.Cost.{alarm_reach, greatest}
use Rattle.needed_windows.proofs.margin.alarms_reach.Given as goal

-- the greatest so far, and those of the components that are left
abbrev pub invariant-components : goal.invariant-components
invariant-components l = record {
  made : max l.reach (greatest (flat_map (λ (c : Component). map alarm_reach c.alarms) l.rest)) ≡ greatest (flat_map (λ (c : Component). map alarm_reach c.alarms) l.components);
  small : l.reach < 2 ^ 114;
}

abbrev pub decreases-components : goal.decreases-components
decreases-components l = length l.rest
