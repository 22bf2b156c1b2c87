use Rattle.std.proofs.Common.{◌≡◌, take}
use Rattle.std.specs.Prelude.{filter, filter_map}
use Rattle.cal_model.specs.Objects.ComponentReading as spec
use Rattle.cal_object.proofs.alarms.alarms_of.Given as goal

-- the alarms of the components so far
abbrev pub invariant-children : goal.invariant-children
invariant-children l = l.alarms ≡ filter_map spec.alarm_of (filter spec.is_alarm (take l.child-index l.children))
