use Rattle.std.proofs.Common.{◌≡◌, ◌-◌, length}
use Rattle.cal_model.specs.Filters.ComponentRanges.{component_at}
use Rattle.filter_eval.specs.Walks.{components_from}
use Rattle.filter_eval.proofs.ranges.inner_alarm_passes.Given as goal

-- the components of the place from the number on are all of them
abbrev pub invariant-components : goal.invariant-components
invariant-components l = components_from l.subject l.child l.number ≡ component_at l.subject.object.now l.child

abbrev pub decreases-components : goal.decreases-components
decreases-components l = length l.components - l.number
