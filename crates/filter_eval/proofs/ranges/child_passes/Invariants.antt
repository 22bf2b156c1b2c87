use Rattle.std.proofs.Common.{◌≡◌, ◌-◌, length}
use Rattle.std.specs.List.{list_any}
use Rattle.cal_model.specs.Filters.ComponentRanges.{component_at, component_passes}
use Rattle.filter_eval.specs.Places.{matched_of}
use Rattle.filter_eval.specs.Walks.{components_from}
use Rattle.filter_eval.proofs.ranges.child_passes.Given as goal

-- the components of the place from the number on tell as much as all of them
abbrev pub invariant-components : goal.invariant-components
invariant-components l =
    list_any (component_passes (matched_of l.subject) l.range) (components_from l.subject l.child l.number)
    ≡ list_any (component_passes (matched_of l.subject) l.range) (component_at l.subject.object.now l.child)

abbrev pub decreases-components : goal.decreases-components
decreases-components l = length l.components - l.number
