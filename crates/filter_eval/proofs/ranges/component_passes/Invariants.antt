use Rattle.std.proofs.Common.{◌≡◌, ◌-◌, length}
use Rattle.std.specs.List.{list_any}
use Rattle.cal_model.specs.declared.row.Row.{Row}
use Rattle.cal_model.specs.Filters.ComponentRanges.{component_passes}
use Rattle.cal_model.specs.Ranges.Overlap.{row_overlaps}
use Rattle.filter_eval.specs.Places.{matched_of}
use Rattle.filter_eval.specs.Walks.{rows_from}
use Rattle.filter_eval.proofs.ranges.component_passes.Given as goal

-- the rows of the component from the place on tell as much as all of them
abbrev pub invariant-rows : goal.invariant-rows
invariant-rows l =
    list_any (λ (row : Row). row_overlaps l.component row l.range l.subject.zone.now) (rows_from l.subject l.number l.place)
    ≡ component_passes (matched_of l.subject) l.range (record { number = l.number; component = l.component })

abbrev pub decreases-rows : goal.decreases-rows
decreases-rows l = length l.subject.rows.now - l.place
