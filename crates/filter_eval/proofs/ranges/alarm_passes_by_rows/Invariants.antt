use Rattle.std.proofs.Common.{◌≡◌, ◌-◌, length}
use Rattle.std.specs.List.{list_any}
use Rattle.cal_model.specs.declared.row.Row.{Row}
use Rattle.cal_model.specs.Filters.ComponentRanges.{rows_of_number}
use Rattle.cal_model.specs.Ranges.Overlap.{alarm_overlaps, dated_fixed}
use Rattle.filter_eval.specs.Places.{matched_of}
use Rattle.filter_eval.specs.Walks.{rows_from}
use Rattle.filter_eval.proofs.ranges.alarm_passes_by_rows.Given as goal

-- the rows of the component from the place on tell as much as all of them
abbrev pub invariant-rows : goal.invariant-rows
invariant-rows l =
    list_any (λ (row : Row). alarm_overlaps l.alarm l.component (dated_fixed row l.subject.zone.now) l.range) (rows_from l.subject l.number l.place)
    ≡ list_any (λ (row : Row). alarm_overlaps l.alarm l.component (dated_fixed row l.subject.zone.now) l.range) (rows_of_number (matched_of l.subject) l.number)

abbrev pub decreases-rows : goal.decreases-rows
decreases-rows l = length l.subject.rows.now - l.place
