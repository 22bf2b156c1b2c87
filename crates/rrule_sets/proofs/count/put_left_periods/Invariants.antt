use Rattle.std.proofs.Common.{◌≡◌, ◌++◌, length, map}
use Rattle.std.specs.Prelude.{All, filter}
use Rattle.cal_model.specs.Instances.Starts.{date_start}
use Rattle.override_merge.specs.Conversions.{tables_of}
use Rattle.override_merge.specs.ExpandableComponents.{IsConvertiblePeriod}
use Rattle.cal_moment.specs.declared.stamp.Period.{Period}
use Rattle.rrule_sets.specs.CountedRows.{is_left}
use Rattle.rrule_sets.proofs.count.put_left_periods.Given as goal

-- the starts so far, and those of the periods that are left
abbrev pub invariant-periods : goal.invariant-periods
invariant-periods l = record {
  made : l.out ++ filter (is_left (tables_of l.zones) l.stamp l.taken) (map (λ (period : Period). date_start (tables_of l.zones) l.stamp period.start) l.rest)
      ≡ l.initial.out ++ filter (is_left (tables_of l.zones) l.stamp l.taken) (map (λ (period : Period). date_start (tables_of l.zones) l.stamp period.start) l.periods);
  left : All (IsConvertiblePeriod (length l.zones)) l.rest;
}

abbrev pub decreases-periods : goal.decreases-periods
decreases-periods l = length l.rest
