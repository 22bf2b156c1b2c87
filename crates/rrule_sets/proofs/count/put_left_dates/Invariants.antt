use Rattle.std.proofs.Common.{◌≡◌, ◌++◌, length, map}
use Rattle.std.specs.Prelude.{All, filter}
use Rattle.cal_model.specs.Instances.Starts.{date_start}
use Rattle.override_merge.specs.Conversions.{tables_of, IsConvertible}
use Rattle.rrule_sets.specs.CountedRows.{is_left}
use Rattle.rrule_sets.proofs.count.put_left_dates.Given as goal

-- the starts so far, and those of the dates that are left
abbrev pub invariant-dates : goal.invariant-dates
invariant-dates l = record {
  made : l.out ++ filter (is_left (tables_of l.zones) l.stamp l.taken) (map (date_start (tables_of l.zones) l.stamp) l.rest)
      ≡ l.initial.out ++ filter (is_left (tables_of l.zones) l.stamp l.taken) (map (date_start (tables_of l.zones) l.stamp) l.dates);
  left : All (IsConvertible (length l.zones)) l.rest;
}

abbrev pub decreases-dates : goal.decreases-dates
decreases-dates l = length l.rest
