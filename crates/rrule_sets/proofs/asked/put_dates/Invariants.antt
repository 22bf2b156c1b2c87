use Rattle.std.proofs.Common.{◌≡◌, ◌+◌, ◌≤◌, ◌++◌, length, map}
use Rattle.std.specs.Prelude.{All, filter}
use Rattle.cal_model.specs.Instances.Starts.{date_start}
use Rattle.override_merge.specs.Conversions.{tables_of, IsConvertible}
use Rattle.rrule_sets.specs.DigitRanges.{starts_in}
use Rattle.rrule_sets.proofs.asked.put_dates.Given as goal

-- the starts so far, and those of the dates that are left
abbrev pub invariant-dates : goal.invariant-dates
invariant-dates g l = record {
  made : l.out ++ filter (starts_in (tables_of l.zones) l.stamp l.range) (map (date_start (tables_of l.zones) l.stamp) l.rest)
      ≡ l.initial.out ++ filter (starts_in (tables_of l.zones) l.stamp l.range) (map (date_start (tables_of l.zones) l.stamp) l.dates);
  counted : l.steps + length l.rest ≤ l.initial.steps + length l.dates;
  left : All (IsConvertible (length l.zones)) l.rest;
}

abbrev pub decreases-dates : goal.decreases-dates
decreases-dates g l = length l.rest
