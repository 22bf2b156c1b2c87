use Rattle.std.proofs.Common.{◌≡◌, ◌+◌, ◌≤◌, ◌++◌, length, map}
use Rattle.std.specs.Prelude.{All, filter}
use Rattle.override_merge.specs.Conversions.{tables_of}
use Rattle.override_merge.specs.ExpandableComponents.{IsConvertiblePeriod}
use Rattle.rrule_sets.specs.PeriodSpans.{period_span, span_starts_in}
use Rattle.rrule_sets.proofs.asked.put_periods.Given as goal

-- the periods so far, and those that are left
abbrev pub invariant-periods : goal.invariant-periods
invariant-periods g l = record {
  made : l.out ++ filter (span_starts_in (tables_of l.zones) l.stamp l.range) (map (period_span (tables_of l.zones) l.stamp) l.rest)
      ≡ l.initial.out ++ filter (span_starts_in (tables_of l.zones) l.stamp l.range) (map (period_span (tables_of l.zones) l.stamp) l.periods);
  counted : l.steps + length l.rest ≤ l.initial.steps + length l.periods;
  left : All (IsConvertiblePeriod (length l.zones)) l.rest;
}

abbrev pub decreases-periods : goal.decreases-periods
decreases-periods g l = length l.rest
