use Rattle.std.proofs.Common.{None, take}
use Rattle.dav_reports.specs.RangeDates.{IsFirst, ranges_of_props}
use Rattle.dav_reports.proofs.dates.in_props.Given as goal

-- the ranges so far lie within the dates
abbrev pub invariant-filters : goal.invariant-filters
invariant-filters l = IsFirst (ranges_of_props (take l.filter-index l.filters)) None
