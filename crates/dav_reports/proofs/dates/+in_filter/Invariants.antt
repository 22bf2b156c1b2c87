use Rattle.std.proofs.Common.{None, take}
use Rattle.std.specs.Prelude.{flat_map}
use Rattle.cal_model.specs.Reports.NamedRanges.{ranges_of_filter}
use Rattle.dav_reports.specs.RangeDates.{IsFirst}
use Rattle.dav_reports.proofs.dates.+in_filter.Given as goal

-- the ranges of the comp-filters in it so far lie within the dates
abbrev pub invariant-comps : goal.invariant-comps
invariant-comps l = IsFirst (flat_map ranges_of_filter (take l.inner-index l.inner-items)) None

abbrev pub decreases-in_filter : goal.decreases-in_filter
decreases-in_filter l = goal.size-in_filter l
