use Rattle.std.proofs.Common.{◌≡◌, ◌++◌, take}
use Rattle.std.specs.Prelude.{flat_map}
use Rattle.cal_model.specs.Reports.NamedRanges.{ranges_of_filter}
use Rattle.dav_reports.proofs.ranges.+put_ranges_of_comp.Given as goal

-- the ranges of so many components
abbrev pub invariant-comps : goal.invariant-comps
invariant-comps l = l.out ≡ l.initial.out ++ flat_map ranges_of_filter (take l.comp-index l.comp-items)
