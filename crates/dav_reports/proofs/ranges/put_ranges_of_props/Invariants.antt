use Rattle.std.proofs.Common.{◌≡◌, ◌++◌, length}
use Rattle.std.specs.Prelude.{flat_map}
use Rattle.cal_model.specs.declared.filter.PropFilter.{PropFilter}
use Rattle.cal_model.specs.Reports.NamedRanges.{ranges_of_test}
use Rattle.dav_reports.proofs.ranges.put_ranges_of_props.Given as goal

-- the ranges so far, and those of the tests that are left
abbrev pub invariant-props : goal.invariant-props
invariant-props l = l.out ++ flat_map (λ (p : PropFilter). ranges_of_test p.test) l.rest ≡ l.initial.out ++ flat_map (λ (p : PropFilter). ranges_of_test p.test) l.props

abbrev pub decreases-props : goal.decreases-props
decreases-props l = length l.rest
