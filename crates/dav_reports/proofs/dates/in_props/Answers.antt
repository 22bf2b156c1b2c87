use Rattle.cal_model.specs.declared.filter.PropFilter.{PropFilter}
use Rattle.cal_model.specs.Reports.NamedRanges.{ranges_of_test}
use Rattle.dav_reports.proofs.FirstRanges.{found_at, none_more}
use Rattle.dav_reports.proofs.dates.in_props.Goals as goal

pub returns-in-Some : goal.returns-in-Some
returns-in-Some c =
    found_at (λ (p : PropFilter). ranges_of_test p.test) c.args.filters.now c.filters.filter-index c.filter-item.result c.in-Some.found c.filters-test.true c.filter-item.is c.filters.invariant c.in-Some.ensures

pub filters-preserved : goal.filters-preserved
filters-preserved c =
    none_more (λ (p : PropFilter). ranges_of_test p.test) c.args.filters.now c.filters.filter-index c.filter-item.result c.filters-test.true c.filter-item.is c.filters.invariant (rw c.in_default.is at c.in_test.ensures)
