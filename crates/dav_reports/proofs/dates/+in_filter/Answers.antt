use Rattle.std.proofs.Common.{◌∙◌, List, Some, None, sym, ap}
use Rattle.std.specs.Prelude.{flat_map}
use Rattle.std.proofs.lemmas.List.{take_all}
use Rattle.cal_model.specs.Reports.NamedRanges.{ranges_of_filter}
use Rattle.cal_model.specs.declared.filter.CompFilter.{CompFilter}
use Rattle.cal_model.specs.declared.filter.CompFilter.TheViews.{out-CompFilter}
use Rattle.dav_reports.specs.RangeDates.{IsFirst, first_refusal, own_ranges}
use Rattle.dav_reports.proofs.FirstRanges.{first_before, first_within, found_at, none_more, ranges_of_filter-own}
use Rattle.dav_reports.proofs.dates.+in_filter.Goals as goal

pub returns-in-Some : goal.returns-in-Some
returns-in-Some t c =
    first_before (own_ranges c.args.filter.now) (flat_map ranges_of_filter (out-CompFilter c.args.filter.now).comps) c.in-Some.found c.in-Some.ensures
    ∙ ap first_refusal (sym (ranges_of_filter-own c.args.filter.now))

pub returns-in-Some-in_filter : goal.returns-in-Some-in_filter
returns-in-Some-in_filter t c =
    let items = c.as_slice-inner-items.result.now in
    first_within c.args.filter.now items (Some c.in-Some-in_filter.found) c.as_slice-inner-items.ensures (rw c.in_default.is at c.in_own.ensures)
    (found_at ranges_of_filter items c.comps.inner-index c.inner-item.result c.in-Some-in_filter.found c.comps-test.true c.inner-item.is c.comps.invariant c.in-Some-in_filter.ensures)

pub comps-preserved : goal.comps-preserved
comps-preserved t c =
    none_more ranges_of_filter c.as_slice-inner-items.result.now c.comps.inner-index c.inner-item.result c.comps-test.true c.inner-item.is c.comps.invariant (rw c.in_default-in_filter.is at c.in_filter.ensures)

pub returns : goal.returns
returns t c =
    let items = c.as_slice-inner-items.result.now in
    let all : IsFirst (flat_map ranges_of_filter items) None = c.comps.invariant ∙ ap (λ (xs : List CompFilter). first_refusal (flat_map ranges_of_filter xs)) (take_all c.comps.inner-index items c.comps-test.false) in
    first_within c.args.filter.now items None c.as_slice-inner-items.ensures (rw c.in_default.is at c.in_own.ensures) all
