use Rattle.std.proofs.Common.{◌≤◌, ◌++◌, length, sym, ap, ◌∙◌, append_assoc, arith}
use Rattle.std.specs.Prelude.{flat_map, option_to_list}
use Rattle.std.proofs.lemmas.List.{take_all}
use Rattle.cal_model.specs.declared.filter.CompFilter.TheViews.{out-CompFilter}
use Rattle.cal_model.specs.declared.filter.PropFilter.{PropFilter}
use Rattle.cal_model.specs.Reports.NamedRanges.{ranges_of_filter, ranges_of_test}
use Rattle.dav_reports.proofs.RangeLemmas.{ranges_parts}
use Rattle.dav_reports.proofs.ranges.+put_ranges_of_comp.Goals as goal

pub returns : goal.returns
returns t c =
    let filter = out-CompFilter c.args.filter.now in
    let own = option_to_list filter.time in
    let of_props = flat_map (λ (p : PropFilter). ranges_of_test p.test) filter.props in
    let inner = flat_map ranges_of_filter filter.comps in
    let past : length c.as_slice-comp-items.result.now ≤ c.comps.comp-index = omega arith in
    let all = take_all c.comps.comp-index c.as_slice-comp-items.result.now past in
    let ends = rw (all, c.as_slice-comp-items.ensures) at c.comps.invariant in
    let props = rw c.as_slice.ensures at c.in_ok-put_ranges_of_props.ensures in
    ends
    ∙ ap (λ out. out ++ inner) (props ∙ ap (λ out. out ++ of_props) c.in_ok-put_some.ensures)
    ∙ append_assoc (c.args.out.now ++ own) of_props inner
    ∙ append_assoc c.args.out.now own (of_props ++ inner)
    ∙ ap (λ ranges. c.args.out.now ++ ranges) (sym (ranges_parts c.args.filter.now))
