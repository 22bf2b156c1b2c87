use Rattle.std.proofs.Common.{◌-◌, map, option_map, ap, ◌∙◌, arith}
use Rattle.std.specs.Prelude.{filter, flat_map, codes}
use Rattle.std.specs.Option.{option_copied}
use Rattle.cal_model.specs.Words.Namespaces.{caldav}
use Rattle.cal_model.specs.Bodies.ElementParts.{has_name, item_elements, only}
use Rattle.cal_model.specs.Bodies.FilterElements.{prop_filter, comp_filter_to}
use Rattle.cal_model.specs.Bodies.RangeElements.{stated}
use Rattle.dav_elements.proofs.DepthLemmas.{at_depth_zero, comp_filter_by, first_there}
use Rattle.dav_elements.proofs.filters.+comp_filters.Goals as goal

pub read_comp_filter-returns-then-depth-eq0 : goal.read_comp_filter-returns-then-depth-eq0
read_comp_filter-returns-then-depth-eq0 t c = at_depth_zero comp_filter_to c.no_comp_filter.result c.args.depth c.args.element.now c.if-depth-eq0.true c.no_comp_filter.ensures

pub read_comp_filter-returns : goal.read_comp_filter-returns
read_comp_filter-returns t c =
    let e = c.args.element.now in
    comp_filter_by c.args.depth e c.in_ok-name.name c.is_absent.result c.stated_if_some.result c.in_ok-props.props c.in_ok-comps.comps (omega arith) c.in_ok-name.ensures c.is_absent.ensures
    (c.stated_if_some.ensures ∙ ap (option_map stated) (first_there (option_copied c.only.result) (only (codes "time-range") e) c.only.ensures))
    (c.in_ok-props.ensures ∙ ap (λ items. map prop_filter (filter (has_name caldav (codes "prop-filter")) (flat_map item_elements items))) c.as_slice.ensures)
    (c.in_ok-comps.ensures ∙ ap (λ items. map (comp_filter_to (c.args.depth - 1)) (filter (has_name caldav (codes "comp-filter")) (flat_map item_elements items))) c.as_slice-2.ensures)
