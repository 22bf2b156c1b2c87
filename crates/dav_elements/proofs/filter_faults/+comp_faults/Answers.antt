use Rattle.std.proofs.Common.{◌-◌, ap, sym, ◌∙◌, arith}
use Rattle.std.specs.Prelude.{codes, filter, flat_map}
use Rattle.cal_model.specs.Words.Namespaces.{caldav}
use Rattle.cal_model.specs.Bodies.ElementParts.{has_name, item_elements}
use Rattle.dav_elements.specs.FilterFaults.{either, each_fault, prop_faults, comp_faults_to}
use Rattle.dav_elements.proofs.FaultLemmas.{faults_more, comp_faults_at}
use Rattle.dav_elements.proofs.ListSteps.{flat_more, kept_more}
use Rattle.dav_elements.proofs.filter_faults.+comp_faults.Goals as goal

pub comps_faults-items-preserved : goal.comps_faults-items-preserved
comps_faults-items-preserved t c =
    faults_more (comp_faults_to c.args.depth) (kept_more (has_name caldav (codes "comp-filter")) (flat_more item_elements c.args.items.now c.items.item-index c.item-item.result c.items-test.true c.item-item.is))
    c.items.invariant c.comp_faults_in.ensures c.either-faults.ensures

pub comp_faults-returns : goal.comp_faults-returns
comp_faults-returns t c =
    let props = c.props_faults-props.ensures ∙ ap (λ items. each_fault prop_faults (filter (has_name caldav (codes "prop-filter")) (flat_map item_elements items))) c.as_slice.ensures in
    let comps = c.comps_faults-comps.ensures ∙ ap (λ items. each_fault (comp_faults_to (c.args.depth - 1)) (filter (has_name caldav (codes "comp-filter")) (flat_map item_elements items))) c.as_slice-2.ensures in
    c.either-2.ensures ∙ ap (either c.own_comp_faults-own.result) c.either.ensures
    ∙ (λ i. either (c.own_comp_faults-own.ensures i) (either (props i) (comps i)))
    ∙ sym (comp_faults_at c.args.depth c.args.element.now (omega arith))
