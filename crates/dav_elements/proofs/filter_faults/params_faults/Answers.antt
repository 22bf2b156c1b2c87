use Rattle.std.specs.Prelude.{codes}
use Rattle.cal_model.specs.Words.Namespaces.{caldav}
use Rattle.cal_model.specs.Bodies.ElementParts.{has_name, item_elements}
use Rattle.dav_elements.specs.FilterFaults.{param_faults}
use Rattle.dav_elements.proofs.FaultLemmas.{faults_more}
use Rattle.dav_elements.proofs.ListSteps.{flat_more, kept_more}
use Rattle.dav_elements.proofs.filter_faults.params_faults.Goals as goal

pub items-preserved : goal.items-preserved
items-preserved c =
    faults_more param_faults (kept_more (has_name caldav (codes "param-filter")) (flat_more item_elements c.args.items.now c.items.item-index c.item-item.result c.items-test.true c.item-item.is))
    c.items.invariant c.param_faults_in.ensures c.either-faults.ensures
