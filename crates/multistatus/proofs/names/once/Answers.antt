use Rattle.std.proofs.Common.{◌++◌, ◌+◌, drop, Bool, List, ap, ◌∙◌}
use Rattle.cal_base.specs.Lists.NameMap.{Named}
use Rattle.cal_model.specs.declared.property.PropName.{PropName}
use Rattle.cal_model.specs.Properties.PropertyReplies.{once}
use Rattle.multistatus.proofs.NameLemmas.{unmet, unmet_first, names_step, names_behind}
use Rattle.multistatus.proofs.names.once.Goals as goal

pub names-init : goal.names-init
names-init c =
    ap (λ (list : List PropName). list ++ unmet c.new-met.result (once c.args.names.now)) c.new-list.ensures
    ∙ ap (λ (met : Named Bool). unmet met (once c.args.names.now)) c.new-met.ensures ∙ unmet_first (once c.args.names.now)

pub names-preserved : goal.names-preserved
names-preserved c =
    let names = c.args.names.now in
    let step = names_step c.names.list c.add_new.new.list c.names.met c.add_new.new.met c.name-item.result (drop (c.names.name-index + 1) names) c.in_ok-add_new.ensures.met c.in_ok-add_new.ensures.list in
    step ∙ ap (λ rest. c.names.list ++ unmet c.names.met (once rest)) (names_behind names c.names.name-index c.name-item.result c.names-test.true c.name-item.is) ∙ c.names.invariant
