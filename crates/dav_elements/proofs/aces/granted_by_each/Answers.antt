use Rattle.std.proofs.Common.{refl, false}
use Rattle.std.specs.Prelude.{filter, flat_map, codes}
use Rattle.cal_model.specs.Words.Namespaces.{dav}
use Rattle.cal_model.specs.Bodies.ElementParts.{children, has_name, item_elements}
use Rattle.dav_elements.proofs.AceLemmas.{children_more, sets_more}
use Rattle.dav_elements.proofs.ListSteps.{flat_more, kept_more}
use Rattle.dav_elements.proofs.aces.granted_by_each.Goals as goal

pub items-preserved : goal.items-preserved
items-preserved c =
    sets_more (record { bits = 0; unknown = false }) (flat_map children (filter (has_name dav (codes "privilege")) (item_elements c.item-item.result))) (children_more (kept_more (has_name dav (codes "privilege")) (flat_more item_elements c.args.items.now c.items.item-index c.item-item.result c.items-test.true c.item-item.is))) refl c.items.invariant c.granted_in-granted.ensures
