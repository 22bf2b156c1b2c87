use Rattle.std.proofs.Common.{refl}
use Rattle.cal_model.specs.Bodies.ElementParts.{item_elements}
use Rattle.dav_elements.proofs.AceLemmas.{sets_more}
use Rattle.dav_elements.proofs.ListSteps.{flat_more}
use Rattle.dav_elements.proofs.aces.granted_by.Goals as goal

pub items-preserved : goal.items-preserved
items-preserved c =
    sets_more c.args.before (item_elements c.item-item.result) (flat_more item_elements c.args.items.now c.items.item-index c.item-item.result c.items-test.true c.item-item.is) refl c.items.invariant c.with_name_in-granted.ensures
