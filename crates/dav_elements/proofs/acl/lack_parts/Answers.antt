use Rattle.std.proofs.Common.{sym, ◌∙◌}
use Rattle.std.specs.Prelude.{codes}
use Rattle.cal_model.specs.Words.Namespaces.{dav}
use Rattle.cal_model.specs.Bodies.ElementParts.{has_name, item_elements}
use Rattle.cal_model.specs.Bodies.AclBodies.{is_kept, lacks_part}
use Rattle.dav_elements.proofs.ListSteps.{any_found, flat_split, kept_split}
use Rattle.dav_elements.proofs.acl.lack_parts.Goals as goal

pub returns-then-lacks_part : goal.returns-then-lacks_part
returns-then-lacks_part c =
    sym (any_found lacks_part c.in-Some.ace.now
    (kept_split is_kept (kept_split (has_name dav (codes "ace")) (flat_split item_elements c.args.items.now c.items.item-index c.item-item.result c.items-test.true c.item-item.is)))
    c.in-Some.ensures (sym c.lacks_part.ensures ∙ c.if-lacks_part.true))
