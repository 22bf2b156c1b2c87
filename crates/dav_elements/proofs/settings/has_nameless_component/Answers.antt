use Rattle.std.proofs.Common.{sym, ◌∙◌}
use Rattle.std.specs.Prelude.{codes}
use Rattle.cal_model.specs.Words.Namespaces.{caldav}
use Rattle.cal_model.specs.Bodies.ElementParts.{has_name, item_elements, lacks_name}
use Rattle.dav_elements.proofs.ListSteps.{any_found, flat_split, kept_split}
use Rattle.dav_elements.proofs.settings.has_nameless_component.Goals as goal

pub returns-then-lacks_name : goal.returns-then-lacks_name
returns-then-lacks_name c = sym (any_found lacks_name c.in-Some.component.now (kept_split (has_name caldav (codes "comp")) (flat_split item_elements c.args.items.now c.items.item-index c.item-item.result c.items-test.true c.item-item.is)) c.in-Some.ensures (sym c.lacks_name.ensures ∙ c.if-lacks_name.true))
