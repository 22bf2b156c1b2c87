use Rattle.std.proofs.Common.{sym, ◌∙◌}
use Rattle.std.specs.Prelude.{codes}
use Rattle.cal_model.specs.Words.Namespaces.{dav}
use Rattle.cal_model.specs.Words.Lists.{is_empty}
use Rattle.cal_model.specs.Bodies.ElementParts.{children, has_name, item_elements}
use Rattle.dav_elements.proofs.ListSteps.{any_found, flat_split, kept_split}
use Rattle.dav_elements.proofs.aces.has_empty.Goals as goal

pub returns-then-is_childless : goal.returns-then-is_childless
returns-then-is_childless c = sym (any_found (λ privilege. is_empty (children privilege)) c.in-Some.privilege.now (kept_split (has_name dav (codes "privilege")) (flat_split item_elements c.args.items.now c.items.item-index c.item-item.result c.items-test.true c.item-item.is)) c.in-Some.ensures (sym c.is_childless.ensures ∙ c.if-is_childless.true))
