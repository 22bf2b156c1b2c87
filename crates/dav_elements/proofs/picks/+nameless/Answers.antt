use Rattle.std.proofs.Common.{sym, ◌∙◌}
use Rattle.std.specs.Prelude.{codes}
use Rattle.cal_model.specs.Words.Namespaces.{caldav}
use Rattle.cal_model.specs.Bodies.ElementParts.{has_name, item_elements}
use Rattle.dav_elements.specs.NamelessPicks.{is_nameless_to}
use Rattle.dav_elements.proofs.ListSteps.{any_found, flat_split, kept_split}
use Rattle.dav_elements.proofs.picks.+nameless.Goals as goal

pub has_nameless_comp-returns-then-is_nameless_to : goal.has_nameless_comp-returns-then-is_nameless_to
has_nameless_comp-returns-then-is_nameless_to t c = sym (any_found (is_nameless_to c.args.depth) c.in-Some.element.now (kept_split (has_name caldav (codes "comp")) (flat_split item_elements c.args.items.now c.items.item-index c.item-item.result c.items-test.true c.item-item.is)) c.in-Some.ensures (sym c.is_nameless_to.ensures ∙ c.if-is_nameless_to.true))
