use Rattle.std.proofs.Common.{sym, ◌∙◌}
use Rattle.cal_model.specs.Bodies.ElementParts.{item_elements}
use Rattle.cal_model.specs.Bodies.PropertyBodies.{is_instruction}
use Rattle.dav_elements.proofs.ListSteps.{flat_split, kept_split}
use Rattle.dav_elements.proofs.SettingLemmas.{bad_found}
use Rattle.dav_elements.proofs.settings.are_bad.Goals as goal

pub returns-then-is_bad : goal.returns-then-is_bad
returns-then-is_bad c =
    bad_found c.in-Some.instruction.now (kept_split is_instruction (flat_split item_elements c.args.items.now c.items.item-index c.item-item.result c.items-test.true c.item-item.is)) c.in-Some.ensures (sym c.is_bad.ensures ∙ c.if-is_bad.true)
