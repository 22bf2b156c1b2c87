use Rattle.std.proofs.Common.{◌≡◌, ◌++◌, take}
use Rattle.std.specs.Prelude.{flat_map}
use Rattle.cal_model.specs.Bodies.ElementParts.{item_text}
use Rattle.dav_elements.proofs.parts.push_texts.Given as goal

-- the texts of the items so far are appended
abbrev pub invariant-items : goal.invariant-items
invariant-items l = l.text ≡ l.initial.text ++ flat_map item_text (take l.item-index l.items)
