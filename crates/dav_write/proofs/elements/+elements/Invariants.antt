use Rattle.std.proofs.Common.{◌≡◌, ◌++◌, map, take}
use Rattle.std.specs.List.{concat}
use Rattle.dav_write.specs.ElementTexts.{item_text}
use Rattle.dav_write.proofs.elements.+elements.Given as goal

-- the items so far are written
abbrev pub invariant-push_element-items : goal.invariant-push_element-items
invariant-push_element-items l = l.out ≡ l.initial.out ++ concat (map item_text (take l.item-index l.item-items))
