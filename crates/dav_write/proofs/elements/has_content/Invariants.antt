use Rattle.std.proofs.Common.{◌≡◌, [], map, take}
use Rattle.std.specs.List.{concat}
use Rattle.dav_write.specs.ElementTexts.{item_text}
use Rattle.dav_write.proofs.elements.has_content.Given as goal

-- nothing is written of the items so far
abbrev pub invariant-items : goal.invariant-items
invariant-items l = concat (map item_text (take l.item-index l.items)) ≡ []
