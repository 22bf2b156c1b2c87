use Rattle.std.proofs.Common.{◌≡◌, take}
use Rattle.piece_shelf.proofs.page.copy_slots.Given as goal

-- what was copied
abbrev pub invariant-slots : goal.invariant-slots
invariant-slots l = l.copies.items ≡ take l.slot-index l.slots
