use Rattle.std.proofs.Common.{◌≡◌, ℕ, ◌+◌, ◌-◌, []}
use Rattle.std.specs.Prelude.{slice_index_or, vec_len}
use Rattle.piece_shelf.proofs.page.fill.Given as goal

abbrev pub invariant-loop-slots : goal.invariant-loop-slots
invariant-loop-slots l = (k : ℕ) → slice_index_or l.slots.items k [] ≡ slice_index_or l.fn.slots.items k []

abbrev pub decreases-loop-slots : goal.decreases-loop-slots
decreases-loop-slots l = (l.at + 1) - vec_len l.slots
