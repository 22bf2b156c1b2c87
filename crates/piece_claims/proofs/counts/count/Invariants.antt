use Rattle.std.proofs.Common.{◌≡◌, ℕ, ◌<◌}
use Rattle.std.specs.Prelude.{pos, ◌+ℤ◌}
use Rattle.piece_claims.specs.Counts.{count_at, sizes_to}
use Rattle.piece_claims.proofs.counts.count.Given as goal

abbrev pub invariant-loop-origin : goal.invariant-loop-origin
invariant-loop-origin l = (k : ℕ) → k < 13 → count_at l.counts k ≡ sizes_to l.origin (l.first +ℤ pos k) l.index.pieces
