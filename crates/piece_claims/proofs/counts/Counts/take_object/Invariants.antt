use Rattle.std.proofs.Common.{◌≡◌, ℕ, ◌+◌, ◌<◌, ◌≤◌}
use Rattle.std.specs.Prelude.{pos, ◌+ℤ◌}
use Rattle.piece_claims.specs.Counts.{count_at, size_at}
use Rattle.piece_claims.proofs.counts.Counts.take_object.Given as goal

abbrev pub invariant-loop-k : goal.invariant-loop-k
invariant-loop-k l = record {
  behind : (j : ℕ) → j < l.k → count_at l.fn.self j ≡ count_at l.self-inside.counts j + size_at l.origin (l.first +ℤ pos j) l.index.pieces;
  ahead : (j : ℕ) → l.k ≤ j → count_at l.self-inside.counts j ≡ count_at l.fn.self j;
}
