use Rattle.std.proofs.Common.{◌≡◌, ◌≤◌, ◌*◌, sum, take}
use Rattle.piece_claims.proofs.counts.Counts.total.Given as goal

abbrev pub invariant-loop-k : goal.invariant-loop-k
invariant-loop-k l = record {
  so_far : l.rows ≡ sum (take l.k l.self-inside.counts);
  few : l.rows ≤ l.k * 4294967296;
}
