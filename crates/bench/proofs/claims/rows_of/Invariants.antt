use Rattle.std.proofs.Common.{◌≡◌, length}
use Rattle.bench.proofs.claims.rows_of.Given as goal

abbrev pub invariant-loop-start : goal.invariant-loop-start
invariant-loop-start l = length l.rows ≡ l.start
