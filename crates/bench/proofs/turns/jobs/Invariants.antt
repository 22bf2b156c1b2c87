use Rattle.std.proofs.Common.{◌≡◌, false}
use Rattle.std.specs.List.{All}
use Rattle.bench.proofs.turns.jobs.Given as goal

abbrev pub invariant-loop-thread : goal.invariant-loop-thread
invariant-loop-thread g l = record {
  same : l.first.lock ≡ l.lock;
  free : l.first.holds_turn ≡ false;
  locks : All (λ j. j.pass.lock ≡ l.lock) l.jobs.items;
  turns : All (λ j. j.pass.holds_turn ≡ false) l.jobs.items;
}
