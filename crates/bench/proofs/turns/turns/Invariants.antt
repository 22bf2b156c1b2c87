use Rattle.std.proofs.Common.{◌≡◌, false}
use Rattle.bench.proofs.turns.turns.Given as goal

abbrev pub invariant-loop-turn : goal.invariant-loop-turn
invariant-loop-turn g l = record { same : l.pass.lock ≡ l.lock; free : l.pass.holds_turn ≡ false }
