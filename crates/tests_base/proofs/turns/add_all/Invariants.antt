use Rattle.std.proofs.Common.{◌≡◌, false}
use Rattle.tests_base.proofs.turns.add_all.Given as goal

abbrev pub invariant-loop-item : goal.invariant-loop-item
invariant-loop-item g l = record { same : l.pass.lock ≡ l.lock; free : l.pass.holds_turn ≡ false }
