use Rattle.std.proofs.Common.{◌≡◌, length}
use Rattle.tests_values.proofs.line.names.Given as goal

-- a name for each text so far
abbrev pub invariant-loop-text : goal.invariant-loop-text
invariant-loop-text l = length l.list ≡ l.text-index
