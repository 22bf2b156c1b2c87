use Rattle.std.proofs.Common.{◌≡◌, ◌++◌, map}
use Rattle.cal_base.proofs.copies.copy_names.Given as goal

-- what was copied, and what is left to copy
abbrev pub invariant-pairs : goal.invariant-pairs
invariant-pairs g l = l.copy ++ map (λ pair. (pair.0.items, pair.1)) l.pair-iterator ≡ l.map
