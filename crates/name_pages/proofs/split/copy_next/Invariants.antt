use Rattle.std.proofs.Common.{◌≡◌, ◌++◌, length, map}
use Rattle.name_pages.proofs.split.copy_next.Given as goal

-- what was taken, and what is left
abbrev pub invariant-pairs : goal.invariant-pairs
invariant-pairs g l =
    (goal.iterator-pairs g).can_next l.pairs × (goal.iterator-pairs g).is_finite l.pairs
    × (l.copy ++ map (λ pair. (pair.0.items, pair.1)) l.pairs ≡ map (λ pair. (pair.0.items, pair.1)) l.fn.pairs)
    × (length l.copy ≡ l.counter)
