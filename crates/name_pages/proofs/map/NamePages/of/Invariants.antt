use Rattle.std.proofs.Common.{◌≡◌, ◌++◌, map}
use Rattle.name_pages.proofs.map.NamePages.of.Given as goal

-- what was put in, and what is left
abbrev pub invariant-pairs : goal.invariant-pairs
invariant-pairs g l = l.pages ++ map (λ pair. (pair.0.items, pair.1)) l.pair-iterator ≡ l.map
