use Rattle.std.proofs.Common.{◌≡◌, ◌++◌, ℕ, List, Bor, map, take}
use Rattle.command_words.proofs.slot_words.paths_of.Given as goal

-- the paths so far
abbrev pub invariant-paths : goal.invariant-paths
invariant-paths l = l.paths ≡ l.initial.paths ++ map (λ (text : Bor (List ℕ)). text.now) (take l.text-index l.texts)
