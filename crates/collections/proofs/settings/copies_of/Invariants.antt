use Rattle.std.proofs.Common.{◌≡◌, ◌-◌, length, drop}
use Rattle.collections.proofs.settings.copies_of.Given as goal

abbrev pub invariant-loop-behind : goal.invariant-loop-behind
invariant-loop-behind l = l.copies ≡ drop (length l.sets - l.behind) l.sets
