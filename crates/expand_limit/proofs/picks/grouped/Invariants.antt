use Rattle.std.proofs.Common.{◌≡◌, ℕ, List, ◌++◌, drop, map}
use Rattle.std.specs.Prelude.{flat_map}
use Rattle.std.specs.Borrow.{Bor}
use Rattle.cal_base.specs.Lists.NameMap.{value_at}
use Rattle.cal_model.specs.declared.selection.CompPick.{CompPick}
use Rattle.expand_limit.specs.NamedPicks.{named_comps, asked_at, IsCovered}
use Rattle.expand_limit.proofs.picks.grouped.Given as goal

-- what is asked so far, and what the other picks ask behind it
abbrev pub invariant-picks : goal.invariant-picks
invariant-picks l = record {
  asked : (name : List ℕ) → asked_at (value_at l.groups name) ++ flat_map (named_comps name) (map (λ (b : Bor CompPick). b.now) (drop l.pick-index l.picks)) ≡ flat_map (named_comps name) (map (λ (b : Bor CompPick). b.now) l.picks);
  names : IsCovered l.names l.groups;
}
