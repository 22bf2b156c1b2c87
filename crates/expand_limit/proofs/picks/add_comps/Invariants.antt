use Rattle.std.proofs.Common.{◌≡◌, ℕ, List, ◌++◌, drop}
use Rattle.std.specs.Prelude.{filter}
use Rattle.cal_base.specs.Lists.NameMap.{value_at}
use Rattle.expand_limit.specs.NamedPicks.{is_comp, asked_at, IsCovered}
use Rattle.expand_limit.proofs.picks.add_comps.Given as goal

-- what is asked so far, and what the others ask behind it
abbrev pub invariant-comps : goal.invariant-comps
invariant-comps l = record {
  asked : (name : List ℕ) → asked_at (value_at l.groups name) ++ filter (is_comp name) (drop l.comp-index l.named) ≡ asked_at (value_at l.initial.groups name) ++ filter (is_comp name) l.named;
  names : IsCovered l.initial.names l.initial.groups → IsCovered l.names l.groups;
}
