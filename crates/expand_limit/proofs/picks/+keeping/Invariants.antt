use Rattle.std.proofs.Common.{ℕ, ◌+◌, ◌*◌, ◌-◌, ◌<◌, List, length, take, map}
use Rattle.std.specs.List.{list_any}
use Rattle.std.specs.Prelude.{bytes_eq, flat_map, IfSome}
use Rattle.std.specs.Borrow.{Bor}
use Rattle.cal_base.specs.Lists.NameMap.{value_at}
use Rattle.cal_model.specs.declared.selection.CompPick.{CompPick}
use Rattle.expand_limit.specs.KeptParts.{IsKeptBy, kept_at}
use Rattle.expand_limit.specs.NamedPicks.{named_comps, IsNamed}
use Rattle.expand_limit.proofs.picks.+keeping.Given as goal

-- the components of the names so far are kept as they are asked for
abbrev pub invariant-kept_by-names : goal.invariant-kept_by-names
invariant-kept_by-names l = record {
  within : (other : List ℕ) → IfSome (value_at l.places other) (λ p. p < length l.comps);
  named : (name : List ℕ) → IsNamed (IsKeptBy (l.levels - 1)) (kept_at l.places l.comps name) (list_any (bytes_eq name) (take l.name-index l.name-items)) (flat_map (named_comps name) (map (λ (b : Bor CompPick). b.now) l.picks));
}

abbrev pub decreases-kept_by : goal.decreases-kept_by
decreases-kept_by l = 2 * l.levels

abbrev pub decreases-kept_group : goal.decreases-kept_group
decreases-kept_group l = 2 * l.levels + 1
