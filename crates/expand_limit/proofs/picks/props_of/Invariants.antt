use Rattle.std.proofs.Common.{◌≡◌, ℕ, List, None, drop, map}
use Rattle.std.specs.Prelude.{flat_map}
use Rattle.std.specs.Borrow.{Bor}
use Rattle.cal_base.specs.Lists.NameMap.{value_at}
use Rattle.cal_model.specs.declared.selection.CompPick.{CompPick}
use Rattle.expand_limit.specs.NamedPicks.{said_by, named_props}
use Rattle.expand_limit.proofs.picks.props_of.Given as goal

-- what is said so far, and what the other picks say behind it
abbrev pub invariant-picks : goal.invariant-picks
invariant-picks l = (name : List ℕ) → said_by (value_at l.props name) (flat_map (named_props name) (map (λ (b : Bor CompPick). b.now) (drop l.pick-index l.picks))) ≡ said_by None (flat_map (named_props name) (map (λ (b : Bor CompPick). b.now) l.picks))
