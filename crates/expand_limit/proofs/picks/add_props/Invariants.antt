use Rattle.std.proofs.Common.{◌≡◌, ℕ, List, length}
use Rattle.std.specs.Prelude.{filter}
use Rattle.cal_base.specs.Lists.NameMap.{value_at}
use Rattle.expand_limit.specs.NamedPicks.{said_by, is_prop}
use Rattle.expand_limit.proofs.picks.add_props.Given as goal

-- what is said so far, and what the others say behind it
abbrev pub invariant-props : goal.invariant-props
invariant-props l = (name : List ℕ) → said_by (value_at l.props name) (filter (is_prop name) l.rest) ≡ said_by (value_at l.initial.props name) (filter (is_prop name) l.fn.named)

abbrev pub decreases-props : goal.decreases-props
decreases-props l = length l.rest
