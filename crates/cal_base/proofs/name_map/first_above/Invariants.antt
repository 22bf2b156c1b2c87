use Rattle.std.proofs.Common.{◌≡◌, filter}
use Rattle.std.specs.Ordering.{is_lt}
use Rattle.cal_base.specs.Lists.NameMap.{name_order}
use Rattle.cal_base.proofs.name_map.first_above.Given as goal

-- no pair that was passed is above the name
abbrev pub invariant-pairs : goal.invariant-pairs
invariant-pairs g l =
    filter (λ pair. is_lt (name_order l.name pair.0.items)) l.entries.entries
    ≡ filter (λ pair. is_lt (name_order l.name pair.0.items)) l.pair-iterator
