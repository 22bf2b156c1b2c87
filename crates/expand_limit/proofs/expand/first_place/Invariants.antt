use Rattle.std.proofs.Common.{◌≡◌, ◌+◌, length}
use Rattle.std.specs.List.{position_or_len}
use Rattle.cal_model.specs.Selections.Expansion.{is_of_four_kinds}
use Rattle.expand_limit.proofs.expand.first_place.Given as goal

-- the place so far, and that in what is left
abbrev pub invariant-nodes : goal.invariant-nodes
invariant-nodes l = record {
  place : l.place + position_or_len is_of_four_kinds l.rest ≡ position_or_len is_of_four_kinds l.fn.nodes;
  size : l.place + length l.rest ≡ length l.fn.nodes;
}

abbrev pub decreases-nodes : goal.decreases-nodes
decreases-nodes l = length l.rest
