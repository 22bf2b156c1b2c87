use Rattle.std.proofs.Common.{◌≡◌, ◌+◌, ◌≤◌, length}
use Rattle.expand_limit.specs.SeenRows.{masters_from}
use Rattle.expand_limit.proofs.left.master_of.Given as goal

-- the components that were passed over are overrides
abbrev pub invariant-masters : goal.invariant-masters
invariant-masters l = record {
  made : masters_from l.number l.rest ≡ masters_from 0 l.components;
  counted : l.number + length l.rest ≤ length l.components;
}

abbrev pub decreases-masters : goal.decreases-masters
decreases-masters l = length l.rest
