use Rattle.std.proofs.Common.{◌≡◌, ◌≤◌, ◌-◌, List, [], ◌∷◌, replicate, false, vec_len, length}
use Rattle.std.specs.Prelude.{Bool}
use Rattle.piece_claims.proofs.lanes.empty_sets.Given as goal

pub record AreFalse (sets : List (List Bool)) : Type 0 where
  pub empty : sets ≡ replicate (length sets) (false ∷ [])
  pub few : length sets ≤ 13

abbrev pub invariant-loop-alloc : goal.invariant-loop-alloc
invariant-loop-alloc l = AreFalse l.sets.items

abbrev pub decreases-loop-alloc : goal.decreases-loop-alloc
decreases-loop-alloc l = 13 - vec_len l.sets
