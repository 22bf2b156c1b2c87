-- Lanes when one origin is found out anew.
use Rattle.std.proofs.Common.{◌≡◌, ℕ, ◌<◌, ◌≤◌, Bool, List, length, set}
use Rattle.std.specs.Prelude.{ℤ, pos, ◌+ℤ◌}
use Rattle.piece_claims.specs.Lanes.{AreSameLanes, lane_at}

-- the lanes below k are done, and the others as they were
pub record IsDone (old new : List (List Bool)) (from : ℤ) (origin : ℕ) (test : ℤ → Bool) (k : ℕ) : Type 0 where
  pub count : length new ≡ length old
  pub behind : (j : ℕ) → j < k → lane_at new j ≡ set (lane_at old j) origin (test (from +ℤ pos j))
  pub ahead : (j : ℕ) → k ≤ j → lane_at new j ≡ lane_at old j

-- the lanes below k have room for so many origins
pub record IsGrown (old new : List (List Bool)) (bound k : ℕ) : Type 0 where
  pub same : AreSameLanes old new
  pub wide : (j : ℕ) → j < k → bound ≤ length (lane_at new j)
