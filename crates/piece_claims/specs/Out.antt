-- The pairs that are out, as the pairs of numbers that stand for them.
use Rattle.std.specs.Prelude.{ℕ, ℤ, Bool, ◌&&◌, ◌==◌, List, map}
use Rattle.std.specs.Ordering.{int_eq}
use Rattle.cal_model.specs.History.Claims.{Pair}
use Rattle.piece_claims.specs.Boards.{pair_at}

abbrev pub pairs_out : List (ℕ × ℤ) → List Pair
pairs_out out = map (λ (p : ℕ × ℤ). pair_at p.0 p.1) out

-- the numbers of a pair
abbrev pub is_pair : ℕ → ℤ → ℕ × ℤ → Bool
is_pair origin window p = (p.0 == origin) && int_eq p.1 window
