-- A list and its room.
use Rattle.std.specs.Prelude.{ℕ, List}

-- the items, and for how many more there is room
pub record Reserved (T : Type 0) : Type 0 where
  pub items : List T
  pub room : ℕ
