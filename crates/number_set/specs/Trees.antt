-- A tree of flags in one list, in which the node j has the children 2j and 2j + 1, and the leaves are the second half.
use Rattle.std.specs.Prelude.{◌≡◌, ◌≢◌, ℕ, zero, suc, ◌+◌, ◌/◌, ◌<◌, ◌≤◌, Bool, ◌||◌, List, length}
use Rattle.number_set.specs.Sets.{has}

-- 2 to the power of a height
abbrev pub doubled : ℕ → ℕ
doubled zero = 1
doubled (suc n) = doubled n + doubled n

-- a node is set exactly where one of its children is
abbrev pub IsSum : List Bool → ℕ → Type 0
IsSum nodes j = has nodes j ≡ (has nodes (j + j) || has nodes (j + j + 1))

-- each node with children is; but one above a node; from one on

abbrev pub AreSums : List Bool → Type 0
AreSums nodes = (j : ℕ) → 1 ≤ j → j + j < length nodes → IsSum nodes j

abbrev pub AreSumsBut : List Bool → ℕ → Type 0
AreSumsBut nodes below = (j : ℕ) → 1 ≤ j → j + j < length nodes → j ≢ below / 2 → IsSum nodes j

abbrev pub AreSumsFrom : List Bool → ℕ → Type 0
AreSumsFrom nodes next = (j : ℕ) → 1 ≤ j → j + j < length nodes → next ≤ j → IsSum nodes j

pub record IsTree (nodes : List Bool) (width height : ℕ) : Type 0 where
  pub size : length nodes ≡ width + width
  pub power : width ≡ doubled height
  pub sums : AreSums nodes
