-- Sets of numbers as lists of flags.
use Rattle.std.specs.Prelude.{◌≡◌, ℕ, ◌<◌, Bool, true, false, List, slice_index_or}

-- the number n is in the set; no number from the bound on is
abbrev pub has : List Bool → ℕ → Bool
has flags n = slice_index_or flags n false

-- n is the least number of the set
pub record IsLeast (n : ℕ) (flags : List Bool) : Type 0 where
  pub member : has flags n ≡ true
  pub none_below : (m : ℕ) → m < n → has flags m ≡ false
