-- The first number at which a test holds.
use Rattle.std.specs.Prelude.{◌≡◌, ℕ, ◌<◌, ◌≤◌, Bool, true, false, Option, MatchOption}

-- no number from one up to another holds, the other left out
pub record NoneHolds (test : ℕ → Bool) (from end : ℕ) : Type 0 where
  pub each : (k : ℕ) → from ≤ k → k < end → test k ≡ false

-- the least number from one on at which a test holds, below an end
pub record IsFirst (test : ℕ → Bool) (from end n : ℕ) : Type 0 where
  pub at_or_after : from ≤ n
  pub below : n < end
  pub holds : test n ≡ true
  pub none_before : NoneHolds test from n

-- what was found: that number, or that there is none
abbrev pub FindsFirst : (ℕ → Bool) → ℕ → ℕ → Option ℕ → Type 0
FindsFirst test from end found = MatchOption found (NoneHolds test from end) (IsFirst test from end)
