-- What the traits of the outside promise of their calls, in words that they share.
use Rattle.std.specs.Prelude.{◌≡◌, ℕ, ◌+◌, ◌<◌, ◌≤◌, ◌^◌, ◌⊎◌, List, ◌++◌, length, Option, Some, None, ℤ, pos, ◌≤ℤ◌}

-- a count rose; one that is kept as a u64 stays at its last value
abbrev pub Rose : ℕ → ℕ → Type 0
Rose old new = (old < new) ⊎ (2 ^ 64 ≤ old + 1)

-- a number rose by one; one that is kept as a u64 stays at its last value
abbrev pub IsNext : ℕ → ℕ → Type 0
IsNext old new = (new ≡ old + 1) ⊎ ((2 ^ 64 ≤ old + 1) × (new ≡ old))

-- a piece was taken from the front of what was left, where that is told
abbrev pub Takes : Option (List ℕ) → List ℕ → Option (List ℕ) → Type 0
Takes None piece new = Unit {0}
Takes (Some xs) piece new = (ys : List ℕ) × (new ≡ Some ys) × (xs ≡ piece ++ ys)

-- a piece was put at the end of what was written, where that is told
abbrev pub Adds : Option (List ℕ) → List ℕ → Option (List ℕ) → Type 0
Adds None piece new = Unit {0}
Adds (Some xs) piece new = new ≡ Some (xs ++ piece)

-- a moment that a clock can give: from 1970-01-01T00:00:00Z to 9999-12-31T23:59:59Z
abbrev pub IsMoment : ℤ → Type 0
IsMoment m = (pos 0 ≤ℤ m) × (m ≤ℤ pos 253402300799)

-- what was taken is at most so many octets
abbrev pub TakesUpTo : ℕ → Option (List ℕ) → Option (List ℕ) → Type 0
TakesUpTo n left new = (octets : List ℕ) × Takes left octets new × (length octets ≤ n)

-- what was taken from the front of what was left went to the end of a list
abbrev pub Goes : Option (List ℕ) → Option (List ℕ) → List ℕ → List ℕ → Type 0
Goes left new all more = (octets : List ℕ) × Takes left octets new × (more ≡ all ++ octets)
