-- Where a text leaves its grammar. A grammar relates whole texts to the values that they spell; it knows no places.
use Rattle.std.specs.Prelude.{ℕ, ◌<◌, ◌≤◌, List, ◌++◌, length, take}

-- the text spells some value
abbrev pub IsIn : {V : Type 0} → (List ℕ → V → Type 0) → List ℕ → Type 0
IsIn {V} Spells text = (value : V) × Spells text value

-- some text of the grammar begins with these octets
abbrev pub BeginsOne : {V : Type 0} → (List ℕ → V → Type 0) → List ℕ → Type 0
BeginsOne Spells front = (rest : List ℕ) × IsIn Spells (front ++ rest)

-- The text spells nothing, and the place is the length of its longest front with which some text of the grammar begins.
-- So it is the first octet at which no text of the grammar continues, or the text's length where only its end comes too early.
pub record IsBadAt {V : Type 0} (Spells : List ℕ → V → Type 0) (text : List ℕ) (place : ℕ) : Type 0 where
  pub outside : ¬ IsIn Spells text
  pub within : place ≤ length text
  pub begins : BeginsOne Spells (take place text)
  pub longest : (n : ℕ) → place < n → n ≤ length text → ¬ BeginsOne Spells (take n text)
