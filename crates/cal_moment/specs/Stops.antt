-- How far a reader comes in a text: up to the octets that are left where no text of a set goes on.
use Rattle.std.specs.Prelude.{◌≡◌, ◌≢◌, ℕ, Bool, ◌≤◌, ◌<◌, ◌^◌, List, [], ◌∷◌, ◌++◌, ◌⊎◌}
use Rattle.cal_moment.specs.Texts.{digits, utc_text}

-- two texts go on alike: with the same octet, or both with their end
abbrev pub GoOnAlike : List ℕ → List ℕ → Type 0
GoOnAlike [] [] = Unit {0}
GoOnAlike [] (d ∷ ds) = ⊥
GoOnAlike (c ∷ cs) [] = ⊥
GoOnAlike (c ∷ cs) (d ∷ ds) = c ≡ d

-- some text of the set begins as this one does before what is left, and none goes on with it
pub record Stops (Texts : List ℕ → Type 0) (text left : List ℕ) : Type 0 where
  pub front : List ℕ
  pub more : List ℕ
  pub split : text ≡ front ++ left
  pub begins : Texts (front ++ more)
  pub apart : (next : List ℕ) → Texts (front ++ next) → ¬ GoOnAlike next left

-- the texts that begin with one of the set
abbrev pub Opens : (List ℕ → Type 0) → List ℕ → Type 0
Opens Texts text = (front rest : List ℕ) × Texts front × (text ≡ front ++ rest)

-- so many digits of a number from the lowest to the highest
abbrev pub IsNumber : ℕ → ℕ → ℕ → List ℕ → Type 0
IsNumber width low high text =
    (n : ℕ) × (low ≤ n) × (n ≤ high) × (n < 10 ^ width) × (text ≡ digits width n)

-- the text does not begin with this octet
abbrev pub BeginsWithNo : ℕ → List ℕ → Type 0
BeginsWithNo octet [] = Unit {0}
BeginsWithNo octet (c ∷ cs) = octet ≢ c

-- the text begins with no digit
abbrev pub BeginsWithNoDigit : List ℕ → Type 0
BeginsWithNoDigit [] = Unit {0}
BeginsWithNoDigit (c ∷ cs) = (c < 48) ⊎ (57 < c)

-- the text begins with no sign
abbrev pub BeginsWithNoSign : List ℕ → Type 0
BeginsWithNoSign [] = Unit {0}
BeginsWithNoSign (c ∷ cs) = (c ≢ 43) × (c ≢ 45)

-- the end of a time
abbrev pub IsUtcText : List ℕ → Type 0
IsUtcText text = (utc : Bool) × (text ≡ utc_text utc)
