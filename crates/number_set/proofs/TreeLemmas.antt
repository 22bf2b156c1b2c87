-- Trees of flags when one node is written.
use Rattle.std.proofs.Common.{◌≡◌, ◌≢◌, ◌⊎◌, ℕ, suc, zero, ◌+◌, ◌<◌, ◌≤◌, Bool, true, false, List, [], ◌∷◌, length, drop, refl, sym, ◌∙◌, inl, inr, arith}
use Rattle.number_set.specs.Sets.{has}
use Rattle.number_set.specs.Trees.{AreSumsBut, AreSumsFrom}

-- past the end nothing is set
pub has_past : (xs : List Bool) (n : ℕ) → length xs ≤ n → has xs n ≡ false
has_past [] n past = refl
has_past (x ∷ xs) zero past = absurd (omega arith)
has_past (x ∷ xs) (suc n) past = has_past xs n (omega arith)

pub cases_le : (a b : ℕ) → (a ≤ b) ⊎ (b < a)
cases_le a b = grind arith

pub same_or_not : (a b : ℕ) → (a ≡ b) ⊎ (a ≢ b)
same_or_not a b = grind arith

pub has_within : (xs : List Bool) (n : ℕ) → has xs n ≡ true → n < length xs
has_within xs n is =
    elim (cases_le (length xs) n) [
      | inl past ↦ absurd (let f = sym is ∙ has_past xs n past in cc)
      | inr within ↦ within
    ]

-- on the way up from a leaf
pub record IsSummedBut (half : ℕ) (old new : List Bool) (below : ℕ) : Type 0 where
  pub even : length new ≡ half + half
  pub inside : below < half + half
  pub sums : AreSumsBut new below
  pub leaves : drop half new ≡ drop half old

-- on the way down from the last node above the leaves
pub record IsSummedFrom (half : ℕ) (old new : List Bool) (next : ℕ) : Type 0 where
  pub even : length new ≡ half + half
  pub inside : next ≤ half
  pub sums : AreSumsFrom new next
  pub leaves : drop half new ≡ drop half old
