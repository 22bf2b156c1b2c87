-- Texts cut at the first octet of a kind, as the private functions cut them, and what their answers say of a text.
use Rattle.std.specs.Prelude.{ℕ, Bool, true, false, ◌==◌, List, [], ◌∷◌, ◌++◌, Option, Some, None, option_map}
use Rattle.std.specs.Borrow.{Bor}

-- the text before the first octet that passes, and the text from it on
abbrev pub first_split : (ℕ → Bool) → List ℕ → Option (List ℕ × List ℕ)
first_split test [] = None
first_split test (octet ∷ text) = elim (test octet) [
  | true ↦ Some ([], octet ∷ text)
  | false ↦ option_map (λ (parts : List ℕ × List ℕ). (octet ∷ parts.0, parts.1)) (first_split test text)
]

abbrev pub is_octet : ℕ → ℕ → Bool
is_octet separator octet = octet == separator

-- two borrowed texts as texts
abbrev pub both_texts : Bor (List ℕ) × Bor (List ℕ) → List ℕ × List ℕ
both_texts parts = (parts.0.now, parts.1.now)

-- a text put before the first of two parts
abbrev pub before_first : List ℕ → Option (List ℕ × List ℕ) → Option (List ℕ × List ℕ)
before_first front parts = option_map (λ (those : List ℕ × List ℕ). (front ++ those.0, those.1)) parts

-- values put before others, if these are there
abbrev pub preceded : {X : Type 0} → List X → Option (List X) → Option (List X)
preceded done more = option_map (λ those. done ++ those) more

-- the text before a quote, and the text from it on
abbrev pub around_quote : Bor (List ℕ) × ℕ × Bor (List ℕ) → List ℕ × List ℕ
around_quote parts = (parts.0.now, parts.1 ∷ parts.2.now)
