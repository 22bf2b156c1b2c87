-- A text cut in two at the first place of a separator.
use Rattle.std.specs.Prelude.{ℕ, true, false, ◌==◌, List, [], ◌∷◌, Option, Some, None, option_map}

-- the text before the first place of an octet, and the text behind it
unfoldable pub cut_at : ℕ → List ℕ → Option (List ℕ × List ℕ)
cut_at separator [] = None
cut_at separator (octet ∷ text) = elim (octet == separator) [
  | true ↦ Some ([], text)
  | false ↦ option_map (λ (parts : List ℕ × List ℕ). (octet ∷ parts.0, parts.1)) (cut_at separator text)
]
