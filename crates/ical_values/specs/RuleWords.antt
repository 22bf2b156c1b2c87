-- How far a text goes along words (RFC 5545, 3.3.10).
use Rattle.std.specs.Prelude.{ℕ, ◌+◌, max, Bool, ◌==◌, if◌then◌else◌, List, [], ◌∷◌}

-- how many octets two texts have in common from the front
abbrev pub common : List ℕ → List ℕ → ℕ
common [] word = 0
common (octet ∷ text) [] = 0
common (octet ∷ text) (letter ∷ word) = if octet == letter then 1 + common text word else 0

-- the most that a text has in common with a word of a table
abbrev pub most_common : {X : Type 0} → List (List ℕ × X) → List ℕ → ℕ
most_common {X} [] text = 0
most_common {X} (row ∷ rows) text = max (common text row.0) (most_common rows text)

-- the words of a table whose values are kept
abbrev pub words_of : {X : Type 0} → (X → Bool) → List (List ℕ × X) → List (List ℕ × X)
words_of {X} keep [] = []
words_of {X} keep (row ∷ rows) = if keep row.1 then row ∷ words_of keep rows else words_of keep rows
