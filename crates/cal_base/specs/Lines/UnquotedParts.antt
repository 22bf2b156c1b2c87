-- Parts of a text between separators outside double quotes, as they are taken one after another.
use Rattle.std.specs.Prelude.{ℕ, ◌+◌, false, List, [], ◌++◌, length, Option, Some, None, option_map}
use Rattle.cal_base.specs.Lines.ContentLines.{unquoted_pieces}

-- a text put before the first of two parts
abbrev pub before_first : List ℕ → Option (List ℕ × List ℕ) → Option (List ℕ × List ℕ)
before_first front parts = option_map (λ (those : List ℕ × List ℕ). (front ++ those.0, those.1)) parts

-- the pieces of what stands behind a separator, none where there is no separator
abbrev pub later_pieces : ℕ → Option (List ℕ) → List (List ℕ)
later_pieces separator None = []
later_pieces separator (Some text) = unquoted_pieces separator false text

-- values put before others, if these are there
abbrev pub preceded : {X : Type 0} → List X → Option (List X) → Option (List X)
preceded done more = option_map (λ those. done ++ those) more

-- how much is left to be cut
abbrev pub text_left : Option (List ℕ) → ℕ
text_left None = 0
text_left (Some text) = length text + 1
