-- Parts of a text between separators, as the private functions take them one after another.
use Rattle.std.specs.Prelude.{◌≢◌, ℕ, ◌+◌, List, [], ◌∷◌, ◌++◌, length, Option, Some, None, option_map}
use Rattle.std.specs.Borrow.{Bor}
use Rattle.cal_base.specs.declared.line.Param.{Param}
use Rattle.cal_base.specs.Lines.ContentLines.{pieces}

-- two borrowed texts as texts
abbrev pub both_texts : Bor (List ℕ) × Bor (List ℕ) → List ℕ × List ℕ
both_texts parts = (parts.0.now, parts.1.now)

-- a borrowed text that may be absent
abbrev pub text_there : Option (Bor (List ℕ)) → Option (List ℕ)
text_there = option_map (λ (text : Bor (List ℕ)). text.now)

-- a borrowed parameter that may be absent
abbrev pub param_there : Option (Bor Param) → Option Param
param_there = option_map (λ (param : Bor Param). param.now)

-- a text put before the first of two parts
abbrev pub before_first : List ℕ → Option (List ℕ × List ℕ) → Option (List ℕ × List ℕ)
before_first front parts = option_map (λ (those : List ℕ × List ℕ). (front ++ those.0, those.1)) parts

-- the two parts that a piece and what stands behind its separator are, none where there is no separator
abbrev pub piece_parts : List ℕ → Option (List ℕ) → Option (List ℕ × List ℕ)
piece_parts piece None = None
piece_parts piece (Some behind) = Some (piece, behind)

-- the pieces of what stands behind a separator, none where there is no separator
abbrev pub later_pieces : ℕ → Option (List ℕ) → List (List ℕ)
later_pieces separator None = []
later_pieces separator (Some text) = pieces separator text

-- values put before others, if these are there
abbrev pub preceded : {X : Type 0} → List X → Option (List X) → Option (List X)
preceded done more = option_map (λ those. done ++ those) more

-- how much is left to be cut
abbrev pub text_left : Option (List ℕ) → ℕ
text_left None = 0
text_left (Some text) = length text + 1

-- no octet of a text is a comma
abbrev pub LacksComma : List ℕ → Type 0
LacksComma [] = Unit {0}
LacksComma (octet ∷ text) = (octet ≢ 44) × LacksComma text
