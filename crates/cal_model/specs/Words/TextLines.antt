-- Lines of text, as HTTP (RFC 9112, 2.1) and iCalendar (RFC 5545, 3.1) end them, and lists within the value of a field.
use Rattle.std.specs.Prelude.{ℕ, List, [], ◌∷◌, ◌++◌, flat_map, codes}

-- a line with its end, CR and LF
abbrev pub ended : List ℕ → List ℕ
ended line = line ++ codes "\r\n"

-- some lines, each with its end
abbrev pub lines_text : List (List ℕ) → List ℕ
lines_text [] = []
lines_text (line ∷ more) = line ++ (codes "\r\n" ++ lines_text more)

-- some members with commas between them (RFC 9110, 5.3 and 5.6.1)
abbrev pub with_commas : List (List ℕ) → List ℕ
with_commas [] = []
with_commas (member ∷ more) = member ++ flat_map (λ other. codes ", " ++ other) more
