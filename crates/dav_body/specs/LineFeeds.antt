-- An octet of text, with line feeds for the other ends of lines.
use Rattle.std.specs.Prelude.{ℕ, ◌==◌, if◌then◌else◌, List, [], ◌∷◌}
use Rattle.cal_base.specs.Texts.Octets.{line_feed, carriage_return}

-- the end of a line from a CR, given what stands behind it: the LF that follows speaks for both
abbrev pub end_shown : List ℕ → List ℕ
end_shown [] = line_feed ∷ []
end_shown (next ∷ behind) = if next == line_feed then [] else line_feed ∷ []

-- an octet, given what stands behind it
abbrev pub octet_shown : ℕ → List ℕ → List ℕ
octet_shown octet behind = if octet == carriage_return then end_shown behind else octet ∷ []
