-- How a logical line is written (RFC 5545, 3.1): folded at 75 octets, never within a character. It goes by characters;
-- it has no place in the text, and no step back from a place.
use Rattle.std.specs.Prelude.{ℕ, ◌-◌, nat_le, if◌then◌else◌, List, [], ◌∷◌, ◌++◌, length, encode_utf8}
use Rattle.std.specs.Str.{chars}
use Rattle.cal_base.specs.declared.line.Line.{Line}
use Rattle.cal_base.specs.Texts.Octets.{line_feed, carriage_return, space}

-- Characters as octets, where `room` octets are left in the physical line, and the line end behind them. A character that
-- does not fit begins the next physical line, which has 74 octets behind its SPACE.
abbrev pub folded : ℕ → List ℕ → List ℕ
folded room [] = carriage_return ∷ line_feed ∷ []
folded room (character ∷ more) =
    let size = length (encode_utf8 character) in
    if nat_le size room then encode_utf8 character ++ folded (room - size) more
    else carriage_return ∷ line_feed ∷ space ∷ encode_utf8 character ++ folded (74 - size) more

-- the text of a logical line as it is written, with its end
abbrev pub written : List ℕ → List ℕ
written raw = folded 75 (chars raw)

abbrev pub written_line : Line → List ℕ
written_line line = written line.raw
