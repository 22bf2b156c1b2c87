-- How much is shown of a line: nothing, its text up to the colon, or all of it (RFC 4791, 9.6.4).
use Rattle.std.specs.Prelude.{ℕ, List, [], ◌∷◌, flat_map}
use Rattle.cal_base.specs.declared.line.Line.{Line}
use Rattle.cal_base.specs.Lines.WrittenLines.{written_line}
use Rattle.cal_model.specs.Selections.Picks.{without_value}
use Rattle.shown_lines.specs.declared.portion.Portion.{Portion}
use Rattle.shown_lines.specs.declared.portion.Portion.TheVariants.{Nothing, Header, Whole}

abbrev pub shown_of : Portion → Line → List Line
shown_of Nothing line = []
shown_of Header line = without_value line ∷ []
shown_of Whole line = line ∷ []

-- the text that is written of a line
abbrev pub written_portion : Portion → Line → List ℕ
written_portion portion line = flat_map written_line (shown_of portion line)
