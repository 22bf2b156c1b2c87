use Rattle.std.proofs.Common.{◌≡◌, map}
use Rattle.cal_base.specs.Texts.Octets.{comma}
use Rattle.cal_base.specs.Lines.ContentLines.{every, param_value}
use Rattle.cal_base.specs.Lines.UnquotedParts.{later_pieces, preceded, text_left}
use Rattle.cal_base.specs.Texts.LentTexts.{text_there}
use Rattle.ical_lines.proofs.line_text.read_values.Given as goal

-- those that are read, before those of the rest
abbrev pub invariant-values : goal.invariant-values
invariant-values l = preceded l.values (every (map param_value (later_pieces comma (text_there l.rest)))) ≡ every (map param_value (later_pieces comma (text_there l.fn.text)))

abbrev pub decreases-values : goal.decreases-values
decreases-values l = text_left (text_there l.rest)
