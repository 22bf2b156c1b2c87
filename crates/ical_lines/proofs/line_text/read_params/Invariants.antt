use Rattle.std.proofs.Common.{◌≡◌, map}
use Rattle.cal_base.specs.Texts.Octets.{semicolon}
use Rattle.cal_base.specs.Lines.ContentLines.{every, param_of}
use Rattle.cal_base.specs.Lines.UnquotedParts.{later_pieces, preceded, text_left}
use Rattle.cal_base.specs.Texts.LentTexts.{text_there}
use Rattle.ical_lines.proofs.line_text.read_params.Given as goal

-- those that are read, before those of the rest
abbrev pub invariant-params : goal.invariant-params
invariant-params l = preceded l.params (every (map param_of (later_pieces semicolon (text_there l.rest)))) ≡ every (map param_of (later_pieces semicolon (text_there l.fn.text)))

abbrev pub decreases-params : goal.decreases-params
decreases-params l = text_left (text_there l.rest)
