use Rattle.std.proofs.Common.{sym, subst, ap, ◌∙◌}
use Rattle.std.specs.Str.{is_utf8, chars}
use Rattle.cal_base.specs.Lines.LineGrammar.{EndsLine}
use Rattle.cal_base.specs.Lines.ContentLines.{read_lines}
use Rattle.ical_lines.proofs.ReadBack.{written_is_read}
use Rattle.ical_lines.proofs.Folding.{folded-EndsLine}
use Rattle.ical_lines.proofs.LineTexts.{read_line_is_one}
use Rattle.ical_lines.proofs.write.write_line.Goals as goal

pub append_folded-requires : goal.append_folded-requires
append_folded-requires c =
    let line = c.requires.0 in
    ap is_utf8 (sym c.requires.1) ∙ (read_line_is_one line c.requires.2).utf8

pub returns-in-Ok-clause-ends : goal.returns-in-Ok-clause-ends
returns-in-Ok-clause-ends c = subst EndsLine (sym c.in-Ok.ensures.ok) (folded-EndsLine c.args.out.now (chars c.args.raw.now) 75)

pub returns-in-Ok-clause-read_back : goal.returns-in-Ok-clause-read_back
returns-in-Ok-clause-read_back c = λ before line ends known same is.
    ap read_lines c.in-Ok.ensures.ok ∙ written_is_read c.args.out.now c.args.raw.now before line ends known same is
