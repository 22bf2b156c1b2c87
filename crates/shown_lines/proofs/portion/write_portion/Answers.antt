use Rattle.std.proofs.Common.{sym, subst}
use Rattle.cal_base.specs.Lines.LineGrammar.{IsLineText}
use Rattle.shown_lines.proofs.LineHeads.{head-header}
use Rattle.shown_lines.proofs.portion.write_portion.Goals as goal

pub write_line-requires : goal.write_line-requires
write_line-requires c = subst IsLineText (sym c.header.ensures) (head-header c.args.line.now c.requires)
